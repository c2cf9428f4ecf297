-- Which boundaries joining leaves: exactly those where the byte before is still to be sent and the byte after has been sent. So joined chunks are
-- the fewest with their bytes. Assumes nothing.
use mathlib.Core.Logic.{inl, inr}
use mathlib.Core.List.{List, [], ◌∷◌}
use Prim.Native.Nat.{ℕ, ◌-◌, ◌≤◌, ◌<◌}
use native.Mathlib.Omega.{arith}
use Rattle.range_buf.specs.declared.RangeBuf.{RangeBuf}
use Rattle.range_buf.specs.Rules.{end}
use Rattle.tables.proofs.Tables.{cases}
use Rattle.tables.proofs.Tests.{either}
use Rattle.send_buf.specs.State.{Adjoin}
use Rattle.send_buf.proofs.Chunks.{adj_le}
use Rattle.send_buf.specs.Rules.{joined}
use Rattle.joining.specs.Calls.{Begins}
use Rattle.send_buf.proofs.Joining.{adj_joined}
use Rattle.joining.proofs.Alternates.{Alternates, alternates}
use Rattle.send_buf.proofs.Emits.{ToSend, adj_to_send}
use Rattle.joining.proofs.Bytes.{same_joined}

-- a boundary between two chunks is at o
abbrev pub Edge : List RangeBuf → ℕ → Type 0
Edge [] o = ⊥
Edge (c ∷ cs) o = Begins cs o

-- the byte before o is still to be sent, and the byte after, at o, has been sent
pub record Turns (cs : List RangeBuf) (o : ℕ) : Type 0 where
  pub some : 0 < o
  pub before : ToSend cs (o - 1)
  pub after : ToSend cs o → ⊥

pub begins_in : (lo : ℕ) (cs : List RangeBuf) (hi o : ℕ) → Adjoin lo cs hi → Begins cs o → (lo ≤ o) × (o < hi)
begins_in lo [] hi o k h = absurd h
begins_in lo (c ∷ cs) hi o k h =
    either h (λ e. (omega (arith, k.0), omega (arith, k.1, adj_le (end c) cs hi k.3)))
    (λ x. let r = begins_in (end c) cs hi o k.3 x in (omega (arith, k.0, r.0), r.1))

-- of chunks that alternate, every boundary is such
turns_edge : (lo : ℕ) (cs : List RangeBuf) (hi o : ℕ) → Adjoin lo cs hi → Alternates cs → Edge cs o → Turns cs o
turns_edge lo [] hi o k a h = absurd h
turns_edge lo (c ∷ []) hi o k a h = absurd h
turns_edge lo (c ∷ d ∷ ds) hi o k a h =
    either h
    (λ e. record {
      some = omega (arith, k.1, k.3.0);
      before = inl (omega (arith, k.3.0, a.0), omega (arith, k.3.0, k.1));
      after = λ x. either x (λ p. omega (arith, k.3.0)) (λ y. either y (λ p. omega (arith, a.1)) (λ p. omega (arith, adj_to_send (end d) ds hi o k.3.3 p, k.3.1)));
    })
    (λ e. let r = turns_edge (end c) (d ∷ ds) hi o k.3 a.2 e in
    let b = begins_in (end d) ds hi o k.3.3 e in record {
      some = r.some;
      before = inr r.before;
      after = λ x. either x (λ p. omega (arith, b.0, k.3.0)) (λ p. r.after p);
    })

-- and where there is such a place, there is a boundary: within a chunk, what is to be sent lies behind what was
edge_turns : (lo : ℕ) (cs : List RangeBuf) (hi o : ℕ) → Adjoin lo cs hi → lo < o → o < hi → Turns cs o → Edge cs o
edge_turns lo [] hi o k a b t = absurd (omega (arith, k))
edge_turns lo (c ∷ []) hi o k a b t =
    either t.before (λ p. absurd (t.after (inl (omega arith, omega (arith, k.3))))) (λ p. absurd p)
edge_turns lo (c ∷ d ∷ ds) hi o k a b t =
    cases o (end c)
    (λ x. either t.before (λ p. absurd (t.after (inl (omega arith, x)))) (λ p. absurd (omega (arith, adj_to_send (end c) (d ∷ ds) hi (o - 1) k.3 p, t.some))))
    (λ x. cases (end c) o
    (λ y. inr (edge_turns (end c) (d ∷ ds) hi o k.3 y b (record {
      some = t.some;
      before = either t.before (λ p. absurd (omega arith)) (λ p. p);
      after = λ p. t.after (inr p);
    })))
    (λ y. inl (omega (arith, k.3.0))))

turns_of : (cs ds : List RangeBuf) (o : ℕ) → (ToSend cs (o - 1) → ToSend ds (o - 1)) → (ToSend ds o → ToSend cs o) → Turns cs o → Turns ds o
turns_of cs ds o f g t = record { some = t.some; before = f t.before; after = λ x. t.after (g x) }

module _ (lo : ℕ) (cs : List RangeBuf) (hi o : ℕ) (k : Adjoin lo cs hi) where
  -- a boundary of joined chunks was one, and the bytes at it are such
  pub edge_stays : Edge (joined cs) o → Edge cs o × Turns cs o
  edge_stays h =
      let t = turns_of (joined cs) cs o (same_joined lo cs hi k (o - 1)).0 (same_joined lo cs hi k o).1 (turns_edge lo (joined cs) hi o (adj_joined lo cs hi k) (alternates lo cs hi k) h) in
      let b = edge_in lo (joined cs) hi o (adj_joined lo cs hi k) h in
      (edge_turns lo cs hi o k b.0 b.1 t, t)
    where
      edge_in : (lo : ℕ) (cs : List RangeBuf) (hi o : ℕ) → Adjoin lo cs hi → Edge cs o → (lo < o) × (o < hi)
      edge_in lo [] hi o k h = absurd h
      edge_in lo (c ∷ cs) hi o k h = let b = begins_in (end c) cs hi o k.3 h in (omega (arith, k.0, k.1, b.0), b.1)

  -- and every such boundary stays
  pub stays_edge : lo < o → o < hi → Turns cs o → Edge (joined cs) o
  stays_edge a b t =
      edge_turns lo (joined cs) hi o (adj_joined lo cs hi k) a b (turns_of cs (joined cs) o (same_joined lo cs hi k (o - 1)).1 (same_joined lo cs hi k o).0 t)
