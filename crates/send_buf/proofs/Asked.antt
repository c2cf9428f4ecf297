-- What the getters find: the lowest acked range, and the first chunk that still holds bytes. Assumes nothing.
use Prim.Native.Nat.{◌+◌, ◌-◌, ◌<◌, ◌≤◌, ℕ}
use Rattle.range_buf.specs.Rules.{avail, start, zero_buf}
use Rattle.range_buf.specs.declared.RangeBuf.{RangeBuf}
use Rattle.send_buf.proofs.Good.{chunks_length, done, next}
use Rattle.send_buf.specs.Rules.{first, front, front_of, skipped}
use Rattle.send_buf.specs.State.{Good, view_of}
use Rattle.send_buf.specs.declared.SendBuf.{SendBuf}
use Rattle.std.proofs.lemmas.List.{drop-take}
use Rattle.tables.proofs.Tables.{cases}
use borrow.Author.Tests.{le-ltb, lt-ltb}
use lib.ListN.{drop, get_or, take}
use lib.Seq.{drop-drop}
use mathlib.Core.List.{List, [], ◌∷◌}
use mathlib.Core.Path.{◌∙◌, ◌≡◌, ap, refl, sym}
use native.Mathlib.Omega.{arith}

-- the front offset by what is left at the first chunk that still holds bytes
pub front_none : (l : List RangeBuf) (off : ℕ) → drop (skipped l) l ≡ [] → front_of l off ≡ off
front_none [] off e = refl
front_none (c ∷ cs) off e =
    cases 0 (avail c)
    (λ t. let h : c ∷ cs ≡ [] = simp (lt-ltb _ _ t) at e in let z : ◌≡◌ {A = ℕ} 0 1 = cc in absurd (omega arith))
    (λ t. simp (le-ltb _ _ t) (front_none cs off (simp (le-ltb _ _ t) at e)))

pub front_some : (l : List RangeBuf) (off : ℕ) (d : RangeBuf) (ds : List RangeBuf) → drop (skipped l) l ≡ d ∷ ds → (front_of l off ≡ start d) × (0 < avail d)
front_some [] off d ds e = let z : ◌≡◌ {A = ℕ} 0 1 = cc in absurd (omega arith)
front_some (c ∷ cs) off d ds e =
    cases 0 (avail c)
    (λ t. let h : c ∷ cs ≡ d ∷ ds = simp (lt-ltb _ _ t) at e in let k : c ≡ d = cc in simp (lt-ltb _ _ t) (rw k (refl, rw (← k) t)))
    (λ t. simp (le-ltb _ _ t) (front_some cs off d ds (simp (le-ltb _ _ t) at e)))

module _ (b : SendBuf) (g : Good b) where
  -- what is left from the first chunk on that still holds bytes
  pub from_first : drop (skipped (drop b.pos (view_of b).chunks)) (drop b.pos (view_of b).chunks) ≡ drop (first (view_of b)) (view_of b).chunks
  from_first = drop-drop (skipped (drop b.pos (view_of b).chunks)) b.pos (view_of b).chunks

  pub front_end : b.count ≤ first (view_of b) → front (view_of b) ≡ b.off
  front_end h = front_none (drop b.pos (view_of b).chunks) b.off (from_first ∙ done b g (first (view_of b)) h)

  pub front_at_lem : first (view_of b) < b.count
      → (front (view_of b) ≡ start (get_or b.«data» (first (view_of b)) zero_buf)) × (0 < avail (get_or b.«data» (first (view_of b)) zero_buf))
  front_at_lem h = front_some (drop b.pos (view_of b).chunks) b.off (get_or b.«data» (first (view_of b)) zero_buf) (drop (first (view_of b) + 1) (view_of b).chunks) (from_first ∙ next b g (first (view_of b)) h)

  -- its index, found in the table's used places from the send position on
  pub first_in_use : (n : ℕ) → n ≡ skipped (take (b.count - b.pos) (drop b.pos b.«data»)) → b.pos + n ≡ first (view_of b)
  first_in_use n e =
      let whole : b.pos + (b.count - b.pos) ≡ b.count = omega (arith, g.facts.pos_in, chunks_length b g) in
      ap (λ (m : ℕ). b.pos + m)
      (e ∙ ap skipped (sym (drop-take b.pos (b.count - b.pos) b.«data») ∙ ap (λ (k : ℕ). drop b.pos (take k b.«data»)) whole))
