-- What the chunks hold after a frame: what they held, and what is new; and what an open stream's state is then. Assumes nothing.
use mathlib.Core.Path.{◌≡◌, sym, subst}
use mathlib.Core.Logic.{◌⊎◌, inl, inr}
use mathlib.Core.Bool.{Bool, true, false, cond, not, ◌&&◌}
use mathlib.Core.List.{List}
use Prim.Native.Nat.{ℕ, ◌+◌, ◌≤◌, ◌<◌, max}
use native.Mathlib.Omega.{arith}
use borrow.Author.Tests.{eqb-true}
use lib.Dec.{eqb}
use Rattle.tables.proofs.Tables.{cond_elim}
use Rattle.tables.proofs.Tests.{either, and_true}
use Rattle.refusal.specs.Rules.{known, fin_with}
use Rattle.range_buf.specs.declared.RangeBuf.{RangeBuf}
use Rattle.recv_buf.specs.State.{Recv, Held}
use Rattle.recv_buf.specs.Rules.{chunks_after, wrote, with_chunks, with_ends}
use Rattle.recv_buf.proofs.Lists.{filled_held, held_filled, filled_whole, marked_held, held_marked}

module _ (r : Recv) (s n : ℕ) (fin : Bool) where
  -- the frame brings offset o to a stream that is read on from off
  abbrev pub New : ℕ → Type 0
  New o = (r.off ≤ o) × (s ≤ o) × (o < s + n)

  pub held_after : (o : ℕ) → Held r.chunks o ⊎ New o → Held (chunks_after r s n fin) o
  held_after o h = cond_elim (λ (cs : List RangeBuf). Held cs o) (eqb n 0)
      (λ e. let z = eqb-true n 0 e in cond_elim (λ (cs : List RangeBuf). Held cs o) (not (known r.fin) && fin)
      (λ d. either h (λ x. held_marked r.chunks s o x) (λ x. absurd (omega arith)))
      (λ d. either h (λ x. x) (λ x. absurd (omega arith))))
      (λ e. either h (λ x. held_filled r.chunks (max s r.off) (s + n) o x)
      (λ x. filled_whole r.chunks (max s r.off) (s + n) o (omega arith) x.2))

  pub after_held : (o : ℕ) → Held (chunks_after r s n fin) o → Held r.chunks o ⊎ New o
  after_held o = cond_elim (λ (cs : List RangeBuf). Held cs o → Held r.chunks o ⊎ New o) (eqb n 0)
      (λ e. cond_elim (λ (cs : List RangeBuf). Held cs o → Held r.chunks o ⊎ New o) (not (known r.fin) && fin)
      (λ d h. inl (marked_held r.chunks s o h))
      (λ d h. inl h))
      (λ e h. either (filled_held r.chunks (max s r.off) (s + n) o h) (λ x. inl x) (λ x. inr (omega arith)))

  -- the state once the frame is kept; of an open stream it is the state after it, unless the frame has neither bytes nor mark
  abbrev pub keeping : Recv
  keeping = with_ends (with_chunks r (chunks_after r s n fin)) r.off (max r.len (s + n)) (fin_with r.fin (s + n) fin)

  pub wrote_elim : (P : Recv → Type 0) → r.drain ≡ false → ((eqb n 0 && not fin) ≡ true → P r) → P keeping → P (wrote r s n fin)
  unfolding wrote
  wrote_elim P u a b = cond_elim P (eqb n 0 && not fin) a
      (λ e. subst (λ (d : Bool). P (cond d (with_ends r (max r.len (s + n)) (max r.len (s + n)) (fin_with r.fin (s + n) fin)) keeping)) (sym u) b)

  pub held_wrote : r.drain ≡ false → (o : ℕ) → Held r.chunks o ⊎ New o → Held (wrote r s n fin).chunks o
  held_wrote u o h = wrote_elim (λ (x : Recv). Held x.chunks o) u
      (λ e. either h (λ x. x) (λ x. absurd (omega (arith, eqb-true n 0 (and_true (eqb n 0) (not fin) e).0))))
      (held_after o h)

  pub wrote_held : (o : ℕ) → Held (wrote r s n fin).chunks o → Held r.chunks o ⊎ ((r.drain ≡ false) × New o)
  unfolding wrote
  wrote_held o = cond_elim (λ (x : Recv). Held x.chunks o → Held r.chunks o ⊎ ((r.drain ≡ false) × New o)) (eqb n 0 && not fin)
      (λ e h. inl h)
      (λ e. cond_elim (λ (x : Recv). Held x.chunks o → Held r.chunks o ⊎ ((r.drain ≡ false) × New o)) r.drain
      (λ x h. inl h)
      (λ x h. either (after_held o h) (λ y. inl y) (λ y. inr (x, y))))
