-- What a buffer answers after a reset, and so after `stop` and `shutdown`: it is complete, has nothing to send but the end mark, and takes no
-- write but an empty marked one; a second reset changes nothing. Assumes nothing.
use Rattle.std.specs.Prelude.{Option, Some}
use mathlib.Core.Path.{◌≡◌, refl, sym, ap, ◌∙◌}
use mathlib.Core.Logic.{◌⊎◌}
use mathlib.Core.Bool.{Bool, true, false, or-true, and-false}
use mathlib.Core.List.{List, [], ◌∷◌}
use Prim.Native.Nat.{ℕ, ◌+◌, ◌-◌, ◌<◌, max, zero-le}
use native.Mathlib.Omega.{arith}
use borrow.Author.Tests.{lt-ltb, le-ltb, eq-eqb}
use Rattle.tables.proofs.Tables.{cases}
use Rattle.ranges.specs.declared.Range.{Range}
use Rattle.ranges.specs.State.{upto}
use Rattle.ranges.specs.Rules.{placed}
use Rattle.send_buf.specs.State.{Send, GoodSend}
use Rattle.send_buf.specs.Rules.{marked, passes_final, front, emit_count, lost_bytes, cut_off, was_reset, complete_at, is_complete}
use Rattle.send_buf.proofs.Acked.{placed_all}
use Rattle.send_buf.proofs.Facts.{reset_size, reset_single}
use Rattle.refusal.specs.Rules.{is_at}
use Rattle.tables.proofs.Tests.{either}

module _ (s : Send) (g : GoodSend s) where
  -- the acked set is the single range 0..F, F being the largest emitted offset
  pub reset_acked : (was_reset s).acked ≡ upto 0 s.emitted ∷ []
  unfolding was_reset
  reset_acked = reset_single s g ∙ ap (λ (u : ℕ). upto 0 u ∷ []) (reset_size s g)

  pub reset_final : (was_reset s).fin ≡ Some s.emitted
  unfolding was_reset
  reset_final = ap Some (reset_size s g)

  pub reset_complete : is_complete (was_reset s) ≡ true
  reset_complete =
      ap (λ (t : List Range). complete_at (was_reset s).fin t) reset_acked
      ∙ ap (λ (f : Option ℕ). complete_at f (upto 0 s.emitted ∷ [])) reset_final
      ∙ simp (eq-eqb s.emitted s.emitted refl)

  -- an emit, at any room: no byte, and the end mark
  pub reset_emit : (n : ℕ) → (emit_count (was_reset s) n ≡ 0) × (is_at (was_reset s).fin (front (was_reset s) + emit_count (was_reset s) n) ≡ true)
  unfolding was_reset
  reset_emit n = (refl, eq-eqb (cut_off s) (cut_off s + 0) (omega arith))

  -- a loss: nothing
  pub reset_loss : (a n : ℕ) → lost_bytes (was_reset s) a n ≡ 0
  unfolding was_reset
  reset_loss a n = refl

  -- a write: FinalSize, unless it is empty and marked
  pub reset_refuses : (n : ℕ) (fin : Bool) → (0 < n) ⊎ (fin ≡ false) → passes_final (was_reset s).fin ((was_reset s).off + n) (marked (was_reset s) n fin) ≡ true
  unfolding was_reset
  reset_refuses n fin h =
      let u : ℕ = cut_off s in
      cases 0 n
      (λ t. simp (lt-ltb u (u + n) (omega arith)))
      (λ t. either h (λ x. absurd (omega arith))
      (λ x. let e : u + n ≡ u = omega arith in simp (x, e, eq-eqb u u refl, and-false, or-true)))

  pub reset_allows : passes_final (was_reset s).fin ((was_reset s).off + 0) (marked (was_reset s) 0 true) ≡ false
  unfolding was_reset
  reset_allows =
      let u : ℕ = cut_off s in
      simp (le-ltb u (u + 0) (omega arith), le-ltb (s.limit - u) 0 zero-le, and-false)

  -- a second one
  pub reset_twice : was_reset (was_reset s) ≡ was_reset s
  unfolding was_reset
  reset_twice =
      let u : ℕ = cut_off s in
      let e : max u s.emitted ≡ u = omega arith in
      let f : placed (upto 0 (max u s.emitted)) (placed (upto 0 u) s.acked) ≡ placed (upto 0 u) s.acked =
      ap (λ (x : ℕ). placed (upto 0 x) (placed (upto 0 u) s.acked)) e
      ∙ ap (placed (upto 0 u)) (reset_single s g)
      ∙ placed_all u (upto 0 u ∷ []) (omega arith, omega arith, tt) (omega arith, tt)
      ∙ sym (reset_single s g) in
      λ j. record {
        room = s.room;
        chunks = [];
        pos = 0;
        off = e j;
        emitted = s.emitted;
        buffered = 0;
        limit = s.limit;
        blocked = s.blocked;
        fin = Some (e j);
        shut = s.shut;
        acked = f j;
        error = s.error;
      }
