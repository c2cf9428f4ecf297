-- The write of no bytes with the end mark, which closes a stream (RULES 4.2). On a stream that is open and not stopped it is never refused,
-- however full arena, table and limit are; it keeps no byte, and the end of what was written is the final size. Assumes nothing.
use Rattle.std.specs.Prelude.{Ok, Some, None}
use mathlib.Core.Path.{◌≡◌, ap, ◌∙◌}
use mathlib.Core.Bool.{true, false}
use mathlib.Core.List.{append-nil}
use Prim.Native.Nat.{ℕ, ◌+◌, ◌-◌}
use native.Mathlib.Omega.{arith}
use lib.Dec.{ltb}
use lib.ListN.{length}
use borrow.Author.Tests.{le-ltb}
use Rattle.send_buf.specs.State.{Send, base, GoodSend}
use Rattle.send_buf.specs.Rules.{other_arena, accepted, marked, longer, joined, no_room, write_judged, wrote, written}
use Rattle.tables.proofs.Tests.{undecided}
use Rattle.send_buf.proofs.Kept.{never_full}

module _ (s : Send) (g : GoodSend s) where
  none_accepted : accepted s 0 ≡ 0
  none_accepted = omega arith

  -- the mark is never dropped
  mark_stays : marked s 0 true ≡ true
  mark_stays = simp (le-ltb (s.limit - s.off) 0 (omega arith))

  pub closing_accepted : (a : ℕ) → other_arena s a ≡ false → s.error ≡ None → s.fin ≡ None → write_judged s a 0 true ≡ Ok tt
  unfolding write_judged
  closing_accepted a right running unended =
      let room : no_room s 0 ≡ false = le-ltb s.room (accepted s 0 + (s.off - base s.chunks s.off)) (omega (arith, none_accepted, g.fits)) in
      simp (right, running, unended, room, never_full s g 0)

  pub closing_sets : (wrote s 0 true).fin ≡ Some s.off
  unfolding wrote
  closing_sets = rw mark_stays (ap Some (omega arith))

  pub closing_keeps : ((wrote s 0 true).off ≡ s.off) × ((wrote s 0 true).buffered ≡ s.buffered)
  unfolding wrote
  closing_keeps = (omega (arith, none_accepted), omega (arith, none_accepted))

  -- and chunks and send position stay: with 64 chunks it joins nothing
  pub closing_joins_nothing : ((wrote s 0 true).chunks ≡ s.chunks) × ((wrote s 0 true).pos ≡ s.pos)
  unfolding wrote
  closing_joins_nothing =
      let e : longer s (accepted s 0) ≡ s.chunks = ap (longer s) none_accepted ∙ append-nil s.chunks in
      let few : ltb 64 (length (longer s (accepted s 0))) ≡ false = le-ltb 64 (length (longer s (accepted s 0))) (omega (arith, ap length e, g.few)) in
      (undecided few (joined (longer s (accepted s 0))) (longer s (accepted s 0)) ∙ e, undecided few 0 s.pos)

  pub closing_answers : (a : ℕ) → other_arena s a ≡ false → s.error ≡ None → s.fin ≡ None → (written s a 0 true).answer ≡ Ok 0
  unfolding written
  closing_answers a right running unended = rw (closing_accepted a right running unended, none_accepted)
