-- quiche's write passes over data that is already acked; ours has no such test. Over any sequence of calls from creation, refused or not, resets,
-- stops and shutdowns among them, contiguous ack does not pass the largest emitted offset, nor does that pass the end of what was written. So a
-- write of a byte or more would never meet the test, one of none would have nothing to skip, and the number accepted is the same with the test
-- as without it. Assumes nothing.
use Rattle.std.specs.Prelude.{Ok, Err, Some}
use mathlib.Core.Path.{◌≡◌, refl}
use mathlib.Core.Bool.{Bool, true, false, cond}
use Prim.Native.Nat.{ℕ, zero, suc, ◌+◌, ◌≤◌, ◌<◌}
use native.Mathlib.Omega.{arith}
use lib.Dec.{leb}
use borrow.Author.Tests.{lt-leb}
use Rattle.refusal.specs.declared.Refusal.TheVariants.{NeverSent}
use Rattle.tables.proofs.Tables.{cond_elim}
use Rattle.send_buf.specs.declared.SendBuf.{SendBuf}
use Rattle.send_buf.specs.State.{Send, view_of, buf_of, GoodSend}
use Rattle.send_buf.specs.Rules.{ack_off, accepted, new_send, created, write_judged, wrote, written, sent, emitted, ack_judged, acked_more, acks}
use Rattle.send_buf.proofs.Facts.{ack_emitted, ack_le}
use Rattle.send_buf.proofs.Reached.{Reached, new, write, emit, ack, reached_good}

-- quiche's test: n bytes more would end at or below contiguous ack; and how many of them a write with that test accepts
abbrev pub acked_already : Send → ℕ → Bool
acked_already s n = leb (s.off + n) (ack_off s.acked)

abbrev pub skipping : Send → ℕ → ℕ
skipping s n = cond (acked_already s n) 0 (accepted s n)

-- with no bytes there is nothing to skip, whatever is acked
pub none_to_skip : (s : Send) → skipping s 0 ≡ accepted s 0
none_to_skip s = cond_elim (λ (x : ℕ). x ≡ accepted s 0) (acked_already s 0) (λ e. omega arith) (λ e. refl)

module _ (s : Send) (g : GoodSend s) where
  pub never_skips : (n : ℕ) → 0 < n → acked_already s n ≡ false
  never_skips n h = lt-leb (s.off + n) (ack_off s.acked) (omega (arith, ack_le s g))

  pub skips_nothing : (n : ℕ) → skipping s n ≡ accepted s n
  skips_nothing zero = none_to_skip s
  skips_nothing (suc n) = simp (never_skips (suc n) (omega arith))

-- the same of every buffer that calls reach from creation
module _ (b : SendBuf) (r : Reached b) where
  pub ack_reached : (ack_off (view_of b).acked ≤ b.emit_off) × (b.emit_off ≤ b.off)
  ack_reached = let g = (reached_good b r).facts in (ack_emitted (view_of b) g, g.emitted_in)

  pub never_skips_reached : (n : ℕ) → 0 < n → acked_already (view_of b) n ≡ false
  never_skips_reached = never_skips (view_of b) (reached_good b r).facts

  pub skip_reached : (n : ℕ) → skipping (view_of b) n ≡ accepted (view_of b) n
  skip_reached = skips_nothing (view_of b) (reached_good b r).facts

-- ---- why a byte or more, and why from creation; by computing

-- three bytes, written, sent and acked
abbrev three : SendBuf
three = (acks (view_of (emitted (view_of (written (view_of (created 10 16).state) 16 3 false).state) 16 3).state) 0 3).state

-- the write of no bytes that then closes the stream would meet the test: it answers 0, and sets F, as it must
pub closing_meets : Reached three × (acked_already (view_of three) 0 ≡ true) × ((written (view_of three) 16 0 true).answer ≡ Ok 0) × ((view_of (written (view_of three) 16 0 true).state).fin ≡ Some 3)
unfolding buf_of created write_judged wrote written sent emitted ack_judged acked_more acks
closing_meets = (ack _ 0 3 (emit _ 16 3 (write _ 16 3 false (new 10 16))), refl, refl, refl)

-- an ack of three bytes never sent is refused. Were it taken, the test would pass over the next three, which no one has
pub rests_on_refusal : ((acks (new_send 16 10) 0 3).answer ≡ Err NeverSent) × (skipping (acked_more (new_send 16 10) 0 3) 3 ≡ 0) × (accepted (acked_more (new_send 16 10) 0 3) 3 ≡ 3)
unfolding ack_judged acked_more acks
rests_on_refusal = (refl, refl, refl)
