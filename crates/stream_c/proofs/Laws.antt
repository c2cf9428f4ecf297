-- The laws of the conversions. What a call gave goes over to C and comes back as it was, so a state that C hands back is good as it was
-- when it left. Assumes nothing.
use Rattle.std.specs.Prelude.{Result, Ok, Err, Option, Some, None, ⊤}
use mathlib.Core.Path.{◌≡◌, refl, ap}
use mathlib.Core.Bool.{Bool, true, false, cond}
use Prim.Native.Nat.{ℕ}
use lib.Dec.{eqb}
use Rattle.refusal.specs.Rules.{refusal, told, told_count, told_emit, told_sizes}
use Rattle.refusal.specs.declared.Refusal.{Refusal}
use Rattle.refusal.specs.declared.Refusal.TheVariants.{Offset, Stopped, FinalSize, FlowControl as OverLimit, NoRoom, TableFull, NeverSent, Done as NothingMore, Reset, BadSetup}
use Rattle.range_buf.specs.declared.RangeBuf.{RangeBuf}
use Rattle.range_buf.specs.Rules.{zero_buf, told_split}
use Rattle.flowcontrol.specs.declared.FlowControl.{FlowControl}
use Rattle.flowcontrol.specs.State.{Good as GoodFlow}
use Rattle.send_buf.specs.declared.SendBuf.{SendBuf}
use Rattle.send_buf.specs.State.{Good as GoodSendBuf}
use Rattle.recv_buf.specs.declared.RecvBuf.{RecvBuf}
use Rattle.recv_buf.specs.State.{Good as GoodRecvBuf}
use Rattle.stream_c.specs.declared.VkAnswer.{VkAnswer}
use Rattle.stream_c.specs.declared.chunk.VkSplitOut.{VkSplitOut}
use Rattle.stream_c.specs.Rules.{split_with}
use Rattle.stream_c.specs.State.{option_of, vk_number, padded, flow_of, vk_flow, send_of, vk_send, recv_of, vk_recv}

-- ---- answers

-- an answer there and back: no two refusals have one number, no refusal has a success's, so C's three numbers tell the answer

abbrev refusal_at : ℕ → ℕ → Refusal
refusal_at n code =
    cond (eqb n 1) Offset (cond (eqb n 2) (Stopped code) (cond (eqb n 3) FinalSize (cond (eqb n 4) OverLimit (cond (eqb n 5) NoRoom (
    cond (eqb n 6) TableFull (cond (eqb n 7) NeverSent (cond (eqb n 8) NothingMore (cond (eqb n 9) (Reset code) BadSetup))))))))

refused_back : (why : Refusal) → (eqb (padded (refusal why)).number 0 ≡ false) × (refusal_at (padded (refusal why)).number (padded (refusal why)).first ≡ why)
unfolding padded
refused_back Offset = (refl, refl)
refused_back (Stopped code) = (refl, refl)
refused_back FinalSize = (refl, refl)
refused_back OverLimit = (refl, refl)
refused_back NoRoom = (refl, refl)
refused_back TableFull = (refl, refl)
refused_back NeverSent = (refl, refl)
refused_back NothingMore = (refl, refl)
refused_back (Reset code) = (refl, refl)
refused_back BadSetup = (refl, refl)

-- x for a success's number, and else y of the refusal
abbrev of_answer : {A : Type 0} → VkAnswer → A → (Refusal → A) → A
of_answer a x y = cond (eqb a.number 0) x (y (refusal_at a.number a.first))

refused : {A : Type 0} (why : Refusal) (x : A) (y : Refusal → A) → of_answer (padded (refusal why)) x y ≡ y why
refused why x y = simp (refused_back why).0 (ap y (refused_back why).1)

abbrev pub plain_of : VkAnswer → Result ⊤ Refusal
plain_of a = of_answer a (Ok tt) Err

abbrev pub count_of : VkAnswer → Result ℕ Refusal
count_of a = of_answer a (Ok a.first) Err

abbrev pub bytes_of : VkAnswer → Result (ℕ × Bool) Refusal
bytes_of a = of_answer a (Ok (a.first, eqb a.second 1)) Err

abbrev pub sizes_of : VkAnswer → Result (ℕ × ℕ) Refusal
sizes_of a = of_answer a (Ok (a.first, a.second)) Err

pub plain_back : (a : Result ⊤ Refusal) → plain_of (padded (told a)) ≡ a
unfolding padded
plain_back (Ok done) = refl
plain_back (Err why) = refused why (Ok tt) Err

pub count_back : (a : Result ℕ Refusal) → count_of (padded (told_count a)) ≡ a
unfolding padded
count_back (Ok n) = refl
count_back (Err why) = refused why (Ok (padded (refusal why)).first) Err

pub bytes_back : (a : Result (ℕ × Bool) Refusal) → bytes_of (padded (told_emit a)) ≡ a
unfolding padded
bytes_back (Ok (n, true)) = refl
bytes_back (Ok (n, false)) = refl
bytes_back (Err why) = refused why (Ok ((padded (refusal why)).first, eqb (padded (refusal why)).second 1)) Err

pub sizes_back : (a : Result (ℕ × ℕ) Refusal) → sizes_of (padded (told_sizes a)) ≡ a
unfolding padded
sizes_back (Ok (m, n)) = refl
sizes_back (Err why) = refused why (Ok ((padded (refusal why)).first, (padded (refusal why)).second)) Err

-- a split's right part stands beside its answer, and the number is the one that the split tells
abbrev pub split_of : VkSplitOut → Result RangeBuf Refusal
split_of o = of_answer o.answer (Ok o.right) Err

pub split_back_lem : (left : RangeBuf) (a : Result RangeBuf Refusal) → split_of (split_with left a) ≡ a
unfolding padded
split_back_lem left (Ok right) = refl
split_back_lem left (Err why) = refused why (Ok zero_buf) Err

pub split_told : (left : RangeBuf) (a : Result RangeBuf Refusal) → (split_with left a).answer.number ≡ (told_split a).number
unfolding padded
split_told left (Ok right) = refl
split_told left (Err Offset) = refl
split_told left (Err (Stopped code)) = refl
split_told left (Err FinalSize) = refl
split_told left (Err OverLimit) = refl
split_told left (Err NoRoom) = refl
split_told left (Err TableFull) = refl
split_told left (Err NeverSent) = refl
split_told left (Err NothingMore) = refl
split_told left (Err (Reset code)) = refl
split_told left (Err BadSetup) = refl

-- ---- states: there and back

pub number_back : (n : Option ℕ) → option_of (vk_number n) ≡ n
unfolding option_of vk_number
number_back None = refl
number_back (Some n) = refl

pub flow_back_lem : (f : FlowControl) → flow_of (vk_flow f) ≡ f
unfolding flow_of vk_flow
flow_back_lem f = simp number_back

pub send_back : (b : SendBuf) → send_of (vk_send b) ≡ b
unfolding send_of vk_send
send_back b = simp number_back

pub recv_back : (b : RecvBuf) → recv_of (vk_recv b) ≡ b
unfolding recv_of vk_recv
recv_back b = simp (flow_back_lem, number_back)

-- what the next call requires of a state that C hands back

pub flow_good : (f : FlowControl) → GoodFlow f → GoodFlow (flow_of (vk_flow f))
flow_good f g = rw (flow_back_lem f) g

pub send_good : (b : SendBuf) → GoodSendBuf b → GoodSendBuf (send_of (vk_send b))
send_good b g = rw (send_back b) g

pub recv_good : (b : RecvBuf) → GoodRecvBuf b → GoodRecvBuf (recv_of (vk_recv b))
recv_good b g = rw (recv_back b) g
