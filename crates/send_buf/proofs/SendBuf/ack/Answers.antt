-- `SendBuf::ack` meets its contract. Assumes nothing.
use Rattle.std.specs.Prelude.{Ok, Err}
use Prim.Native.Nat.{◌+◌}
use Rattle.ranges.specs.Rules.{tried}
use Rattle.ranges.specs.State.{ranges, set_of, upto}
use Rattle.ranges.specs.declared.Range.{Range}
use Rattle.send_buf.proofs.Acking.{acks_done, acks_full, acks_unsent, joined, not_joined}
use Rattle.send_buf.proofs.Good.{acked_good, acked_is, count_is, made, table}
use Rattle.send_buf.specs.Rules.{acked_more}
use Rattle.send_buf.specs.State.{view_of}
use mathlib.Core.Path.{◌∙◌, ◌≡◌, ap, sym}
use native.Mathlib.Omega.{arith}
use Rattle.refusal.specs.declared.Refusal.TheVariants.{NeverSent}
use Rattle.ranges.specs.declared.RangeSet.{RangeSet}
use Rattle.send_buf.proofs.SendBuf.ack.Goals as goal

pub returns-then-passes : goal.returns-then-passes
returns-then-passes c =
    let e = acks_unsent (view_of c.args.self) c.args.off c.args.len (sym c.passes.ensures ∙ c.if-passes.true) in
    rw e (λ j. record { answer = Err NeverSent; state = c.requires.whole j })

pub try_insert-joined-requires : goal.try_insert-joined-requires
try_insert-joined-requires c = acked_good c.args.self c.requires

pub returns-in_default : goal.returns-in_default
returns-in_default c =
    let b = c.args.self in
    let x : Range = upto c.args.off (c.args.off + c.args.len) in
    let o : c.try_insert-joined.result ≡ tried (set_of 64 (ranges b.acked)) x = c.try_insert-joined.ensures ∙ ap (λ (s : RangeSet). tried s x) (acked_is b c.requires) in
    let f = not_joined x (ranges b.acked) (omega arith) c.try_insert-joined.result o c.in_default.field-0 c.in_default.is in
    let e = acks_full (view_of b) c.args.off c.args.len (sym c.passes.ensures ∙ c.if-passes.false) f.0 in
    rw e (λ j. record { answer = (c.in_default.is ∙ ap Err f.1) j; state = c.requires.whole j })

pub returns : goal.returns
unfolding acked_more
returns c =
    let b = c.args.self in
    let x : Range = upto c.args.off (c.args.off + c.args.len) in
    let o : c.try_insert-joined.result ≡ tried (set_of 64 (ranges b.acked)) x = c.try_insert-joined.ensures ∙ ap (λ (s : RangeSet). tried s x) (acked_is b c.requires) in
    let f = joined x (ranges b.acked) (omega arith) c.try_insert-joined.result o c.in-Ok.is in
    let e = acks_done (view_of b) c.args.off c.args.len (sym c.passes.ensures ∙ c.if-passes.false) f.0 in
    let m = made (acked_more (view_of b) c.args.off c.args.len) b.«data» b.count c.try_insert-joined.result.state (table b c.requires).clear (count_is b c.requires) f.1 in
    rw e (λ j. record { answer = Ok tt; state = m j })
