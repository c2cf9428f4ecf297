-- `SendBuf::retransmit` meets its contract. Assumes nothing.
use Rattle.std.specs.Prelude.{Ok, Err}
use Prim.Native.Nat.{◌+◌}
use Rattle.range_buf.specs.State.{Good as GoodChunk}
use Rattle.send_buf.proofs.Good.{all_good, few}
use Rattle.send_buf.proofs.Losing.{inside, loss_in, loss_settled, loss_unsent, lost_made, moved_bytes, moved_count, moved_table}
use Rattle.std.specs.List.{All}
use native.Mathlib.Omega.{arith}
use Rattle.send_buf.specs.State.{view_of}
use Rattle.range_buf.specs.declared.RangeBuf.{RangeBuf}
use lib.ListN.{drop}
use mathlib.Core.List.{List, ◌++◌}
use mathlib.Core.Path.{◌∙◌, ap, subst, sym}
use Rattle.refusal.specs.declared.Refusal.TheVariants.{NeverSent}
use Rattle.send_buf.proofs.SendBuf.retransmit.Goals as goal

pub returns-then-passes : goal.returns-then-passes
returns-then-passes c =
    let e = loss_unsent (view_of c.args.self) c.args.off c.args.len (sym c.passes.ensures ∙ c.if-passes.true) in
    (λ j. record { answer = Err NeverSent; state = c.requires.whole j }) ∙ sym e

pub returns-then-settled : goal.returns-then-settled
returns-then-settled c =
    let e = loss_settled (view_of c.args.self) c.args.off c.args.len (sym c.passes.ensures ∙ c.if-passes.false) (sym c.settled.ensures ∙ c.if-settled.true) in
    (λ j. record { answer = Ok 0; state = c.requires.whole j }) ∙ sym e

pub chunks-requires : goal.chunks-requires
chunks-requires c = few c.args.self c.requires

pub drop_count-at-requires : goal.drop_count-at-requires
drop_count-at-requires c = subst (All GoodChunk) (sym c.chunks.ensures) (all_good c.args.self c.requires)

pub chunks-requires-2 : goal.chunks-requires-2
chunks-requires-2 c = few c.args.self c.requires

pub split_back-requires-clause-inside : goal.split_back-requires-clause-inside
split_back-requires-clause-inside c =
    inside c.args.self c.requires c.drop_count-at.result c.args.off c.args.len c.chunks.result.now c.chunks-2.result.now c.chunks.ensures c.chunks-2.ensures c.drop_count-at.ensures
    (sym c.begins_below.ensures ∙ c.if-begins_below.true) (sym c.passes.ensures ∙ c.if-passes.false) (sym c.settled.ensures ∙ c.if-settled.false)

pub back_bytes-bytes-requires : goal.back_bytes-bytes-requires
back_bytes-bytes-requires c =
    let e = moved_bytes c.args.self c.requires c.drop_count-at.result c.args.off c.args.len c.chunks.result.now c.chunks-2.result.now c.chunks.ensures c.chunks-2.ensures c.drop_count-at.ensures (sym c.begins_below.ensures ∙ c.if-begins_below.false) in
    omega (arith, e, loss_in (view_of c.args.self) c.requires.facts c.args.off (c.args.off + c.args.len))

pub overflow_add-self : goal.overflow_add-self
overflow_add-self c =
    let e = moved_bytes c.args.self c.requires c.drop_count-at.result c.args.off c.args.len c.chunks.result.now c.chunks-2.result.now c.chunks.ensures c.chunks-2.ensures c.drop_count-at.ensures (sym c.begins_below.ensures ∙ c.if-begins_below.false) in
    omega (arith, c.back_bytes-bytes.ensures ∙ e, loss_in (view_of c.args.self) c.requires.facts c.args.off (c.args.off + c.args.len))

pub returns : goal.returns
returns c =
    let b = c.args.self in
    let rest = drop c.drop_count-at.result b.«data» in
    let w = c.move_back.new.chunks ++ rest in
    let m = ap (λ (l : List RangeBuf). l ++ rest) c.move_back.ensures in
    let e = moved_bytes c.args.self c.requires c.drop_count-at.result c.args.off c.args.len c.chunks.result.now c.chunks-2.result.now c.chunks.ensures c.chunks-2.ensures c.drop_count-at.ensures (sym c.begins_below.ensures ∙ c.if-begins_below.false) in
    let n = moved_count c.args.self c.requires c.drop_count-at.result c.args.off c.args.len c.chunks.result.now c.chunks-2.result.now c.chunks.ensures c.chunks-2.ensures c.drop_count-at.ensures (sym c.begins_below.ensures ∙ c.if-begins_below.false) in
    let d = moved_table c.args.self c.requires c.drop_count-at.result c.args.off c.args.len c.chunks.result.now c.chunks-2.result.now c.chunks.ensures c.chunks-2.ensures c.drop_count-at.ensures (sym c.begins_below.ensures ∙ c.if-begins_below.false) w m in
    lost_made b c.requires c.args.off c.args.len (sym c.passes.ensures ∙ c.if-passes.false) (sym c.settled.ensures ∙ c.if-settled.false)
    w b.count c.back_pos.result c.back_bytes-bytes.result d (sym n) (few b c.requires) c.back_pos.ensures (c.back_bytes-bytes.ensures ∙ e)
