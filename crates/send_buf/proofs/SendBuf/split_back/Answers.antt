-- `SendBuf::split_back` meets its contract: the chunk is never too short for the split. Assumes nothing.
use Prim.Native.Nat.{◌+◌}
use Rattle.send_buf.proofs.Good.{chunk_good, few}
use Rattle.send_buf.proofs.Losing.{at_in, loss_joined, lost_made, split_never, splits, tiled_back}
use Rattle.send_buf.specs.State.{view_of}
use Rattle.send_buf.specs.Steps.{relists, Tiled}
use Rattle.range_buf.specs.declared.RangeBuf.{RangeBuf}
use lib.ListN.{drop, set}
use mathlib.Core.List.{List, ◌++◌}
use mathlib.Core.Path.{◌∙◌, ap, ap₂, subst, sym}
use native.Mathlib.Omega.{arith}
use Rattle.send_buf.proofs.SendBuf.split_back.Goals as goal

pub split_off-cut-requires : goal.split_off-cut-requires
split_off-cut-requires c = chunk_good c.args.self c.requires.good c.args.at (at_in c.args.self c.requires.good c.args.at c.args.off c.args.len c.requires.inside)

pub returns-in_default : goal.returns-in_default
returns-in_default c = absurd (split_never c.args.self c.requires.good c.args.at c.args.off c.args.len c.requires.inside c.split_off-cut.result c.split_off-cut.ensures c.in_default.field-0 c.in_default.is)

pub back_bytes-bytes-requires : goal.back_bytes-bytes-requires
back_bytes-bytes-requires c =
    let s = splits c.args.self c.requires.good c.args.at c.args.off c.args.len c.requires.inside c.split_off-cut.result c.split_off-cut.ensures c.in-Ok.right c.in-Ok.is in
    omega (arith, s.bytes, s.in_all)

pub overflow_add-count : goal.overflow_add-count
overflow_add-count c = omega (arith, few c.args.self c.requires.good)

pub slice_bounds-rest-end : goal.slice_bounds-rest-end
slice_bounds-rest-end c =
    let s = splits c.args.self c.requires.good c.args.at c.args.off c.args.len c.requires.inside c.split_off-cut.result c.split_off-cut.ensures c.in-Ok.right c.in-Ok.is in
    let rest = drop (c.args.at + 1) (set c.args.self.«data» c.args.at c.split_off-cut.result.state) in
    let w = c.move_back.new.chunks ++ rest in
    let m = ap (λ (l : List RangeBuf). l ++ rest) c.move_back.ensures in
    omega (arith, s.few_now, s.places w m)

pub relist_joined-requires-clause-tiled : goal.relist_joined-requires-clause-tiled
relist_joined-requires-clause-tiled c =
    let s = splits c.args.self c.requires.good c.args.at c.args.off c.args.len c.requires.inside c.split_off-cut.result c.split_off-cut.ensures c.in-Ok.right c.in-Ok.is in
    let rest = drop (c.args.at + 1) (set c.args.self.«data» c.args.at c.split_off-cut.result.state) in
    let w = c.move_back.new.chunks ++ rest in
    let m = ap (λ (l : List RangeBuf). l ++ rest) c.move_back.ensures in
    subst Tiled (sym (s.both_parts w m)) (tiled_back c.args.self c.requires.good c.args.off (c.args.off + c.args.len))

pub relist_joined-requires-clause-bytes_in : goal.relist_joined-requires-clause-bytes_in
relist_joined-requires-clause-bytes_in c =
    let s = splits c.args.self c.requires.good c.args.at c.args.off c.args.len c.requires.inside c.split_off-cut.result c.split_off-cut.ensures c.in-Ok.right c.in-Ok.is in
    omega (arith, c.back_bytes-bytes.ensures ∙ s.bytes, s.in_all)

pub returns-then-count-gt64 : goal.returns-then-count-gt64
returns-then-count-gt64 c =
    let s = splits c.args.self c.requires.good c.args.at c.args.off c.args.len c.requires.inside c.split_off-cut.result c.split_off-cut.ensures c.in-Ok.right c.in-Ok.is in
    let rest = drop (c.args.at + 1) (set c.args.self.«data» c.args.at c.split_off-cut.result.state) in
    let w = c.move_back.new.chunks ++ rest in
    let m = ap (λ (l : List RangeBuf). l ++ rest) c.move_back.ensures in
    let h = c.requires.inside in
    c.relist_joined.ensures ∙ ap₂ (relists (view_of c.args.self)) (s.both_parts w m) (c.back_bytes-bytes.ensures ∙ s.bytes)
    ∙ sym (loss_joined (view_of c.args.self) c.args.off c.args.len h.was_sent_lem h.unsettled (omega (arith, s.count, c.if-count-gt64.true)))

pub overflow_add-self : goal.overflow_add-self
overflow_add-self c =
    let s = splits c.args.self c.requires.good c.args.at c.args.off c.args.len c.requires.inside c.split_off-cut.result c.split_off-cut.ensures c.in-Ok.right c.in-Ok.is in
    omega (arith, c.back_bytes-bytes.ensures ∙ s.bytes, s.in_all)

pub returns : goal.returns
returns c =
    let s = splits c.args.self c.requires.good c.args.at c.args.off c.args.len c.requires.inside c.split_off-cut.result c.split_off-cut.ensures c.in-Ok.right c.in-Ok.is in
    let rest = drop (c.args.at + 1) (set c.args.self.«data» c.args.at c.split_off-cut.result.state) in
    let w = c.move_back.new.chunks ++ rest in
    let m = ap (λ (l : List RangeBuf). l ++ rest) c.move_back.ensures in
    let h = c.requires.inside in
    lost_made c.args.self c.requires.good c.args.off c.args.len h.was_sent_lem h.unsettled c.insert.new.places (c.args.self.count + 1) c.back_pos.result c.back_bytes-bytes.result
    (c.insert.ensures ∙ s.one_more w m (omega (arith, c.if-count-gt64.false))) (sym s.count) (omega (arith, c.if-count-gt64.false)) c.back_pos.ensures (c.back_bytes-bytes.ensures ∙ s.bytes)
