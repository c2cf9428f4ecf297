-- `SendBuf::ack_and_drop` meets its contract. Assumes nothing.
use Rattle.std.specs.Prelude.{Err}
use Rattle.range_buf.specs.State.{Good as GoodChunk}
use Rattle.send_buf.proofs.Dropping.{bytes_in, bytes_is, count_in, count_is_lem, is_dropped, not_dropped, still_good}
use Rattle.std.specs.List.{All}
use native.Mathlib.Omega.{arith}
use Rattle.send_buf.proofs.Good.{all_good, few}
use Rattle.send_buf.specs.State.{view_of}
use mathlib.Core.Path.{◌∙◌, subst, sym}
use Rattle.send_buf.proofs.SendBuf.ack_and_drop.Goals as goal

pub returns-in-Err : goal.returns-in-Err
returns-in-Err c =
    (λ j. record { answer = Err c.in-Err.why; state = c.requires.whole j })
    ∙ not_dropped (view_of c.args.self) c.args.off c.args.len c.ack-out.result c.ack-out.ensures c.in-Err.why c.in-Err.is

pub chunks-requires : goal.chunks-requires
chunks-requires c = few c.ack-out.result.state (still_good c.args.self c.requires c.args.off c.args.len c.ack-out.result c.ack-out.ensures)

pub drop_to-requires : goal.drop_to-requires
drop_to-requires c = still_good c.args.self c.requires c.args.off c.args.len c.ack-out.result c.ack-out.ensures

pub drop_count-n-requires : goal.drop_count-n-requires
drop_count-n-requires c =
    subst (All GoodChunk) (sym c.chunks.ensures) (all_good c.ack-out.result.state (still_good c.args.self c.requires c.args.off c.args.len c.ack-out.result c.ack-out.ensures))

pub chunks-requires-2 : goal.chunks-requires-2
chunks-requires-2 c = few c.ack-out.result.state (still_good c.args.self c.requires c.args.off c.args.len c.ack-out.result c.ack-out.ensures)

pub waiting-bytes-requires : goal.waiting-bytes-requires
waiting-bytes-requires c =
    let b = c.ack-out.result.state in
    let g = still_good c.args.self c.requires c.args.off c.args.len c.ack-out.result c.ack-out.ensures in
    let k = c.drop_to.result in
    let n = c.drop_count-n in
    let w = bytes_in b g k in
    omega (arith, bytes_is b g k n.result c.chunks.result.now c.chunks.ensures n.ensures c.chunks-2.result.now c.chunks-2.ensures, w.0, w.1)

pub drop_front-requires : goal.drop_front-requires
drop_front-requires c =
    let b = c.ack-out.result.state in
    let g = still_good c.args.self c.requires c.args.off c.args.len c.ack-out.result c.ack-out.ensures in
    let k = c.drop_to.result in
    let n = c.drop_count-n in
    let e = c.waiting-bytes.ensures ∙ bytes_is b g k n.result c.chunks.result.now c.chunks.ensures n.ensures c.chunks-2.result.now c.chunks-2.ensures in
    record { good = g; n_le_count = (count_in b g k n.result c.chunks.result.now c.chunks.ensures n.ensures, omega (arith, e, (bytes_in b g k).0)) }

pub returns : goal.returns
returns c =
    let b = c.ack-out.result.state in
    let g = still_good c.args.self c.requires c.args.off c.args.len c.ack-out.result c.ack-out.ensures in
    let k = c.drop_to.result in
    let n = c.drop_count-n in
    is_dropped (view_of c.args.self) c.args.off c.args.len c.ack-out.result c.ack-out.ensures c.in_default.is
    k n.result c.waiting-bytes.result c.drop_front.result
    c.drop_to.ensures (count_is_lem b g k n.result c.chunks.result.now c.chunks.ensures n.ensures)
    (c.waiting-bytes.ensures ∙ bytes_is b g k n.result c.chunks.result.now c.chunks.ensures n.ensures c.chunks-2.result.now c.chunks-2.ensures) c.drop_front.ensures
