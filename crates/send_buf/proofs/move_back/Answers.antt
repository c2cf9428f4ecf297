-- `move_back` meets its contract. The invariant: the chunks up to here are moved back. Assumes nothing.
use Rattle.std.proofs.lemmas.List.{get_or_default}
use Rattle.std.proofs.lemmas.List.Edits.{map_over_more}
use Rattle.range_buf.specs.Rules.{zero_buf}
use Rattle.send_buf.specs.Steps.{back_to}
use lib.ListN.{get_or}
use native.Mathlib.Omega.{arith}
use Rattle.send_buf.proofs.move_back.Goals as goal

pub loop-buf-preserved : goal.loop-buf-preserved
loop-buf-preserved c =
    let l = c.loop-buf in
    let buf = get_or l.buf-items l.buf-index zero_buf in
    rw c.moved_back.ensures
    (map_over_more (back_to c.args.off) c.args.chunks.now l.buf-items l.buf-index buf c.loop-buf-test.true l.invariant
    (get_or_default l.buf-items l.buf-index zero_buf buf (omega (arith, l.auto.buf-items, c.loop-buf-test.true))))
