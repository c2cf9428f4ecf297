-- `adjoin` meets its contract. The invariant: all adjoin exactly if the chunks from here on adjoin from `at`. Assumes nothing.
use Prim.Native.Nat.{suc}
use Rattle.range_buf.specs.Rules.{zero_buf}
use Rattle.send_buf.proofs.Checked.{adjoin_no, adjoin_long}
use lib.ListN.{drop, get_or}
use lib.Seq.{drop-cons}
use mathlib.Core.Path.{sym, ◌∙◌}
use native.Mathlib.Omega.{arith}
use Rattle.send_buf.proofs.adjoin.Goals as goal
use Rattle.send_buf.proofs.adjoin.Goals.{then-not-adjoins_at-via-then-not-adjoins_at, then-not-adjoins_at-via-else-not-adjoins_at+then-to-at}

pub returns-then-not-adjoins_at : goal.returns-then-not-adjoins_at
returns-then-not-adjoins_at c =
    let v = c.loop-buf in
    let buf = get_or c.args.chunks.now v.buf-index zero_buf in
    let rest = drop (suc v.buf-index) c.args.chunks.now in
    rw (v.invariant.1, drop-cons c.args.chunks.now v.buf-index zero_buf c.loop-buf-test.true)
    (elim c.then-not-adjoins_at.branch [
      | then-not-adjoins_at-via-then-not-adjoins_at w ↦ sym (adjoin_no v.at buf rest c.args.to (sym c.adjoins_at.ensures ∙ w.if-not-adjoins_at.true))
      | then-not-adjoins_at-via-else-not-adjoins_at+then-to-at w ↦ sym (adjoin_long v.at buf rest c.args.to (omega (arith, w.if-to-at.true)))
    ])
