-- `RecvBuf::list_filled` meets its contract. The invariant: to list the rest from here gives the whole. Assumes nothing.
use mathlib.Core.Path.{◌≡◌}
use Prim.Native.Nat.{◌*◌, ◌≤◌}
use lib.ListN.{drop}
use Rattle.recv_buf.specs.Rules.{filled}
use Rattle.recv_buf.specs.Steps.{listed, pushed_all}
use Rattle.recv_buf.proofs.RecvBuf.list_filled.Given as goal

abbrev pub invariant-loop-chunk : goal.invariant-loop-chunk
invariant-loop-chunk l = record {
  few : l.next.count ≤ 2 * l.chunk-index;
  rest : pushed_all l.next (filled (drop l.chunk-index l.chunk-items) l.lo l.hi) ≡ listed (filled l.chunk-items l.from l.hi);
}
