-- `RecvBuf::keep_new` meets its contract. The invariant: to keep the other runs gives the whole. Assumes nothing.
use mathlib.Core.Path.{◌≡◌}
use Prim.Native.Nat.{◌≤◌}
use lib.ListN.{drop}
use Rattle.recv_buf.proofs.Keeping.{run_by_run}
use Rattle.recv_buf.proofs.RecvBuf.keep_new.Given as goal

abbrev pub invariant-loop-chunk : goal.invariant-loop-chunk
invariant-loop-chunk l = record {
  above : l.frame.off ≤ l.lo;
  rest : run_by_run l.frame.off l.frame.bytes.now (drop l.chunk-index l.chunk-items) l.lo l.arena ≡ run_by_run l.frame.off l.frame.bytes.now l.chunk-items l.initial.lo l.initial.arena;
}
