-- `RecvBuf::copy_out` meets its contract. The invariant: what the chunks gave stands at the front, and to go on from here gives the rest. Assumes nothing.
use mathlib.Core.Path.{◌≡◌}
use mathlib.Core.List.{◌++◌}
use Prim.Native.Nat.{◌+◌, ◌-◌, ◌≤◌}
use lib.ListN.{length, drop}
use Rattle.arena.specs.Rules.{held}
use Rattle.recv_buf.specs.Rules.{taken}
use Rattle.recv_buf.proofs.RecvBuf.copy_out.Given as goal

abbrev pub invariant-loop-chunk : goal.invariant-loop-chunk
invariant-loop-chunk l = record {
  some : l.done ≤ l.count;
  room : l.done ≤ length l.out;
  placed : l.out ≡ held l.arena l.fn.self.off l.done ++ drop l.done l.initial.out;
  rest : l.count ≡ l.done + taken (drop l.chunk-index l.chunk-items) (l.fn.self.off + l.done) (length l.out - l.done);
}
