-- `RecvBuf::adjoining` meets its contract. The invariant: to go on from here gives the whole. Assumes nothing.
use mathlib.Core.Path.{◌≡◌}
use Prim.Native.Nat.{◌+◌, ◌-◌, ◌≤◌}
use lib.ListN.{drop}
use Rattle.recv_buf.specs.Rules.{adjoining}
use Rattle.recv_buf.proofs.RecvBuf.adjoining.Given as goal

abbrev pub invariant-loop-chunk : goal.invariant-loop-chunk
invariant-loop-chunk l = record {
  above : l.fn.self.off ≤ l.next;
  rest : adjoining l.chunk-items l.fn.self.off ≡ l.next - l.fn.self.off + adjoining (drop l.chunk-index l.chunk-items) l.next;
}
