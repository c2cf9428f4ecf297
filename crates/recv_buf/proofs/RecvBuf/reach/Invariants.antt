-- `RecvBuf::reach` meets its contract. The invariant: to go on from here gives the whole. Assumes nothing.
use mathlib.Core.Path.{◌≡◌}
use Prim.Native.Nat.{◌+◌, ◌-◌, ◌≤◌}
use lib.ListN.{drop}
use Rattle.refusal.specs.Rules.{M}
use Rattle.recv_buf.specs.Rules.{taken, left_over}
use Rattle.recv_buf.proofs.RecvBuf.reach.Given as goal

abbrev pub invariant-loop-i : goal.invariant-loop-i
invariant-loop-i l = record {
  room : l.bytes ≤ l.n;
  below : l.fn.self.off + l.bytes ≤ M;
  bytes : taken l.chunks l.fn.self.off l.n ≡ l.bytes + taken (drop l.i l.chunks) (l.fn.self.off + l.bytes) (l.n - l.bytes);
  left : left_over l.chunks l.fn.self.off l.n ≡ left_over (drop l.i l.chunks) (l.fn.self.off + l.bytes) (l.n - l.bytes);
}
