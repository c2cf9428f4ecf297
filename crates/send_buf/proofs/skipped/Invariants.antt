-- `skipped` meets its contract. The invariant: the chunks before index i hold no bytes, so as many lead as lead from i on, and i more.
use Rattle.std.proofs.Common.{◌+◌, ◌-◌, ◌≤◌, ◌≡◌, length, drop}
use Rattle.send_buf.specs.Rules.{skipped}
use Rattle.send_buf.proofs.skipped.Given as goal

abbrev pub invariant-loop-i : goal.invariant-loop-i
invariant-loop-i l = (l.i ≤ length l.chunks) × (skipped l.chunks ≡ l.i + skipped (drop l.i l.chunks))

abbrev pub decreases-loop-i : goal.decreases-loop-i
decreases-loop-i l = length l.chunks - l.i
