-- `hand` meets its contract. The invariant: the bytes before index `start` are those kept from off on, and the next one lies at the first
-- place. Assumes nothing.
use Rattle.std.proofs.Common.{◌≡◌, ◌%◌, ◌≤◌, ◌<◌, length, ◌+◌, ◌-◌, take}
use Rattle.arena.specs.Rules.{held}
use Rattle.arena.proofs.hand.Given as goal

abbrev pub invariant-loop-start : goal.invariant-loop-start
invariant-loop-start l =
    (l.start ≤ length l.out)
    × (l.start < length l.out → 0 ≡ (l.off + l.start) % l.all)
    × (take l.start l.out ≡ held l.arena l.off l.start)

abbrev pub decreases-loop-start : goal.decreases-loop-start
decreases-loop-start l = length l.initial.out - l.start
