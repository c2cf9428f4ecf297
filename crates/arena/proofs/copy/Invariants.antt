-- `copy` meets its contract. The invariant: the first i bytes of `dst` are those of `src`. Assumes nothing.
use Rattle.std.proofs.Common.{◌≡◌, length, take}
use Rattle.arena.proofs.copy.Given as goal

abbrev pub invariant-loop-i : goal.invariant-loop-i
invariant-loop-i l = (length l.dst ≡ length l.src) × (take l.i l.dst ≡ take l.i l.src)
