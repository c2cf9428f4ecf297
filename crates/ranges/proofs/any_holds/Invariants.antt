-- `any_holds` meets its contract. The invariant: one of the ranges holds the number exactly if one from here on does. Assumes nothing.
use Rattle.std.proofs.Common.{◌≡◌, drop}
use Rattle.std.specs.List.{list_any}
use Rattle.ranges.specs.Steps.{holds}
use Rattle.ranges.proofs.any_holds.Given as goal

abbrev pub invariant-loop-r : goal.invariant-loop-r
invariant-loop-r l = list_any (holds l.item) l.held ≡ list_any (holds l.item) (drop l.r-index l.held)
