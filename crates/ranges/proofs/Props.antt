-- That a set is good has one proof at most, so a struct may keep it as a ghost field: the rules by which the check sees it.
use Rattle.std.specs.Prelude.{ℕ, suc, List, [], ◌∷◌}
use Rattle.std.proofs.Props.{props}
use Rattle.ranges.specs.declared.Range.{Range}
use Rattle.ranges.specs.State.{Sorted}

pub Sorted-prop : (lo : ℕ) (rs : List Range) → IsProp (Sorted lo rs)
Sorted-prop lo [] = Prim.hlevel props
Sorted-prop lo (r ∷ rs) = Prim.hlevel (props, Sorted-prop (suc r.end) rs)

pub ruleset set_props = (props, Sorted-prop)
