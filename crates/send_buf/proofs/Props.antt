-- That a send buffer is good has one proof at most, so a struct may keep it as a ghost field: the rules by which the check sees it.
use Rattle.std.specs.Prelude.{ℕ, ◌-◌, List, [], ◌∷◌}
use Rattle.std.proofs.Props.{props}
use Rattle.range_buf.specs.declared.RangeBuf.{RangeBuf}
use Rattle.range_buf.specs.Rules.{end}
use Rattle.ranges.specs.declared.Range.{Range}
use Rattle.ranges.proofs.Props.{set_props}
use Rattle.send_buf.specs.State.{Adjoin, Spent, Used, Upto}

pub Adjoin-prop : (lo : ℕ) (cs : List RangeBuf) (hi : ℕ) → IsProp (Adjoin lo cs hi)
Adjoin-prop lo [] hi = Prim.hlevel props
Adjoin-prop lo (c ∷ cs) hi = Prim.hlevel (props, Adjoin-prop (end c) cs hi)

pub Spent-prop : (n : ℕ) (cs : List RangeBuf) → IsProp (Spent n cs)
Spent-prop n [] = Prim.hlevel props
Spent-prop n (c ∷ cs) = Prim.hlevel (props, Spent-prop (n - 1) cs)

pub Used-prop : (e : ℕ) (cs : List RangeBuf) → IsProp (Used e cs)
Used-prop e [] = Prim.hlevel props
Used-prop e (c ∷ cs) = Prim.hlevel (props, Used-prop e cs)

pub Upto-prop : (h : ℕ) (rs : List Range) → IsProp (Upto h rs)
Upto-prop h [] = Prim.hlevel props
Upto-prop h (r ∷ rs) = Prim.hlevel (props, Upto-prop h rs)

pub ruleset send_props = (set_props, Adjoin-prop, Spent-prop, Used-prop, Upto-prop)
