-- That a receive buffer is good has one proof at most, so a struct may keep it as a ghost field: the rules by which the check sees it.
use Rattle.std.specs.Prelude.{ℕ, List, [], ◌∷◌}
use Rattle.std.proofs.Props.{props}
use Rattle.range_buf.specs.declared.RangeBuf.{RangeBuf}
use Rattle.range_buf.specs.Rules.{end}
use Rattle.recv_buf.specs.State.{Chain, Within}

pub Chain-prop : (lo : ℕ) (cs : List RangeBuf) → IsProp (Chain lo cs)
Chain-prop lo [] = Prim.hlevel props
Chain-prop lo (c ∷ cs) = Prim.hlevel (props, Chain-prop (end c) cs)

pub Within-prop : (hi : ℕ) (cs : List RangeBuf) → IsProp (Within hi cs)
Within-prop hi [] = Prim.hlevel props
Within-prop hi (c ∷ cs) = Prim.hlevel (props, Within-prop hi cs)

pub ruleset recv_props = (props, Chain-prop, Within-prop)
