-- `spot_for` meets its contract. Assumes nothing.
use Rattle.std.specs.List.{prefix_len}
use Rattle.std.proofs.Common.{◌≡◌, drop, arith}
use Rattle.std.proofs.lemmas.Grind.{common_steps}
use Rattle.ranges.specs.Steps.{starts_within}
use Rattle.ranges.proofs.Insert.{spot_is}
use Rattle.ranges.proofs.spot_for.Goals as goal

pub returns : goal.returns
returns c =
    let low = c.count_below-low in
    let met : c.count_met.result ≡ prefix_len (starts_within c.args.x) (drop low.result c.args.held.now) = grind (arith, common_steps) in
    spot_is c.args.x c.args.held.now low.result c.count_met.result c.joined-whole.result low.ensures.count met c.joined-whole.ensures
