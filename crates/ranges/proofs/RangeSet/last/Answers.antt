-- `RangeSet::last` meets its contract. Assumes nothing.
use Rattle.std.specs.Prelude.{Some}
use Rattle.std.specs.List.{slice_get}
use Rattle.std.proofs.Common.{◌≡◌, ◌-◌, length, arith, rules}
use Rattle.std.proofs.lemmas.Bool.Decides.{nat_tests}
use Rattle.ranges.specs.State.{ranges}
use Rattle.ranges.proofs.Asked.{last_is}
use Rattle.ranges.proofs.RangeSet.last.Goals as goal

pub returns : goal.returns
returns c =
    let r = c.in_ok-highest.highest.now in
    let e : slice_get (ranges c.args.self) (length (ranges c.args.self) - 1) ≡ Some r = search rules in
    let f = last_is (ranges c.args.self) r e in
    grind (arith, nat_tests)
