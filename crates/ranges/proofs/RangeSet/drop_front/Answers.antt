-- `RangeSet::drop_front` meets its contract. Assumes nothing.
use Rattle.std.proofs.Common.{◌≡◌, ◌-◌, replicate, rules}
use Rattle.ranges.specs.State.{zero_range}
use Rattle.ranges.proofs.Good.{dropped_front, good_drop}
use Rattle.ranges.proofs.RangeSet.drop_front.Goals as goal

pub returns-clause-set : goal.returns-clause-set
returns-clause-set c =
    let s = c.args.self.now in
    let e : c.fill.new.self ≡ replicate (s.count - (s.count - c.args.k)) zero_range = search rules in
    rw (c.copy_within.ensures.after, e) (dropped_front s c.requires.good c.args.k c.requires.k_le_count)

pub returns-clause-good : goal.returns-clause-good
returns-clause-good c = rw (returns-clause-set c) (good_drop c.args.self.now c.args.k c.requires.good)
