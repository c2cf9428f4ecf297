-- `RangeSet::splice` meets its contract. Assumes nothing.
use Rattle.std.proofs.Common.{◌≡◌, ◌+◌, ◌-◌, replicate, refl, rules}
use Rattle.ranges.specs.State.{zero_range}
use Rattle.ranges.proofs.Good.{spliced_in}
use Rattle.ranges.proofs.RangeSet.splice.Goals as goal

pub returns : goal.returns
returns c =
    let s = c.args.self.now in
    let t = c.args.at in
    let m = t.low + 1 + (s.count - t.high) in
    let e : c.fill.new.self ≡ replicate (c.max-end.result - m) zero_range = search rules in
    rw (c.copy_within.ensures.after, e) (spliced_in s c.requires.good t m c.max-end.result c.requires.room refl c.max-end.ensures)
