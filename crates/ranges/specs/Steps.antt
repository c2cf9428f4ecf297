-- The steps that the code takes: what the contracts of the private functions cite. `proofs/Insert.antt` and `proofs/Remove.antt` show
-- that on a sorted list they come to what `Rules` says.
use Rattle.std.specs.Prelude.{Bool, ◌&&◌, List, ℕ, ◌+◌, ◌-◌, ◌≤◌, drop, leb, ltb}
use Rattle.std.specs.List.{prefix_len, take_while}
use Rattle.ranges.specs.declared.Range.{Range}
use Rattle.ranges.specs.declared.Spot.{Spot}
use Rattle.ranges.specs.declared.RangeSet.{RangeSet}
use Rattle.ranges.specs.Rules.{ends_below, hull}

-- the range holds v
abbrev pub holds : ℕ → Range → Bool
holds v r = leb r.start v && ltb v r.end

-- how many of the lowest ranges end below x
abbrev pub low_count : Range → List Range → ℕ
low_count x l = prefix_len (ends_below x) l

abbrev pub starts_within : Range → Range → Bool
starts_within x r = leb r.start x.end

-- where x goes: in the place of those behind them that start at or below its end, joined with these
abbrev pub spot_of : Range → List Range → Spot
spot_of x l =
    let low = low_count x l in
    let rest = drop low l in
    record { low = low; high = low + prefix_len (starts_within x) rest; whole = hull x (take_while (starts_within x) rest) }

-- the spot lies in the set, and the table has room for what a splice there leaves
abbrev pub fits : RangeSet → Spot → Type 0
fits s t = (t.low ≤ t.high) × (t.high ≤ s.count) × (s.count + 1 ≤ 64 + (t.high - t.low))

-- the ranges of which `remove_until` leaves nothing
abbrev pub goes : ℕ → Range → Bool
goes v r = leb r.start v && leb r.end (v + 1)

abbrev pub gone_count : ℕ → List Range → ℕ
gone_count v l = prefix_len (goes v) l
