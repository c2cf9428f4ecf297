-- A range set as the list of its ranges, and what every set is that came from creation or a call.
use Rattle.std.specs.Prelude.{List, [], ◌∷◌, ℕ, suc, ◌≤◌, length, take}
use Rattle.tables.specs.Lists.{table_of, Table}
use Rattle.ranges.specs.declared.Range.{Range}
use Rattle.ranges.specs.declared.RangeSet.{RangeSet}

-- the range s..e; the entry of an unused place
abbrev pub upto : ℕ → ℕ → Range
upto s e = record { start = s; end = e }

abbrev pub zero_range : Range
zero_range = upto 0 0

-- the ranges that a set holds
abbrev pub ranges : RangeSet → List Range
ranges s = take s.count s.inner

-- the set of a capacity that holds the ranges l
abbrev pub set_of : ℕ → List Range → RangeSet
set_of cap l = record { inner = table_of zero_range l; count = length l; capacity = cap }

-- sorted, never touching, from lo on: each range starts above the end of the one before it; s..s may stand
abbrev pub Sorted : ℕ → List Range → Type 0
Sorted lo [] = Unit {0}
Sorted lo (r ∷ rs) = (lo ≤ r.start) × (r.start ≤ r.end) × Sorted (suc r.end) rs

pub record Good (s : RangeSet) : Type 0 where
  pub some : 1 ≤ s.capacity
  pub small : s.capacity ≤ 64
  pub room : s.count ≤ s.capacity
  pub table : Table zero_range s.count s.inner
  pub order : Sorted 0 (ranges s)
