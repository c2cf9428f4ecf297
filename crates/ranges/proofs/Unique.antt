-- The contracts determine the answer and the set: no second one satisfies them. Assumes nothing.
use Rattle.std.specs.Prelude.{Option, ⊤}
use mathlib.Core.Path.{◌≡◌, sym, ap₂, ◌∙◌}
use mathlib.Core.Bool.{Bool}
use Prim.Native.Nat.{ℕ}
use lib.ListN.{length}
use Rattle.tables.proofs.Tables.{no_second}
use Rattle.ranges.specs.declared.Range.{Range}
use Rattle.ranges.specs.declared.RangeSet.{RangeSet}
use Rattle.ranges.specs.State.{Good, ranges, set_of}
use Rattle.ranges.specs.Check.{good_by}
use Rattle.ranges.specs.Rules.{created, member_of, range_at, last_of, is_single, inserted, tried, pushed, removed}
use Rattle.ranges.proofs.Good.{is_set}
use Rattle.refusal.specs.declared.Outcome.{Outcome}

-- a good set is its capacity and its ranges
pub same : (s t : RangeSet) → Good s → Good t → s.capacity ≡ t.capacity → ranges s ≡ ranges t → s ≡ t
same s t g h c r = is_set s g ∙ ap₂ set_of c r ∙ sym (is_set t h)

pub new_unique : (cap : ℕ) (p q : Outcome ⊤ RangeSet) → p ≡ created cap → q ≡ created cap → p ≡ q
new_unique cap = no_second

pub len_unique : (s : RangeSet) (p q : ℕ) → p ≡ length (ranges s) → q ≡ length (ranges s) → p ≡ q
len_unique s = no_second

pub contains_unique : (s : RangeSet) (v : ℕ) (p q : Bool) → p ≡ member_of v (ranges s) → q ≡ member_of v (ranges s) → p ≡ q
contains_unique s v = no_second

pub get_unique : (s : RangeSet) (i : ℕ) (p q : Option Range) → p ≡ range_at i (ranges s) → q ≡ range_at i (ranges s) → p ≡ q
get_unique s i = no_second

pub last_unique : (s : RangeSet) (p q : Option ℕ) → p ≡ last_of (ranges s) → q ≡ last_of (ranges s) → p ≡ q
last_unique s = no_second

pub eq_unique : (s : RangeSet) (x : Range) (p q : Bool) → p ≡ is_single x (ranges s) → q ≡ is_single x (ranges s) → p ≡ q
eq_unique s x = no_second

pub insert_unique : (s : RangeSet) (x : Range) (p q : Outcome ⊤ RangeSet) → p ≡ inserted s x → q ≡ inserted s x → p ≡ q
insert_unique s x = no_second

pub try_insert_unique : (s : RangeSet) (x : Range) (p q : Outcome ⊤ RangeSet) → p ≡ tried s x → q ≡ tried s x → p ≡ q
try_insert_unique s x = no_second

pub push_item_unique : (s : RangeSet) (v : ℕ) (p q : Outcome ⊤ RangeSet) → p ≡ pushed s v → q ≡ pushed s v → p ≡ q
push_item_unique s v = no_second

pub remove_until_unique : (s : RangeSet) (v : ℕ) (p q : RangeSet) → p ≡ removed s v → q ≡ removed s v → p ≡ q
remove_until_unique s v = no_second

pub is_good_unique : (s : RangeSet) (p q : Bool) → p ≡ good_by s → q ≡ good_by s → p ≡ q
is_good_unique s = no_second
