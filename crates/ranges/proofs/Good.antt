-- What a good set's table is: the laws by which the code and its callers go. Assumes nothing.
use mathlib.Core.Path.{◌≡◌, sym}
use mathlib.Core.List.{List, [], ◌∷◌}
use Prim.Native.Nat.{ℕ, zero, suc, ◌+◌, ◌-◌, ◌≤◌, max}
use native.Mathlib.Omega.{arith}
use Rattle.std.specs.List.{copy_within}
use borrow.Rule.Slice.PartMut.{put_mid}
use lib.ListN.{length, drop, set, replicate, length-drop}
use Rattle.tables.specs.Lists.{table_of, splice_at}
use Rattle.tables.proofs.Tables as tables
use Rattle.ranges.proofs.Moved.{dropped, spliced}
use Rattle.ranges.specs.declared.Range.{Range}
use Rattle.ranges.specs.declared.RangeSet.{RangeSet}
use Rattle.ranges.specs.declared.Spot.{Spot}
use Rattle.ranges.specs.Steps.{fits}
use Rattle.ranges.specs.State.{Good, ranges, set_of, zero_range, Sorted}

-- the table of l, with its length, is the set of l
pub made : (cap n : ℕ) (inner l : List Range) → n ≡ length l → inner ≡ table_of zero_range l
    → ◌≡◌ {A = RangeSet} (record { inner = inner; count = n; capacity = cap }) (set_of cap l)
made cap n inner l e t = rw (e, t)

module _ (s : RangeSet) (g : Good s) where
  pub ranges_length : length (ranges s) ≡ s.count
  ranges_length = tables.view_length zero_range s.count s.inner g.table

  -- what the moves of `drop_front` and `splice` leave
  pub dropped_front : (k : ℕ) → k ≤ s.count
      → ◌≡◌ {A = RangeSet} (record s { inner = put_mid (s.count - k) (s.count - (s.count - k)) (copy_within s.inner k s.count 0) (replicate (s.count - (s.count - k)) zero_range); count = s.count - k })
      (set_of s.capacity (drop k (ranges s)))
  dropped_front k h =
      let l = ranges s in
      let n : s.count - k ≡ length (drop k l) = simp length-drop (omega (arith, ranges_length)) in
      made s.capacity (s.count - k) _ (drop k l) n (dropped zero_range 64 l s.inner s.count k g.table.clear (sym ranges_length) h g.table.few)

  pub spliced_in : (t : Spot) (m e : ℕ) → fits s t → m ≡ t.low + 1 + (s.count - t.high) → e ≡ max m s.count
      → ◌≡◌ {A = RangeSet} (record s { inner = put_mid m (e - m) (set (copy_within s.inner t.high s.count (t.low + 1)) t.low t.whole) (replicate (e - m) zero_range); count = m })
      (set_of s.capacity (splice_at t.low t.high t.whole (ranges s)))
  spliced_in t m e f a b =
      let l = ranges s in
      let n : m ≡ length (splice_at t.low t.high t.whole l) = omega (arith, ranges_length, tables.splice_length l t.low t.high t.whole zero_range f.0 (rw ranges_length f.1)) in
      made s.capacity m _ (splice_at t.low t.high t.whole l) n
      (spliced zero_range 64 l s.inner s.count t.low t.high m e t.whole g.table.clear (sym ranges_length) f.0 f.1 a b (omega (arith, g.table.few)))

  -- a good set is its capacity and its ranges
  pub is_set : s ≡ set_of s.capacity (ranges s)
  is_set = λ j. record { inner = g.table.clear j; count = sym ranges_length j; capacity = s.capacity }

-- the ranges of the set of l are l
pub ranges_of : (cap : ℕ) (l : List Range) → ranges (set_of cap l) ≡ l
ranges_of cap l = tables.view_of_lem zero_range l

-- the set of a sorted list that fits is good
pub good_of : (cap : ℕ) (l : List Range) → 1 ≤ cap → cap ≤ 64 → length l ≤ cap → Sorted 0 l → Good (set_of cap l)
good_of cap l a b c s =
    record { some = a; small = b; room = c; table = tables.table_of_lem zero_range l (omega arith); order = rw (ranges_of cap l) s }

pub sorted_weak : (lo lo' : ℕ) (l : List Range) → lo' ≤ lo → Sorted lo l → Sorted lo' l
sorted_weak lo lo' [] h s = tt
sorted_weak lo lo' (r ∷ rs) h s = (omega arith, s.1, s.2)

pub sorted_drop : (k lo : ℕ) (l : List Range) → Sorted lo l → Sorted lo (drop k l)
sorted_drop zero lo l s = s
sorted_drop (suc k) lo [] s = tt
sorted_drop (suc k) lo (r ∷ rs) s = sorted_weak (suc r.end) lo (drop k rs) (omega arith) (sorted_drop k (suc r.end) rs s.2)

-- a good set without its k lowest
pub good_drop : (s : RangeSet) (k : ℕ) → Good s → Good (set_of s.capacity (drop k (ranges s)))
good_drop s k g =
    good_of s.capacity (drop k (ranges s)) g.some g.small
    (simp (length-drop, ranges_length s g) (omega (arith, g.room)))
    (sorted_drop k 0 (ranges s) g.order)
