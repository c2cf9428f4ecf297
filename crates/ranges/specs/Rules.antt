-- What the calls of a range set do, on the list of its ranges (RULES 5; refusals 1, 6 and 10).
-- `cond t x y` is x if the test t holds, else y; `filter p l` the entries of l that pass p; `hull x l` spans x and all of l.
use Rattle.std.specs.Prelude.{Bool, true, false, cond, ◌&&◌, List, [], ◌∷◌, ◌++◌, ℕ, ◌+◌, ◌-◌, min, max, length, drop, get_or, leb, ltb, eqb, Ok, Err, Option, Some, None, ⊤}
use Rattle.std.specs.List.{filter}
use Rattle.refusal.specs.declared.Refusal.TheVariants.{Offset, TableFull, BadSetup}
use Rattle.ranges.specs.declared.Range.{Range}
use Rattle.ranges.specs.declared.RangeSet.{RangeSet}
use Rattle.ranges.specs.State.{ranges, set_of, zero_range, upto}
use Rattle.refusal.specs.declared.Outcome.{Outcome}

-- ---- creation

-- a capacity of 1 to 64, else BadSetup; the set that comes back then is empty and has capacity 1
abbrev pub created : ℕ → Outcome ⊤ RangeSet
created cap =
    cond (leb 1 cap && leb cap 64) (record { answer = Ok tt; state = set_of cap [] })
    (record { answer = Err BadSetup; state = set_of 1 [] })

-- ---- questions

-- is the number in a range of the set
abbrev pub member_of : ℕ → List Range → Bool
member_of v [] = false
member_of v (r ∷ rs) = cond (leb r.start v && ltb v r.end) true (member_of v rs)

-- the range at index i
abbrev pub range_at : ℕ → List Range → Option Range
range_at i l = cond (ltb i (length l)) (Some (get_or l i zero_range)) None

-- the number before a range's end; none before 0
abbrev pub end_before : Range → Option ℕ
end_before r = cond (eqb r.end 0) None (Some (r.end - 1))

-- the number before the end of the highest range
abbrev pub last_of : List Range → Option ℕ
last_of [] = None
last_of (r ∷ []) = end_before r
last_of (r ∷ (q ∷ rs)) = last_of (q ∷ rs)

-- the set is the single range x
abbrev pub is_single : Range → List Range → Bool
is_single x [] = false
is_single x (r ∷ []) = eqb r.start x.start && eqb r.end x.end
is_single x (r ∷ (q ∷ rs)) = false

-- ---- inserting

-- r ends below x; r starts above x; a new range x joins r: start ≤ new end and end ≥ new start
abbrev pub ends_below : Range → Range → Bool
ends_below x r = ltb r.end x.start

abbrev pub starts_above : Range → Range → Bool
starts_above x r = ltb x.end r.start

abbrev pub joins : Range → Range → Bool
joins x r = leb r.start x.end && leb x.start r.end

-- the smallest range that holds both; that holds x and all of a list
abbrev pub hull2 : Range → Range → Range
hull2 x r = record { start = min x.start r.start; end = max x.end r.end }

abbrev pub hull : Range → List Range → Range
hull x [] = x
hull x (r ∷ rs) = hull (hull2 x r) rs

-- the ranges below x, x joined with all that it joins, the ranges above x
abbrev pub placed : Range → List Range → List Range
placed x l = filter (ends_below x) l ++ hull x (filter (joins x) l) ∷ filter (starts_above x) l

-- nothing joins, and the set is full
abbrev pub needs_room : ℕ → Range → List Range → Bool
needs_room cap x l = eqb (length (filter (joins x) l)) 0 && leb cap (length l)

-- then the lowest range goes before the new one enters, even if the new one is lower
abbrev pub insert_into : ℕ → Range → List Range → List Range
insert_into cap x l = cond (needs_room cap x l) (placed x (drop 1 l)) (placed x l)

-- an answer beside the set as it was; a success with the ranges l
abbrev pub refused : RangeSet → Outcome ⊤ RangeSet
refused s = record { answer = Err Offset; state = s }

abbrev pub done : RangeSet → List Range → Outcome ⊤ RangeSet
done s l = record { answer = Ok tt; state = set_of s.capacity l }

-- `insert`: Offset exactly if the start is above the end
abbrev pub inserted : RangeSet → Range → Outcome ⊤ RangeSet
inserted s x = cond (ltb x.end x.start) (refused s) (done s (insert_into s.capacity x (ranges s)))

-- `try_insert`, for a send buffer: TableFull in place of losing a range
abbrev pub tried : RangeSet → Range → Outcome ⊤ RangeSet
tried s x =
    cond (ltb x.end x.start) (refused s)
    (cond (needs_room s.capacity x (ranges s)) (record { answer = Err TableFull; state = s })
    (done s (placed x (ranges s))))

-- `push_item`: the range v..v + 1; Offset exactly if its end is no 64-bit number
abbrev pub pushed : RangeSet → ℕ → Outcome ⊤ RangeSet
pushed s v = cond (eqb v 0xffff_ffff_ffff_ffff) (refused s) (inserted s (upto v (v + 1)))

-- ---- removing

-- what is left of a range without the numbers ≤ v: all of it where it starts above v, else v + 1 to its end, unless that is empty
abbrev pub cut : ℕ → Range → List Range
cut v r = cond (ltb v r.start) (r ∷ []) (cond (ltb (v + 1) r.end) (upto (v + 1) r.end ∷ []) [])

abbrev pub remove_from : ℕ → List Range → List Range
remove_from v [] = []
remove_from v (r ∷ rs) = cut v r ++ remove_from v rs

-- `remove_until`
abbrev pub removed : RangeSet → ℕ → RangeSet
removed s v = set_of s.capacity (remove_from v (ranges s))
