-- On a sorted list the steps that the code takes (`Steps`) do what the rules say (`Rules`). Assumes nothing.
use Rattle.std.specs.List.{filter}
use mathlib.Core.Path.{◌≡◌, refl, sym, ap, ◌∙◌}
use mathlib.Core.Bool.{true, false, and-false}
use mathlib.Core.Logic.{◌⊎◌, inl, inr}
use mathlib.Core.List.{List, [], ◌∷◌}
use Prim.Native.Nat.{ℕ, suc, ◌+◌, ◌-◌, ◌≤◌, ◌<◌}
use native.Mathlib.Nat.{suc-add, zero-add}
use native.Mathlib.Numerals.{one-add}
use native.Mathlib.Omega.{arith}
use borrow.Author.Tests.{lt-ltb, le-ltb, le-leb, lt-leb, eq-eqb, ne_eqb}
use lib.ListN.{length, take, drop, length-drop}
use Rattle.std.specs.List.{take_while, prefix_len, fold}
use Rattle.tables.specs.Lists.{splice_at}
use Rattle.ranges.specs.declared.Range.{Range}
use Rattle.ranges.specs.declared.RangeSet.{RangeSet}
use Rattle.ranges.specs.declared.Spot.{Spot}
use Rattle.ranges.specs.State.{Sorted, Good, ranges, set_of}
use Rattle.ranges.specs.Rules.{ends_below, starts_above, joins, hull, hull2, placed, needs_room}
use Rattle.ranges.specs.Steps.{low_count, starts_within, spot_of}
use Rattle.std.proofs.lemmas.List.Sums.{prefix_len-le-length}
use Rattle.std.proofs.lemmas.List.Folds.{length-prefix_len}
use Rattle.tables.proofs.Tables.{cases}
use Rattle.ranges.proofs.Good.{ranges_length}

-- the hull is a fold
hull_is : (x : Range) (l : List Range) → hull x l ≡ fold hull2 x l
hull_is x [] = refl
hull_is x (r ∷ rs) = hull_is (hull2 x r) rs

-- the spot from its three parts, as the code finds them
pub spot_is : (x : Range) (l : List Range) (low met : ℕ) (whole : Range) → low ≡ low_count x l → met ≡ prefix_len (starts_within x) (drop low l)
    → whole ≡ fold hull2 x (take (low + met - low) (drop low l)) → ◌≡◌ {A = Spot} (record { low = low; high = low + met; whole = whole }) (spot_of x l)
spot_is x l low met whole a b c =
    let n : low + met - low ≡ met = omega arith in
    let w : whole ≡ hull x (take met (drop low l)) = c ∙ sym (hull_is x (take (low + met - low) (drop low l))) ∙ ap (λ (k : ℕ). hull x (take k (drop low l))) n in
    rw (w, b, a)

module _ (x : Range) where
  none_below : (lo : ℕ) (l : List Range) → Sorted lo l → x.start ≤ lo → filter (ends_below x) l ≡ []
  none_below lo [] s h = refl
  none_below lo (r ∷ rs) s h =
      let t : x.start ≤ r.end = omega arith in
      simp (le-ltb _ _ t) (none_below (suc r.end) rs s.2 (omega arith))

  none_join : (lo : ℕ) (l : List Range) → Sorted lo l → x.end < lo → filter (joins x) l ≡ []
  none_join lo [] s h = refl
  none_join lo (r ∷ rs) s h =
      let t : x.end < r.start = omega arith in
      simp (lt-leb _ _ t) (none_join (suc r.end) rs s.2 (omega arith))

  all_above : (lo : ℕ) (l : List Range) → Sorted lo l → x.end < lo → filter (starts_above x) l ≡ l
  all_above lo [] s h = refl
  all_above lo (r ∷ rs) s h =
      let t : x.end < r.start = omega arith in
      simp (lt-ltb _ _ t) (ap (λ (l : List Range). r ∷ l) (all_above (suc r.end) rs s.2 (omega arith)))

  -- where none ends below x: those that join are the first, those above the others
  join_head : (lo : ℕ) (r : Range) (rs : List Range) → Sorted lo (r ∷ rs) → x.start ≤ r.end → filter (joins x) rs ≡ take_while (starts_within x) rs
      → filter (joins x) (r ∷ rs) ≡ take_while (starts_within x) (r ∷ rs)
  join_head lo r rs s u ih =
      cases x.end r.start
      (λ t. simp (lt-leb _ _ t) (none_join (suc r.end) rs s.2 (omega arith)))
      (λ t. simp (le-leb _ _ t, le-leb _ _ u, one-add) (ap (λ (l : List Range). r ∷ l) ih))

  join_front : (lo : ℕ) (l : List Range) → Sorted lo l → x.start ≤ lo → filter (joins x) l ≡ take_while (starts_within x) l
  join_front lo [] s h = refl
  join_front lo (r ∷ rs) s h = join_head lo r rs s (omega arith) (join_front (suc r.end) rs s.2 (omega arith))

  above_front : (lo : ℕ) (l : List Range) → Sorted lo l → filter (starts_above x) l ≡ drop (prefix_len (starts_within x) l) l
  above_front lo [] s = refl
  above_front lo (r ∷ rs) s =
      cases x.end r.start
      (λ t. simp (lt-ltb _ _ t, lt-leb _ _ t) (ap (λ (l : List Range). r ∷ l) (all_above (suc r.end) rs s.2 (omega arith))))
      (λ t. simp (le-ltb _ _ t, le-leb _ _ t, one-add) (above_front (suc r.end) rs s.2))

  -- the three parts of a sorted list
  low_take : (lo : ℕ) (l : List Range) → Sorted lo l → filter (ends_below x) l ≡ take (low_count x l) l
  low_take lo [] s = refl
  low_take lo (r ∷ rs) s =
      cases r.end x.start
      (λ t. simp (lt-ltb _ _ t, one-add) (ap (λ (l : List Range). r ∷ l) (low_take (suc r.end) rs s.2)))
      (λ t. simp (le-ltb _ _ t) (none_below (suc r.end) rs s.2 (omega arith)))

  module _ (xs : x.start ≤ x.end) where
    pub joined_spot : (lo : ℕ) (l : List Range) → Sorted lo l → filter (joins x) l ≡ take_while (starts_within x) (drop (low_count x l) l)
    joined_spot lo [] s = refl
    joined_spot lo (r ∷ rs) s =
        cases r.end x.start
        (λ t. let u : r.start ≤ x.end = omega arith in simp (lt-ltb _ _ t, le-leb _ _ u, lt-leb _ _ t, one-add) (joined_spot (suc r.end) rs s.2))
        (λ t. simp (le-ltb _ _ t) (join_head lo r rs s t (join_front (suc r.end) rs s.2 (omega arith))))

    above_spot : (lo : ℕ) (l : List Range) → Sorted lo l
        → filter (starts_above x) l ≡ drop (low_count x l + prefix_len (starts_within x) (drop (low_count x l) l)) l
    above_spot lo [] s = refl
    above_spot lo (r ∷ rs) s =
        cases r.end x.start
        (λ t. let u : r.start ≤ x.end = omega arith in simp (lt-ltb _ _ t, le-ltb _ _ u, one-add, suc-add) (above_spot (suc r.end) rs s.2))
        (λ t. simp (le-ltb _ _ t, zero-add) (above_front lo (r ∷ rs) s))

    pub placed_spot : (lo : ℕ) (l : List Range) → Sorted lo l → placed x l ≡ splice_at (spot_of x l).low (spot_of x l).high (spot_of x l).whole l
    placed_spot lo l s = rw (low_take lo l s, joined_spot lo l s, above_spot lo l s)

    -- the spot lies in the list
    pub spot_fits : (l : List Range) → ((spot_of x l).low ≤ (spot_of x l).high) × ((spot_of x l).high ≤ length l)
    spot_fits l =
        let a = prefix_len-le-length (ends_below x) l in
        let b = prefix_len-le-length (starts_within x) (drop (low_count x l) l) in
        (omega arith, omega (arith, a, simp length-drop at b))

    -- what the rule comes to, by what the spot shows
    module _ (cap : ℕ) (l : List Range) (s : Sorted 0 l) where
      count_joined : (spot_of x l).high - (spot_of x l).low ≡ length (filter (joins x) l)
      count_joined = omega (arith, ap length (joined_spot 0 l s), length-prefix_len (starts_within x) (drop (low_count x l) l))

      -- the test of the rule, by what the spot shows
      pub full_there : (spot_of x l).low ≡ (spot_of x l).high → cap ≤ length l → needs_room cap x l ≡ true
      full_there e h =
          let z : length (filter (joins x) l) ≡ 0 = omega (arith, count_joined) in
          simp (eq-eqb _ _ z, le-leb _ _ h)

      pub room_there : length l < cap → needs_room cap x l ≡ false
      room_there h = simp (lt-leb _ _ h, and-false)

      pub joins_there : ((spot_of x l).low ≡ (spot_of x l).high → ⊥) → needs_room cap x l ≡ false
      joins_there e =
          let z : length (filter (joins x) l) ≡ 0 → ⊥ = λ q. e (omega (arith, q, count_joined, spot_fits l)) in
          simp (ne_eqb _ 0 z)

-- the same of sets: s with x at its spot t
module _ (s : RangeSet) (g : Good s) (x : Range) (xs : x.start ≤ x.end) (t : Spot) (e : t ≡ spot_of x (ranges s)) where
  pub at_spot : (r : RangeSet) → r ≡ set_of s.capacity (splice_at t.low t.high t.whole (ranges s)) → r ≡ set_of s.capacity (placed x (ranges s))
  at_spot r f = f ∙ rw e (ap (set_of s.capacity) (sym (placed_spot x xs 0 (ranges s) g.order)))

  pub spot_room : (t.low ≤ t.high) × (t.high ≤ s.count)
  spot_room = let h = spot_fits x xs (ranges s) in rw e (h.0, rw (ranges_length s g) at h.1)

  -- the code's two tests are the rule's one
  pub is_full : t.low ≡ t.high → s.capacity ≤ s.count → needs_room s.capacity x (ranges s) ≡ true
  is_full q h = full_there x xs s.capacity (ranges s) g.order (ap (λ (t : Spot). t.low) (sym e) ∙ q ∙ ap (λ (t : Spot). t.high) e) (rw (ranges_length s g) h)

  pub has_room : (s.count < s.capacity) ⊎ (t.low ≡ t.high → ⊥) → needs_room s.capacity x (ranges s) ≡ false
  has_room (inl h) = room_there x xs s.capacity (ranges s) g.order (rw (ranges_length s g) h)
  has_room (inr h) =
      joins_there x xs s.capacity (ranges s) g.order (λ q. h (ap (λ (t : Spot). t.low) e ∙ q ∙ sym (ap (λ (t : Spot). t.high) e)))

  -- and where it fails, the table has a place for what the splice leaves
  pub splice_fits : (s.count < s.capacity) ⊎ (t.low ≡ t.high → ⊥) → (t.low ≤ t.high) × (t.high ≤ s.count) × (s.count + 1 ≤ 64 + (t.high - t.low))
  splice_fits (inl h) = (spot_room.0, spot_room.1, omega (arith, g.small))
  splice_fits (inr h) =
      cases t.low t.high
      (λ lt. (spot_room.0, spot_room.1, omega (arith, g.small, g.room)))
      (λ le. absurd (h (omega (arith, spot_room))))
