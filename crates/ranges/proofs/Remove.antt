-- On a sorted list `remove_until` takes ranges from the front, and cuts at most one. Assumes nothing.
use mathlib.Core.Path.{◌≡◌, refl, sym, ap, ◌∙◌}
use mathlib.Core.Logic.{◌⊎◌, inl, inr}
use mathlib.Core.Bool.{false, cond}
use mathlib.Core.List.{List, [], ◌∷◌}
use Prim.Native.Nat.{ℕ, suc, ◌+◌, ◌≤◌, ◌<◌}
use native.Mathlib.Numerals.{one-add}
use native.Mathlib.Omega.{arith}
use borrow.Author.Tests.{lt-ltb, le-ltb, le-leb, lt-leb, leb-false}
use lib.Dec.{ltb}
use lib.ListN.{drop, get_or, set, length, length-drop}
use lib.Seq.{get_or-drop}
use Rattle.std.proofs.lemmas.List.Sums.{prefix_len_stops}
use Rattle.ranges.specs.declared.Range.{Range}
use Rattle.ranges.specs.declared.RangeSet.{RangeSet}
use Rattle.ranges.specs.State.{Sorted, set_of, upto, zero_range}
use Rattle.ranges.specs.Rules.{remove_from}
use Rattle.ranges.specs.Steps.{goes, gone_count}
use Rattle.tables.specs.Lists.{table_of}
use Rattle.tables.proofs.Tables.{cases}

-- what is left of the first range that does not go, with all behind it
abbrev pub rest : ℕ → List Range → List Range
rest v [] = []
rest v (r ∷ rs) = cond (ltb v r.start) (r ∷ rs) (upto (v + 1) r.end ∷ rs)

-- the first place of a table
first_of_lem : (m : List Range) → get_or (table_of zero_range m) 0 zero_range ≡ get_or m 0 zero_range
first_of_lem [] = refl
first_of_lem (r ∷ rs) = refl

module _ (v : ℕ) where
  all_stay : (lo : ℕ) (l : List Range) → Sorted lo l → v < lo → remove_from v l ≡ l
  all_stay lo [] s h = refl
  all_stay lo (r ∷ rs) s h =
      let t : v < r.start = omega arith in
      simp (lt-ltb _ _ t) (ap (λ (l : List Range). r ∷ l) (all_stay (suc r.end) rs s.2 (omega arith)))

  pub removed_front : (lo : ℕ) (l : List Range) → Sorted lo l → remove_from v l ≡ rest v (drop (gone_count v l) l)
  removed_front lo [] s = refl
  removed_front lo (r ∷ rs) s =
      cases v r.start
      (λ t. simp (lt-ltb _ _ t, lt-leb _ _ t) (ap (λ (l : List Range). r ∷ l) (all_stay (suc r.end) rs s.2 (omega arith))))
      (λ t. cases (v + 1) r.end
      (λ u. simp (le-ltb _ _ t, le-leb _ _ t, lt-ltb _ _ u, lt-leb _ _ u) (ap (λ (l : List Range). upto (v + 1) r.end ∷ l) (all_stay (suc r.end) rs s.2 (omega arith))))
      (λ u. simp (le-ltb _ _ t, le-leb _ _ t, le-ltb _ _ u, le-leb _ _ u, one-add) (removed_front (suc r.end) rs s.2)))

  -- a range that does not go and starts at or below v ends above v + 1
  pub stays : (r : Range) → goes v r ≡ false → r.start ≤ v → v + 1 < r.end
  stays r h u = leb-false _ _ (simp (le-leb _ _ u) at h)

  pub removed_at : (k : ℕ) (l : List Range) → Sorted 0 l → k ≡ gone_count v l → remove_from v l ≡ rest v (drop k l)
  removed_at k l s e = removed_front 0 l s ∙ ap (λ (n : ℕ). rest v (drop n l)) (sym e)

  -- the first of the ranges m cut in their set t, where it starts at or below v; else t as it is
  pub cut_first : (cap : ℕ) (m : List Range) (t : RangeSet) → t ≡ set_of cap m → 0 < t.count → (get_or t.inner 0 zero_range).start ≤ v
      → ◌≡◌ {A = RangeSet} (record t { inner = set t.inner 0 (upto (v + 1) (get_or t.inner 0 zero_range).end) }) (set_of cap (rest v m))
  cut_first cap m t e h a = rw e (go m (rw e at h) (rw e at a))
    where
      go : (m : List Range) → 0 < length m → (get_or (table_of zero_range m) 0 zero_range).start ≤ v
          → ◌≡◌ {A = RangeSet} (record (set_of cap m) { inner = set (table_of zero_range m) 0 (upto (v + 1) (get_or (table_of zero_range m) 0 zero_range).end) }) (set_of cap (rest v m))
      go [] h a = absurd (omega arith)
      go (r ∷ rs) h a = simp (le-ltb _ _ a)

  pub cut_none : (cap : ℕ) (m : List Range) (t : RangeSet) → t ≡ set_of cap m → ((0 < t.count) × (v < (get_or t.inner 0 zero_range).start)) ⊎ (t.count ≤ 0)
      → t ≡ set_of cap (rest v m)
  cut_none cap m t e h = e ∙ go m (rw e at h)
    where
      go : (m : List Range) → ((0 < length m) × (v < (get_or (table_of zero_range m) 0 zero_range).start)) ⊎ (length m ≤ 0) → set_of cap m ≡ set_of cap (rest v m)
      go [] h = refl
      go (r ∷ rs) (inl h) = simp (lt-ltb _ _ h.1)
      go (r ∷ rs) (inr h) = absurd (omega arith)

  -- and the cut leaves something of it
  pub cut_fits : (cap k : ℕ) (l : List Range) (t : RangeSet) → t ≡ set_of cap (drop k l) → k ≡ gone_count v l → 0 < t.count
      → (get_or t.inner 0 zero_range).start ≤ v → v + 1 < (get_or t.inner 0 zero_range).end
  cut_fits cap k l t e n h a =
      let r : get_or t.inner 0 zero_range ≡ get_or l k zero_range =
      ap (λ (t : RangeSet). get_or t.inner 0 zero_range) e ∙ first_of_lem (drop k l) ∙ get_or-drop k l 0 zero_range
      ∙ ap (λ (i : ℕ). get_or l i zero_range) (omega arith) in
      let lt : k < length l = omega (arith, ap (λ (t : RangeSet). t.count) e, length-drop k l) in
      let f : goes v (get_or l k zero_range) ≡ false = rw n (prefix_len_stops (goes v) l zero_range (rw n at lt)) in
      rw r (stays (get_or l k zero_range) f (rw r at a))
