-- Every set that came from creation or a call is good: what a caller needs to make the next call. Assumes nothing.
use Rattle.std.specs.Prelude.{⊤}
use mathlib.Core.Path.{◌≡◌, sym, ◌∙◌}
use mathlib.Core.Bool.{true, false, true≢false}
use mathlib.Core.List.{List, [], ◌∷◌}
use Prim.Native.Nat.{ℕ, suc, ◌+◌, ◌-◌, ◌≤◌, ◌<◌, max, zero-le}
use native.Mathlib.Nat.{suc-add, zero-add}
use native.Mathlib.Numerals.{one-add}
use native.Mathlib.Omega.{arith}
use borrow.Author.Tests.{lt-ltb, le-ltb, le-leb, lt-leb}
use lib.Dec.{eqb}
use lib.ListN.{length, drop, length-drop}
use Rattle.std.specs.List.{take_while, prefix_len}
use Rattle.tables.specs.Lists.{splice_at}
use Rattle.ranges.specs.declared.Range.{Range}
use Rattle.ranges.specs.declared.RangeSet.{RangeSet}
use Rattle.ranges.specs.State.{Sorted, Good, ranges, set_of, upto}
use Rattle.ranges.specs.Rules.{placed, needs_room, insert_into, inserted, tried, pushed, hull, hull2, created, removed, remove_from}
use Rattle.ranges.specs.Steps.{starts_within, spot_of}
use Rattle.tables.proofs.Tables.{cases, cond_elim, splice_length}
use Rattle.ranges.proofs.Good.{good_of, sorted_weak, sorted_drop, ranges_length}
use Rattle.ranges.proofs.Insert.{placed_spot, spot_fits, full_there}
use Rattle.refusal.specs.declared.Outcome.{Outcome}

-- y is what is joined with x so far: y joined with the ranges that start at or below x's own end, and the others behind it
joined_sorted : (lo lo' : ℕ) (x y : Range) (l : List Range) → Sorted lo l → lo' ≤ lo → lo' ≤ y.start → y.start ≤ y.end → x.end ≤ y.end
    → y.end < max (suc x.end) lo → Sorted lo' (hull y (take_while (starts_within x) l) ∷ drop (prefix_len (starts_within x) l) l)
joined_sorted lo lo' x y [] s a b c d f = (b, c, tt)
joined_sorted lo lo' x y (r ∷ rs) s a b c d f =
    cases x.end r.start
    (λ t. simp (lt-leb _ _ t) (b, c, (omega arith, s.1, s.2)))
    (λ t. simp (le-leb _ _ t, one-add) (joined_sorted (suc r.end) lo' x (hull2 y r) rs s.2 (omega arith) (omega arith) (omega arith) (omega arith) (omega arith)))

module _ (x : Range) (ok : x.start ≤ x.end) where
  at_spot_sorted : (lo : ℕ) (l : List Range) → Sorted lo l → lo ≤ x.start → Sorted lo (splice_at (spot_of x l).low (spot_of x l).high (spot_of x l).whole l)
  at_spot_sorted lo [] s h = (h, ok, tt)
  at_spot_sorted lo (r ∷ rs) s h =
      cases r.end x.start
      (λ t. simp (lt-ltb _ _ t, one-add, suc-add) (s.0, s.1, at_spot_sorted (suc r.end) rs s.2 t))
      (λ t. simp (le-ltb _ _ t, zero-add) (joined_sorted lo lo x x (r ∷ rs) s (omega arith) h ok (omega arith) (omega arith)))

  -- x enters a sorted list that has room for it, or that it joins
  placed_good : (cap : ℕ) (m : List Range) → 1 ≤ cap → cap ≤ 64 → Sorted 0 m → length m + 1 ≤ cap + ((spot_of x m).high - (spot_of x m).low) → Good (set_of cap (placed x m))
  placed_good cap m a b s h =
      let f = spot_fits x ok m in
      rw (placed_spot x ok 0 m s)
      (good_of cap (splice_at (spot_of x m).low (spot_of x m).high (spot_of x m).whole m) a b
      (rw (splice_length m (spot_of x m).low (spot_of x m).high (spot_of x m).whole x f.0 f.1) (omega arith))
      (at_spot_sorted 0 m s zero-le))

  -- it enters where the rule asks for no room; or, the lowest gone, where it does
  entered_good : (s : RangeSet) → Good s → needs_room s.capacity x (ranges s) ≡ false → Good (set_of s.capacity (placed x (ranges s)))
  entered_good s g room =
      let cap = s.capacity in
      let l = ranges s in
      let n = ranges_length s g in
      let f = spot_fits x ok l in
      placed_good cap l g.some g.small g.order
      (cases (spot_of x l).low (spot_of x l).high
      (λ t. omega (arith, g.room))
      (λ t. cases (length l) cap (λ u. omega arith)
      (λ u. let z : true ≡ false = sym (full_there x ok cap l g.order (omega arith) u) ∙ room in absurd (true≢false z))))

  insert_good : (s : RangeSet) → Good s → Good (set_of s.capacity (insert_into s.capacity x (ranges s)))
  insert_good s g =
      let cap = s.capacity in
      let l = ranges s in
      cond_elim (λ (m : List Range). Good (set_of cap m)) (needs_room cap x l)
      (λ _. placed_good cap (drop 1 l) g.some g.small (sorted_drop 1 0 l g.order) (simp length-drop (omega (arith, ranges_length s g, g.room, g.some))))
      (λ e. entered_good s g e)

removed_sorted : (v lo : ℕ) (l : List Range) → Sorted lo l → Sorted lo (remove_from v l)
removed_sorted v lo [] s = tt
removed_sorted v lo (r ∷ rs) s =
    cases v r.start
    (λ t. simp (lt-ltb _ _ t) (s.0, s.1, removed_sorted v (suc r.end) rs s.2))
    (λ t. cases (v + 1) r.end
    (λ u. simp (le-ltb _ _ t, lt-ltb _ _ u) (omega arith, omega arith, removed_sorted v (suc r.end) rs s.2))
    (λ u. simp (le-ltb _ _ t, le-ltb _ _ u) (sorted_weak (suc r.end) lo (remove_from v rs) (omega arith) (removed_sorted v (suc r.end) rs s.2))))

removed_length : (v : ℕ) (l : List Range) → length (remove_from v l) ≤ length l
removed_length v [] = zero-le
removed_length v (r ∷ rs) =
    let ih = removed_length v rs in
    cases v r.start
    (λ t. simp (lt-ltb _ _ t) (omega arith))
    (λ t. cases (v + 1) r.end
    (λ u. simp (le-ltb _ _ t, lt-ltb _ _ u) (omega arith))
    (λ u. simp (le-ltb _ _ t, le-ltb _ _ u) (omega arith)))

pub created_good : (cap : ℕ) → Good (created cap).state
created_good cap =
    cases cap 1
    (λ t. simp (lt-leb _ _ t) (good_of 1 [] (omega arith) (omega arith) zero-le tt))
    (λ t. cases 64 cap
    (λ u. simp (le-leb _ _ t, lt-leb _ _ u) (good_of 1 [] (omega arith) (omega arith) zero-le tt))
    (λ u. simp (le-leb _ _ t, le-leb _ _ u) (good_of cap [] t u zero-le tt)))

pub inserted_good : (s : RangeSet) (x : Range) → Good s → Good (inserted s x).state
inserted_good s x g =
    cases x.end x.start
    (λ t. simp (lt-ltb _ _ t) g)
    (λ t. simp (le-ltb _ _ t) (insert_good x t s g))

pub tried_good : (s : RangeSet) (x : Range) → Good s → Good (tried s x).state
tried_good s x g =
    cases x.end x.start
    (λ t. simp (lt-ltb _ _ t) g)
    (λ t. simp (le-ltb _ _ t)
    (cond_elim (λ (o : Outcome ⊤ RangeSet). Good o.state) (needs_room s.capacity x (ranges s)) (λ _. g) (λ e. entered_good x t s g e)))

pub pushed_good : (s : RangeSet) (v : ℕ) → Good s → Good (pushed s v).state
pushed_good s v g =
    cond_elim (λ (o : Outcome ⊤ RangeSet). Good o.state) (eqb v 0xffff_ffff_ffff_ffff) (λ _. g) (λ _. inserted_good s (upto v (v + 1)) g)

pub removed_good : (s : RangeSet) (v : ℕ) → Good s → Good (removed s v)
removed_good s v g =
    good_of s.capacity (remove_from v (ranges s)) g.some g.small
    (omega (arith, removed_length v (ranges s), ranges_length s g, g.room))
    (removed_sorted v 0 (ranges s) g.order)
