-- The laws of the acked ranges: how far they reach, and that the set stays in order and within its capacity. Assumes nothing.
use Rattle.std.specs.List.{filter}
use mathlib.Core.Path.{◌≡◌, refl, ap, ap₂, ◌∙◌}
use mathlib.Core.Bool.{Bool, false}
use mathlib.Core.List.{List, [], ◌∷◌, ◌++◌}
use Prim.Native.Nat.{ℕ, ◌≤◌, zero-le}
use native.Mathlib.Omega.{arith}
use borrow.Author.Tests.{le-ltb, le-leb}
use lib.Dec.{eqb}
use lib.ListN.{length}
use Rattle.tables.proofs.Tables.{cond_elim}
use Rattle.ranges.specs.declared.Range.{Range}
use Rattle.ranges.specs.State.{Sorted, Good, set_of, upto}
use Rattle.ranges.specs.Rules.{ends_below, starts_above, joins, hull, hull2, placed, needs_room, tried}
use Rattle.ranges.proofs.Good.{good_of, ranges_of}
use Rattle.ranges.proofs.Kept.{tried_good}
use Rattle.send_buf.specs.State.{Upto}
use Rattle.send_buf.specs.Rules.{ack_off}

-- ---- how far the ranges reach

pub upto_weak : (h h' : ℕ) (l : List Range) → h ≤ h' → Upto h l → Upto h' l
upto_weak h h' [] a k = tt
upto_weak h h' (r ∷ rs) a k = (omega arith, upto_weak h h' rs a k.1)

upto_filter : (h : ℕ) (p : Range → Bool) (l : List Range) → Upto h l → Upto h (filter p l)
upto_filter h p [] k = tt
upto_filter h p (r ∷ rs) k = cond_elim (Upto h) (p r) (λ _. (k.0, upto_filter h p rs k.1)) (λ _. upto_filter h p rs k.1)

upto_append : (h : ℕ) (l m : List Range) → Upto h l → Upto h m → Upto h (l ++ m)
upto_append h [] m k j = j
upto_append h (r ∷ rs) m k j = (k.0, upto_append h rs m k.1 j)

upto_hull : (h : ℕ) (x : Range) (l : List Range) → x.end ≤ h → Upto h l → (hull x l).end ≤ h
upto_hull h x [] e k = e
upto_hull h x (r ∷ rs) e k = upto_hull h (hull2 x r) rs (omega arith) k.1

pub upto_placed : (h : ℕ) (x : Range) (l : List Range) → x.end ≤ h → Upto h l → Upto h (placed x l)
upto_placed h x l e k =
    upto_append h (filter (ends_below x) l) (hull x (filter (joins x) l) ∷ filter (starts_above x) l)
    (upto_filter h (ends_below x) l k)
    (upto_hull h x (filter (joins x) l) e (upto_filter h (joins x) l k), upto_filter h (starts_above x) l k)

-- contiguous ack reaches no further
pub ack_upto : (h : ℕ) (l : List Range) → Upto h l → ack_off l ≤ h
ack_upto h [] k = zero-le
ack_upto h (r ∷ rs) k = cond_elim (λ (n : ℕ). n ≤ h) (eqb r.start 0) (λ _. k.0) (λ _. zero-le)

-- ---- a range that enters

module _ (x : Range) (l : List Range) (ok : x.start ≤ x.end) (s : Sorted 0 l) (few : length l ≤ 64) (room : needs_room 64 x l ≡ false) where
  placed_set : (tried (set_of 64 l) x).state ≡ set_of 64 (placed x l)
  placed_set = simp (ranges_of 64 l, le-ltb _ _ ok, room)

  placed_good : Good (set_of 64 (placed x l))
  placed_good = rw placed_set at (tried_good (set_of 64 l) x (good_of 64 l (omega arith) (omega arith) few s))

  pub placed_sorted : Sorted 0 (placed x l)
  placed_sorted = rw (ranges_of 64 (placed x l)) at placed_good.order

  pub placed_few : length (placed x l) ≤ 64
  placed_few = placed_good.room

-- ---- 0..h swallows every range up to h

none_below : (h : ℕ) (l : List Range) → filter (ends_below (upto 0 h)) l ≡ []
none_below h [] = refl
none_below h (r ∷ rs) = simp (le-ltb r.end 0 zero-le) (none_below h rs)

none_above : (h lo : ℕ) (l : List Range) → Sorted lo l → Upto h l → filter (starts_above (upto 0 h)) l ≡ []
none_above h lo [] s k = refl
none_above h lo (r ∷ rs) s k = let e : r.start ≤ h = omega arith in simp (le-ltb h r.start e) (none_above h _ rs s.2 k.1)

all_join : (h lo : ℕ) (l : List Range) → Sorted lo l → Upto h l → filter (joins (upto 0 h)) l ≡ l
all_join h lo [] s k = refl
all_join h lo (r ∷ rs) s k =
    let e : r.start ≤ h = omega arith in
    simp (le-leb r.start h e, le-leb 0 r.end zero-le) (ap (λ (m : List Range). r ∷ m) (all_join h _ rs s.2 k.1))

all_in : (h : ℕ) (l : List Range) → Upto h l → hull (upto 0 h) l ≡ upto 0 h
all_in h [] k = refl
all_in h (r ∷ rs) k = ap (λ (x : Range). hull x rs) (ap₂ upto (omega arith) (omega arith)) ∙ all_in h rs k.1

pub placed_all : (h : ℕ) (l : List Range) → Sorted 0 l → Upto h l → placed (upto 0 h) l ≡ upto 0 h ∷ []
placed_all h l s k = rw (none_below h l, all_join h 0 l s k, none_above h 0 l s k, all_in h l k)
