-- What the set holds once a range x has entered: what it held, and x. Assumes nothing.
--
--   placed_new    the numbers of x
--   placed_old    the numbers that were in the set
--   placed_only   no others
use Rattle.std.specs.List.{filter}
use mathlib.Core.Path.{◌≡◌, refl}
use mathlib.Core.Logic.{◌⊎◌, inl, inr}
use mathlib.Core.Bool.{Bool, true, ◌&&◌}
use mathlib.Core.List.{List, [], ◌∷◌, ◌++◌}
use Prim.Native.Nat.{ℕ, ◌≤◌, ◌<◌}
use native.Mathlib.Omega.{arith}
use lib.Dec.{ltb, leb}
use borrow.Author.Tests.{leb-true, ltb-true, le-leb, lt-ltb}
use Rattle.tables.proofs.Tables.{cases, by_test, cond_elim}
use Rattle.tables.proofs.Tests.{either, and_true}
use Rattle.ranges.specs.declared.Range.{Range}
use Rattle.ranges.specs.Rules.{member_of, ends_below, starts_above, joins, hull2, hull, placed}

-- v lies in a range; in one of them
abbrev Within : ℕ → Range → Type 0
Within v r = (r.start ≤ v) × (v < r.end)

abbrev In : ℕ → List Range → Type 0
In v [] = ⊥
In v (r ∷ rs) = Within v r ⊎ In v rs

member_in : (v : ℕ) (l : List Range) → member_of v l ≡ true → In v l
member_in v [] e = let z : ◌≡◌ {A = ℕ} 0 1 = cc in absurd (omega arith)
member_in v (r ∷ rs) e =
    by_test (leb r.start v && ltb v r.end)
    (λ t. let p = and_true (leb r.start v) (ltb v r.end) t in inl (leb-true r.start v p.0, ltb-true v r.end p.1))
    (λ t. inr (member_in v rs (simp t at e)))

in_member : (v : ℕ) (l : List Range) → In v l → member_of v l ≡ true
in_member v [] h = absurd h
in_member v (r ∷ rs) (inl h) = simp (le-leb _ _ h.0, lt-ltb _ _ h.1)
in_member v (r ∷ rs) (inr h) = cond_elim (λ (b : Bool). b ≡ true) (leb r.start v && ltb v r.end) (λ _. refl) (λ _. in_member v rs h)

-- ranges that each meet or touch x
abbrev Meets : Range → List Range → Type 0
Meets x [] = Unit {0}
Meets x (r ∷ rs) = (r.start ≤ x.end) × (x.start ≤ r.end) × Meets x rs

joined_meets : (x : Range) (l : List Range) → Meets x (filter (joins x) l)
joined_meets x [] = tt
joined_meets x (r ∷ rs) =
    cond_elim (Meets x) (joins x r)
    (λ t. let p = and_true (leb r.start x.end) (leb x.start r.end) t in
    (leb-true r.start x.end p.0, leb-true x.start r.end p.1, joined_meets x rs))
    (λ t. joined_meets x rs)

module _ (v : ℕ) where
  in_left : (l m : List Range) → In v l → In v (l ++ m)
  in_left [] m h = absurd h
  in_left (r ∷ rs) m (inl h) = inl h
  in_left (r ∷ rs) m (inr h) = inr (in_left rs m h)

  in_right : (l m : List Range) → In v m → In v (l ++ m)
  in_right [] m h = h
  in_right (r ∷ rs) m h = inr (in_right rs m h)

  in_either : (l m : List Range) → In v (l ++ m) → In v l ⊎ In v m
  in_either [] m h = inr h
  in_either (r ∷ rs) m (inl h) = inl (inl h)
  in_either (r ∷ rs) m (inr h) = either (in_either rs m h) (λ x. inl (inr x)) (λ x. inr x)

  in_filter : (p : Range → Bool) (l : List Range) → In v (filter p l) → In v l
  in_filter p [] h = h
  in_filter p (r ∷ rs) h =
      by_test (p r)
      (λ t. let k : In v (r ∷ filter p rs) = simp t at h in either k (λ x. inl x) (λ x. inr (in_filter p rs x)))
      (λ t. let k : In v (filter p rs) = simp t at h in inr (in_filter p rs k))

  -- a joined range holds what its parts held
  hull_first : (x : Range) (l : List Range) → Within v x → Within v (hull x l)
  hull_first x [] h = h
  hull_first x (r ∷ rs) h = hull_first (hull2 x r) rs (omega arith, omega arith)

  hull_rest : (x : Range) (l : List Range) → In v l → Within v (hull x l)
  hull_rest x [] h = absurd h
  hull_rest x (r ∷ rs) (inl h) = hull_first (hull2 x r) rs (omega arith, omega arith)
  hull_rest x (r ∷ rs) (inr h) = hull_rest (hull2 x r) rs h

  -- and nothing else, where each part meets or touches x
  hull_only : (x y : Range) (l : List Range) → Meets x l → y.start ≤ x.start → x.end ≤ y.end → Within v (hull y l) → Within v y ⊎ In v l
  hull_only x y [] m a b h = inl h
  hull_only x y (r ∷ rs) m a b h =
      either (hull_only x (hull2 y r) rs m.2 (omega arith) (omega arith) h)
      (λ w. cases v y.start
      (λ t. inr (inl (omega arith, omega arith)))
      (λ t. cases v y.end (λ u. inl (t, u)) (λ u. inr (inl (omega arith, omega arith)))))
      (λ w. inr (inr w))

  filter_here : (p : Range → Bool) (r : Range) (rs : List Range) → p r ≡ true → Within v r → In v (filter p (r ∷ rs))
  filter_here p r rs t h = simp t (inl h)

  filter_more : (p : Range → Bool) (r : Range) (rs : List Range) → In v (filter p rs) → In v (filter p (r ∷ rs))
  filter_more p r rs h = cond_elim (In v) (p r) (λ _. inr h) (λ _. h)

  -- each range ends below x, starts above it, or is joined
  in_part_lem : (x : Range) (l : List Range) → In v l → In v (filter (ends_below x) l) ⊎ (In v (filter (joins x) l) ⊎ In v (filter (starts_above x) l))
  in_part_lem x [] h = absurd h
  in_part_lem x (r ∷ rs) (inl h) =
      cases r.end x.start
      (λ t. inl (filter_here (ends_below x) r rs (lt-ltb _ _ t) h))
      (λ t. cases x.end r.start
      (λ u. inr (inr (filter_here (starts_above x) r rs (lt-ltb _ _ u) h)))
      (λ u. inr (inl (filter_here (joins x) r rs (simp (le-leb _ _ u, le-leb _ _ t)) h))))
  in_part_lem x (r ∷ rs) (inr h) =
      either (in_part_lem x rs h) (λ k. inl (filter_more (ends_below x) r rs k))
      (λ k. either k (λ k. inr (inl (filter_more (joins x) r rs k))) (λ k. inr (inr (filter_more (starts_above x) r rs k))))

module _ (x : Range) (l : List Range) (v : ℕ) where
  abbrev below : List Range
  below = filter (ends_below x) l

  abbrev above : List Range
  above = filter (starts_above x) l

  abbrev whole : Range
  whole = hull x (filter (joins x) l)

  pub placed_new : x.start ≤ v → v < x.end → member_of v (placed x l) ≡ true
  placed_new a b = in_member v (placed x l) (in_right v below (whole ∷ above) (inl (hull_first v x (filter (joins x) l) (a, b))))

  pub placed_old : member_of v l ≡ true → member_of v (placed x l) ≡ true
  placed_old e =
      in_member v (placed x l)
      (either (in_part_lem v x l (member_in v l e)) (λ h. in_left v below (whole ∷ above) h)
      (λ h. in_right v below (whole ∷ above) (either h (λ k. inl (hull_rest v x (filter (joins x) l) k)) (λ k. inr k))))

  pub placed_only : member_of v (placed x l) ≡ true → ((x.start ≤ v) × (v < x.end)) ⊎ (member_of v l ≡ true)
  placed_only e =
      either (in_either v below (whole ∷ above) (member_in v (placed x l) e))
      (λ h. inr (in_member v l (in_filter v (ends_below x) l h)))
      (λ h. either h
      (λ k. either (hull_only v x x (filter (joins x) l) (joined_meets x l) (omega arith) (omega arith) k)
      (λ w. inl w)
      (λ w. inr (in_member v l (in_filter v (joins x) l w))))
      (λ k. inr (in_member v l (in_filter v (starts_above x) l k))))
