-- The laws of a table of 64 entries of which the first n are in use, for entries of any type. Assumes nothing.
use mathlib.Core.Path.{◌≡◌, refl, sym, ap, ◌∙◌}
use mathlib.Core.Bool.{Bool, true, false, cond}
use mathlib.Core.List.{List, [], ◌∷◌, ◌++◌}
use Prim.Native.Nat.{ℕ, zero, suc, ◌+◌, ◌-◌, ◌≤◌, ◌<◌}
use native.Mathlib.Numerals.{add-one}
use native.Mathlib.Omega.{arith}
use borrow.Author.Tests.{ltb-true, ltb-false}
use lib.Dec.{ltb}
use lib.ListN.{length, take, drop, get_or, replicate, drop_of_length-le, length-append, length-replicate, length-take, length-drop}
use lib.Seq.{drop-cons, get_or-take, length-take-le, ext_get_or, take-append_seam}
use Rattle.tables.specs.Lists.{table_of, splice_at, Table}

-- ---- cases

-- by cases of a test on numbers: `cases a b (λ lt. ..) (λ le. ..)`. The numbers stand first, so that both ways know their types
pub cases {ℓ} : (a b : ℕ) {C : Type ℓ} → (a < b → C) → (b ≤ a → C) → C
cases a b {C} f g = go (ltb a b) refl
  where
    go : (t : Bool) → ltb a b ≡ t → C
    go true e = f (ltb-true a b e)
    go false e = g (ltb-false a b e)

-- by cases of a test
pub by_test {ℓ} : (t : Bool) {C : Type ℓ} → (t ≡ true → C) → (t ≡ false → C) → C
by_test true f g = f refl
by_test false f g = g refl

-- what holds of both ways of a `cond` holds of it
pub cond_elim {ℓ} : {A : Type 0} (P : A → Type ℓ) (t : Bool) {x y : A} → (t ≡ true → P x) → (t ≡ false → P y) → P (cond t x y)
cond_elim P true f g = f refl
cond_elim P false f g = g refl

-- a contract that is an equation has no second answer
pub no_second : {A : Type 0} {d : A} (p q : A) → p ≡ d → q ≡ d → p ≡ q
no_second p q e f = e ∙ sym f

module _ {A : Type 0} where
  -- ---- the table of a list

  -- behind the entries of l, zero is what `get_or` gives anyway
  get_d_padded : (l : List A) (n k : ℕ) (z : A) → get_or (l ++ replicate n z) k z ≡ get_or l k z
  get_d_padded [] zero k z = refl
  get_d_padded [] (suc n) zero z = refl
  get_d_padded [] (suc n) (suc k) z = get_d_padded [] n k z
  get_d_padded (x ∷ l) n zero z = refl
  get_d_padded (x ∷ l) n (suc k) z = get_d_padded l n k z

  -- the entries in use of the table of l are l
  pub view_of_lem : (z : A) (l : List A) → take (length l) (table_of z l) ≡ l
  view_of_lem z l = take-append_seam l (replicate (64 - length l) z)

  pub table_of_lem : (z : A) (l : List A) → length l ≤ 64 → Table z (length l) (table_of z l)
  table_of_lem z l h = record { few = h; clear = ap (table_of z) (sym (view_of_lem z l)) }

  module _ (z : A) (n : ℕ) (xs : List A) (t : Table z n xs) where
    pub slots : length xs ≡ 64
    slots =
        let e : length xs ≡ length (take n xs ++ replicate (64 - length (take n xs)) z) = ap length t.clear in
        omega (arith, t.few, simp (length-append, length-replicate, length-take) at e)

    pub view_length : length (take n xs) ≡ n
    view_length = length-take-le n xs (omega (arith, slots, t.few))

    -- ---- what is left of the entries in use at index i

    -- the entry at i, and what is left at i + 1
    pub next : (i : ℕ) → i < n → drop i (take n xs) ≡ get_or xs i z ∷ drop (i + 1) (take n xs)
    next i lt =
        let h : i < length (take n xs) = rw view_length lt in
        rw (add-one, drop-cons (take n xs) i z h, get_or-take n xs i z lt)

    -- nothing, at their end
    pub done : (i : ℕ) → n ≤ i → drop i (take n xs) ≡ []
    done i h =
        let k : length (take n xs) ≤ i = rw view_length h in
        drop_of_length-le (take n xs) k

    pub entry : (i : ℕ) → i < n → get_or (take n xs) i z ≡ get_or xs i z
    entry i h = get_or-take n xs i z h

    -- behind the entries in use, both are zero
    pub entry_any : (i : ℕ) → get_or (take n xs) i z ≡ get_or xs i z
    entry_any i = sym (ap (λ (l : List A). get_or l i z) t.clear ∙ get_d_padded (take n xs) (64 - length (take n xs)) i z)

  -- a table with the entries of l, and zero behind them, is the table of l
  pub filled_all : (xs l : List A) (z : A) → length xs ≡ 64 → length l ≤ 64
      → ((k : ℕ) → k < 64 → get_or xs k z ≡ get_or l k z) → xs ≡ table_of z l
  filled_all xs l z e le h =
      ext_get_or z xs (table_of z l) (simp (length-append, length-replicate) (omega arith))
      (λ k lt. h k (omega arith) ∙ sym (get_d_padded l (64 - length l) k z))

  -- ---- a splice: m in the place of the entries from a to before b

  module _ (xs : List A) (a b : ℕ) (m d : A) (al : a ≤ b) (bl : b ≤ length xs) where
    pub splice_length : length (splice_at a b m xs) ≡ length xs - (b - a) + 1
    splice_length = simp (length-append, length-take, length-drop) (omega arith)
