-- What tests joined by `&&` and `||` say, and the two ways of a `cond`. Assumes nothing.
use mathlib.Core.Path.{◌≡◌, refl}
use mathlib.Core.Logic.{◌⊎◌, inl, inr}
use mathlib.Core.Bool.{Bool, true, false, cond, ◌&&◌, ◌||◌, true≢false, false≢true}

-- by cases of which of two facts holds. The facts stand first, so that both ways know their types
pub either {ℓ} : {A B : Type 0} {C : Type ℓ} → A ⊎ B → (A → C) → (B → C) → C
either (inl a) f g = f a
either (inr b) f g = g b

-- a test is not both true and false
pub clash {ℓ} : {A : Type ℓ} → true ≡ false → A
clash e = absurd (true≢false e)

pub and_true : (a b : Bool) → (a && b) ≡ true → (a ≡ true) × (b ≡ true)
and_true true b e = (refl, e)
and_true false b e = absurd (false≢true e)

pub and-false : (a b : Bool) → (a && b) ≡ false → (a ≡ false) ⊎ (b ≡ false)
and-false true b e = inr e
and-false false b e = inl refl

pub or-true : (a b : Bool) → (a || b) ≡ true → (a ≡ true) ⊎ (b ≡ true)
or-true true b e = inl refl
or-true false b e = inr e

pub or_false : (a b : Bool) → (a || b) ≡ false → (a ≡ false) × (b ≡ false)
or_false true b e = absurd (true≢false e)
or_false false b e = (refl, e)

-- a test that holds decides, and one that fails leaves the rest
pub decided : {A : Type 0} {t : Bool} → t ≡ true → (x y : A) → cond t x y ≡ x
decided e x y = rw e

pub undecided : {A : Type 0} {t : Bool} → t ≡ false → (x y : A) → cond t x y ≡ y
undecided e x y = rw e
