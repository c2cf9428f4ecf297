-- What holds of every element of a list, and what of one. Assumes nothing.
use Rattle.std.specs.Prelude.{slice_get, Some}
use mathlib.Core.Path.{◌≡◌, subst}
use mathlib.Core.Logic.{inl, inr}
use mathlib.Core.List.{List, [], ◌∷◌, ◌++◌}
use Prim.Native.Nat.{ℕ, zero, suc}
use native.Mathlib.Omega.{arith}
use Rattle.recv_buf.specs.Rfc9000.{Frame}
use Rattle.channel.specs.Demand3.{OneOf}

abbrev pub All : {A : Type 0} → (A → Type 0) → List A → Type 0
All P [] = Unit {0}
All P (x ∷ xs) = P x × All P xs

pub all_map : {A : Type 0} (P Q : A → Type 0) (xs : List A) → ((x : A) → P x → Q x) → All P xs → All Q xs
all_map P Q [] f k = tt
all_map P Q (x ∷ xs) f k = (f x k.0, all_map P Q xs f k.1)

pub all_append : {A : Type 0} (P : A → Type 0) (xs ys : List A) → All P xs → All P ys → All P (xs ++ ys)
all_append P [] ys h k = k
all_append P (x ∷ xs) ys h k = (h.0, all_append P xs ys h.1 k)

pub all_left : {A : Type 0} (P : A → Type 0) (xs ys : List A) → All P (xs ++ ys) → All P xs
all_left P [] ys k = tt
all_left P (x ∷ xs) ys k = (k.0, all_left P xs ys k.1)

pub all_last : {A : Type 0} (P : A → Type 0) (xs : List A) (x : A) → All P (xs ++ x ∷ []) → P x
all_last P [] x k = k.0
all_last P (y ∷ ys) x k = all_last P ys x k.1

pub all_at : {A : Type 0} (P : A → Type 0) (xs : List A) (i : ℕ) (x : A) → slice_get xs i ≡ Some x → All P xs → P x
all_at P [] i x e k = let z : ◌≡◌ {A = ℕ} 0 1 = cc in absurd (omega arith)
all_at P (y ∷ ys) zero x e k = let p : y ≡ x = cc in subst P p k.0
all_at P (y ∷ ys) (suc i) x e k = all_at P ys i x e k.1

-- where Q holds of all, it holds of the one that has P
pub all_one {ℓ} : (P Q : Frame → Type 0) {C : Type ℓ} (fs : List Frame) → All Q fs → OneOf P fs → ((f : Frame) → P f → Q f → C) → C
all_one P Q [] k h c = absurd h
all_one P Q (f ∷ fs) k (inl h) c = c f h k.0
all_one P Q (f ∷ fs) k (inr h) c = all_one P Q fs k.1 h c
