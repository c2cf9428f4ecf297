-- What an answer tells of the call behind it, and what a number that may be missing is. Assumes nothing.
use Rattle.std.specs.Prelude.{Result, Ok, Err, Option, Some, None, ⊤}
use mathlib.Core.Path.{◌≡◌, refl, sym, ap}
use mathlib.Core.Bool.{Bool, true, false}
use Prim.Native.Nat.{ℕ}
use native.Mathlib.Omega.{arith}
use Rattle.tables.proofs.Tests.{clash}
use Rattle.refusal.specs.declared.Refusal.{Refusal}
use Rattle.refusal.specs.Rules.{after, known, with_bytes}

-- ---- the answer

-- no answer is both a success and a refusal
pub not_both : (said : Result ⊤ Refusal) (why : Refusal) {C : Type 0} → said ≡ Ok tt → said ≡ Err why → C
not_both said why d e = let z : ◌≡◌ {A = ℕ} 0 1 = cc in absurd (omega arith)

-- what holds after a success, and after a refusal, holds after the call
pub after_elim {ℓ} : {A : Type 0} (P : A → Type ℓ) (said : Result ⊤ Refusal) {x y : A} → (said ≡ Ok tt → P x) → P y → P (after said x y)
after_elim P (Ok done) f g = f refl
after_elim P (Err why) f g = g

-- an answer with a count and an end mark: those of a success, and the refusal as it is
pub bytes_done : (said : Result ⊤ Refusal) (n : ℕ) (fin : Bool) (count : ℕ) (ended : Bool) → with_bytes said n fin ≡ Ok (count, ended)
    → (said ≡ Ok tt) × (n ≡ count) × (fin ≡ ended)
bytes_done (Ok done) n fin count ended e =
    let both : (n, fin) ≡ (count, ended) = cc in (refl, ap (λ (p : ℕ × Bool). p.0) both, ap (λ (p : ℕ × Bool). p.1) both)
bytes_done (Err x) n fin count ended e = let z : ◌≡◌ {A = ℕ} 0 1 = cc in absurd (omega arith)

pub bytes_refused : (said : Result ⊤ Refusal) (n : ℕ) (fin : Bool) (why : Refusal) → with_bytes said n fin ≡ Err why → said ≡ Err why
bytes_refused (Ok done) n fin why e = let z : ◌≡◌ {A = ℕ} 0 1 = cc in absurd (omega arith)
bytes_refused (Err x) n fin why e = let z : x ≡ why = cc in ap Err z

-- ---- a number that may be missing

pub known_is : (o : Option ℕ) → known o ≡ true → (x : ℕ) × (o ≡ Some x)
known_is None e = clash (sym e)
known_is (Some x) e = (x, refl)

pub known_not : (o : Option ℕ) → known o ≡ false → o ≡ None
known_not None e = refl
known_not (Some x) e = clash e
