-- The law of a chain of refusals (Exact) for every kind of answer, whatever its successes tell: an answer `Keeps` to the lines of a chain if what is
-- left of it without that is the chain's. Assumes nothing.
use Rattle.std.specs.Prelude.{Result, Ok, Err, ⊤}
use mathlib.Core.Path.{◌≡◌, refl, sym, ap, ◌∙◌}
use mathlib.Core.Logic.{◌↔◌}
use mathlib.Core.Bool.{Bool, true, false, cond}
use mathlib.Core.List.{List}
use Rattle.refusal.specs.Rules.{number_of, with_values}
use Rattle.refusal.specs.declared.Refusal.{Refusal}
use Rattle.refusal.specs.declared.Outcome.{Outcome}
use Rattle.settled.specs.Conditions.{OneOf}
use Rattle.settled.proofs.Exact.{refused_inj, not_done, Line, said, numbers, When, fit, only, exactly}

-- the plain answer in an answer: what a success tells is left out
abbrev pub plain_of : {T : Type 0} → Result T Refusal → Result ⊤ Refusal
plain_of (Ok x) = Ok tt
plain_of (Err why) = Err why

-- a plain answer is its own, and that in an answer made of it
pub plain_same : (a : Result ⊤ Refusal) → plain_of a ≡ a
plain_same (Ok done) = refl
plain_same (Err why) = refl

pub plain_with : {T : Type 0} (a : Result ⊤ Refusal) (x : T) → plain_of (with_values a x) ≡ a
plain_with (Ok done) x = refl
plain_with (Err why) x = refl

-- that in the one or the other of two outcomes
pub of_either : {T S : Type 0} (t : Bool) (x y : Outcome T S) → plain_of (cond t x y).answer ≡ cond t (plain_of x.answer) (plain_of y.answer)
of_either true x y = refl
of_either false x y = refl

-- an answer refuses what the plain answer in it does
refused_back : {T : Type 0} (a : Result T Refusal) (x : Refusal) → plain_of a ≡ Err x → a ≡ Err x
refused_back (Ok y) x e = not_done e
refused_back (Err why) x e = ap Err (refused_inj e)

-- a call's answer keeps to the lines of a chain: it gives each refusal exactly when they say, and no other
pub record Keeps {T : Type 0} (a : Result T Refusal) (ls : List Line) : Type 0 where
  pub exact : (x : Refusal) → (a ≡ Err x) ↔ When x ls
  pub others : (x : Refusal) → a ≡ Err x → OneOf (number_of x) (numbers ls)

pub keeps : {T : Type 0} (a : Result T Refusal) (ls : List Line) → plain_of a ≡ said ls → fit ls ≡ true → Keeps a ls
keeps a ls e f = record {
  exact = λ x. (λ h. (exactly ls x f).0 (sym e ∙ ap plain_of h), λ h. refused_back a x (e ∙ (exactly ls x f).1 h));
  others = λ x h. only ls x (sym e ∙ ap plain_of h);
}
