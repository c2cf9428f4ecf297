-- Tests and what they say: a `Test t P Q` is that t holds exactly if P, and fails exactly if Q. Those of numbers, flags and codes, and those made of
-- others by `not`, `&&` and `||`. Assumes nothing.
use Rattle.std.specs.Prelude.{Option, None, Some}
use mathlib.Core.Path.{◌≡◌, refl, sym, ap, ◌∙◌}
use mathlib.Core.Logic.Iff
use mathlib.Core.Logic.{◌↔◌, ◌≢◌, inl, inr}
use mathlib.Core.Bool.{Bool, true, false, not, ◌&&◌, ◌||◌}
use Prim.Native.Nat.{ℕ, ◌≤◌, ◌<◌}
use lib.Dec.{ltb, leb, eqb}
use borrow.Author.Tests.{ltb-true, ltb-false, leb-true, leb-false, eqb-true, eqb-false, lt-ltb, le-ltb, le-leb, lt-leb, eq-eqb, ne_eqb, not-true, not-false}
use Rattle.tables.proofs.Tests.{either, clash, and_true, and-false, or-true, or_false}
use Rattle.refusal.specs.Rules.{known}
use Rattle.refusal.proofs.Answers.{known_is, known_not}
use Rattle.settled.specs.Conditions.{◌and◌, ◌or◌}

pub record Test (t : Bool) (P Q : Type 0) : Type 0 where
  pub yes : (t ≡ true) ↔ P
  pub no : (t ≡ false) ↔ Q

pub less : (a b : ℕ) → Test (ltb a b) (a < b) (b ≤ a)
less a b = record { yes = (ltb-true a b, lt-ltb a b); no = (ltb-false a b, le-ltb a b) }

pub most : (a b : ℕ) → Test (leb a b) (a ≤ b) (b < a)
most a b = record { yes = (leb-true a b, le-leb a b); no = (leb-false a b, lt-leb a b) }

pub same : (a b : ℕ) → Test (eqb a b) (a ≡ b) (a ≢ b)
same a b = record { yes = (eqb-true a b, eq-eqb a b); no = (eqb-false a b, ne_eqb a b) }

-- a flag; nothing; everything
pub flag : (t : Bool) → Test t (t ≡ true) (t ≡ false)
flag t = record { yes = (λ e. e, λ e. e); no = (λ e. e, λ e. e) }

pub never : Test false ⊥ (Unit {0})
never = record { yes = (λ e. clash (sym e), λ h. absurd h); no = (λ e. tt, λ h. refl) }

pub always : Test true (Unit {0}) ⊥
always = record { yes = (λ e. tt, λ h. refl); no = (λ e. clash e, λ h. absurd h) }

module _ {t : Bool} {P Q : Type 0} (x : Test t P Q) where
  pub negated : Test (not t) Q P
  negated = record {
    yes = (λ e. x.no.0 (not-true t e), λ h. ap not (x.no.1 h));
    no = (λ e. x.yes.0 (not-false t e), λ h. ap not (x.yes.1 h));
  }

  module _ {u : Bool} {R S : Type 0} (y : Test u R S) where
    pub both : Test (t && u) (P and R) (Q or S)
    both = record {
      yes = (λ e. let p = and_true t u e in (x.yes.0 p.0, y.yes.0 p.1), λ h. rw (x.yes.1 h.0, y.yes.1 h.1));
      no = (λ e. either (and-false t u e) (λ p. inl (x.no.0 p)) (λ p. inr (y.no.0 p)), back);
    }
      where
        last : (b : Bool) → (b && false) ≡ false
        last true = refl
        last false = refl

        back : Q or S → (t && u) ≡ false
        back (inl h) = rw (x.no.1 h)
        back (inr h) = rw (y.no.1 h) (last t)

    pub any : Test (t || u) (P or R) (Q and S)
    any = record {
      yes = (λ e. either (or-true t u e) (λ p. inl (x.yes.0 p)) (λ p. inr (y.yes.0 p)), back);
      no = (λ e. let p = or_false t u e in (x.no.0 p.0, y.no.0 p.1), λ h. rw (x.no.1 h.0, y.no.1 h.1));
    }
      where
        last : (b : Bool) → (b || true) ≡ true
        last true = refl
        last false = refl

        back : P or R → (t || u) ≡ true
        back (inl h) = rw (x.yes.1 h)
        back (inr h) = rw (y.yes.1 h) (last t)

  -- the same test in other words; and by one word
  pub told_as : {P' Q' : Type 0} → P ↔ P' → Q ↔ Q' → Test t P' Q'
  told_as e f = record { yes = Iff.trans x.yes e; no = Iff.trans x.no f }

  pub named : {P' : Type 0} → P ↔ P' → Test t P' (¬ P')
  named {P'} e = record {
    yes = Iff.trans x.yes e;
    no = (λ f h. clash (sym (x.yes.1 (e.1 h)) ∙ f), λ h. off h t refl);
  }
    where
      off : ¬ P' → (b : Bool) → t ≡ b → b ≡ false
      off h true q = absurd (h (e.0 (x.yes.0 q)))
      off h false q = refl

-- a number is known, or it is not
pub is_known : (f : Option ℕ) → Test (known f) ((n : ℕ) × (f ≡ Some n)) (f ≡ None)
is_known f = record { yes = (known_is f, λ h. ap known h.1); no = (known_not f, λ h. ap known h) }
