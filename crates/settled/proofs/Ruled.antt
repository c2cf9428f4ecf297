-- Why a case settles something (`settles`), and how a table of cases is shown at once (`by_computing`). Assumes nothing.
use mathlib.Core.Path.{◌≡◌, refl, sym, ap, ◌∙◌}
use mathlib.Core.Logic.{◌≢◌}
use mathlib.Core.Bool.{Bool, true, false, not, ◌&&◌}
use mathlib.Core.List.{List, [], ◌∷◌}
use Prim.Native.Nat.{ℕ}
use lib.Dec.{eqb}
use borrow.Author.Tests.{eq-eqb}
use Rattle.tables.proofs.Tests.{and_true, clash}
use Rattle.settled.specs.Wrong.{Case, RuledOut}

-- what meets a contract is never read off as what its definition does not say
pub settles : {R : Type 0} (read : R → List ℕ) (definition : R) (wrong : List ℕ) → read definition ≢ wrong → (r : R) → r ≡ definition → read r ≢ wrong
settles read definition wrong apart r meets same = apart (ap read (sym meets) ∙ same)

abbrev same : List ℕ → List ℕ → Bool
same [] [] = true
same [] (y ∷ ys) = false
same (x ∷ xs) [] = false
same (x ∷ xs) (y ∷ ys) = eqb x y && same xs ys

same_itself : (xs : List ℕ) → same xs xs ≡ true
same_itself [] = refl
same_itself (x ∷ xs) = simp (eq-eqb x x refl) (same_itself xs)

abbrev pub tested : List Case → Bool
tested [] = true
tested (c ∷ cs) = not (same c.says c.wrong) && tested cs

not-true : (b : Bool) → not b ≡ true → b ≡ false
not-true true e = clash (sym e)
not-true false e = refl

pub by_computing : (cs : List Case) → tested cs ≡ true → RuledOut cs
by_computing [] e = tt
by_computing (c ∷ cs) e =
    let h = and_true (not (same c.says c.wrong)) (tested cs) e in
    let apart = not-true (same c.says c.wrong) h.0 in
    ((λ q. clash (sym (same_itself c.says) ∙ ap (same c.says) q ∙ apart)), by_computing cs h.1)
