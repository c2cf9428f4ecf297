-- The worked examples of the range set (RULES 10), about the definitions: each is one statement over a table of cases. Assumes nothing.
use mathlib.Core.Path.{◌≡◌, refl}
use mathlib.Core.List.{List, [], ◌∷◌, map}
use Prim.Native.Nat.{ℕ}
use Rattle.ranges.specs.declared.Range.{Range}
use Rattle.ranges.specs.State.{upto}
use Rattle.ranges.specs.Rules.{insert_into, remove_from}

-- a set of capacity 2 that holds 10..12 and 20..22, with one range more
abbrev pub with : Range → List Range
with x = insert_into 2 x (upto 10 12 ∷ upto 20 22 ∷ [])

-- E7: insert 12..20 gives 10..22; insert 0..1 instead gives 0..1, 20..22. Empty ranges join what they touch, and enter where they touch nothing
pub e7 : map with (upto 12 20 ∷ upto 0 1 ∷ upto 12 12 ∷ upto 13 13 ∷ [])
    ≡ (upto 10 22 ∷ []) ∷ (upto 0 1 ∷ upto 20 22 ∷ []) ∷ (upto 10 12 ∷ upto 20 22 ∷ []) ∷ (upto 13 13 ∷ upto 20 22 ∷ []) ∷ []
e7 = refl

-- what is left of 2..2, 4..9, 11..11 without the numbers up to v
abbrev pub without : ℕ → List Range
without v = remove_from v (upto 2 2 ∷ upto 4 9 ∷ upto 11 11 ∷ [])

-- an empty range at or below v goes, one above stays; a range is cut; one that would be left empty goes
pub removals : map without (1 ∷ 2 ∷ 5 ∷ 8 ∷ 11 ∷ [])
    ≡ (upto 2 2 ∷ upto 4 9 ∷ upto 11 11 ∷ []) ∷ (upto 4 9 ∷ upto 11 11 ∷ []) ∷ (upto 6 9 ∷ upto 11 11 ∷ []) ∷ (upto 11 11 ∷ []) ∷ [] ∷ []
removals = refl
