-- What the questions ask of a list of ranges, in std's words. Assumes nothing.
use Rattle.std.specs.Prelude.{Some}
use Rattle.std.specs.List.{list_any, slice_get}
use Rattle.std.proofs.lemmas.Option.{slice_get_within, get_or_from_slice_get}
use mathlib.Core.Path.{◌≡◌, refl, ap, ◌∙◌}
use mathlib.Core.List.{List, [], ◌∷◌}
use Prim.Native.Nat.{ℕ, ◌-◌, ◌<◌}
use native.Mathlib.Omega.{arith}
use lib.ListN.{length, get_or}
use Rattle.tables.proofs.Tables.{by_test}
use Rattle.ranges.specs.declared.Range.{Range}
use Rattle.ranges.specs.State.{zero_range}
use Rattle.ranges.specs.Rules.{member_of, last_of, end_before}
use Rattle.ranges.specs.Steps.{holds}

-- the number is in the set if a range holds it
pub member_is : (v : ℕ) (l : List Range) → member_of v l ≡ list_any (holds v) l
member_is v [] = refl
member_is v (r ∷ rs) = by_test (holds v r) (λ t. simp t) (λ t. simp (t, member_is v rs))

last_entry : (r : Range) (rs : List Range) → last_of (r ∷ rs) ≡ end_before (get_or (r ∷ rs) (length rs) zero_range)
last_entry r [] = refl
last_entry r (q ∷ rs) = last_entry q rs

last_at : (l : List Range) → 0 < length l → last_of l ≡ end_before (get_or l (length l - 1) zero_range)
last_at [] h = absurd (omega arith)
last_at (r ∷ rs) h =
    let k : length rs ≡ length (r ∷ rs) - 1 = omega arith in
    last_entry r rs ∙ ap (λ (i : ℕ). end_before (get_or (r ∷ rs) i zero_range)) k

-- the highest range is the last entry
pub last_is : (l : List Range) (r : Range) → slice_get l (length l - 1) ≡ Some r → last_of l ≡ end_before r
last_is l r e =
    last_at l (omega (arith, slice_get_within l (length l - 1) r e))
    ∙ ap end_before (get_or_from_slice_get l (length l - 1) r zero_range e)
