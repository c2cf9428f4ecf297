-- The worked examples of the window (RULES 10), about the definitions: each is one statement over a table of cases. Assumes nothing.
use mathlib.Core.Path.{◌≡◌, refl}
use mathlib.Core.Bool.{Bool, true, false}
use mathlib.Core.List.{[], ◌∷◌, map}
use Prim.Native.Nat.{ℕ}
use Rattle.flowcontrol.specs.Rules.{fresh, with_consumed, committed, autotuned, due}

-- the window of window 16 and maximum 24, updated at 100, after autotuning with rtt 10 at a time
abbrev pub window_at : ℕ → ℕ
window_at now = (autotuned (committed (fresh 16 16 24) 100) now 10).window

-- E11: at 119 window 24; at 120 still 16. A clock gone back counts as 0 elapsed
pub e11 : map window_at (119 ∷ 120 ∷ 100 ∷ 99 ∷ 0 ∷ []) ≡ 24 ∷ 16 ∷ 24 ∷ 24 ∷ 24 ∷ []
e11 = refl

-- is an update due, of limit 16 and window 16, with so much consumed
abbrev pub due_at : ℕ → Bool
due_at n = due (with_consumed (fresh 16 16 16) n)

-- E12: consumed 8 not due, 9 due. Consumed above the limit counts as 0 left
pub e12 : map due_at (8 ∷ 9 ∷ 16 ∷ 17 ∷ []) ≡ false ∷ true ∷ true ∷ true ∷ []
e12 = refl
