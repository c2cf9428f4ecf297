-- A chain of refusals, one test to a line: what was not refused passed every test. Assumes nothing.
use Rattle.std.specs.Prelude.{Result, Ok, Err, ⊤}
use mathlib.Core.Path.{◌≡◌, refl}
use mathlib.Core.Bool.{Bool, true, false, cond}
use Prim.Native.Nat.{ℕ}
use native.Mathlib.Omega.{arith}
use Rattle.refusal.specs.declared.Refusal.{Refusal}

pub passes : (t : Bool) (why : Refusal) (rest : Result ⊤ Refusal) → cond t (Err why) rest ≡ Ok tt → (t ≡ false) × (rest ≡ Ok tt)
passes true why rest e = let z : ◌≡◌ {A = ℕ} 0 1 = cc in absurd (omega arith)
passes false why rest e = (refl, e)
