-- The contracts determine the arena and the output: no second one satisfies them. Assumes nothing.
use mathlib.Core.Path.{◌≡◌}
use mathlib.Core.List.{List}
use Prim.Native.Nat.{ℕ}
use Rattle.tables.proofs.Tables.{no_second}
use Rattle.arena.specs.Rules.{kept, handed}

pub keep_unique : (a : List ℕ) (o : ℕ) (bs p q : List ℕ) → p ≡ kept a o bs → q ≡ kept a o bs → p ≡ q
keep_unique a o bs = no_second

pub hand_unique : (a : List ℕ) (o : ℕ) (out p q : List ℕ) → p ≡ handed a o out → q ≡ handed a o out → p ≡ q
hand_unique a o out = no_second
