-- The contracts determine each number and code: no second one satisfies them. Assumes nothing.
use Rattle.std.specs.Prelude.{List, Result, Option, ⊤}
use mathlib.Core.Path.{◌≡◌}
use mathlib.Core.Bool.{Bool}
use Prim.Native.Nat.{ℕ, ◌+◌}
use lib.Dec.{ltb}
use Rattle.tables.proofs.Tables.{no_second}
use Rattle.refusal.specs.declared.Refusal.{Refusal}
use Rattle.refusal.specs.Rules.{M, number_of, code_of, Told, first_two, with_count, with_bytes, with_sizes, known, is_at, is_other}

pub number_unique : (r : Refusal) (p q : ℕ) → p ≡ number_of r → q ≡ number_of r → p ≡ q
number_unique r = no_second

pub code_unique : (r : Refusal) (p q : Option ℕ) → p ≡ code_of r → q ≡ code_of r → p ≡ q
code_unique r = no_second

-- of every kind of answer
pub told_unique : (t : Told) (p q : ℕ) → p ≡ t.number → q ≡ t.number → p ≡ q
told_unique t = no_second

pub first_two_unique : (values : List ℕ) (p q : ℕ × ℕ) → p ≡ first_two values → q ≡ first_two values → p ≡ q
first_two_unique values = no_second

pub with_count_unique : (a : Result ⊤ Refusal) (n : ℕ) (p q : Result ℕ Refusal) → p ≡ with_count a n → q ≡ with_count a n → p ≡ q
with_count_unique a n = no_second

pub with_bytes_unique : (a : Result ⊤ Refusal) (n : ℕ) (fin : Bool) (p q : Result (ℕ × Bool) Refusal) → p ≡ with_bytes a n fin → q ≡ with_bytes a n fin → p ≡ q
with_bytes_unique a n fin = no_second

pub with_sizes_unique : (a : Result ⊤ Refusal) (m n : ℕ) (p q : Result (ℕ × ℕ) Refusal) → p ≡ with_sizes a m n → q ≡ with_sizes a m n → p ≡ q
with_sizes_unique a m n = no_second

pub is_known_unique : (x : Option ℕ) (p q : Bool) → p ≡ known x → q ≡ known x → p ≡ q
is_known_unique x = no_second

pub is_at_unique : (x : Option ℕ) (n : ℕ) (p q : Bool) → p ≡ is_at x n → q ≡ is_at x n → p ≡ q
is_at_unique x n = no_second

pub is_other_unique : (x : Option ℕ) (n : ℕ) (p q : Bool) → p ≡ is_other x n → q ≡ is_other x n → p ≡ q
is_other_unique x n = no_second

pub above_m_unique : (a b : ℕ) (p q : Bool) → p ≡ ltb M (a + b) → q ≡ ltb M (a + b) → p ≡ q
above_m_unique a b = no_second

pub passes_unique : (top a b : ℕ) (p q : Bool) → p ≡ ltb top (a + b) → q ≡ ltb top (a + b) → p ≡ q
passes_unique top a b = no_second
