-- The arena (RULES 1): the kept byte of stream offset o lies at place o mod A, A being the arena's length.
-- An arena is the list of its bytes.
use Rattle.std.specs.Prelude.{ℕ, zero, suc, ◌%◌, List, [], ◌∷◌, length, get_or, set}

-- the arena a, once the bytes bs are kept from offset o on
unfoldable pub kept : List ℕ → ℕ → List ℕ → List ℕ
kept a o [] = a
kept a o (b ∷ bs) = kept (set a (o % length a) b) (suc o) bs

-- the byte that a keeps for offset o, and the n bytes from offset o on
abbrev pub byte_at : List ℕ → ℕ → ℕ
byte_at a o = get_or a (o % length a) 0

unfoldable pub held : List ℕ → ℕ → ℕ → List ℕ
held a o zero = []
held a o (suc n) = byte_at a o ∷ held a (suc o) n

-- the output out, once it is filled from offset o on; an arena of no places leaves it
unfoldable pub handed : List ℕ → ℕ → List ℕ → List ℕ
handed [] o out = out
handed (b ∷ bs) o out = held (b ∷ bs) o (length out)
