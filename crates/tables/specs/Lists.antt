-- A table of 64 entries with a count, as a list: what the contracts of every crate with a table are written in.
-- Entries may be of any type; z is the zero entry, which every unused place holds.
use Rattle.std.specs.Prelude.{◌≡◌, List, ◌∷◌, ◌++◌, ℕ, ◌-◌, ◌≤◌, length, take, drop, replicate}

module _ {A : Type 0} where
  -- the table that holds l: its entries, and zero in every place behind them
  abbrev pub table_of : A → List A → List A
  table_of z l = l ++ replicate (64 - length l) z

  -- m in the place of the entries from index a to before index b
  abbrev pub splice_at : ℕ → ℕ → A → List A → List A
  splice_at a b m l = take a l ++ m ∷ drop b l

-- the first n places of xs are in use: there are 64 places, and the unused ones are zero
pub record Table {A : Type 0} (z : A) (n : ℕ) (xs : List A) : Type 0 where
  pub few : n ≤ 64
  pub clear : xs ≡ table_of z (take n xs)
