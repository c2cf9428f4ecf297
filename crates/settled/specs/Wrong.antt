-- A contract is an equation: what a call gives is a definition of its arguments. A case puts numbers into that definition and reads off what it
-- says as a list of numbers (an answer's number and values, what it leaves in the state); beside it stands what a wrong program would give.
use Rattle.std.specs.Prelude.{Bool, cond, List, [], ◌∷◌, ◌≢◌, ℕ, Option}
use Rattle.refusal.specs.Rules.{Told, list_of}
use Rattle.range_buf.specs.declared.RangeBuf.{RangeBuf}
use Rattle.ranges.specs.declared.Range.{Range}

pub record Case : Type 0 where
  pub says : List ℕ
  pub wrong : List ℕ

infix 4 ◌never◌
abbrev pub ◌never◌ : List ℕ → List ℕ → Case
says never wrong = record { says = says; wrong = wrong }

-- in none of the cases does the definition say what is wrong there
abbrev pub RuledOut : List Case → Type 0
RuledOut [] = Unit {0}
RuledOut (c ∷ cs) = (c.says ≢ c.wrong) × RuledOut cs

-- ---- how things are read off as numbers

-- yes is 1, no is 0
abbrev pub bit : Bool → List ℕ
bit b = cond b 1 0 ∷ []

-- an answer: its number, 0 for a success, and its values
abbrev pub numbers : Told → List ℕ
numbers t = t.number ∷ t.values

-- a number that may be missing: nothing, or it
abbrev pub maybe : Option ℕ → List ℕ
maybe x = list_of x

-- chunks (offset, length, consumed part) and ranges (start, end), one after the other
abbrev pub chunk_list : List RangeBuf → List ℕ
chunk_list [] = []
chunk_list (c ∷ cs) = c.off ∷ c.len ∷ c.pos ∷ chunk_list cs

abbrev pub range_list : List Range → List ℕ
range_list [] = []
range_list (r ∷ rs) = r.start ∷ r.end ∷ range_list rs
