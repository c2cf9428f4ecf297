-- The numbered refusals (RULES 2.1), what each kind of answer says in its numbers, and the largest offset (RULES 1).
use Rattle.std.specs.Prelude.{Bool, true, false, cond, not, List, [], ◌∷◌, ℕ, ◌-◌, ◌^◌, eqb, get_or, ⊤, Option, None, Some, Result, Ok, Err}
use Rattle.refusal.specs.declared.Refusal.{Refusal}
use Rattle.refusal.specs.declared.Refusal.TheVariants.{Offset, Stopped, FinalSize, FlowControl, NoRoom, TableFull, NeverSent, Done, Reset, BadSetup}

-- the largest stream offset and creation number
abbrev pub M : ℕ
M = 2 ^ 62 - 1

-- the number of each refusal
abbrev pub number_of : Refusal → ℕ
number_of Offset = 1
number_of (Stopped code) = 2
number_of FinalSize = 3
number_of FlowControl = 4
number_of NoRoom = 5
number_of TableFull = 6
number_of NeverSent = 7
number_of Done = 8
number_of (Reset code) = 9
number_of BadSetup = 10

-- the code that a refusal carries: two of them have one
abbrev pub code_of : Refusal → Option ℕ
code_of Offset = None
code_of (Stopped code) = Some code
code_of FinalSize = None
code_of FlowControl = None
code_of NoRoom = None
code_of TableFull = None
code_of NeverSent = None
code_of Done = None
code_of (Reset code) = Some code
code_of BadSetup = None

-- what an answer says: the refusal's number, 0 for a success, and the values that go with it
pub record Told : Type 0 where
  pub number : ℕ
  pub values : List ℕ

abbrev pub list_of : Option ℕ → List ℕ
list_of None = []
list_of (Some n) = n ∷ []

abbrev pub refusal : Refusal → Told
refusal why = record { number = number_of why; values = list_of (code_of why) }

abbrev pub success : List ℕ → Told
success values = record { number = 0; values = values }

-- what each kind of success tells: nothing, a count, a count and an end mark (which is 1 or 0), two sizes
abbrev pub no_values : ⊤ → List ℕ
no_values done = []

abbrev pub count_values : ℕ → List ℕ
count_values n = n ∷ []

abbrev pub bytes_values : (ℕ × Bool) → List ℕ
bytes_values (n, fin) = n ∷ cond fin 1 0 ∷ []

abbrev pub sizes_values : (ℕ × ℕ) → List ℕ
sizes_values (a, b) = a ∷ b ∷ []

-- an answer whose successes tell these values
abbrev pub told_by : {T : Type 0} → (T → List ℕ) → Result T Refusal → Told
told_by values (Ok x) = success (values x)
told_by values (Err why) = refusal why

abbrev pub told : Result ⊤ Refusal → Told
told = told_by no_values

abbrev pub told_count : Result ℕ Refusal → Told
told_count = told_by count_values

abbrev pub told_emit : Result (ℕ × Bool) Refusal → Told
told_emit = told_by bytes_values

abbrev pub told_sizes : Result (ℕ × ℕ) Refusal → Told
told_sizes = told_by sizes_values

-- the first two of some values, 0 for one that is not there
abbrev pub first_two : List ℕ → ℕ × ℕ
first_two values = (get_or values 0 0, get_or values 1 0)

-- a plain answer with its numbers: a refusal goes up under its own number
abbrev pub with_values : {T : Type 0} → Result ⊤ Refusal → T → Result T Refusal
with_values (Ok done) x = Ok x
with_values (Err why) x = Err why

abbrev pub with_count : Result ⊤ Refusal → ℕ → Result ℕ Refusal
with_count = with_values

abbrev pub with_bytes : Result ⊤ Refusal → ℕ → Bool → Result (ℕ × Bool) Refusal
with_bytes said n fin = with_values said (n, fin)

abbrev pub with_sizes : Result ⊤ Refusal → ℕ → ℕ → Result (ℕ × ℕ) Refusal
with_sizes said a b = with_values said (a, b)

-- x after a success, and y after a refusal
abbrev pub after : {A : Type 0} → Result ⊤ Refusal → A → A → A
after (Ok done) x y = x
after (Err why) x y = y

-- a number that may be missing: is it known; known and n; known and another
abbrev pub known : Option ℕ → Bool
known None = false
known (Some n) = true

abbrev pub is_at : Option ℕ → ℕ → Bool
is_at None n = false
is_at (Some m) n = eqb m n

abbrev pub is_other : Option ℕ → ℕ → Bool
is_other None n = false
is_other (Some m) n = not (eqb m n)

-- the final size, once a mark was accepted at e
abbrev pub fin_with : Option ℕ → ℕ → Bool → Option ℕ
fin_with f e true = Some e
fin_with f e false = f
