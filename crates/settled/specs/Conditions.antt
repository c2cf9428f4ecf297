-- The conditions of the ten refusals (docs/RULES.md, 2.1) in plain numbers: what proofs/Exact*.antt states its equivalences with.
-- A chain of `and` is read from the left: what was tested before and let pass, in the order of docs/RULES.md, 2.2, and last the refusal's own condition.
use Rattle.std.specs.Prelude.{◌≡◌, ◌⊎◌, ◌≢◌, Bool, true, false, List, [], ◌∷◌, ℕ, ◌+◌, ◌-◌, ◌≤◌, ◌<◌, length, Some}
use Rattle.range_buf.specs.declared.RangeBuf.{RangeBuf}
use Rattle.range_buf.specs.Rules.{start}
use Rattle.ranges.specs.declared.Range.{Range}
use Rattle.send_buf.specs.State.{Send}
use Rattle.send_buf.specs.Rules.{ack_off}
use Rattle.recv_buf.specs.State.{Recv}

infixr 3 ◌and◌
abbrev pub ◌and◌ : Type 0 → Type 0 → Type 0
A and B = A × B

infixl 2 ◌or◌
abbrev pub ◌or◌ : Type 0 → Type 0 → Type 0
A or B = A ⊎ B

-- n is one of the numbers
abbrev pub OneOf : ℕ → List ℕ → Type 0
OneOf n [] = ⊥
OneOf n (m ∷ ms) = (n ≡ m) or OneOf n ms

-- ---- 10: the arena that is lent has a bytes; at creation it had A

abbrev pub OtherArena : ℕ → ℕ → Type 0
OtherArena A a = (a ≡ 0) or (a ≢ A)

abbrev pub SameArena : ℕ → ℕ → Type 0
SameArena A a = (a ≢ 0) and (a ≡ A)

-- ---- range set (RULES 5.2)

-- no range of the list meets or touches x
abbrev pub Apart : Range → List Range → Type 0
Apart x [] = Unit {0}
Apart x (r ∷ rs) = ((x.end < r.start) or (r.end < x.start)) and Apart x rs

-- one of them does
abbrev pub Meets : Range → List Range → Type 0
Meets x [] = ⊥
Meets x (r ∷ rs) = ((r.start ≤ x.end) and (x.start ≤ r.end)) or Meets x rs

-- ---- send buffer

-- a write of n bytes has no end mark: it came with none, or it exceeds what the limit leaves and lost it (RULES 4.2.1)
abbrev pub Unmarked : Send → ℕ → Bool → Type 0
Unmarked s n fin = (s.limit - s.off < n) or (fin ≡ false)

-- 3: F is known, and the write ends above it, or at it without an end mark (RULES 4.2.2)
pub data PastFinal (s : Send) (n : ℕ) (fin : Bool) : Type 0 where
  past : (F : ℕ) → s.fin ≡ Some F → F < s.off + n → PastFinal s n fin
  unmarked : (F : ℕ) → s.fin ≡ Some F → s.off + n ≡ F → Unmarked s n fin → PastFinal s n fin

-- there are chunks, and the lost range ends above the contiguous ack (RULES 4.5.2)
abbrev pub Moves : Send → ℕ → Type 0
Moves s e = (length s.chunks ≢ 0) and (ack_off s.acked < e)

-- ---- receive buffer

-- 3: a frame that ends at e, marked or not (RULES 7.2.2)
pub data Contradicts (r : Recv) (e : ℕ) (fin : Bool) : Type 0 where
  above : (F : ℕ) → r.fin ≡ Some F → F < e → Contradicts r e fin
  elsewhere : (F : ℕ) → r.fin ≡ Some F → fin ≡ true → e ≢ F → Contradicts r e fin
  short : fin ≡ true → e < r.len → Contradicts r e fin

-- 5: n bytes at s would not fit the arena; not asked after shutdown (RULES 7.2.3, 7.2.8)
abbrev pub NoRoomFor : Recv → ℕ → ℕ → Type 0
NoRoomFor r s n = (r.drain ≡ false) and (0 < n) and (r.room < s + n - r.off)

-- 3: the size of a reset (RULES 7.4.1)
pub data BadSize (r : Recv) (size : ℕ) : Type 0 where
  differs : (F : ℕ) → r.fin ≡ Some F → F ≢ size → BadSize r size
  below : size < r.len → BadSize r size

-- the first chunk starts at off (RULES 7.3.1); there is none, or it starts elsewhere
abbrev pub Ready : List RangeBuf → ℕ → Type 0
Ready [] off = ⊥
Ready (c ∷ cs) off = start c ≡ off

abbrev pub NotReady : List RangeBuf → ℕ → Type 0
NotReady [] off = Unit {0}
NotReady (c ∷ cs) off = start c ≢ off
