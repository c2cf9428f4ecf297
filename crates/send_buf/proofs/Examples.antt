-- The examples E1, E2, E3 and E5 (RULES 10), and the errors that are easily made, one statement over a table of calls: each call, made after those above
-- it, is answered as the table says, and leaves what it says. By computing what the contracts promise. Assumes nothing.
use Rattle.std.specs.Prelude.{Option, Some, None}
use mathlib.Core.Path.{◌≡◌, refl}
use mathlib.Core.Bool.{Bool, true, false}
use mathlib.Core.List.{List, [], ◌∷◌, ◌++◌}
use Prim.Native.Nat.{ℕ}
use lib.ListN.{length, replicate}
use Rattle.refusal.specs.Rules.{Told, success, refusal, told, told_count, told_emit}
use Rattle.refusal.specs.declared.Refusal.TheVariants.{FinalSize}
use Rattle.arena.specs.Rules.{kept, held}
use Rattle.range_buf.specs.declared.RangeBuf.{RangeBuf}
use Rattle.send_buf.specs.declared.SendBuf.{SendBuf}
use Rattle.send_buf.specs.State.{view_of, buf_of}
use Rattle.send_buf.specs.Rules.{created, write_judged, wrote, written, written_arena, front, sent, emitted, emitted_out, ack_judged, acked_more, acks, loss_judged, lost, retransmits, is_complete}

-- a call: write bytes, marked or not; emit with room for n bytes; ack and retransmit n bytes at a
pub data Call : Type 0 where
  write : List ℕ → Bool → Call
  emit : ℕ → Call
  ack : ℕ → ℕ → Call
  retransmit : ℕ → ℕ → Call

-- ---- one call on the buffer b with the arena ar; the output of an emit is all zeros before it

abbrev buffer : SendBuf → List ℕ → Call → SendBuf
buffer b ar (write input fin) = (written (view_of b) (length ar) (length input) fin).state
buffer b ar (emit n) = (emitted (view_of b) (length ar) n).state
buffer b ar (ack a n) = (acks (view_of b) a n).state
buffer b ar (retransmit a n) = (retransmits (view_of b) a n).state

abbrev arena : SendBuf → List ℕ → Call → List ℕ
arena b ar (write input fin) = written_arena (view_of b) ar input fin
arena b ar (emit n) = ar
arena b ar (ack a n) = ar
arena b ar (retransmit a n) = ar

abbrev said : SendBuf → List ℕ → Call → Told
said b ar (write input fin) = told_count (written (view_of b) (length ar) (length input) fin).answer
said b ar (emit n) = told_emit (emitted (view_of b) (length ar) n).answer
said b ar (ack a n) = told (acks (view_of b) a n).answer
said b ar (retransmit a n) = told_count (retransmits (view_of b) a n).answer

abbrev output : SendBuf → List ℕ → Call → List ℕ
output b ar (write input fin) = []
output b ar (emit n) = emitted_out (view_of b) ar (replicate n 0)
output b ar (ack a n) = []
output b ar (retransmit a n) = []

-- ---- a line of the table: a call, its answer, the output after it, and what the buffer then tells

pub record Line : Type 0 where
  call : Call
  answer : Told
  out : List ℕ
  chunks : List RangeBuf
  to_send : ℕ
  next : ℕ  -- the front offset: where the next emit begins
  final : Option ℕ
  complete : Bool

abbrev line : Call → Told → List ℕ → List RangeBuf → ℕ → ℕ → Option ℕ → Bool → Line
line call answer out chunks to_send next final complete =
    record { call = call; answer = answer; out = out; chunks = chunks; to_send = to_send; next = next; final = final; complete = complete }

-- what is found, in the table's form
abbrev found : SendBuf → List ℕ → Call → Line
found b ar x =
    let t = view_of (buffer b ar x) in
    line x (said b ar x) (output b ar x) t.chunks t.buffered (front t) t.fin (is_complete t)

abbrev calls : List Line → List Call
calls [] = []
calls (l ∷ ls) = l.call ∷ calls ls

abbrev run : SendBuf → List ℕ → List Call → List Line
run b ar [] = []
run b ar (x ∷ xs) = found b ar x ∷ run (buffer b ar x) (arena b ar x) xs

-- ---- the table: an example has a limit, and lines in order; its arena has 20 bytes

pub record Example : Type 0 where
  limit : ℕ
  lines : List Line

abbrev chunk : ℕ → ℕ → ℕ → RangeBuf
chunk off len pos = record { off = off; len = len; pos = pos }

abbrev abcd : List ℕ
abcd = 97 ∷ 98 ∷ 99 ∷ 100 ∷ []

abbrev efgh : List ℕ
efgh = 101 ∷ 102 ∷ 103 ∷ 104 ∷ []

abbrev cde : List ℕ
cde = 99 ∷ 100 ∷ 101 ∷ []

abbrev ij : List ℕ
ij = 105 ∷ 106 ∷ []

abbrev klmno : List ℕ
klmno = 107 ∷ 108 ∷ 109 ∷ 110 ∷ 111 ∷ []

-- call, answer, output, chunks (off, len, pos), bytes to send, front, F, complete
abbrev E1-E2 : List Line
E1-E2 =
    line (write (abcd ++ efgh ++ ij ++ klmno) true) (success (10 ∷ [])) [] (chunk 0 10 0 ∷ []) 10 0 None false
    ∷ line (write [] true) (success (0 ∷ [])) [] (chunk 0 10 0 ∷ []) 10 0 (Some 10) false
    ∷ line (write [] false) (refusal FinalSize) [] (chunk 0 10 0 ∷ []) 10 0 (Some 10) false
    ∷ []

abbrev E3 : List Line
E3 =
    line (write (abcd ++ efgh ++ ij) false) (success (10 ∷ [])) [] (chunk 0 10 0 ∷ []) 10 0 None false
    ∷ line (emit 4) (success (4 ∷ 0 ∷ [])) abcd (chunk 0 10 4 ∷ []) 6 4 None false
    ∷ line (emit 4) (success (4 ∷ 0 ∷ [])) efgh (chunk 0 10 8 ∷ []) 2 8 None false
    ∷ line (retransmit 2 3) (success (3 ∷ [])) [] (chunk 0 5 2 ∷ chunk 5 5 3 ∷ []) 5 2 None false
    ∷ line (emit 10) (success (3 ∷ 0 ∷ [])) (cde ++ replicate 7 0) (chunk 0 5 5 ∷ chunk 5 5 3 ∷ []) 2 8 None false
    ∷ line (emit 10) (success (2 ∷ 0 ∷ [])) (ij ++ replicate 8 0) (chunk 0 5 5 ∷ chunk 5 5 5 ∷ []) 0 10 None false
    ∷ []

abbrev E5 : List Line
E5 =
    line (write [] true) (success (0 ∷ [])) [] [] 0 0 (Some 0) false
    ∷ line (ack 0 0) (success []) [] [] 0 0 (Some 0) true
    ∷ []

-- an emit goes on where the next chunk adjoins; a retransmit answers what it moves back, and not the range's length
abbrev easy : List Line
easy =
    line (write abcd false) (success (4 ∷ [])) [] (chunk 0 4 0 ∷ []) 4 0 None false
    ∷ line (write efgh false) (success (4 ∷ [])) [] (chunk 0 4 0 ∷ chunk 4 4 0 ∷ []) 8 0 None false
    ∷ line (emit 6) (success (6 ∷ 0 ∷ [])) (abcd ++ 101 ∷ 102 ∷ []) (chunk 0 4 4 ∷ chunk 4 4 2 ∷ []) 2 6 None false
    ∷ line (retransmit 4 2) (success (2 ∷ [])) [] (chunk 0 4 4 ∷ chunk 4 2 0 ∷ chunk 6 2 0 ∷ []) 4 4 None false
    ∷ line (retransmit 0 6) (success (4 ∷ [])) [] (chunk 0 4 0 ∷ chunk 4 2 0 ∷ chunk 6 2 0 ∷ []) 8 0 None false
    ∷ []

abbrev pub table : List Example
table =
    record { limit = 10; lines = E1-E2 }
    ∷ record { limit = 20; lines = E3 }
    ∷ record { limit = 20; lines = E5 }
    ∷ record { limit = 20; lines = easy }
    ∷ []

-- an example, run from a new buffer, goes as its lines say
abbrev pub Holds : List Example → Type 0
Holds [] = Unit {0}
Holds (x ∷ xs) = (run (created x.limit 20).state (replicate 20 0) (calls x.lines) ≡ x.lines) × Holds xs

pub examples : Holds table
unfolding kept held buf_of created write_judged wrote written written_arena sent emitted emitted_out ack_judged acked_more acks loss_judged lost retransmits
examples = (refl, (refl, (refl, (refl, tt))))
