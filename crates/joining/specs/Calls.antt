-- A send buffer's calls as data, to speak of runs of them: which are accepted, what each gives, and what it leaves. Of two buffers: that of the
-- rules, which joins chunks where they would be more than 64 (RULES 4.10), and one that never joins and whose table has no end.
use Rattle.std.specs.Prelude.{◌≡◌, ◌⊎◌, Bool, true, cond, List, [], ◌∷◌, ◌++◌, ℕ, ◌+◌, ◌≤◌, ◌<◌, max, ltb, length, take, drop, Option, Some, Result, Ok, Err, ⊤}
use Rattle.refusal.specs.Rules.{M, Told, success, told, told_count, told_emit, told_sizes, known, is_at, fin_with}
use Rattle.refusal.specs.declared.Refusal.{Refusal}
use Rattle.refusal.specs.declared.Refusal.TheVariants.{Offset, FinalSize, NoRoom, NeverSent, Done as NothingMore, BadSetup}
use Rattle.arena.specs.Rules.{kept, held}
use Rattle.range_buf.specs.declared.RangeBuf.{RangeBuf}
use Rattle.range_buf.specs.Rules.{end}
use Rattle.send_buf.specs.declared.SendBuf.{SendBuf}
use Rattle.send_buf.specs.State.{Send}
use Rattle.send_buf.specs.Rules as rules
use Rattle.send_buf.specs.Rules.{other_arena, with_queue, with_end, with_limit, with_closed, marked, accepted, unless_stopped, passes_final, no_room, longer, front, emit_count, sent, never_sent, ack_judged, acked_more, drop_bytes, drop_to, dropped, back, back_bytes, back_pos, settled, lost_bytes, unsent, was_reset, written, written_arena, emitted, emitted_out, acks, ack_drops, retransmits, resets, stops, shuts, raised, blocked_with}

-- ---- a table without end: no joining, and TableFull for acked ranges alone

unfoldable pub free_write_judged : Send → ℕ → ℕ → Bool → Result ⊤ Refusal
free_write_judged s a n fin =
    cond (other_arena s a) (Err BadSetup) (
    unless_stopped s.error (
    cond (passes_final s.fin (s.off + n) (marked s n fin)) (Err FinalSize) (
    cond (no_room s n) (Err NoRoom) (
    Ok tt))))

unfoldable pub free_wrote : Send → ℕ → Bool → Send
free_wrote s n fin =
    let k = accepted s n in
    with_end (with_queue s (longer s k) s.pos (s.buffered + k))
    (s.off + k)
    (fin_with s.fin (s.off + n) (marked s n fin))

unfoldable pub free_loss_judged : Send → ℕ → ℕ → Result ⊤ Refusal
free_loss_judged s a n = cond (never_sent s a n) (Err NeverSent) (Ok tt)

unfoldable pub free_lost : Send → ℕ → ℕ → Send
free_lost s a n =
    cond (settled s a n) s
    (with_queue s (back s.chunks a (a + n)) (back_pos s.chunks 0 s.pos a (a + n)) (s.buffered + back_bytes s.chunks a (a + n)))

-- the two kinds of buffer, by the two calls in which they differ: refusals and effects
pub record Kind : Type 0 where
  pub write_judged : Send → ℕ → ℕ → Bool → Result ⊤ Refusal
  pub wrote : Send → ℕ → Bool → Send
  pub loss_judged : Send → ℕ → ℕ → Result ⊤ Refusal
  pub lost : Send → ℕ → ℕ → Send

abbrev pub joining : Kind
joining = record { write_judged = rules.write_judged; wrote = rules.wrote; loss_judged = rules.loss_judged; lost = rules.lost }

abbrev pub endless : Kind
endless = record { write_judged = free_write_judged; wrote = free_wrote; loss_judged = free_loss_judged; lost = free_lost }

-- ---- calls

pub data Call : Type 0 where
  write : (input : List ℕ) (fin : Bool) → Call
  emit : (out : List ℕ) → Call
  ack : (off len : ℕ) → Call
  ack_and_drop : (off len : ℕ) → Call
  retransmit : (off len : ℕ) → Call
  reset : Call
  stop : (code : ℕ) → Call
  shutdown : Call
  update_max_data : (limit : ℕ) → Call
  update_blocked_at : (blocked : Option ℕ) → Call

-- is it accepted, with the arena ar?
abbrev pub judged : Kind → Send → List ℕ → Call → Result ⊤ Refusal
judged t s ar (write input fin) = t.write_judged s (length ar) (length input) fin
judged t s ar (emit out) = cond (other_arena s (length ar)) (Err BadSetup) (Ok tt)
judged t s ar (ack a n) = ack_judged s a n
judged t s ar (ack_and_drop a n) = ack_judged s a n
judged t s ar (retransmit a n) = t.loss_judged s a n
judged t s ar reset = Ok tt
judged t s ar (stop code) = cond (known s.error) (Err NothingMore) (Ok tt)
judged t s ar shutdown = cond s.shut (Err NothingMore) (Ok tt)
judged t s ar (update_max_data limit) = cond (ltb M limit) (Err Offset) (Ok tt)
judged t s ar (update_blocked_at blocked) = Ok tt

-- the buffer after it, and the arena
abbrev pub next : Kind → Send → Call → Send
next t s (write input fin) = t.wrote s (length input) fin
next t s (emit out) = sent s (length out)
next t s (ack a n) = acked_more s a n
next t s (ack_and_drop a n) = dropped (acked_more s a n) (drop_to (acked_more s a n) a)
next t s (retransmit a n) = t.lost s a n
next t s reset = was_reset s
next t s (stop code) = with_closed (was_reset s) s.shut (Some code)
next t s shutdown = with_closed (was_reset s) true s.error
next t s (update_max_data limit) = with_limit s (max s.limit limit) s.blocked
next t s (update_blocked_at blocked) = with_limit s s.limit blocked

abbrev pub arena_after : Send → List ℕ → Call → List ℕ
arena_after s ar (write input fin) = kept ar s.off (take (accepted s (length input)) input)
arena_after s ar (emit out) = ar
arena_after s ar (ack a n) = ar
arena_after s ar (ack_and_drop a n) = ar
arena_after s ar (retransmit a n) = ar
arena_after s ar reset = ar
arena_after s ar (stop code) = ar
arena_after s ar shutdown = ar
arena_after s ar (update_max_data limit) = ar
arena_after s ar (update_blocked_at blocked) = ar

-- what it gives: its answer's numbers, an end mark as 1, and the output after it
pub record Given : Type 0 where
  pub numbers : List ℕ
  pub out : List ℕ

abbrev pub only : List ℕ → Given
only numbers = record { numbers = numbers; out = [] }

abbrev pub bit : Bool → ℕ
bit x = cond x 1 0

abbrev pub given : Send → List ℕ → Call → Given
given s ar (write input fin) = only (accepted s (length input) ∷ [])
given s ar (emit out) =
    let k = emit_count s (length out) in
    record { numbers = k ∷ bit (is_at s.fin (front s + k)) ∷ []; out = held ar (front s) k ++ drop k out }
given s ar (ack a n) = only []
given s ar (ack_and_drop a n) = only (drop_bytes s.chunks (drop_to (acked_more s a n) a) ∷ [])
given s ar (retransmit a n) = only (lost_bytes s a n ∷ [])
given s ar reset = only (s.emitted ∷ unsent s ∷ [])
given s ar (stop code) = only (s.emitted ∷ unsent s ∷ [])
given s ar shutdown = only (s.emitted ∷ unsent s ∷ [])
given s ar (update_max_data limit) = only []
given s ar (update_blocked_at blocked) = only []

-- what the contracts say of a call, accepted or not: its answer, the buffer, the arena and the output after it
pub record Promised : Type 0 where
  pub answer : Told
  pub buf : SendBuf
  pub arena : List ℕ
  pub out : List ℕ

abbrev pub contract : Send → List ℕ → Call → Promised
contract s ar (write input fin) =
    let o = written s (length ar) (length input) fin in
    record { answer = told_count o.answer; buf = o.state; arena = written_arena s ar input fin; out = [] }
contract s ar (emit out) =
    let o = emitted s (length ar) (length out) in
    record { answer = told_emit o.answer; buf = o.state; arena = ar; out = emitted_out s ar out }
contract s ar (ack a n) = let o = acks s a n in record { answer = told o.answer; buf = o.state; arena = ar; out = [] }
contract s ar (ack_and_drop a n) = let o = ack_drops s a n in record { answer = told_count o.answer; buf = o.state; arena = ar; out = [] }
contract s ar (retransmit a n) = let o = retransmits s a n in record { answer = told_count o.answer; buf = o.state; arena = ar; out = [] }
contract s ar reset = let o = resets s in record { answer = told_sizes o.answer; buf = o.state; arena = ar; out = [] }
contract s ar (stop code) = let o = stops s code in record { answer = told_sizes o.answer; buf = o.state; arena = ar; out = [] }
contract s ar shutdown = let o = shuts s in record { answer = told_sizes o.answer; buf = o.state; arena = ar; out = [] }
contract s ar (update_max_data limit) = let o = raised s limit in record { answer = told o.answer; buf = o.state; arena = ar; out = [] }
contract s ar (update_blocked_at blocked) = record { answer = success []; buf = blocked_with s blocked; arena = ar; out = [] }

-- ---- runs

-- each call is accepted
abbrev pub Accepted : Kind → Send → List ℕ → List Call → Type 0
Accepted t s ar [] = Unit {0}
Accepted t s ar (x ∷ xs) = (judged t s ar x ≡ Ok tt) × Accepted t (next t s x) (arena_after s ar x) xs

-- the buffer after them
abbrev pub after : Kind → Send → List Call → Send
after t s [] = s
after t s (x ∷ xs) = after t (next t s x) xs

-- what each gives, then how many bytes are to be sent, and from where
pub record Line : Type 0 where
  pub gives : Given
  pub to_send : ℕ
  pub from : ℕ

abbrev pub run : Kind → Send → List ℕ → List Call → List Line
run t s ar [] = []
run t s ar (x ∷ xs) = record { gives = given s ar x; to_send = (next t s x).buffered; from = front (next t s x) } ∷ run t (next t s x) (arena_after s ar x) xs

-- ---- an ack that covers a joined chunk only in part

-- a chunk begins at o
abbrev pub Begins : List RangeBuf → ℕ → Type 0
Begins [] o = ⊥
Begins (c ∷ cs) o = (c.off ≡ o) ⊎ Begins cs o

-- up to k: some chunk of cs reaches beyond k, and there is a boundary of ds in what it has up to k; so it was joined from chunks like those of ds
abbrev pub Part : List RangeBuf → List RangeBuf → ℕ → Type 0
Part [] ds k = ⊥
Part (c ∷ cs) ds k = ((o : ℕ) × (c.off < o) × (o ≤ k) × (k < end c) × Begins ds o) ⊎ Part cs ds k

-- how far a call drops chunks
abbrev pub covers : Send → Call → ℕ
covers s (write input fin) = 0
covers s (emit out) = 0
covers s (ack a n) = 0
covers s (ack_and_drop a n) = drop_to (acked_more s a n) a
covers s (retransmit a n) = 0
covers s reset = 0
covers s (stop code) = 0
covers s shutdown = 0
covers s (update_max_data limit) = 0
covers s (update_blocked_at blocked) = 0

-- s joins, t does not: no call of the run covers a joined chunk of s only in part
abbrev pub NoPart : Send → Send → List Call → Type 0
NoPart s t [] = Unit {0}
NoPart s t (x ∷ xs) = (Part s.chunks t.chunks (covers s x) → ⊥) × NoPart (next joining s x) (next endless t x) xs
