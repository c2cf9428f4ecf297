-- What it means that the receive buffer agrees with RFC 9000: the words in which the theorems of proofs/Rfc.antt are stated. Nothing is proved here.
--
-- The promise. Take a successful creation and any calls whatever. Each accepted call is an event of the RFC, a refused one is none (`events`). The
-- RFC's rules (Rfc9000) say what a receiver knows after those events. The buffer knows just that, but for a limit that may be smaller, and what it
-- handed out is the stream's bytes, in order (`Agrees`); a read gives the stream's next bytes, or is refused because there are none (`Reads`). If the
-- starting limit is at most the maximum window, the limit is the same too, and a frame or a reset is refused for flow control or final size exactly
-- where a rule is broken (`Refuses`).
--
-- In reading order: the calls and what they do, by the definitions that the contracts cite; what a buffer knows; which event a call is; the claims.
use Rattle.std.specs.Prelude.{◌≡◌, ◌⊎◌, ◌↔◌, Bool, true, cond, List, [], ◌∷◌, ◌++◌, ℕ, ◌+◌, ◌≤◌, ◌<◌, ltb, eqb, length, take, drop, get_or, Result, Ok, Err, Option, Some, None, ⊤}
use Rattle.refusal.specs.declared.Refusal.{Refusal}
use Rattle.refusal.specs.declared.Refusal.TheVariants.{Offset, FinalSize, FlowControl as OverLimit}
use Rattle.refusal.specs.Rules.{M, Told, success, told, told_count, told_emit, told_sizes}
use Rattle.arena.specs.Rules.{held, byte_at}
use Rattle.flowcontrol.specs.Rules.{next}
use Rattle.recv_buf.specs.declared.RecvBuf.{RecvBuf}
use Rattle.recv_buf.specs.State.{Recv, view_of}
use Rattle.recv_buf.specs.Rules.{holds, created, written, written_arena, emitted, emitted_out, discarded, resets, shuts, commits, autotunes, readable}
use Rattle.recv_buf.specs.Rfc9000.{Known, Frame, Tells, TooLarge, FlowControlError, FinalSizeError, is_some, ResetSizeError, ResetOver, available, is_all, Event, stream_frame, reset_frame, read_up_to, give_up, max_stream_data, history, handed_out, Lawful}

-- ---- calls on one buffer

-- The window is changed only by the buffer's own calls (RULES 8), so giving a window record back is not one of them.
pub data Call : Type 0 where
  write : (s : ℕ) (bytes : List ℕ) (fin : Bool) → Call
  emit : (out : List ℕ) → Call  -- into this output
  discard : (n : ℕ) → Call
  reset : (code size : ℕ) → Call
  shutdown : Call
  commit : (now : ℕ) → Call
  tune : (now rtt : ℕ) → Call

-- the buffer, its arena, and all bytes that were handed out, or thrown away by a discard, in the order they went
pub record Side : Type 0 where
  pub buf : RecvBuf
  pub arena : List ℕ
  pub out : List ℕ

abbrev pub side : RecvBuf → List ℕ → List ℕ → Side
side b ar out = record { buf = b; arena = ar; out = out }

-- the buffer as numbers and lists
abbrev pub view : Side → Recv
view x = view_of x.buf

-- a buffer as `new` gives it, with the arena that it is to be used with
abbrev pub begin : ℕ → ℕ → List ℕ → Side
begin limit maximum ar = side (created limit maximum (length ar)).state ar []

-- how many bytes an answer says were handed out
abbrev pub count_of : Result (ℕ × Bool) Refusal → ℕ
count_of (Ok (n, fin)) = n
count_of (Err why) = 0

-- what a call answers, by its number (RULES 2.1): 0 is a success
abbrev pub answer : Side → Call → Told
answer x (write s bytes fin) = told (written (view x) (length x.arena) s (length bytes) fin).answer
answer x (emit out) = told_emit (emitted (view x) (length x.arena) (length out)).answer
answer x (discard n) = told_emit (discarded (view x) n).answer
answer x (reset code size) = told_sizes (resets (view x) code size).answer
answer x shutdown = told_count (shuts (view x)).answer
answer x (commit now) = success []
answer x (tune now rtt) = success []

-- and what is there after it. Of the output, the first `count` bytes were handed out; what a discard throws away is read off the arena
abbrev pub step : Side → Call → Side
step x (write s bytes fin) = side (written (view x) (length x.arena) s (length bytes) fin).state (written_arena (view x) x.arena s bytes fin) x.out
step x (emit out) =
    let e = emitted (view x) (length x.arena) (length out) in
    side e.state x.arena (x.out ++ take (count_of e.answer) (emitted_out (view x) x.arena out))
step x (discard n) =
    let e = discarded (view x) n in
    side e.state x.arena (x.out ++ held x.arena (view x).off (count_of e.answer))
step x (reset code size) = side (resets (view x) code size).state x.arena x.out
step x shutdown = side (shuts (view x)).state x.arena x.out
step x (commit now) = side (commits (view x) now) x.arena x.out
step x (tune now rtt) = side (autotunes (view x) now rtt) x.arena x.out

-- what is there at the end of a whole run
abbrev pub run : Side → List Call → Side
run x [] = x
run x (c ∷ cs) = run (step x c) cs

-- ---- what a buffer knows; `ar` is its arena, and `out` are the bytes handed out so far

-- the byte of offset o: handed out, or kept in the arena
abbrev pub seen : Recv → List ℕ → List ℕ → ℕ → Option ℕ
seen r ar out o = cond (ltb o r.flow.consumed) (Some (get_or out o 0)) (cond (holds r.chunks o) (Some (byte_at ar o)) None)

-- each part of the RFC's knowledge, where the buffer has it
abbrev pub knows : Recv → List ℕ → List ℕ → Known
knows r ar out = record {
  byte = seen r ar out;
  highest = r.len;
  final = r.fin;
  limit = r.flow.max_data;
  delivered = r.flow.consumed;
  reset = r.error;
  aborted = r.drain;
}

abbrev pub known_of : Side → Known
known_of x = knows (view x) x.arena x.out

-- ---- the events of a run

-- what an accepted call is to the RFC; autotuning tells the peer nothing
abbrev pub event_of : Side → Call → List Event
event_of x (write s bytes fin) = stream_frame (record { from = s; bytes = bytes; fin = fin }) ∷ []
event_of x (emit out) = read_up_to (length out) ∷ []
event_of x (discard n) = read_up_to n ∷ []
event_of x (reset code size) = reset_frame code size ∷ []
event_of x shutdown = give_up ∷ []
event_of x (commit now) = max_stream_data (next (view x).flow) ∷ []
event_of x (tune now rtt) = []

-- a call that answers a refusal is no event
abbrev pub event : Side → Call → List Event
event x c = cond (eqb (answer x c).number 0) (event_of x c) []

-- those of a whole run, in turn
abbrev pub events : Side → List Call → List Event
events x [] = []
events x (c ∷ cs) = event x c ++ events (step x c) cs

-- ---- the state agrees

-- all but the limit
abbrev pub unlimited : Known → Known
unlimited k = record { byte = k.byte; highest = k.highest; final = k.final; limit = 0; delivered = k.delivered; reset = k.reset; aborted = k.aborted }

-- j is k, but its limit may be the smaller: a commit can take the buffer's down (RULES 6.2), where the RFC keeps the largest
pub record Near (j k : Known) : Type 0 where
  pub same : unlimited j ≡ unlimited k
  pub limit : j.limit ≤ k.limit

-- what is known is coherent
pub record Coherent (k : Known) : Type 0 where
  pub inside : (o b : ℕ) → k.byte o ≡ Some b → o < k.highest  -- no byte at or above the highest offset
  pub credit : k.highest ≤ k.limit  -- nothing beyond the limit
  pub settled : (x : ℕ) → k.final ≡ Some x → k.highest ≡ x  -- nor beyond the final size, which counts as received
  pub whole : (o : ℕ) → o < k.delivered → is_some (k.byte o) ≡ true  -- what was taken was known

-- what the state knows is what the RFC's history of the accepted calls says
pub record Agrees (k : Known) (es : List Event) (y : Side) : Type 0 where
  -- apart from a limit that may be smaller
  pub near : Near (known_of y) (history k es)
  -- that history breaks no rule
  pub lawful : Lawful k es
  -- and leaves a coherent knowledge
  pub coherent : Coherent (history k es)
  -- and hands out what was handed out
  pub output : y.out ≡ handed_out k es
  -- each byte of the stream once and in its place: byte o of the output is the byte received first for offset o
  pub in_place : (o : ℕ) → o < length y.out → (history k es).byte o ≡ Some (get_or y.out o 0)

-- ---- the errors are the RFC's

-- what a frame is answered
abbrev pub given : Side → Frame → Result ⊤ Refusal
given y f = (written (view y) (length y.arena) f.from (length f.bytes) f.fin).answer

-- a buffer that refuses frames and resets as one who knows k has to
pub record Refuses (k : Known) (y : Side) : Type 0 where
  -- 19.8
  pub too_large : (f : Frame) → (given y f ≡ Err Offset) ↔ TooLarge f
  -- 4.1, of a frame with bytes or mark
  pub flow : (f : Frame) → (TooLarge f → ⊥) → Tells f → (given y f ≡ Err OverLimit) ↔ FlowControlError k f
  -- 4.5
  pub final : (f : Frame) → (TooLarge f → ⊥) → Tells f → (given y f ≡ Err FinalSize) ↔ ((FlowControlError k f → ⊥) × FinalSizeError k f)
  -- 4.5, of a RESET_STREAM
  pub reset_final : (code size : ℕ) → size ≤ M → ((resets (view y) code size).answer ≡ Err FinalSize) ↔ ResetSizeError k size
  -- 4.1, of the first one
  pub reset_flow : (code size : ℕ) → size ≤ M
      → ((resets (view y) code size).answer ≡ Err OverLimit) ↔ ((ResetSizeError k size → ⊥) × (k.reset ≡ None) × ResetOver k size)

-- ---- a read takes the stream's next bytes

pub record Reads (k : Known) (y : Side) : Type 0 where
  -- an emit hands out the next bytes of the ordered stream, as many as are known in a row and fit, and leaves the rest of the output;
  -- its mark says that all of the stream was taken
  pub handed : (out : List ℕ) (count : ℕ) (ended : Bool) → (emitted (view y) (length y.arena) (length out)).answer ≡ Ok (count, ended)
      → (emitted_out (view y) y.arena out ≡ available k (length out) ++ drop count out) × (count ≡ length (available k (length out)))
      × (ended ≡ is_all k.final (k.delivered + count))
  -- a discard counts the same
  pub dropped : (n count : ℕ) (ended : Bool) → (discarded (view y) n).answer ≡ Ok (count, ended)
      → (count ≡ length (available k n)) × (ended ≡ is_all k.final (k.delivered + count))
  -- `readable_len` tells how many bytes that would be
  pub ahead : (most : ℕ) → readable (view y) most ≡ length (available k most)
  -- either is refused only if there is no next byte
  pub nothing : (n : ℕ) (why : Refusal)
      → ((emitted (view y) (length y.arena) n).answer ≡ Err why) ⊎ ((discarded (view y) n).answer ≡ Err why)
      → (i : ℕ) → available k i ≡ []
