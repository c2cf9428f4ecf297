-- Demand 3, "whole or not at all": the statement alone. It is proved in proofs/Demand3.antt, as `safety`, `at_done` and `completeness`
-- (and `callable` in proofs/Callable.antt).
--
-- The system is that of `System`: its moves do what the contracts of the two buffers say. ms is any list of moves, so any order of calls, any
-- loss, repetition and reordering of frames.
use Rattle.std.specs.Prelude.{◌≡◌, ◌⊎◌, Bool, true, List, [], ◌∷◌, ◌++◌, ℕ, ◌+◌, ◌≤◌, ◌<◌, length, slice_get, Some, Result, Ok, Err, ⊤}
use Rattle.refusal.specs.declared.Refusal.{Refusal}
use Rattle.refusal.specs.declared.Refusal.TheVariants.{NoRoom, TableFull, Done as NothingReady}
use Rattle.range_buf.specs.declared.RangeBuf.{RangeBuf}
use Rattle.range_buf.specs.Rules.{avail}
use Rattle.send_buf.specs.State.{Good as GoodSendBuf}
use Rattle.recv_buf.specs.State.{Good as GoodRecvBuf}
use Rattle.recv_buf.specs.Rules as recv
use Rattle.recv_buf.specs.Rfc9000.{Frame, Brings}
use Rattle.channel.specs.System.{RecvEnd, System, sender, receiver, Setup, fresh, Premises, Move, read, run}

-- what the receiver answers if frame f is delivered now, and if a reader now reads into this output
abbrev pub on_delivery : RecvEnd → Frame → Result ⊤ Refusal
on_delivery x f = (recv.written (receiver x) (length x.arena) f.from (length f.bytes) f.fin).answer

abbrev pub on_read : RecvEnd → List ℕ → Result (ℕ × Bool) Refusal
on_read x out = (recv.emitted (receiver x) (length x.arena) (length out)).answer

-- ---- every call may be made: whatever the numbers at creation, both buffers are at every moment what their contracts require

abbrev pub Callable : Type 0
Callable = (u : Setup) (ms : List Move) → GoodSendBuf (run (fresh u) ms).snd.buf × GoodRecvBuf (run (fresh u) ms).rcv.buf

-- ---- safety: at every moment of every schedule

pub record Safe (y : System) : Type 0 where
  -- the bytes handed out are the first of those accepted for writing; `rest` are the others
  pub rest : List ℕ
  pub prefix : y.rcv.out ++ rest ≡ y.snd.written
  -- every frame ever emitted, delivered now, is accepted, or refused for want of room or of a table entry: it is never BadSetup, nor one of
  -- the errors Offset, FlowControl and FinalSize
  pub welcome : (k : ℕ) (f : Frame) → slice_get y.snd.frames k ≡ Some f
      → (on_delivery y.rcv f ≡ Ok tt) ⊎ ((on_delivery y.rcv f ≡ Err NoRoom) ⊎ (on_delivery y.rcv f ≡ Err TableFull))
  -- a read is answered with a count and a mark, or with Done, and with no other refusal
  pub readable : (out : List ℕ) → (on_read y.rcv out ≡ Err NothingReady) ⊎ ((count : ℕ) × (ended : Bool) × (on_read y.rcv out ≡ Ok (count, ended)))
  -- a final size that the receiver knows is the sender's, and the number of bytes accepted for writing
  pub final : (size : ℕ) → (receiver y.rcv).fin ≡ Some size → ((sender y.snd).fin ≡ Some size) × (size ≡ length y.snd.written)

abbrev pub Safety : Type 0
Safety = (u : Setup) → Premises u → (ms : List Move) → Safe (run (fresh u) ms)

-- ---- completeness: once the writer has finished, and accepted frames cover every byte and the end mark

-- P holds of one of them
abbrev pub OneOf : (Frame → Type 0) → List Frame → Type 0
OneOf P [] = ⊥
OneOf P (f ∷ fs) = P f ⊎ OneOf P fs

pub record Finished (y : System) : Type 0 where
  pub size : ℕ
  pub ended : (sender y.snd).fin ≡ Some size
  pub bytes : (o : ℕ) → o < length y.snd.written → OneOf (λ f. Brings f o) y.rcv.accepted
  pub mark : OneOf (λ f. f.fin ≡ true) y.rcv.accepted

-- the reader has it all: every read answers Done; the bytes handed out, earlier ones included, are exactly those written; both ends hold the
-- same final size, and it is their number
pub record Whole (y : System) : Type 0 where
  pub done : (out : List ℕ) → on_read y.rcv out ≡ Err NothingReady
  pub all_out : y.rcv.out ≡ y.snd.written
  pub sent_size : (sender y.snd).fin ≡ Some (length y.snd.written)
  pub got_size : (receiver y.rcv).fin ≡ Some (length y.snd.written)

-- whenever a read answers Done, all is there, whatever else goes on meanwhile
abbrev pub AtDone : Type 0
AtDone = (u : Setup) → Premises u → (ms : List Move) → Finished (run (fresh u) ms)
    → (out : List ℕ) → on_read (run (fresh u) ms).rcv out ≡ Err NothingReady → Whole (run (fresh u) ms)

-- draining: reads one after another, each with room for at least one byte
abbrev pub drain : List (List ℕ) → List Move
drain [] = []
drain (out ∷ outs) = read out ∷ drain outs

abbrev pub SomeRoom : List (List ℕ) → Type 0
SomeRoom [] = Unit {0}
SomeRoom (out ∷ outs) = (0 < length out) × SomeRoom outs

-- the bytes that the receiver keeps, and its chunks
abbrev pub bytes_kept : List RangeBuf → ℕ
bytes_kept [] = 0
bytes_kept (c ∷ cs) = avail c + bytes_kept cs

abbrev pub to_drain : System → ℕ
to_drain y = bytes_kept (receiver y.rcv).chunks + length (receiver y.rcv).chunks

-- as many reads as there are bytes and chunks kept bring it about, whatever their rooms, and more do no harm. The sender is as it was
abbrev pub Completeness : Type 0
Completeness = (u : Setup) → Premises u → (ms : List Move) → Finished (run (fresh u) ms)
    → (outs : List (List ℕ)) → SomeRoom outs → to_drain (run (fresh u) ms) ≤ length outs
    → Whole (run (run (fresh u) ms) (drain outs)) × ((run (run (fresh u) ms) (drain outs)).snd ≡ (run (fresh u) ms).snd)
