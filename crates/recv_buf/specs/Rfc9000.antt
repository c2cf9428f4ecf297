-- What the receiver of one stream knows, and which rules a frame can break, written from RFC 9000 alone.
-- No buffer, chunk, table, arena or limit of ours stands in this file. The proofs in proofs/Rfc*.antt show that the receive buffer does what it says.
-- Beside each clause stands the section it is from, and what that section says, in our words.
--
-- How to read it. `None` is "no number", `Some n` the number n. `cond t x y` is x if the test t holds, else y. `λ o. ..` is "for each o".
-- Lists are `[]` or `first ∷ rest`. A `data` type lists the ways in which something comes about, one to a line.
use Rattle.std.specs.Prelude.{◌≡◌, ◌≢◌, ◌⊎◌, Bool, true, false, cond, ◌||◌, List, [], ◌∷◌, ◌++◌, ℕ, zero, suc, ◌+◌, ◌-◌, ◌^◌, ◌≤◌, ◌<◌, max, ltb, eqb, length, Option, Some, None}

-- ---- what is known

pub record Known : Type 0 where
  pub byte : ℕ → Option ℕ  -- for each offset of the stream, the byte received for it, if one was
  pub highest : ℕ  -- 19.10: the largest offset received, counted behind its byte; a known final size counts as received (4.5)
  pub final : Option ℕ  -- 4.5: the final size, once known
  pub limit : ℕ  -- 4.1: the largest limit advertised for the stream
  pub delivered : ℕ  -- 2.2: how many bytes the application has taken; they are the first of the stream
  pub reset : Option ℕ  -- 19.4: the error code of the RESET_STREAM received, if one was
  pub aborted : Bool  -- 2.4, 19.5: the application has given up reading

-- 4.1: at first the limit is the one from the transport parameters, and nothing was received
unfoldable pub opened : ℕ → Known
opened limit = record { byte = λ o. None; highest = 0; final = None; limit = limit; delivered = 0; reset = None; aborted = false }

-- ---- STREAM frames

-- 19.8: the Offset, the Stream Data, and the FIN bit
pub record Frame : Type 0 where
  pub from : ℕ
  pub bytes : List ℕ
  pub fin : Bool

-- 4.5, 19.8: Offset and Length added up. With the FIN bit that is the final size
abbrev pub end_of : Frame → ℕ
end_of f = f.from + length f.bytes

-- the frame has a byte for offset o
abbrev pub Brings : Frame → ℕ → Type 0
Brings f o = (f.from ≤ o) × (o < end_of f)

-- the frame tells something: it has data, or the FIN bit. One with neither only names the offset of a byte yet to come (19.8)
abbrev pub Tells : Frame → Type 0
Tells f = (0 < length f.bytes) ⊎ (f.fin ≡ true)

-- 19.8: Offset and Length together can be at most 2^62 - 1: else FRAME_ENCODING_ERROR or FLOW_CONTROL_ERROR
abbrev pub TooLarge : Frame → Type 0
TooLarge f = 2 ^ 62 - 1 < end_of f

-- 4.1, 19.10: FLOW_CONTROL_ERROR, the sender went beyond what was advertised for the stream
pub data FlowControlError (k : Known) (f : Frame) : Type 0 where
  -- 19.10: a byte lies at or above the largest limit advertised
  data_over : (o : ℕ) → Brings f o → k.limit ≤ o → FlowControlError k f
  -- 4.5: the final size is the credit that the stream uses up, and it is above that limit
  size_over : f.fin ≡ true → k.limit < end_of f → FlowControlError k f

-- 4.5: FINAL_SIZE_ERROR
pub data FinalSizeError (k : Known) (f : Frame) : Type 0 where
  -- a known final size stays as it is: this frame says another
  changed : (x : ℕ) → k.final ≡ Some x → f.fin ≡ true → end_of f ≢ x → FinalSizeError k f
  -- data at the final size or beyond it
  beyond : (x o : ℕ) → k.final ≡ Some x → Brings f o → x ≤ o → FinalSizeError k f
  -- 20.1: a final size below what was received already
  short : f.fin ≡ true → end_of f < k.highest → FinalSizeError k f

-- 19.8: of data that starts at s, the byte for offset o
abbrev pub data_at : ℕ → List ℕ → ℕ → Option ℕ
data_at s [] o = None
data_at s (b ∷ bs) o = cond (eqb s o) (Some b) (data_at (suc s) bs o)

-- 2.2: what comes again for an offset can be thrown away: the first byte stays.
-- (A byte that differs may be taken for a PROTOCOL_VIOLATION; that is a choice, and it is not made here.)
abbrev pub first : Option ℕ → Option ℕ → Option ℕ
first (Some b) new = Some b
first None new = new

abbrev pub is_some : Option ℕ → Bool
is_some None = false
is_some (Some x) = true

-- no more data is recorded. 3.2, 19.4: after a RESET_STREAM what was not taken may be dropped; 19.5: who gave up reading drops what comes
abbrev pub closed : Known → Bool
closed k = k.aborted || is_some k.reset

-- 2.2, 3.2: what is known after a STREAM frame
unfoldable pub stream : Known → Frame → Known
stream k f = record {
  -- 2.2: its bytes, where there is none yet
  byte = λ o. cond (closed k) (k.byte o) (first (k.byte o) (data_at f.from f.bytes o));
  -- 19.10: the largest offset; a frame without data or FIN tells nothing of it
  highest = cond (ltb 0 (length f.bytes) || f.fin) (max k.highest (end_of f)) k.highest;
  -- 3.2, 4.5: FIN makes the final size known
  final = cond f.fin (Some (end_of f)) k.final;
  limit = k.limit;
  delivered = k.delivered;
  reset = k.reset;
  aborted = k.aborted;
}

-- ---- RESET_STREAM frames (19.4): an error code and a final size

-- 4.5: FINAL_SIZE_ERROR
pub data ResetSizeError (k : Known) (size : ℕ) : Type 0 where
  -- another final size than the one known
  reset_changed : (x : ℕ) → k.final ≡ Some x → size ≢ x → ResetSizeError k size
  -- 20.1: one below what was received already
  reset_short : size < k.highest → ResetSizeError k size

-- 4.1, 4.5: FLOW_CONTROL_ERROR: the final size is the credit used up, and it is above the limit
abbrev pub ResetOver : Known → ℕ → Type 0
ResetOver k size = k.limit < size

-- of the bytes, those that the application has taken
abbrev pub taken_only : Known → ℕ → Option ℕ
taken_only k o = cond (ltb o k.delivered) (k.byte o) None

-- 3.2: the first RESET_STREAM may interrupt delivery and drop what was not taken, and here it does; 4.5: it makes the final size known.
-- One that comes later tells nothing new
unfoldable pub reset_stream : Known → ℕ → ℕ → Known
reset_stream k code size = cond (is_some k.reset) k
    (record { byte = taken_only k; highest = size; final = Some size; limit = k.limit; delivered = k.delivered; reset = Some code; aborted = k.aborted })

-- ---- the application, and the limit

-- 2.2: the ordered byte stream: at most n bytes from offset o on, up to the first offset whose byte is not known
abbrev pub more : Option ℕ → List ℕ → List ℕ
more None bs = []
more (Some b) bs = b ∷ bs

abbrev pub ordered : (ℕ → Option ℕ) → ℕ → ℕ → List ℕ
ordered byte o zero = []
ordered byte o (suc n) = more (byte o) (ordered byte (suc o) n)

-- 2.2, 2.4: what an application that reads at most n bytes is handed
abbrev pub available : Known → ℕ → List ℕ
available k n = ordered k.byte k.delivered n

unfoldable pub reading : Known → ℕ → Known
reading k n = record {
  byte = k.byte;
  highest = k.highest;
  final = k.final;
  limit = k.limit;
  delivered = k.delivered + length (available k n);
  reset = k.reset;
  aborted = k.aborted;
}

-- 3.2, "Data Read": with n bytes taken, all is
abbrev pub is_all : Option ℕ → ℕ → Bool
is_all None n = false
is_all (Some x) n = eqb x n

-- 2.4, 19.5: the application gives up reading: what it did not take is dropped
unfoldable pub abort : Known → Known
abort k = record {
  byte = taken_only k;
  highest = k.highest;
  final = k.final;
  limit = k.limit;
  delivered = k.delivered;
  reset = k.reset;
  aborted = true;
}

-- 4.1: a MAX_STREAM_DATA frame is sent; to advertise less than before has no effect
unfoldable pub advertise : Known → ℕ → Known
advertise k v = record {
  byte = k.byte;
  highest = k.highest;
  final = k.final;
  limit = max k.limit v;
  delivered = k.delivered;
  reset = k.reset;
  aborted = k.aborted;
}

-- ---- whole histories

pub data Event : Type 0 where
  stream_frame : Frame → Event
  reset_frame : (code size : ℕ) → Event
  read_up_to : (n : ℕ) → Event
  give_up : Event
  max_stream_data : (v : ℕ) → Event

abbrev pub effect : Known → Event → Known
effect k (stream_frame f) = stream k f
effect k (reset_frame code size) = reset_stream k code size
effect k (read_up_to n) = reading k n
effect k give_up = abort k
effect k (max_stream_data v) = advertise k v

-- what is known after the events, in turn
abbrev pub history : Known → List Event → Known
history k [] = k
history k (e ∷ es) = history (effect k e) es

-- what the application was handed meanwhile
abbrev pub handed_out : Known → List Event → List ℕ
handed_out k [] = []
handed_out k (stream_frame f ∷ es) = handed_out (stream k f) es
handed_out k (reset_frame code size ∷ es) = handed_out (reset_stream k code size) es
handed_out k (read_up_to n ∷ es) = available k n ++ handed_out (reading k n) es
handed_out k (give_up ∷ es) = handed_out (abort k) es
handed_out k (max_stream_data v ∷ es) = handed_out (advertise k v) es

-- the rules that an event breaks. A RESET_STREAM after the first uses up no more credit
abbrev pub Breaks : Known → Event → Type 0
Breaks k (stream_frame f) = TooLarge f ⊎ (FlowControlError k f ⊎ FinalSizeError k f)
Breaks k (reset_frame code size) = ResetSizeError k size ⊎ ((k.reset ≡ None) × ResetOver k size)
Breaks k (read_up_to n) = ⊥
Breaks k give_up = ⊥
Breaks k (max_stream_data v) = ⊥

-- none of the events breaks a rule at the time it comes
abbrev pub Lawful : Known → List Event → Type 0
Lawful k [] = Unit {0}
Lawful k (e ∷ es) = (Breaks k e → ⊥) × Lawful (effect k e) es
