-- A send buffer and a receive buffer, joined by a channel that loses, repeats and reorders frames (RULES 8).
--
--      write     block    emit              deliver              read
--     ------> send buffer -----> frames ~~~~~~~~~~~> receive buffer ----->
--                  ^                  (any, any time,       |
--                  |                  any number of times)  |
--                  +---- ack, ack_drop, lose, raise <--------+ commit, tune
--
-- The state is the two buffers, each with its arena, and beside them a log: bytes accepted for writing, frames emitted and accepted, bytes
-- handed out, limits granted. A schedule is any list of moves. One move is one call of one buffer, and it does to buffer, arena and output
-- exactly what the contract of that call says: `send.written`, `recv.emitted` and the rest are the definitions that the contracts cite, refusals
-- included. So what holds here for every schedule holds of the code, in every program that calls it under the premises. A loop that takes the
-- receiver's window out, has it changed in place and hands it back makes the moves `commit` and `tune` (proofs/Lent.antt).
--
-- A frame is a STREAM frame of RFC 9000: offset, bytes, end mark. The k-th is counted from 0.
use Rattle.std.specs.Prelude.{◌≡◌, Bool, List, [], ◌∷◌, ◌++◌, ℕ, ◌≤◌, ◌<◌, length, take, slice_get, Option, None, Some, Result, Ok, Err, ⊤}
use Rattle.refusal.specs.Rules.{M}
use Rattle.refusal.specs.declared.Refusal.{Refusal}
use Rattle.send_buf.specs.declared.SendBuf.{SendBuf}
use Rattle.send_buf.specs.State.{Send, view_of as send_view}
use Rattle.send_buf.specs.Rules as send
use Rattle.recv_buf.specs.declared.RecvBuf.{RecvBuf}
use Rattle.recv_buf.specs.State.{Recv, view_of as recv_view}
use Rattle.recv_buf.specs.Rules as recv
use Rattle.recv_buf.specs.Rfc9000.{Frame}

-- ---- the state

-- the sender's end: its buffer and arena; all bytes accepted for writing, in order; every frame emitted, the oldest first
pub record SendEnd : Type 0 where
  pub buf : SendBuf
  pub arena : List ℕ
  pub written : List ℕ
  pub frames : List Frame

-- the receiver's end: its buffer and arena; all bytes handed out, in order; every frame accepted, each time it was, the oldest first;
-- its limit at creation, and every limit that it has committed since
pub record RecvEnd : Type 0 where
  pub buf : RecvBuf
  pub arena : List ℕ
  pub out : List ℕ
  pub accepted : List Frame
  pub granted : List ℕ

pub record System : Type 0 where
  pub snd : SendEnd
  pub rcv : RecvEnd

-- what the two buffers hold
abbrev pub sender : SendEnd → Send
sender x = send_view x.buf

abbrev pub receiver : RecvEnd → Recv
receiver x = recv_view x.buf

-- ---- creation

-- what the two buffers are created with: limits, maximum window, the arenas' lengths, and the arenas that they are then used with
pub record Setup : Type 0 where
  pub send_limit : ℕ
  pub send_room : ℕ
  pub send_arena : List ℕ
  pub recv_limit : ℕ
  pub max_window : ℕ
  pub recv_room : ℕ
  pub recv_arena : List ℕ

unfoldable pub fresh : Setup → System
fresh u = record {
  snd = record { buf = (send.created u.send_limit u.send_room).state; arena = u.send_arena; written = []; frames = [] };
  rcv = record {
    buf = (recv.created u.recv_limit u.max_window u.recv_room).state;
    arena = u.recv_arena;
    out = [];
    accepted = [];
    granted = u.recv_limit ∷ [];
  };
}

-- the premises: neither creation is refused, each arena has the length that its buffer was created for and may hold anything, the sender's
-- limit is at most the receiver's, and the receiver's at most its maximum window
pub record Premises (u : Setup) : Type 0 where
  pub send_room_some : 0 < u.send_room
  pub send_room_in : u.send_room ≤ 65536
  pub send_arena_is : length u.send_arena ≡ u.send_room
  pub recv_room_some : 0 < u.recv_room
  pub recv_room_in : u.recv_room ≤ 65536
  pub recv_arena_is : length u.recv_arena ≡ u.recv_room
  pub starting : u.send_limit ≤ u.recv_limit
  pub in_window : u.recv_limit ≤ u.max_window
  pub window_in : u.max_window ≤ M

-- ---- the moves

pub data Move : Type 0 where
  write : (input : List ℕ) (fin : Bool) → Move  -- the writer writes these bytes, perhaps none, marked as the end or not
  emit : (out : List ℕ) → Move  -- the sender emits a frame into this output; its length is the room, perhaps none
  deliver : (k : ℕ) → Move  -- the channel delivers the k-th frame ever emitted: any, at any time, any number of times, or never
  read : (out : List ℕ) → Move  -- the reader takes bytes into this output; its length is the room, perhaps none
  commit : (now : ℕ) → Move  -- the receiver commits its next limit, at this time
  tune : (now rtt : ℕ) → Move  -- the receiver autotunes its window, at this time
  raise : (k : ℕ) → Move  -- the sender's limit is raised to the k-th limit granted
  block : (at : Option ℕ) → Move  -- the sender records where it is blocked, or that it is not
  ack : (k : ℕ) → Move  -- the k-th frame accepted is acked
  ack_drop : (k : ℕ) → Move  -- the same, and what is acked so far is dropped
  lose : (k : ℕ) → Move  -- the k-th frame ever emitted is reported lost

-- how many bytes an answer says were accepted, or handed out
abbrev pub count_of : Result ℕ Refusal → ℕ
count_of (Ok n) = n
count_of (Err why) = 0

abbrev pub bytes_of : Result (ℕ × Bool) Refusal → ℕ
bytes_of (Ok (n, fin)) = n
bytes_of (Err why) = 0

-- ---- what a move does to the sender's end

abbrev pub with_send : SendEnd → SendBuf → SendEnd
with_send x b = record x { buf = b }

-- as many bytes as the answer says were accepted for writing
unfoldable pub writes : SendEnd → List ℕ → Bool → SendEnd
writes x input fin =
    let w = send.written (sender x) (length x.arena) (length input) fin in record x {
      buf = w.state;
      arena = send.written_arena (sender x) x.arena input fin;
      written = x.written ++ take (count_of w.answer) input;
    }

-- a frame is what emit gave, at the front offset before the call
abbrev pub frame_of : ℕ → List ℕ → Result (ℕ × Bool) Refusal → List Frame
frame_of front out (Ok (n, fin)) = record { from = front; bytes = take n out; fin = fin } ∷ []
frame_of front out (Err why) = []

unfoldable pub emits : SendEnd → List ℕ → SendEnd
emits x out =
    let e = send.emitted (sender x) (length x.arena) (length out) in record x {
      buf = e.state;
      frames = x.frames ++ frame_of (send.front (sender x)) (send.emitted_out (sender x) x.arena out) e.answer;
    }

unfoldable pub raises : SendEnd → ℕ → SendEnd
raises x limit = with_send x (send.raised (sender x) limit).state

-- any offset, or none: it need not be the limit
unfoldable pub blocks : SendEnd → Option ℕ → SendEnd
blocks x at = with_send x (send.blocked_with (sender x) at)

unfoldable pub acks : SendEnd → Frame → SendEnd
acks x f = with_send x (send.acks (sender x) f.from (length f.bytes)).state

unfoldable pub ack_drops : SendEnd → Frame → SendEnd
ack_drops x f = with_send x (send.ack_drops (sender x) f.from (length f.bytes)).state

unfoldable pub loses : SendEnd → Frame → SendEnd
loses x f = with_send x (send.retransmits (sender x) f.from (length f.bytes)).state

-- ---- what a move does to the receiver's end

-- a refused frame counts as lost
abbrev pub accepted_by : Result ⊤ Refusal → Frame → List Frame
accepted_by (Ok done) f = f ∷ []
accepted_by (Err why) f = []

unfoldable pub takes : RecvEnd → Frame → RecvEnd
takes x f =
    let w = recv.written (receiver x) (length x.arena) f.from (length f.bytes) f.fin in record x {
      buf = w.state;
      arena = recv.written_arena (receiver x) x.arena f.from f.bytes f.fin;
      accepted = x.accepted ++ accepted_by w.answer f;
    }

-- of the output, as many bytes were handed out as the answer says
unfoldable pub reads : RecvEnd → List ℕ → RecvEnd
reads x out =
    let e = recv.emitted (receiver x) (length x.arena) (length out) in record x {
      buf = e.state;
      out = x.out ++ take (bytes_of e.answer) (recv.emitted_out (receiver x) x.arena out);
    }

-- the limit then in force is granted
unfoldable pub commits : RecvEnd → ℕ → RecvEnd
commits x now =
    let b = recv.commits (receiver x) now in record x {
      buf = b;
      granted = x.granted ++ b.flow_control.max_data ∷ [];
    }

unfoldable pub tunes : RecvEnd → ℕ → ℕ → RecvEnd
tunes x now rtt = record x { buf = recv.autotunes (receiver x) now rtt }

-- ---- one move, and a schedule

abbrev pub on_send : System → SendEnd → System
on_send y x = record y { snd = x }

abbrev pub on_recv : System → RecvEnd → System
on_recv y x = record y { rcv = x }

-- a move that names a frame or a limit that is not there does nothing
abbrev pub named : {A : Type 0} → Option A → (A → System) → System → System
named None f y = y
named (Some a) f y = f a

abbrev pub step : System → Move → System
step y (write input fin) = on_send y (writes y.snd input fin)
step y (emit out) = on_send y (emits y.snd out)
step y (deliver k) = named (slice_get y.snd.frames k) (λ f. on_recv y (takes y.rcv f)) y
step y (read out) = on_recv y (reads y.rcv out)
step y (commit now) = on_recv y (commits y.rcv now)
step y (tune now rtt) = on_recv y (tunes y.rcv now rtt)
step y (raise k) = named (slice_get y.rcv.granted k) (λ limit. on_send y (raises y.snd limit)) y
step y (block at) = on_send y (blocks y.snd at)
step y (ack k) = named (slice_get y.rcv.accepted k) (λ f. on_send y (acks y.snd f)) y
step y (ack_drop k) = named (slice_get y.rcv.accepted k) (λ f. on_send y (ack_drops y.snd f)) y
step y (lose k) = named (slice_get y.snd.frames k) (λ f. on_send y (loses y.snd f)) y

abbrev pub run : System → List Move → System
run y [] = y
run y (m ∷ ms) = run (step y m) ms
