-- The premises of demand 3 are needed. For each of them (RULES 8) a computed schedule keeps all the others and breaks something that demand 3
-- promises. The two that the proof does not use stand at the end. Assumes nothing.
use Rattle.std.specs.Prelude.{Ok, Err}
use mathlib.Core.Path.{◌≡◌, refl}
use mathlib.Core.Bool.{true, false}
use mathlib.Core.List.{List, [], ◌∷◌, ◌++◌}
use Prim.Native.Nat.{ℕ, ◌^◌}
use lib.ListN.{replicate}
use Rattle.refusal.specs.declared.Refusal.TheVariants.{FlowControl as OverLimit, NoRoom, BadSetup, NeverSent, Done as NothingReady}
use Rattle.arena.specs.Rules.{kept, held}
use Rattle.flowcontrol.specs.Rules as flow
use Rattle.send_buf.specs.State.{buf_of as send_buf_of}
use Rattle.send_buf.specs.Rules as send
use Rattle.recv_buf.specs.State.{buf_of as recv_buf_of}
use Rattle.recv_buf.specs.Rules as recv
use Rattle.recv_buf.specs.Rfc9000.{Frame}
use Rattle.channel.specs.System.{SendEnd, RecvEnd, System, sender, receiver, fresh, Move, write, emit, deliver, read, commit, lose, writes, emits, raises, acks, ack_drops, loses, takes, reads, commits, tunes, on_send, on_recv, run}
use Rattle.channel.specs.Demand3.{on_delivery, on_read, drain, to_drain}
use Rattle.channel.proofs.Runs.{is_finished, setup, room}

-- ---- three bytes, marked, in one frame

abbrev ab : List ℕ
ab = 97 ∷ 98 ∷ 99 ∷ []

abbrev three : List Move
three = write ab true ∷ emit (room 3) ∷ []

abbrev frame : Frame
frame = record { from = 0; bytes = ab; fin = true }

-- both arenas of 8 bytes, both limits 8, a window of up to 64: the premises hold
abbrev sent : System
sent = run (fresh (setup 8 8 8 64 8)) three

-- ---- what breaks the premises

-- the sender's limit 8, the receiver's 2; a maximum window of 2
abbrev low_limit : System
low_limit = run (fresh (setup 8 8 2 64 8)) three

abbrev low_window : System
low_window = run (fresh (setup 8 8 8 2 8)) (three ++ commit 0 ∷ [])

-- a receive buffer created with this maximum window for an arena of B bytes, and used with the arena ar
abbrev with_arena : ℕ → ℕ → List ℕ → RecvEnd
with_arena maximum B ar =
    (run (fresh (record { send_limit = 8; send_room = 8; send_arena = replicate 8 0; recv_limit = 8; max_window = maximum; recv_room = B; recv_arena = ar })) three).rcv

-- a send buffer used with another arena than it was created for
abbrev idle : SendEnd
idle = (run (fresh (record { send_limit = 8; send_room = 8; send_arena = replicate 7 0; recv_limit = 8; max_window = 64; recv_room = 8; recv_arena = replicate 8 0 })) three).snd

-- an arena that someone clears between two calls
abbrev send_cleared : SendEnd → SendEnd
send_cleared x = record x { arena = replicate 8 0 }

abbrev recv_cleared : RecvEnd → RecvEnd
recv_cleared x = record x { arena = replicate 8 0 }

abbrev written : System
written = run (fresh (setup 8 8 8 64 8)) (write ab true ∷ [])

-- a foreign window handed back in place of the receiver's
abbrev other_window : RecvEnd → RecvEnd
other_window x = record x { buf = recv.flow_back (receiver x) (flow.fresh 2 2 64) }

-- a finished stream, read nine times with no room
abbrev came : System
came = run sent (deliver 0 ∷ [])

abbrev no_room : System
no_room = run came (drain (replicate 9 []))

-- the sender's limit raised from 2 to 8, which the receiver has not committed
abbrev over_raised : System
over_raised = let y = fresh (setup 2 8 2 64 8) in run (on_send y (raises y.snd 8)) three

-- what comes out if a frame f is delivered that emit did not give
abbrev given : Frame → List ℕ
given f = (run (on_recv sent (takes sent.rcv f)) (read (room 9) ∷ [])).rcv.out

-- a receive buffer of 2 places refuses the frame, and it is counted as accepted
abbrev pretended : System
pretended =
    let y = run (fresh (setup 8 8 8 64 2)) (three ++ deliver 0 ∷ []) in
    on_recv y (record y.rcv { accepted = frame ∷ [] })

-- ---- what becomes of demand 3

pub record Needed : Type 0 where
  -- with all premises, the frame is accepted
  pub lawful : (sent.snd.frames ≡ frame ∷ []) × (on_delivery sent.rcv frame ≡ Ok tt)
  -- the sender's starting limit is at most the receiver's: else an honest frame is over the limit
  pub starting : (low_limit.snd.frames ≡ frame ∷ []) × (on_delivery low_limit.rcv frame ≡ Err OverLimit)
  -- the receiver's starting limit is at most its maximum window: else the first commit takes the limit from 8 to 2, under a frame on its way
  pub in_window : (low_window.snd.frames ≡ frame ∷ []) × (on_delivery low_window.rcv frame ≡ Err OverLimit)
  -- the receive buffer's creation is not refused, and its arena is the one it was created for: else every frame is refused. (A send buffer
  -- so misused breaks nothing: it accepts no byte and emits no frame)
  pub other_arena_lem : on_delivery (with_arena 64 8 (replicate 7 0)) frame ≡ Err BadSetup
  pub no_arena : on_delivery (with_arena 64 0 []) frame ≡ Err BadSetup
  pub large_arena : on_delivery (with_arena 64 65537 (replicate 9 0)) frame ≡ Err BadSetup
  pub large_window : on_delivery (with_arena (2 ^ 62) 8 (replicate 8 0)) frame ≡ Err BadSetup
  pub idle_sender : (idle.written ≡ []) × (idle.frames ≡ [])
  -- each buffer has an arena to itself, changed only by that buffer's calls: else other bytes come out
  pub own_send_arena : (run (on_send written (send_cleared written.snd)) (emit (room 3) ∷ deliver 0 ∷ read (room 3) ∷ [])).rcv.out ≡ 0 ∷ 0 ∷ 0 ∷ []
  pub own_recv_arena : (run (on_recv came (recv_cleared came.rcv)) (read (room 3) ∷ [])).rcv.out ≡ 0 ∷ 0 ∷ 0 ∷ []
  -- the receiver's window changes only by its buffer's calls, by commits and by autotuning: else an honest frame is over the limit
  pub own_window : on_delivery (other_window sent.rcv) frame ≡ Err OverLimit
  -- draining is receive emits, each with room for at least one byte: else nothing comes, in more reads than there are bytes and chunks
  pub some_room : (is_finished came ≡ true) × (to_drain came ≡ 4) × (no_room.rcv.out ≡ []) × (on_read no_room.rcv [] ≡ Ok (0, false))
  -- the sender's limit is raised only to limits that the receiver's window has committed: else the sender emits what is over the limit
  pub committed : (over_raised.snd.frames ≡ frame ∷ []) × (on_delivery over_raised.rcv frame ≡ Err OverLimit)
  -- frames are what emit gave, at the front offset before it: with other bytes, or at another offset, other bytes come out
  pub own_bytes : given (record { from = 0; bytes = 97 ∷ 98 ∷ 98 ∷ []; fin = true }) ≡ 97 ∷ 98 ∷ 98 ∷ []
  pub own_offset : given (record { from = 0; bytes = 98 ∷ 99 ∷ []; fin = true }) ≡ 98 ∷ 99 ∷ []
  -- a refused frame counts as lost: else the stream counts as finished, and the reader is told Done with nothing read
  pub refused_lost : (on_delivery pretended.rcv frame ≡ Err NoRoom) × (is_finished pretended ≡ true)
      × (on_read pretended.rcv (room 1) ≡ Err NothingReady) × (pretended.rcv.out ≡ [])
  -- ack calls name accepted frames: the proof does not use it. But an ack of a frame that was not accepted takes its bytes away for good:
  -- after the loss report there is nothing to send again but the mark, and the stream is never finished
  pub wrong_ack : (run (on_send sent (ack_drops sent.snd frame)) (lose 0 ∷ emit (room 9) ∷ [])).snd.frames ≡ frame ∷ record { from = 3; bytes = []; fin = true } ∷ []
  -- loss calls name any emitted frame: the proof does not use it, since what was never emitted is refused
  pub wrong_loss : send.loss_judged (sender written.snd) 0 3 ≡ Err NeverSent

pub needed : Needed
unfolding fresh writes emits raises acks ack_drops loses takes reads commits tunes send_buf_of recv_buf_of kept held send.created send.write_judged send.wrote send.written send.written_arena send.sent send.emitted send.emitted_out send.ack_judged send.acked_more send.acks send.ack_drops send.loss_judged send.lost send.retransmits send.raised recv.created recv.write_judged recv.wrote recv.written recv.written_arena recv.take_judged recv.took_out recv.discarded recv.emitted recv.emitted_out recv.commits recv.autotunes recv.flow_back
needed = record {
  lawful = (refl, refl);
  starting = (refl, refl);
  in_window = (refl, refl);
  other_arena_lem = refl;
  no_arena = refl;
  large_arena = refl;
  large_window = refl;
  idle_sender = (refl, refl);
  own_send_arena = refl;
  own_recv_arena = refl;
  own_window = refl;
  some_room = (refl, refl, refl, refl);
  committed = (refl, refl);
  own_bytes = refl;
  own_offset = refl;
  refused_lost = (refl, refl, refl, refl);
  wrong_ack = refl;
  wrong_loss = refl;
}
