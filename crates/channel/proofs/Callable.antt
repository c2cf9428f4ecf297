-- In every schedule each call finds its buffer in a state that its contract accepts: both buffers are good at creation, even a refused one, and
-- every move keeps them good. Assumes nothing.
use Rattle.std.specs.Prelude.{slice_get, Option, None, Some}
use mathlib.Core.List.{List, [], ◌∷◌}
use lib.ListN.{length}
use Rattle.send_buf.specs.State.{Good as GoodSendBuf}
use Rattle.send_buf.proofs.Kept as send_kept
use Rattle.recv_buf.specs.State.{Good as GoodRecvBuf}
use Rattle.recv_buf.proofs.Kept as recv_kept
use Rattle.channel.specs.System.{System, sender, receiver, fresh, Move, write, emit, deliver, read, commit, tune, raise, block, ack, ack_drop, lose, writes, emits, raises, blocks, acks, ack_drops, loses, takes, reads, commits, tunes, named, step, run}
use Rattle.channel.specs.Demand3.{Callable}

abbrev Both : System → Type 0
Both y = GoodSendBuf y.snd.buf × GoodRecvBuf y.rcv.buf

both_named : {A : Type 0} (o : Option A) (f : A → System) (y : System) → Both y → ((a : A) → Both (f a)) → Both (named o f y)
both_named None f y g h = g
both_named (Some a) f y g h = h a

both_step : (y : System) (m : Move) → Both y → Both (step y m)
unfolding writes emits raises blocks acks ack_drops loses takes reads commits tunes
both_step y (write input fin) g = (send_kept.written_good (sender y.snd) g.0.facts (length y.snd.arena) (length input) fin, g.1)
both_step y (emit out) g = (send_kept.emitted_good (sender y.snd) g.0.facts (length y.snd.arena) (length out), g.1)
both_step y (deliver k) g =
    both_named (slice_get y.snd.frames k) _ y g
    (λ f. (g.0, recv_kept.written_good (receiver y.rcv) g.1.facts (length y.rcv.arena) f.from (length f.bytes) f.fin))
both_step y (read out) g = (g.0, recv_kept.emitted_good (receiver y.rcv) g.1.facts (length y.rcv.arena) (length out))
both_step y (commit now) g = (g.0, recv_kept.commits_good (receiver y.rcv) g.1.facts now)
both_step y (tune now rtt) g = (g.0, recv_kept.autotunes_good (receiver y.rcv) g.1.facts now rtt)
both_step y (raise k) g = both_named (slice_get y.rcv.granted k) _ y g (λ v. (send_kept.raised_limit_good (sender y.snd) g.0.facts v, g.1))
both_step y (block at) g = (send_kept.blocked_at_good (sender y.snd) g.0.facts at, g.1)
both_step y (ack k) g = both_named (slice_get y.rcv.accepted k) _ y g (λ f. (send_kept.acks_good (sender y.snd) g.0.facts f.from (length f.bytes), g.1))
both_step y (ack_drop k) g = both_named (slice_get y.rcv.accepted k) _ y g (λ f. (send_kept.ack_drops_good (sender y.snd) g.0.facts f.from (length f.bytes), g.1))
both_step y (lose k) g = both_named (slice_get y.snd.frames k) _ y g (λ f. (send_kept.retransmits_good (sender y.snd) g.0.facts f.from (length f.bytes), g.1))

both_run : (y : System) (ms : List Move) → Both y → Both (run y ms)
both_run y [] g = g
both_run y (m ∷ ms) g = both_run (step y m) ms (both_step y m g)

pub callable : Callable
unfolding fresh
callable u ms = both_run (fresh u) ms (send_kept.created_good u.send_limit u.send_room, recv_kept.created_good u.recv_limit u.max_window u.recv_room)
