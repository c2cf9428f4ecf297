-- The invariant of the joined system: it holds of two fresh buffers, and every move keeps it. Assumes nothing.
use Rattle.std.specs.Prelude.{slice_get, Option, None, Some, ⊤}
use mathlib.Core.Path.{◌≡◌, refl, sym, ap, subst, ◌∙◌}
use mathlib.Core.Bool.{false}
use mathlib.Core.List.{List, [], ◌∷◌}
use Prim.Native.Nat.{ℕ, ◌≤◌}
use native.Mathlib.Omega.{arith}
use borrow.Author.Tests.{ne_eqb, le-ltb}
use Rattle.refusal.specs.Rules.{M}
use Rattle.refusal.specs.declared.Outcome.{Outcome}
use Rattle.send_buf.specs.declared.SendBuf.{SendBuf}
use Rattle.send_buf.specs.State.{Send, buf_of as send_buf_of}
use Rattle.send_buf.specs.Rules as send
use Rattle.send_buf.proofs.Views.{view_of_lem}
use Rattle.recv_buf.specs.declared.RecvBuf.{RecvBuf}
use Rattle.recv_buf.specs.State.{Recv, buf_of as recv_buf_of}
use Rattle.recv_buf.specs.Rules as recv
use Rattle.recv_buf.proofs.Good.{view_buf}
use Rattle.channel.specs.System.{SendEnd, RecvEnd, System, sender, receiver, Setup, fresh, Premises, Move, write, emit, deliver, read, commit, tune, raise, block, ack, ack_drop, lose, on_send, on_recv, named, step, run}
use Rattle.channel.proofs.Lists.{all_at}
use Rattle.channel.proofs.SendSide.{Carries, new_carries, Honest, SendInv, SendStep, writes_step, emits_step, raises_step, blocks_step, acks_step, ack_drops_step, loses_step}
use Rattle.channel.proofs.RecvSide.{Has, new_follows, RecvInv, RecvStep, more_inv, takes_step, reads_step, commits_step, tunes_step}
use Rattle.tables.proofs.Tests.{undecided}

pub record Inv (y : System) : Type 0 where
  pub send_inv : SendInv y.snd
  pub recv_inv : RecvInv y.snd.written (sender y.snd).fin y.rcv
  -- the sender's limit is within the receiver's
  pub credit : (sender y.snd).limit ≤ (receiver y.rcv).flow.max_data

-- ---- two fresh buffers

module _ (u : Setup) (p : Premises u) where
  sends : (send.created u.send_limit u.send_room).state ≡ send_buf_of (send.new_send u.send_room u.send_limit)
  unfolding send.created
  sends =
      let z : u.send_room ≡ 0 → ⊥ = λ e. omega (arith, p.send_room_some) in
      let t : send.bad_numbers u.send_limit u.send_room ≡ false =
      rw (ne_eqb u.send_room 0 z, le-ltb 65536 u.send_room p.send_room_in, le-ltb M u.send_limit (omega (arith, p.starting, p.in_window, p.window_in))) in
      ap (λ (o : Outcome ⊤ SendBuf). o.state) (undecided t _ _)

  receives : (recv.created u.recv_limit u.max_window u.recv_room).state ≡ recv_buf_of (recv.new_recv u.recv_room u.recv_limit u.max_window)
  unfolding recv.created
  receives =
      let z : u.recv_room ≡ 0 → ⊥ = λ e. omega (arith, p.recv_room_some) in
      let t : recv.bad_numbers u.recv_limit u.max_window u.recv_room ≡ false =
      rw (
        ne_eqb u.recv_room 0 z,
        le-ltb 65536 u.recv_room p.recv_room_in,
        le-ltb M u.recv_limit (omega (arith, p.in_window, p.window_in)),
        le-ltb M u.max_window p.window_in,
      ) in
      ap (λ (o : Outcome ⊤ RecvBuf). o.state) (undecided t _ _)

  pub sender_is : sender (fresh u).snd ≡ send.new_send u.send_room u.send_limit
  unfolding fresh
  sender_is = ap (λ b. sender (record { buf = b; arena = []; written = []; frames = [] })) sends ∙ view_of_lem (send.new_send u.send_room u.send_limit)

  pub receiver_is : receiver (fresh u).rcv ≡ recv.new_recv u.recv_room u.recv_limit u.max_window
  unfolding fresh
  receiver_is =
      ap (λ b. receiver (record { buf = b; arena = []; out = []; accepted = []; granted = [] })) receives
      ∙ view_buf (recv.new_recv u.recv_room u.recv_limit u.max_window)

  pub inv_fresh : Inv (fresh u)
  unfolding fresh
  inv_fresh = record {
    send_inv = record {
      carries = subst (λ (s : Send). Carries [] s u.send_arena) (sym sender_is)
          (new_carries u.send_room u.send_limit u.send_arena p.send_room_some p.send_room_in p.send_arena_is (omega (arith, p.starting, p.in_window, p.window_in)));
      honest = tt;
    };
    recv_inv = subst (λ f. Has [] f (receiver (fresh u).rcv) u.recv_arena [] [] (u.recv_limit ∷ [])) (sym (ap (λ (s : Send). s.fin) sender_is))
        (subst (λ (r : Recv). Has [] None r u.recv_arena [] [] (u.recv_limit ∷ [])) (sym receiver_is) (record {
          follows = new_follows u.recv_room u.recv_limit u.max_window u.recv_arena p.recv_room_some p.recv_room_in p.recv_arena_is p.in_window p.window_in;
          prefix = refl;
          grants = (omega arith, tt);
          covered = tt;
          marks = tt;
        }));
    credit = omega (arith, ap (λ (s : Send). s.limit) sender_is, ap (λ (r : Recv). r.flow.max_data) receiver_is, p.starting);
  }

-- ---- a move at either end

inv_send : (y : System) → Inv y → (v : ℕ) (z : SendEnd) → v ≤ (receiver y.rcv).flow.max_data → SendStep v y.snd z → Inv (on_send y z)
inv_send y i v z cap g = record {
  send_inv = record { carries = g.carries; honest = g.honest };
  recv_inv = subst (λ (W : List ℕ). RecvInv W (sender z).fin y.rcv) (sym g.grown) (more_inv y.snd.written g.more (sender y.snd).fin (sender z).fin y.rcv g.fin_stays i.recv_inv);
  credit = omega (arith, g.limit, i.credit);
}

inv_recv : (y : System) → Inv y → (z : RecvEnd) → RecvStep y.snd.written (sender y.snd).fin y.rcv z → Inv (on_recv y z)
inv_recv y i z g = record { send_inv = i.send_inv; recv_inv = g.0; credit = omega (arith, i.credit, g.1) }

-- a move that names what is not there does nothing
pub named_elim : {B : Type 0} (P : System → Type 0) (o : Option B) (f : B → System) (y : System) → ((b : B) → o ≡ Some b → P (f b)) → P y → P (named o f y)
named_elim P None f y h k = k
named_elim P (Some b) f y h k = h b refl

pub inv_step : (y : System) (m : Move) → Inv y → Inv (step y m)
inv_step y (write input fin) i = inv_send y i 0 _ (omega arith) (writes_step y.snd i.send_inv input fin)
inv_step y (emit out) i = inv_send y i 0 _ (omega arith) (emits_step y.snd i.send_inv out)
inv_step y (deliver k) i =
    named_elim Inv (slice_get y.snd.frames k) _ y
    (λ f e. inv_recv y i _ (takes_step y.snd.written (sender y.snd).fin y.rcv i.recv_inv f (all_at (Honest y.snd.written (sender y.snd).fin) y.snd.frames k f e i.send_inv.honest)))
    i
inv_step y (read out) i = inv_recv y i _ (reads_step y.snd.written (sender y.snd).fin y.rcv i.recv_inv out)
inv_step y (commit now) i = inv_recv y i _ (commits_step y.snd.written (sender y.snd).fin y.rcv i.recv_inv now)
inv_step y (tune now rtt) i = inv_recv y i _ (tunes_step y.snd.written (sender y.snd).fin y.rcv i.recv_inv now rtt)
inv_step y (raise k) i =
    named_elim Inv (slice_get y.rcv.granted k) _ y
    (λ v e. inv_send y i v _ (all_at (λ (x : ℕ). x ≤ (receiver y.rcv).flow.max_data) y.rcv.granted k v e i.recv_inv.grants) (raises_step y.snd i.send_inv v))
    i
inv_step y (block at) i = inv_send y i 0 _ (omega arith) (blocks_step y.snd i.send_inv at)
inv_step y (ack k) i = named_elim Inv (slice_get y.rcv.accepted k) _ y (λ f e. inv_send y i 0 _ (omega arith) (acks_step y.snd i.send_inv f)) i
inv_step y (ack_drop k) i = named_elim Inv (slice_get y.rcv.accepted k) _ y (λ f e. inv_send y i 0 _ (omega arith) (ack_drops_step y.snd i.send_inv f)) i
inv_step y (lose k) i = named_elim Inv (slice_get y.snd.frames k) _ y (λ f e. inv_send y i 0 _ (omega arith) (loses_step y.snd i.send_inv f)) i

pub inv_run : (y : System) (ms : List Move) → Inv y → Inv (run y ms)
inv_run y [] i = i
inv_run y (m ∷ ms) i = inv_run (step y m) ms (inv_step y m i)
