-- The buffers that came from creation or a call, refused or not: each is good, so what is proved of good buffers holds after any sequence of
-- calls. Assumes nothing.
use Rattle.std.specs.Prelude.{Option}
use mathlib.Core.Path.{◌≡◌}
use mathlib.Core.Bool.{Bool}
use Prim.Native.Nat.{ℕ, ◌+◌, ◌/◌, ◌≤◌, ◌<◌}
use Rattle.send_buf.specs.declared.SendBuf.{SendBuf}
use Rattle.send_buf.specs.State.{view_of, Good}
use Rattle.send_buf.specs.Rules.{created, written, emitted, acks, ack_drops, retransmits, resets, stops, shuts, raised, blocked_with}
use Rattle.send_buf.proofs.Kept.{created_good, written_good, emitted_good, acks_good, ack_drops_good, retransmits_good, resets_good, stops_good, shuts_good, raised_limit_good, blocked_at_good}
use Rattle.send_buf.proofs.Emits.{groups, emits, all_out}

pub data Reached : SendBuf → Type 0 where
  new : (limit A : ℕ) → Reached (created limit A).state
  write : (b : SendBuf) (a n : ℕ) (fin : Bool) → Reached b → Reached (written (view_of b) a n fin).state
  emit : (b : SendBuf) (a n : ℕ) → Reached b → Reached (emitted (view_of b) a n).state
  ack : (b : SendBuf) (a n : ℕ) → Reached b → Reached (acks (view_of b) a n).state
  ack_and_drop_lem : (b : SendBuf) (a n : ℕ) → Reached b → Reached (ack_drops (view_of b) a n).state
  retransmit : (b : SendBuf) (a n : ℕ) → Reached b → Reached (retransmits (view_of b) a n).state
  reset : (b : SendBuf) → Reached b → Reached (resets (view_of b)).state
  stop : (b : SendBuf) (code : ℕ) → Reached b → Reached (stops (view_of b) code).state
  shutdown : (b : SendBuf) → Reached b → Reached (shuts (view_of b)).state
  update_max_data_lem : (b : SendBuf) (limit : ℕ) → Reached b → Reached (raised (view_of b) limit).state
  update_blocked_at_lem : (b : SendBuf) (blocked : Option ℕ) → Reached b → Reached (blocked_with (view_of b) blocked)

pub reached_good : (b : SendBuf) → Reached b → Good b
reached_good _ (new limit A) = created_good limit A
reached_good _ (write b a n fin r) = written_good (view_of b) (reached_good b r).facts a n fin
reached_good _ (emit b a n r) = emitted_good (view_of b) (reached_good b r).facts a n
reached_good _ (ack b a n r) = acks_good (view_of b) (reached_good b r).facts a n
reached_good _ (ack_and_drop_lem b a n r) = ack_drops_good (view_of b) (reached_good b r).facts a n
reached_good _ (retransmit b a n r) = retransmits_good (view_of b) (reached_good b r).facts a n
reached_good _ (reset b r) = resets_good (view_of b) (reached_good b r).facts
reached_good _ (stop b code r) = stops_good (view_of b) (reached_good b r).facts code
reached_good _ (shutdown b r) = shuts_good (view_of b) (reached_good b r).facts
reached_good _ (update_max_data_lem b limit r) = raised_limit_good (view_of b) (reached_good b r).facts limit
reached_good _ (update_blocked_at_lem b blocked r) = blocked_at_good (view_of b) (reached_good b r).facts blocked

-- so over any sequence of calls from a new buffer, resets and stops included, at most b / r + g emits leave nothing to send
module _ (b : SendBuf) (r : Reached b) where
  pub out_reached : (room m : ℕ) → 0 < room → b.buffered_bytes / room + groups (view_of b).chunks ≤ m → (emits m room (view_of b)).buffered ≡ 0
  out_reached room m h l = all_out (view_of b) room m (reached_good b r).facts h l
