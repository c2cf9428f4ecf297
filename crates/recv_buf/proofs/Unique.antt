-- No second answer, buffer, arena or output satisfies a contract: each contract of the receive buffer is an equation for all that the call gives back.
-- b is the buffer that goes into the call. Assumes nothing.
use Rattle.std.specs.Prelude.{⊤}
use mathlib.Core.Path.{◌≡◌, sym, ap, ◌∙◌}
use mathlib.Core.Bool.{Bool}
use mathlib.Core.List.{List}
use Prim.Native.Nat.{ℕ}
use lib.ListN.{length}
use Rattle.tables.proofs.Tables.{no_second}
use Rattle.refusal.specs.declared.Outcome.{Outcome}
use Rattle.refusal.specs.Rules.{is_at}
use Rattle.flowcontrol.specs.declared.FlowControl.{FlowControl}
use Rattle.flowcontrol.specs.Rules.{next}
use Rattle.recv_buf.specs.declared.RecvBuf.{RecvBuf}
use Rattle.recv_buf.specs.State.{view_of, buf_of, Good}
use Rattle.recv_buf.specs.Rules.{created, written, written_arena, emitted, emitted_out, discarded, resets, shuts, commits, autotunes, flow_back, almost_full, is_ready, readable}
use Rattle.recv_buf.specs.Check.{good_by}

-- a good buffer is determined by what it holds
pub same : (b c : RecvBuf) → Good b → Good c → view_of b ≡ view_of c → b ≡ c
same b c g h e = g.whole ∙ ap buf_of e ∙ sym h.whole

-- `new`
pub new_unique : (limit maximum A : ℕ) (p q : Outcome ⊤ RecvBuf) → p ≡ created limit maximum A → q ≡ created limit maximum A → p ≡ q
new_unique limit maximum A p q = no_second p q

module _ (b : RecvBuf) where
  -- ---- the calls that change something

  -- `write`: the outcome, and the arena
  pub write_unique : (ar : List ℕ) (s : ℕ) (bytes : List ℕ) (fin : Bool) (p q : Outcome ⊤ RecvBuf) (x y : List ℕ)
      → p ≡ written (view_of b) (length ar) s (length bytes) fin → x ≡ written_arena (view_of b) ar s bytes fin
      → q ≡ written (view_of b) (length ar) s (length bytes) fin → y ≡ written_arena (view_of b) ar s bytes fin
      → (p ≡ q) × (x ≡ y)
  write_unique ar s bytes fin p q x y d e f g = (no_second p q d f, no_second x y e g)

  -- `emit`: the outcome, and the output
  pub emit_unique : (ar out : List ℕ) (p q : Outcome (ℕ × Bool) RecvBuf) (x y : List ℕ)
      → p ≡ emitted (view_of b) (length ar) (length out) → x ≡ emitted_out (view_of b) ar out
      → q ≡ emitted (view_of b) (length ar) (length out) → y ≡ emitted_out (view_of b) ar out
      → (p ≡ q) × (x ≡ y)
  emit_unique ar out p q x y d e f g = (no_second p q d f, no_second x y e g)

  -- `discard`
  pub discard_unique : (n : ℕ) (p q : Outcome (ℕ × Bool) RecvBuf) → p ≡ discarded (view_of b) n → q ≡ discarded (view_of b) n → p ≡ q
  discard_unique n p q = no_second p q

  -- `reset`
  pub reset_unique : (code size : ℕ) (p q : Outcome (ℕ × ℕ) RecvBuf) → p ≡ resets (view_of b) code size → q ≡ resets (view_of b) code size → p ≡ q
  reset_unique code size p q = no_second p q

  -- `shutdown`
  pub shutdown_unique : (p q : Outcome ℕ RecvBuf) → p ≡ shuts (view_of b) → q ≡ shuts (view_of b) → p ≡ q
  shutdown_unique p q = no_second p q

  -- `update_max_data`, `autotune_window`, `set_flow_control`
  pub update_max_data_unique : (now : ℕ) (p q : RecvBuf) → p ≡ commits (view_of b) now → q ≡ commits (view_of b) now → p ≡ q
  update_max_data_unique now p q = no_second p q

  pub autotune_window_unique : (now rtt : ℕ) (p q : RecvBuf) → p ≡ autotunes (view_of b) now rtt → q ≡ autotunes (view_of b) now rtt → p ≡ q
  autotune_window_unique now rtt p q = no_second p q

  pub set_flow_control_unique : (w : FlowControl) (p q : RecvBuf) → p ≡ flow_back (view_of b) w → q ≡ flow_back (view_of b) w → p ≡ q
  set_flow_control_unique w p q = no_second p q

  -- ---- those that only ask

  -- `max_data_next`, `max_data`, `window`, `flow_control`
  pub max_data_next_unique : (p q : ℕ) → p ≡ next b.flow_control → q ≡ next b.flow_control → p ≡ q
  max_data_next_unique p q = no_second p q

  pub max_data_unique : (p q : ℕ) → p ≡ b.flow_control.max_data → q ≡ b.flow_control.max_data → p ≡ q
  max_data_unique p q = no_second p q

  pub window_unique : (p q : ℕ) → p ≡ b.flow_control.window → q ≡ b.flow_control.window → p ≡ q
  window_unique p q = no_second p q

  pub flow_control_unique : (p q : FlowControl) → p ≡ b.flow_control → q ≡ b.flow_control → p ≡ q
  flow_control_unique p q = no_second p q

  -- `off_front`, `max_off`, `is_fin`, `is_draining`
  pub off_front_unique : (p q : ℕ) → p ≡ b.off → q ≡ b.off → p ≡ q
  off_front_unique p q = no_second p q

  pub max_off_unique : (p q : ℕ) → p ≡ b.len → q ≡ b.len → p ≡ q
  max_off_unique p q = no_second p q

  pub is_fin_unique : (p q : Bool) → p ≡ is_at b.fin_off b.off → q ≡ is_at b.fin_off b.off → p ≡ q
  is_fin_unique p q = no_second p q

  pub is_draining_unique : (p q : Bool) → p ≡ b.drain → q ≡ b.drain → p ≡ q
  is_draining_unique p q = no_second p q

  -- `almost_full`, `ready`, `readable_len`
  pub almost_full_unique : (p q : Bool) → p ≡ almost_full (view_of b) → q ≡ almost_full (view_of b) → p ≡ q
  almost_full_unique p q = no_second p q

  pub ready_unique : (p q : Bool) → p ≡ is_ready (view_of b).chunks b.off → q ≡ is_ready (view_of b).chunks b.off → p ≡ q
  ready_unique p q = no_second p q

  pub readable_len_unique : (most p q : ℕ) → p ≡ readable (view_of b) most → q ≡ readable (view_of b) most → p ≡ q
  readable_len_unique most p q = no_second p q

pub is_good_unique : (b : RecvBuf) (p q : Bool) → p ≡ good_by b → q ≡ good_by b → p ≡ q
is_good_unique b = no_second
