-- The contracts of the exported calls of the receive buffer determine what C is handed: nothing else satisfies them. Assumes nothing.
use mathlib.Core.Path.{◌≡◌}
use mathlib.Core.Bool.{Bool}
use mathlib.Core.List.{List}
use Prim.Native.Nat.{ℕ}
use lib.ListN.{length}
use Rattle.flowcontrol.specs.Rules.{next}
use Rattle.recv_buf.specs.State.{view_of}
use Rattle.recv_buf.specs.Rules.{created, written, written_arena, emitted, emitted_out, discarded, resets, shuts, commits, autotunes, flow_back, almost_full, is_ready, readable}
use Rattle.stream_c.specs.State.{flow_of, vk_flow, recv_of, vk_recv}
use Rattle.stream_c.specs.Rules.{recv_out, recv_count, recv_emit, recv_sizes}
use Rattle.tables.proofs.Tables.{no_second}
use Rattle.stream_c.specs.declared.VkFlowControl.{VkFlowControl}
use Rattle.stream_c.specs.declared.recv.VkRecvBuf.{VkRecvBuf}
use Rattle.stream_c.specs.declared.recv.VkRecvBufOut.{VkRecvBufOut}
use Rattle.refusal.specs.Rules.{is_at}

pub vk-recv-buf-new-one : (max_data : ℕ) (max_window : ℕ) (arena : List ℕ) (p q : VkRecvBufOut) → p ≡ recv_out (created max_data max_window (length arena)) → q ≡ recv_out (created max_data max_window (length arena)) → p ≡ q
vk-recv-buf-new-one max_data max_window arena = no_second

pub vk-recv-buf-write-one : (buf : VkRecvBuf) (arena : List ℕ) (off : ℕ) (input : List ℕ) (fin : Bool) (p q : VkRecvBufOut) → p ≡ recv_out (written (view_of (recv_of buf)) (length arena) off (length input) fin) → q ≡ recv_out (written (view_of (recv_of buf)) (length arena) off (length input) fin) → p ≡ q
vk-recv-buf-write-one buf arena off input fin = no_second

pub vk-recv-buf-write-arena-one : (buf : VkRecvBuf) (arena : List ℕ) (off : ℕ) (input : List ℕ) (fin : Bool) (p q : List ℕ) → p ≡ written_arena (view_of (recv_of buf)) arena off input fin → q ≡ written_arena (view_of (recv_of buf)) arena off input fin → p ≡ q
vk-recv-buf-write-arena-one buf arena off input fin = no_second

pub vk-recv-buf-emit-one : (buf : VkRecvBuf) (arena : List ℕ) (out : List ℕ) (p q : VkRecvBufOut) → p ≡ recv_emit (emitted (view_of (recv_of buf)) (length arena) (length out)) → q ≡ recv_emit (emitted (view_of (recv_of buf)) (length arena) (length out)) → p ≡ q
vk-recv-buf-emit-one buf arena out = no_second

pub vk-recv-buf-emit-out-one : (buf : VkRecvBuf) (arena : List ℕ) (out : List ℕ) (p q : List ℕ) → p ≡ emitted_out (view_of (recv_of buf)) arena out → q ≡ emitted_out (view_of (recv_of buf)) arena out → p ≡ q
vk-recv-buf-emit-out-one buf arena out = no_second

pub vk-recv-buf-discard-one : (buf : VkRecvBuf) (len : ℕ) (p q : VkRecvBufOut) → p ≡ recv_emit (discarded (view_of (recv_of buf)) len) → q ≡ recv_emit (discarded (view_of (recv_of buf)) len) → p ≡ q
vk-recv-buf-discard-one buf len = no_second

pub vk-recv-buf-reset-one : (buf : VkRecvBuf) (code : ℕ) (size : ℕ) (p q : VkRecvBufOut) → p ≡ recv_sizes (resets (view_of (recv_of buf)) code size) → q ≡ recv_sizes (resets (view_of (recv_of buf)) code size) → p ≡ q
vk-recv-buf-reset-one buf code size = no_second

pub vk-recv-buf-shutdown-one : (buf : VkRecvBuf) (p q : VkRecvBufOut) → p ≡ recv_count (shuts (view_of (recv_of buf))) → q ≡ recv_count (shuts (view_of (recv_of buf))) → p ≡ q
vk-recv-buf-shutdown-one buf = no_second

pub vk-recv-buf-update-max-data-one : (buf : VkRecvBuf) (now : ℕ) (p q : VkRecvBuf) → p ≡ vk_recv (commits (view_of (recv_of buf)) now) → q ≡ vk_recv (commits (view_of (recv_of buf)) now) → p ≡ q
vk-recv-buf-update-max-data-one buf now = no_second

pub vk-recv-buf-max-data-next-one : (buf : VkRecvBuf) (p q : ℕ) → p ≡ next (recv_of buf).flow_control → q ≡ next (recv_of buf).flow_control → p ≡ q
vk-recv-buf-max-data-next-one buf = no_second

pub vk-recv-buf-max-data-one : (buf : VkRecvBuf) (p q : ℕ) → p ≡ (recv_of buf).flow_control.max_data → q ≡ (recv_of buf).flow_control.max_data → p ≡ q
vk-recv-buf-max-data-one buf = no_second

pub vk-recv-buf-window-one : (buf : VkRecvBuf) (p q : ℕ) → p ≡ (recv_of buf).flow_control.window → q ≡ (recv_of buf).flow_control.window → p ≡ q
vk-recv-buf-window-one buf = no_second

pub vk-recv-buf-autotune-window-one : (buf : VkRecvBuf) (now : ℕ) (rtt : ℕ) (p q : VkRecvBuf) → p ≡ vk_recv (autotunes (view_of (recv_of buf)) now rtt) → q ≡ vk_recv (autotunes (view_of (recv_of buf)) now rtt) → p ≡ q
vk-recv-buf-autotune-window-one buf now rtt = no_second

pub vk-recv-buf-off-front-one : (buf : VkRecvBuf) (p q : ℕ) → p ≡ (recv_of buf).off → q ≡ (recv_of buf).off → p ≡ q
vk-recv-buf-off-front-one buf = no_second

pub vk-recv-buf-almost-full-one : (buf : VkRecvBuf) (p q : Bool) → p ≡ almost_full (view_of (recv_of buf)) → q ≡ almost_full (view_of (recv_of buf)) → p ≡ q
vk-recv-buf-almost-full-one buf = no_second

pub vk-recv-buf-max-off-one : (buf : VkRecvBuf) (p q : ℕ) → p ≡ (recv_of buf).len → q ≡ (recv_of buf).len → p ≡ q
vk-recv-buf-max-off-one buf = no_second

pub vk-recv-buf-is-fin-one : (buf : VkRecvBuf) (p q : Bool) → p ≡ is_at (recv_of buf).fin_off (recv_of buf).off → q ≡ is_at (recv_of buf).fin_off (recv_of buf).off → p ≡ q
vk-recv-buf-is-fin-one buf = no_second

pub vk-recv-buf-is-draining-one : (buf : VkRecvBuf) (p q : Bool) → p ≡ (recv_of buf).drain → q ≡ (recv_of buf).drain → p ≡ q
vk-recv-buf-is-draining-one buf = no_second

pub vk-recv-buf-ready-one : (buf : VkRecvBuf) (p q : Bool) → p ≡ is_ready (view_of (recv_of buf)).chunks (recv_of buf).off → q ≡ is_ready (view_of (recv_of buf)).chunks (recv_of buf).off → p ≡ q
vk-recv-buf-ready-one buf = no_second

pub vk-recv-buf-readable-len-one : (buf : VkRecvBuf) (max_len : ℕ) (p q : ℕ) → p ≡ readable (view_of (recv_of buf)) max_len → q ≡ readable (view_of (recv_of buf)) max_len → p ≡ q
vk-recv-buf-readable-len-one buf max_len = no_second

pub vk-recv-buf-flow-control-one : (buf : VkRecvBuf) (p q : VkFlowControl) → p ≡ vk_flow (recv_of buf).flow_control → q ≡ vk_flow (recv_of buf).flow_control → p ≡ q
vk-recv-buf-flow-control-one buf = no_second

pub vk-recv-buf-set-flow-control-one : (buf : VkRecvBuf) (flow : VkFlowControl) (p q : VkRecvBuf) → p ≡ vk_recv (flow_back (view_of (recv_of buf)) (flow_of flow)) → q ≡ vk_recv (flow_back (view_of (recv_of buf)) (flow_of flow)) → p ≡ q
vk-recv-buf-set-flow-control-one buf flow = no_second
