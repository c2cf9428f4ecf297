-- The contracts of the exported calls of the send buffer determine what C is handed: nothing else satisfies them. Assumes nothing.
use mathlib.Core.Path.{◌≡◌}
use mathlib.Core.Bool.{Bool}
use mathlib.Core.List.{List}
use Prim.Native.Nat.{ℕ}
use lib.Dec.{eqb}
use lib.ListN.{length}
use Rattle.refusal.specs.Rules.{told_count, known, is_at}
use Rattle.send_buf.specs.State.{view_of}
use Rattle.send_buf.specs.Rules.{created, written, written_arena, emitted, emitted_out, raised, blocked_with, acks, ack_drops, retransmits, resets, stops, shuts, front, is_complete, ack_off, cap}
use Rattle.stream_c.specs.State.{option_of, vk_number, padded, send_of, vk_send}
use Rattle.stream_c.specs.Rules.{send_out, send_count, send_emit, send_sizes}
use Rattle.tables.proofs.Tables.{no_second}
use Rattle.stream_c.specs.declared.VkAnswer.{VkAnswer}
use Rattle.stream_c.specs.declared.VkNumber.{VkNumber}
use Rattle.stream_c.specs.declared.send.VkSendBuf.{VkSendBuf}
use Rattle.stream_c.specs.declared.send.VkSendBufOut.{VkSendBufOut}

pub vk-send-buf-new-one : (max_data : ℕ) (arena : List ℕ) (p q : VkSendBufOut) → p ≡ send_out (created max_data (length arena)) → q ≡ send_out (created max_data (length arena)) → p ≡ q
vk-send-buf-new-one max_data arena = no_second

pub vk-send-buf-write-one : (buf : VkSendBuf) (arena : List ℕ) (input : List ℕ) (fin : Bool) (p q : VkSendBufOut) → p ≡ send_count (written (view_of (send_of buf)) (length arena) (length input) fin) → q ≡ send_count (written (view_of (send_of buf)) (length arena) (length input) fin) → p ≡ q
vk-send-buf-write-one buf arena input fin = no_second

pub vk-send-buf-write-arena-one : (buf : VkSendBuf) (arena : List ℕ) (input : List ℕ) (fin : Bool) (p q : List ℕ) → p ≡ written_arena (view_of (send_of buf)) arena input fin → q ≡ written_arena (view_of (send_of buf)) arena input fin → p ≡ q
vk-send-buf-write-arena-one buf arena input fin = no_second

pub vk-send-buf-emit-one : (buf : VkSendBuf) (arena : List ℕ) (out : List ℕ) (p q : VkSendBufOut) → p ≡ send_emit (emitted (view_of (send_of buf)) (length arena) (length out)) → q ≡ send_emit (emitted (view_of (send_of buf)) (length arena) (length out)) → p ≡ q
vk-send-buf-emit-one buf arena out = no_second

pub vk-send-buf-emit-out-one : (buf : VkSendBuf) (arena : List ℕ) (out : List ℕ) (p q : List ℕ) → p ≡ emitted_out (view_of (send_of buf)) arena out → q ≡ emitted_out (view_of (send_of buf)) arena out → p ≡ q
vk-send-buf-emit-out-one buf arena out = no_second

pub vk-send-buf-update-max-data-one : (buf : VkSendBuf) (max_data : ℕ) (p q : VkSendBufOut) → p ≡ send_out (raised (view_of (send_of buf)) max_data) → q ≡ send_out (raised (view_of (send_of buf)) max_data) → p ≡ q
vk-send-buf-update-max-data-one buf max_data = no_second

pub vk-send-buf-update-blocked-at-one : (buf : VkSendBuf) (known : Bool) (value : ℕ) (p q : VkSendBuf) → p ≡ vk_send (blocked_with (view_of (send_of buf)) (option_of (record { known = known; value = value }))) → q ≡ vk_send (blocked_with (view_of (send_of buf)) (option_of (record { known = known; value = value }))) → p ≡ q
vk-send-buf-update-blocked-at-one buf known value = no_second

pub vk-send-buf-blocked-at-one : (buf : VkSendBuf) (p q : VkNumber) → p ≡ vk_number (view_of (send_of buf)).blocked → q ≡ vk_number (view_of (send_of buf)).blocked → p ≡ q
vk-send-buf-blocked-at-one buf = no_second

pub vk-send-buf-ack-one : (buf : VkSendBuf) (off : ℕ) (len : ℕ) (p q : VkSendBufOut) → p ≡ send_out (acks (view_of (send_of buf)) off len) → q ≡ send_out (acks (view_of (send_of buf)) off len) → p ≡ q
vk-send-buf-ack-one buf off len = no_second

pub vk-send-buf-ack-and-drop-one : (buf : VkSendBuf) (off : ℕ) (len : ℕ) (p q : VkSendBufOut) → p ≡ send_count (ack_drops (view_of (send_of buf)) off len) → q ≡ send_count (ack_drops (view_of (send_of buf)) off len) → p ≡ q
vk-send-buf-ack-and-drop-one buf off len = no_second

pub vk-send-buf-retransmit-one : (buf : VkSendBuf) (off : ℕ) (len : ℕ) (p q : VkSendBufOut) → p ≡ send_count (retransmits (view_of (send_of buf)) off len) → q ≡ send_count (retransmits (view_of (send_of buf)) off len) → p ≡ q
vk-send-buf-retransmit-one buf off len = no_second

pub vk-send-buf-reset-one : (buf : VkSendBuf) (p q : VkSendBufOut) → p ≡ send_sizes (resets (view_of (send_of buf))) → q ≡ send_sizes (resets (view_of (send_of buf))) → p ≡ q
vk-send-buf-reset-one buf = no_second

pub vk-send-buf-stop-one : (buf : VkSendBuf) (code : ℕ) (p q : VkSendBufOut) → p ≡ send_sizes (stops (view_of (send_of buf)) code) → q ≡ send_sizes (stops (view_of (send_of buf)) code) → p ≡ q
vk-send-buf-stop-one buf code = no_second

pub vk-send-buf-shutdown-one : (buf : VkSendBuf) (p q : VkSendBufOut) → p ≡ send_sizes (shuts (view_of (send_of buf))) → q ≡ send_sizes (shuts (view_of (send_of buf))) → p ≡ q
vk-send-buf-shutdown-one buf = no_second

pub vk-send-buf-off-back-one : (buf : VkSendBuf) (p q : ℕ) → p ≡ (view_of (send_of buf)).off → q ≡ (view_of (send_of buf)).off → p ≡ q
vk-send-buf-off-back-one buf = no_second

pub vk-send-buf-off-front-one : (buf : VkSendBuf) (p q : ℕ) → p ≡ front (view_of (send_of buf)) → q ≡ front (view_of (send_of buf)) → p ≡ q
vk-send-buf-off-front-one buf = no_second

pub vk-send-buf-max-off-one : (buf : VkSendBuf) (p q : ℕ) → p ≡ (view_of (send_of buf)).limit → q ≡ (view_of (send_of buf)).limit → p ≡ q
vk-send-buf-max-off-one buf = no_second

pub vk-send-buf-is-fin-one : (buf : VkSendBuf) (p q : Bool) → p ≡ is_at (view_of (send_of buf)).fin (view_of (send_of buf)).off → q ≡ is_at (view_of (send_of buf)).fin (view_of (send_of buf)).off → p ≡ q
vk-send-buf-is-fin-one buf = no_second

pub vk-send-buf-is-complete-one : (buf : VkSendBuf) (p q : Bool) → p ≡ is_complete (view_of (send_of buf)) → q ≡ is_complete (view_of (send_of buf)) → p ≡ q
vk-send-buf-is-complete-one buf = no_second

pub vk-send-buf-is-stopped-one : (buf : VkSendBuf) (p q : Bool) → p ≡ known (view_of (send_of buf)).error → q ≡ known (view_of (send_of buf)).error → p ≡ q
vk-send-buf-is-stopped-one buf = no_second

pub vk-send-buf-is-shutdown-one : (buf : VkSendBuf) (p q : Bool) → p ≡ (view_of (send_of buf)).shut → q ≡ (view_of (send_of buf)).shut → p ≡ q
vk-send-buf-is-shutdown-one buf = no_second

pub vk-send-buf-is-empty-one : (buf : VkSendBuf) (p q : Bool) → p ≡ eqb (length (view_of (send_of buf)).chunks) 0 → q ≡ eqb (length (view_of (send_of buf)).chunks) 0 → p ≡ q
vk-send-buf-is-empty-one buf = no_second

pub vk-send-buf-ack-off-one : (buf : VkSendBuf) (p q : ℕ) → p ≡ ack_off (view_of (send_of buf)).acked → q ≡ ack_off (view_of (send_of buf)).acked → p ≡ q
vk-send-buf-ack-off-one buf = no_second

pub vk-send-buf-cap-one : (buf : VkSendBuf) (p q : VkAnswer) → p ≡ padded (told_count (cap (view_of (send_of buf)))) → q ≡ padded (told_count (cap (view_of (send_of buf)))) → p ≡ q
vk-send-buf-cap-one buf = no_second

pub vk-send-buf-bufs-count-one : (buf : VkSendBuf) (p q : ℕ) → p ≡ length (view_of (send_of buf)).chunks → q ≡ length (view_of (send_of buf)).chunks → p ≡ q
vk-send-buf-bufs-count-one buf = no_second

pub vk-send-buf-buffered-bytes-one : (buf : VkSendBuf) (p q : ℕ) → p ≡ (view_of (send_of buf)).buffered → q ≡ (view_of (send_of buf)).buffered → p ≡ q
vk-send-buf-buffered-bytes-one buf = no_second
