-- No second answer, state, arena or output meets a contract: each contract is an equation, so two results that meet it are the same.
-- One theorem for each public function, under its name. Assumes nothing.
use Rattle.std.specs.Prelude.{Result, Option, ⊤}
use mathlib.Core.Path.{◌≡◌, sym, ap, ◌∙◌}
use mathlib.Core.Bool.{Bool}
use mathlib.Core.List.{List}
use Prim.Native.Nat.{ℕ}
use lib.Dec.{eqb}
use lib.ListN.{length}
use Rattle.tables.proofs.Tables.{no_second}
use Rattle.send_buf.specs.declared.SendBuf.{SendBuf}
use Rattle.send_buf.specs.State.{view_of, buf_of, Good}
use Rattle.send_buf.specs.Check.{good_by}
use Rattle.send_buf.specs.Rules.{ack_off, created, written, written_arena, front, emitted, emitted_out, acks, ack_drops, retransmits, resets, stops, shuts, raised, blocked_with, cap as cap_of, is_complete}
use Rattle.refusal.specs.Rules.{known, is_at}
use Rattle.refusal.specs.declared.Outcome.{Outcome}
use Rattle.refusal.specs.declared.Refusal.{Refusal}

-- what a good buffer holds determines it
pub same : (b c : SendBuf) → Good b → Good c → view_of b ≡ view_of c → b ≡ c
same b c g h e = g.whole ∙ ap buf_of e ∙ sym h.whole

-- ---- calls

pub new_unique : (limit A : ℕ) (p q : Outcome ⊤ SendBuf) → p ≡ created limit A → q ≡ created limit A → p ≡ q
new_unique limit A = no_second

module _ (b : SendBuf) where
  -- the outcome and the arena
  pub write_unique : (ar input : List ℕ) (fin : Bool) (p q : Outcome ℕ SendBuf) (x y : List ℕ)
      → p ≡ written (view_of b) (length ar) (length input) fin → q ≡ written (view_of b) (length ar) (length input) fin
      → x ≡ written_arena (view_of b) ar input fin → y ≡ written_arena (view_of b) ar input fin → (p ≡ q) × (x ≡ y)
  write_unique ar input fin p q x y e f h k = (no_second p q e f, no_second x y h k)

  -- the outcome and the output
  pub emit_unique : (ar out : List ℕ) (p q : Outcome (ℕ × Bool) SendBuf) (x y : List ℕ)
      → p ≡ emitted (view_of b) (length ar) (length out) → q ≡ emitted (view_of b) (length ar) (length out)
      → x ≡ emitted_out (view_of b) ar out → y ≡ emitted_out (view_of b) ar out → (p ≡ q) × (x ≡ y)
  emit_unique ar out p q x y e f h k = (no_second p q e f, no_second x y h k)

  pub ack_unique : (a n : ℕ) (p q : Outcome ⊤ SendBuf) → p ≡ acks (view_of b) a n → q ≡ acks (view_of b) a n → p ≡ q
  ack_unique a n = no_second

  pub ack_and_drop_unique : (a n : ℕ) (p q : Outcome ℕ SendBuf) → p ≡ ack_drops (view_of b) a n → q ≡ ack_drops (view_of b) a n → p ≡ q
  ack_and_drop_unique a n = no_second

  pub retransmit_unique : (a n : ℕ) (p q : Outcome ℕ SendBuf) → p ≡ retransmits (view_of b) a n → q ≡ retransmits (view_of b) a n → p ≡ q
  retransmit_unique a n = no_second

  pub reset_unique : (p q : Outcome (ℕ × ℕ) SendBuf) → p ≡ resets (view_of b) → q ≡ resets (view_of b) → p ≡ q
  reset_unique = no_second

  pub stop_unique : (code : ℕ) (p q : Outcome (ℕ × ℕ) SendBuf) → p ≡ stops (view_of b) code → q ≡ stops (view_of b) code → p ≡ q
  stop_unique code = no_second

  pub shutdown_unique : (p q : Outcome (ℕ × ℕ) SendBuf) → p ≡ shuts (view_of b) → q ≡ shuts (view_of b) → p ≡ q
  shutdown_unique = no_second

  pub update_max_data_unique : (limit : ℕ) (p q : Outcome ⊤ SendBuf) → p ≡ raised (view_of b) limit → q ≡ raised (view_of b) limit → p ≡ q
  update_max_data_unique limit = no_second

  pub update_blocked_at_unique : (blocked : Option ℕ) (p q : SendBuf) → p ≡ blocked_with (view_of b) blocked → q ≡ blocked_with (view_of b) blocked → p ≡ q
  update_blocked_at_unique blocked = no_second

  -- ---- questions

  pub cap_unique : (p q : Result ℕ Refusal) → p ≡ cap_of (view_of b) → q ≡ cap_of (view_of b) → p ≡ q
  cap_unique = no_second

  pub off_back_unique : (p q : ℕ) → p ≡ (view_of b).off → q ≡ (view_of b).off → p ≡ q
  off_back_unique = no_second

  pub off_front_unique : (p q : ℕ) → p ≡ front (view_of b) → q ≡ front (view_of b) → p ≡ q
  off_front_unique = no_second

  pub max_off_unique : (p q : ℕ) → p ≡ (view_of b).limit → q ≡ (view_of b).limit → p ≡ q
  max_off_unique = no_second

  pub ack_off_unique : (p q : ℕ) → p ≡ ack_off (view_of b).acked → q ≡ ack_off (view_of b).acked → p ≡ q
  ack_off_unique = no_second

  pub is_fin_unique : (p q : Bool) → p ≡ is_at (view_of b).fin (view_of b).off → q ≡ is_at (view_of b).fin (view_of b).off → p ≡ q
  is_fin_unique = no_second

  pub is_complete_unique : (p q : Bool) → p ≡ is_complete (view_of b) → q ≡ is_complete (view_of b) → p ≡ q
  is_complete_unique = no_second

  pub is_stopped_unique : (p q : Bool) → p ≡ known (view_of b).error → q ≡ known (view_of b).error → p ≡ q
  is_stopped_unique = no_second

  pub is_shutdown_unique : (p q : Bool) → p ≡ (view_of b).shut → q ≡ (view_of b).shut → p ≡ q
  is_shutdown_unique = no_second

  pub is_empty_unique : (p q : Bool) → p ≡ eqb (length (view_of b).chunks) 0 → q ≡ eqb (length (view_of b).chunks) 0 → p ≡ q
  is_empty_unique = no_second

  pub bufs_count_unique : (p q : ℕ) → p ≡ length (view_of b).chunks → q ≡ length (view_of b).chunks → p ≡ q
  bufs_count_unique = no_second

  pub buffered_bytes_unique : (p q : ℕ) → p ≡ (view_of b).buffered → q ≡ (view_of b).buffered → p ≡ q
  buffered_bytes_unique = no_second

  pub blocked_at_unique : (p q : Option ℕ) → p ≡ (view_of b).blocked → q ≡ (view_of b).blocked → p ≡ q
  blocked_at_unique = no_second

pub is_good_unique : (b : SendBuf) (p q : Bool) → p ≡ good_by b → q ≡ good_by b → p ≡ q
is_good_unique b = no_second
