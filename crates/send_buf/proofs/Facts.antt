-- What follows of a good buffer's numbers, what a refused call leaves alone, and which places of arena and output a call writes.
-- Assumes nothing.
use Rattle.std.specs.Prelude.{Result, Ok, Err, ⊤}
use mathlib.Core.Path.{◌≡◌, refl, sym, ap, ◌∙◌}
use mathlib.Core.Logic.{◌⊎◌}
use mathlib.Core.Bool.{Bool, true, false, cond}
use mathlib.Core.List.{List, [], ◌∷◌}
use Prim.Native.Nat.{ℕ, ◌+◌, ◌-◌, ◌%◌, ◌≤◌, ◌<◌}
use native.Mathlib.Omega.{arith}
use lib.Dec.{ltb}
use lib.ListN.{length, take, drop, get_or, length-append, length-take, length-drop}
use lib.Seq.{take_at, drop_at}
use borrow.Author.Tests.{ltb-false, lt-leb, le-ltb, lt-ltb}
use Rattle.refusal.specs.Rules.{M, with_count, after, known}
use Rattle.refusal.specs.declared.Refusal.{Refusal}
use Rattle.refusal.proofs.Answers.{after_elim}
use Rattle.arena.specs.Rules.{held}
use Rattle.arena.proofs.Places.{right_arena}
use Rattle.arena.proofs.Laws.{length_kept, length_held, kept_elsewhere, held_before, held_kept}
use Rattle.range_buf.specs.declared.RangeBuf.{RangeBuf}
use Rattle.range_buf.specs.Rules.{end, left_part, right_part}
use Rattle.ranges.specs.State.{upto}
use Rattle.ranges.specs.Rules.{member_of, placed}
use Rattle.ranges.proofs.Members.{placed_new, placed_old, placed_only}
use Rattle.tables.proofs.Tables.{by_test, cond_elim}
use Rattle.send_buf.specs.declared.SendBuf.{SendBuf}
use Rattle.send_buf.specs.State.{Send, view_of, buf_of, base, GoodSend, Good}
use Rattle.send_buf.specs.Rules.{other_arena, ack_off, accepted, write_judged, written, written_arena, front, first, emit_count, sent, emitted, emitted_out, ack_judged, acked_more, acks, drop_bytes, dropped, ack_drops, moved_back, back, settled, loss_judged, lost, lost_bytes, retransmits, cut_off, unsent, stops, shuts, raised}
use Rattle.send_buf.proofs.Chunks.{front_in, copied_in, copied_le, total_sent, total_behind}
use Rattle.send_buf.proofs.Position.{copied_some, front_below}
use Rattle.send_buf.proofs.Acked.{upto_weak, ack_upto, placed_all}
use Rattle.send_buf.proofs.Judged.{writes}
use Rattle.tables.proofs.Tests.{decided}
use Rattle.refusal.specs.declared.Outcome.{Outcome}

module _ (s : Send) (g : GoodSend s) where
  -- contiguous ack never passes what was emitted, nor the end offset
  pub ack_emitted : ack_off s.acked ≤ s.emitted
  ack_emitted = ack_upto s.emitted s.acked g.acked_in

  pub ack_le : ack_off s.acked ≤ s.off
  ack_le = omega (arith, ack_emitted, g.emitted_in)

  -- all below the front was emitted
  pub front_emitted : front s ≤ s.emitted
  front_emitted = front_below s.pos (base s.chunks s.off) s.chunks s.off s.emitted g.adjoin g.base_in g.used g.spent

  -- so a reset's final size is the largest emitted offset, and what was never sent lies behind it
  pub reset_size : cut_off s ≡ s.emitted
  reset_size = omega (arith, front_emitted)

  pub reset_unsent : unsent s ≡ s.off - s.emitted
  reset_unsent = omega (arith, front_emitted)

  -- and the range that it acks swallows all others
  pub reset_single : placed (upto 0 (cut_off s)) s.acked ≡ upto 0 (cut_off s) ∷ []
  reset_single = placed_all (cut_off s) s.acked g.acked_order (upto_weak s.emitted (cut_off s) s.acked (omega arith) g.acked_in)

  -- the front lies within the chunks, and an emit copies no more than there is, nor than there is room for
  pub front_low : base s.chunks s.off ≤ front s
  front_low = (front_in s.pos (base s.chunks s.off) s.chunks s.off g.adjoin).0

  pub front_high : front s ≤ s.off
  front_high = (front_in s.pos (base s.chunks s.off) s.chunks s.off g.adjoin).1

  pub reached : (n : ℕ) → front s + emit_count s n ≤ s.off
  reached n = copied_in (first s) (base s.chunks s.off) s.chunks s.off (front s) n g.adjoin front_high

  -- with room and bytes to send, it copies some
  pub emit_some : (n : ℕ) → 0 < n → 0 < s.buffered → 0 < emit_count s n
  emit_some n h k = copied_some s.pos s.chunks s.off n g.spent h (omega (arith, g.all_buffered))

  -- the answers account for the bytes to send
  pub emit_bytes : (n : ℕ) → (sent s n).buffered + emit_count s n ≡ s.buffered
  unfolding sent
  emit_bytes n = omega (arith, total_sent (first s) s.chunks (front s) n, g.all_buffered)

  pub drop_bytes_lem : (k : ℕ) → (dropped s k).buffered + drop_bytes s.chunks k ≡ s.buffered
  drop_bytes_lem k = omega (arith, total_behind s.chunks k, g.all_buffered)

pub lost_bytes_lem : (s : Send) (a n : ℕ) → (lost s a n).buffered ≡ s.buffered + lost_bytes s a n
unfolding lost
lost_bytes_lem s a n = by_test (settled s a n) (λ e. simp e (omega arith)) (λ e. simp e (omega arith))

-- an emit copies no more than there is room for
pub emit_fits : (s : Send) (n : ℕ) → emit_count s n ≤ n
emit_fits s n = copied_le (drop (first s) s.chunks) (front s) n

-- ---- an ack: the set then holds what it held, and the range

module _ (s : Send) (a n v : ℕ) where
  pub ack_new : a ≤ v → v < a + n → member_of v (acked_more s a n).acked ≡ true
  unfolding acked_more
  ack_new h k = placed_new (upto a (a + n)) s.acked v h k

  pub ack_old : member_of v s.acked ≡ true → member_of v (acked_more s a n).acked ≡ true
  unfolding acked_more
  ack_old e = placed_old (upto a (a + n)) s.acked v e

  pub ack_only : member_of v (acked_more s a n).acked ≡ true → ((a ≤ v) × (v < a + n)) ⊎ (member_of v s.acked ≡ true)
  unfolding acked_more
  ack_only e = placed_only (upto a (a + n)) s.acked v e

-- ---- nothing changes on a refusal

counted : {A : Type 0} (said : Result ⊤ Refusal) (n : ℕ) (why : Refusal) (x y : A) → with_count said n ≡ Err why → after said x y ≡ y
counted (Ok done) n why x y e = let z : ◌≡◌ {A = ℕ} 0 1 = cc in absurd (omega arith)
counted (Err w) n why x y e = refl

plain : {A : Type 0} (said : Result ⊤ Refusal) (why : Refusal) (x y : A) → said ≡ Err why → after said x y ≡ y
plain (Ok done) why x y e = let z : ◌≡◌ {A = ℕ} 0 1 = cc in absurd (omega arith)
plain (Err w) why x y e = refl

-- the first of two results, where the second does not answer so
first_of : {A B : Type 0} (f : A → B) (t : Bool) (x y : A) (v : B) → (f y ≡ v → ⊥) → f (cond t x y) ≡ v → t ≡ true
first_of f true x y v n e = refl
first_of f false x y v n e = absurd (n e)

-- each call, refused: the buffer is b, and arena and output are as they were
pub record Keeps (b : SendBuf) : Type 0 where
  pub write : (ar input : List ℕ) (fin : Bool) (why : Refusal) → (written (view_of b) (length ar) (length input) fin).answer ≡ Err why
      → ((written (view_of b) (length ar) (length input) fin).state ≡ b) × (written_arena (view_of b) ar input fin ≡ ar)
  pub emit : (ar out : List ℕ) (why : Refusal) → (emitted (view_of b) (length ar) (length out)).answer ≡ Err why
      → ((emitted (view_of b) (length ar) (length out)).state ≡ b) × (emitted_out (view_of b) ar out ≡ out)
  pub ack : (a n : ℕ) (why : Refusal) → (acks (view_of b) a n).answer ≡ Err why → (acks (view_of b) a n).state ≡ b
  pub ack_and_drop_lem : (a n : ℕ) (why : Refusal) → (ack_drops (view_of b) a n).answer ≡ Err why → (ack_drops (view_of b) a n).state ≡ b
  pub retransmit : (a n : ℕ) (why : Refusal) → (retransmits (view_of b) a n).answer ≡ Err why → (retransmits (view_of b) a n).state ≡ b
  pub stop : (code : ℕ) (why : Refusal) → (stops (view_of b) code).answer ≡ Err why → (stops (view_of b) code).state ≡ b
  pub shutdown : (why : Refusal) → (shuts (view_of b)).answer ≡ Err why → (shuts (view_of b)).state ≡ b
  pub update_max_data_lem : (limit : ℕ) (why : Refusal) → (raised (view_of b) limit).answer ≡ Err why → (raised (view_of b) limit).state ≡ b

pub refusal_keeps : (b : SendBuf) → Good b → Keeps b
unfolding written written_arena emitted emitted_out acks ack_drops retransmits stops shuts raised
refusal_keeps b g = record {
  write = λ ar input fin why e. (
    ap buf_of (counted (write_judged (view_of b) (length ar) (length input) fin) _ why _ (view_of b) e) ∙ sym g.whole,
    counted (write_judged (view_of b) (length ar) (length input) fin) _ why _ ar e,
  );
  emit = λ ar out why e.
      let h = first_of (λ (o : Outcome (ℕ × Bool) SendBuf). o.answer) (other_arena (view_of b) (length ar)) _ _ (Err why) (λ q. let z : ◌≡◌ {A = ℕ} 0 1 = cc in omega arith) e in
      (simp h (sym g.whole), simp h);
  ack = λ a n why e. ap buf_of (plain (ack_judged (view_of b) a n) why _ (view_of b) e) ∙ sym g.whole;
  ack_and_drop_lem = λ a n why e. ap buf_of (counted (ack_judged (view_of b) a n) _ why _ (view_of b) e) ∙ sym g.whole;
  retransmit = λ a n why e. ap buf_of (counted (loss_judged (view_of b) a n) _ why _ (view_of b) e) ∙ sym g.whole;
  stop = λ code why e.
      let h = first_of (λ (o : Outcome (ℕ × ℕ) SendBuf). o.answer) (known b.error) _ _ (Err why) (λ q. let z : ◌≡◌ {A = ℕ} 0 1 = cc in omega arith) e in
      simp h (sym g.whole);
  shutdown = λ why e.
      let h = first_of (λ (o : Outcome (ℕ × ℕ) SendBuf). o.answer) b.shutdown _ _ (Err why) (λ q. let z : ◌≡◌ {A = ℕ} 0 1 = cc in omega arith) e in
      ap (λ (o : Outcome (ℕ × ℕ) SendBuf). o.state) (decided h _ _) ∙ sym g.whole;
  update_max_data_lem = λ limit why e.
      let h = first_of (λ (o : Outcome ⊤ SendBuf). o.answer) (ltb M limit) _ _ (Err why) (λ q. let z : ◌≡◌ {A = ℕ} 0 1 = cc in omega arith) e in
      simp h (sym g.whole);
}

-- ---- which places a call writes

-- a write, only those of the bytes newly kept
pub write_places : (s : Send) (ar input : List ℕ) (fin : Bool) (p : ℕ)
    → ((k : ℕ) → k < accepted s (length input) → (s.off + k) % length ar ≡ p → ⊥) → get_or (written_arena s ar input fin) p 0 ≡ get_or ar p 0
unfolding written_arena
write_places s ar input fin p h =
    after_elim (λ (x : List ℕ). get_or x p 0 ≡ get_or ar p 0) (write_judged s (length ar) (length input) fin)
    (λ _. kept_elsewhere ar s.off (take (accepted s (length input)) input) p (λ k lt e. h k (omega (arith, length-take (accepted s (length input)) input)) e))
    refl

pub length_written : (s : Send) (ar input : List ℕ) (fin : Bool) → length (written_arena s ar input fin) ≡ length ar
unfolding written_arena
length_written s ar input fin =
    after_elim (λ (x : List ℕ). length x ≡ length ar) (write_judged s (length ar) (length input) fin)
    (λ _. length_kept ar s.off (take (accepted s (length input)) input))
    refl

-- the bytes held stay, and an accepted write's follow them
module _ (s : Send) (ar input : List ℕ) (fin : Bool) where
  pub write_held : (q n : ℕ) → base s.chunks s.off ≤ q → q + n ≤ s.off → held (written_arena s ar input fin) q n ≡ held ar q n
  unfolding written_arena
  write_held q n h l =
      after_elim (λ (x : List ℕ). held x q n ≡ held ar q n) (write_judged s (length ar) (length input) fin)
      (λ e. let k : ℕ = accepted s (length input) in
      let w = writes s (length ar) (length input) fin e in
      let r : length ar ≡ s.room = (right_arena s.room (length ar) w.arena).1 in
      held_before ar s.off (take k input) q n l
      (omega (arith, length-take k input, ltb-false s.room (k + (s.off - base s.chunks s.off)) w.room)))
      refl

  pub write_kept : write_judged s (length ar) (length input) fin ≡ Ok tt
      → held (written_arena s ar input fin) s.off (accepted s (length input)) ≡ take (accepted s (length input)) input
  unfolding written_arena
  write_kept e =
      let k : ℕ = accepted s (length input) in
      let w = writes s (length ar) (length input) fin e in
      let r : length ar ≡ s.room = (right_arena s.room (length ar) w.arena).1 in
      let n : length (take k input) ≡ k = omega (arith, length-take k input) in
      let f : length (take k input) ≤ length ar = omega (arith, ltb-false s.room (k + (s.off - base s.chunks s.off)) w.room) in
      rw e (rw n at (held_kept ar s.off (take k input) f))

-- an emit, only the front of the output: as many bytes as it answers, and those are the bytes held from the front offset on
module _ (s : Send) (ar out : List ℕ) where
  pub emit_places : (length (emitted_out s ar out) ≡ length out) × (drop (emit_count s (length out)) (emitted_out s ar out) ≡ drop (emit_count s (length out)) out)
  unfolding emitted_out
  emit_places =
      let k : ℕ = emit_count s (length out) in
      cond_elim (λ (x : List ℕ). (length x ≡ length out) × (drop k x ≡ drop k out)) (other_arena s (length ar)) (λ _. (refl, refl))
      (λ _. (
        omega (arith, length-append (held ar (front s) k) (drop k out), length_held ar (front s) k, length-drop k out, emit_fits s (length out)),
        drop_at (held ar (front s) k) (drop k out) k (length_held ar (front s) k),
      ))

  pub emit_gives : other_arena s (length ar) ≡ false → take (emit_count s (length out)) (emitted_out s ar out) ≡ held ar (front s) (emit_count s (length out))
  unfolding emitted_out
  emit_gives e =
      let k : ℕ = emit_count s (length out) in
      simp e (take_at (held ar (front s) k) (drop k out) k (length_held ar (front s) k))

-- a loss of no bytes, strictly inside a chunk, splits it there
pub empty_splits : (c : RangeBuf) (cs : List RangeBuf) (a : ℕ) → c.off < a → a < end c
    → back (c ∷ cs) a a ≡ moved_back (left_part c (a - c.off)) a ∷ right_part c (a - c.off) ∷ cs
empty_splits c cs a h k = simp (lt-leb a c.off h, le-ltb (end c) a (omega arith), lt-ltb a (end c) k)
