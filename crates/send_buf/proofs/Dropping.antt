-- The leading chunks that end at or below an offset. Assumes nothing.
use Rattle.std.specs.Prelude.{Result, Ok, Err, ⊤}
use Prim.Native.Nat.{◌+◌, ◌≤◌, ℕ}
use Rattle.range_buf.specs.Rules.{avail, end}
use Rattle.range_buf.specs.declared.RangeBuf.{RangeBuf}
use Rattle.refusal.specs.Rules.{M, after}
use Rattle.send_buf.proofs.Chunks.{drop_count_is, length_behind, total_behind, total_is, total_le}
use Rattle.send_buf.proofs.Good.{chunks_length}
use Rattle.send_buf.proofs.Kept.{acks_good}
use Rattle.send_buf.proofs.Views.{view_of_lem}
use Rattle.send_buf.specs.Rules.{ack_drops, ack_judged, acked_more, acks, behind, drop_bytes, drop_count, drop_to}
use Rattle.send_buf.specs.State.{Good, Send, base, buf_of, total, view_of}
use Rattle.send_buf.specs.Steps.{gone_by, without}
use Rattle.send_buf.specs.declared.SendBuf.{SendBuf}
use Rattle.tables.proofs.Tables.{cases}
use borrow.Author.Tests.{le-leb, lt-leb}
use Rattle.std.specs.List.{sum_by, take_while}
use lib.ListN.{drop, length, take}
use mathlib.Core.List.{List, [], ◌∷◌}
use mathlib.Core.Path.{◌∙◌, ◌≡◌, ap, ap₂, refl, sym}
use native.Mathlib.Omega.{arith}
use Rattle.refusal.specs.declared.Outcome.{Outcome}
use Rattle.refusal.specs.declared.Refusal.{Refusal}

pub behind_drop : (l : List RangeBuf) (k : ℕ) → drop (drop_count l k) l ≡ behind l k
behind_drop [] k = refl
behind_drop (c ∷ cs) k =
    cases k (end c)
    (λ t. simp (lt-leb _ _ t))
    (λ t. simp (le-leb _ _ t) (behind_drop cs k))

-- the bytes that they hold
pub dropped_bytes : (l : List RangeBuf) (k : ℕ) → total (take (drop_count l k) l) ≡ drop_bytes l k
dropped_bytes [] k = refl
dropped_bytes (c ∷ cs) k =
    cases k (end c)
    (λ t. simp (lt-leb _ _ t))
    (λ t. simp (le-leb _ _ t) (ap (λ (n : ℕ). avail c + n) (dropped_bytes cs k)))

pub count_le : (l : List RangeBuf) (k : ℕ) → drop_count l k ≤ length l
count_le l k = omega (arith, length_behind l k)

module _ (b : SendBuf) (g : Good b) (k : ℕ) where
  -- their bytes are among those still to be sent, which are no more than M
  pub bytes_in : (drop_bytes (view_of b).chunks k ≤ b.buffered_bytes) × (b.buffered_bytes ≤ M)
  bytes_in =
      let t = total_behind (view_of b).chunks k in
      let w = total_le (base (view_of b).chunks b.off) (view_of b).chunks b.off g.facts.adjoin in
      (omega (arith, g.facts.all_buffered), omega (arith, g.facts.all_buffered, g.facts.limited, g.facts.limit_in))

-- what the code counts of the chunks l, the first n of which go: how many, and their bytes
module _ (b : SendBuf) (g : Good b) (k n : ℕ) (l : List RangeBuf) (e : l ≡ (view_of b).chunks) (h : n ≡ length (take_while (gone_by k) l)) where
  pub count_is_lem : n ≡ drop_count (view_of b).chunks k
  count_is_lem = h ∙ ap (λ (x : List RangeBuf). length (take_while (gone_by k) x)) e ∙ drop_count_is (view_of b).chunks k

  pub count_in : n ≤ b.count
  count_in = omega (arith, count_is_lem, count_le (view_of b).chunks k, chunks_length b g)

  pub bytes_is : (m : List RangeBuf) → m ≡ (view_of b).chunks → sum_by avail (take n m) ≡ drop_bytes (view_of b).chunks k
  bytes_is m f = total_is (take n m) ∙ ap₂ (λ (i : ℕ) (x : List RangeBuf). total (take i x)) count_is_lem f ∙ dropped_bytes (view_of b).chunks k

-- ---- `ack_and_drop`, with the answer w of the ack and the buffer t after it

pub not_dropped : (s : Send) (a n : ℕ) (o : Outcome ⊤ SendBuf) → o ≡ acks s a n → (why : Refusal) → o.answer ≡ Err why
    → ◌≡◌ {A = Outcome ℕ SendBuf} (record { answer = Err why; state = buf_of s }) (ack_drops s a n)
unfolding acks ack_drops
not_dropped s a n o e why h =
    let w : ack_judged s a n ≡ Err why = sym (ap (λ (x : Outcome ⊤ SendBuf). x.answer) e) ∙ h in
    rw w

-- the buffer after the ack is good
pub still_good : (b : SendBuf) → Good b → (a n : ℕ) (o : Outcome ⊤ SendBuf) → o ≡ acks (view_of b) a n → Good o.state
still_good b g a n o e = rw e (acks_good (view_of b) g.facts a n)

-- the ack said Ok: the buffer after it holds what is acked more
pub acked_view : (s : Send) (a n : ℕ) (o : Outcome ⊤ SendBuf) → o ≡ acks s a n → o.answer ≡ Ok tt → view_of o.state ≡ acked_more s a n
unfolding acks
acked_view s a n o e d =
    let w : ack_judged s a n ≡ (Ok tt) = sym (ap (λ (x : Outcome ⊤ SendBuf). x.answer) e) ∙ d in
    let f : o.state ≡ buf_of (acked_more s a n) = ap (λ (x : Outcome ⊤ SendBuf). x.state) e ∙ ap (λ (x : Result ⊤ Refusal). buf_of (after x (acked_more s a n) s)) w in
    ap view_of f ∙ view_of_lem (acked_more s a n)

pub is_dropped : (s : Send) (a n : ℕ) (o : Outcome ⊤ SendBuf) → o ≡ acks s a n → o.answer ≡ Ok tt
    → (to : ℕ) (k : ℕ) (bytes : ℕ) (r : SendBuf)
    → to ≡ drop_to (view_of o.state) a → k ≡ drop_count (view_of o.state).chunks to → bytes ≡ drop_bytes (view_of o.state).chunks to → r ≡ buf_of (without (view_of o.state) k bytes)
    → ◌≡◌ {A = Outcome ℕ SendBuf} (record { answer = Ok bytes; state = r }) (ack_drops s a n)
unfolding acks ack_drops without acked_more
is_dropped s a n o e d to k bytes r p q m f =
    let w : ack_judged s a n ≡ (Ok tt) = sym (ap (λ (x : Outcome ⊤ SendBuf). x.answer) e) ∙ d in
    let v : view_of o.state ≡ acked_more s a n = acked_view s a n o e d in
    let p' : to ≡ drop_to (acked_more s a n) a = p ∙ ap (λ (x : Send). drop_to x a) v in
    let q' : k ≡ drop_count s.chunks to = q ∙ ap (λ (x : Send). drop_count x.chunks to) v in
    let m' : bytes ≡ drop_bytes s.chunks to = m ∙ ap (λ (x : Send). drop_bytes x.chunks to) v in
    let f' : r ≡ buf_of (without (acked_more s a n) k bytes) = f ∙ ap (λ (x : Send). buf_of (without x k bytes)) v in
    rw (w, f', q', m', ← p', behind_drop s.chunks to)
