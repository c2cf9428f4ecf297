-- The loop that copies bytes out: to copy on from here gives what the contract says. Assumes nothing.
use Rattle.std.specs.Prelude.{Result, Ok, Err, Option, Some, None, ⊤}
use Rattle.std.specs.Option.{option_eq}
use Prim.Native.Nat.{◌+◌, ◌-◌, ◌<◌, ◌≤◌, min, suc, ℕ}
use Rattle.arena.specs.Rules.{held}
use Rattle.range_buf.specs.Rules.{avail, consumed, end, start, used, zero_buf}
use Rattle.range_buf.specs.declared.RangeBuf.{RangeBuf}
use Rattle.refusal.specs.Rules.{M, is_at}
use Rattle.send_buf.proofs.Chunks.{advanced_none, copied_none, total_sent}
use Rattle.send_buf.proofs.Facts.{front_high, reached}
use Rattle.send_buf.proofs.Good.{acked_is, chunk_good, chunk_in, chunks_length, few, made, next, set_table, table}
use Rattle.send_buf.specs.Rules.{advanced, copied, emit_count, emitted, emitted_out, finished, first, front, other_arena, sent, with_queue}
use Rattle.send_buf.specs.State.{Good, GoodSend, Send, buf_of, view_of}
use Rattle.send_buf.specs.Steps.{chunks_after, copied_out, out_after, sent_to}
use Rattle.send_buf.specs.declared.SendBuf.{SendBuf}
use Rattle.tables.specs.Lists.{table_of}
use borrow.Author.Tests.{eq-eqb, eqb-true, le-leb, lt-leb, lt-ltb, ltb-true}
use lib.Dec.{eqb, ltb}
use lib.ListN.{drop, get_or, length, length-append, length-drop, length-set, replicate, set, take, take-append-drop}
use lib.Seq.{drop_at, drop-cons, drop-drop, length-take-le, set_split, take-suc-set}
use mathlib.Core.Bool.{Bool, ◌&&◌, false, true}
use mathlib.Core.List.{List, [], ◌++◌, ◌∷◌, append_assoc}
use mathlib.Core.Path.{◌∙◌, ◌≡◌, ap, refl, subst, sym}
use native.Mathlib.Nat.{add-zero, zero-add}
use native.Mathlib.Numerals.{add-one}
use native.Mathlib.Omega.{arith}
use Rattle.refusal.specs.declared.Refusal.TheVariants.{BadSetup}
use Rattle.send_buf.proofs.Good.{done as behind}
use lib.Seq.{drop-append-le}
use borrow.Rule.Slice.PartMut.{put_mid}
use lib.Seq.{take-take}
use Rattle.arena.proofs.Laws.{length_held, held_none}
use Rattle.arena.proofs.Parts.{placed_more, room_left, room_used}
use Rattle.range_buf.proofs.Kept.{consumed_in}
use Rattle.range_buf.specs.State.{Good as GoodChunk}
use Rattle.send_buf.proofs.Good.{slots as table_slots}
use Rattle.tables.proofs.Tests.{and_true}
use Rattle.refusal.specs.declared.Outcome.{Outcome}
use Rattle.refusal.specs.declared.Refusal.{Refusal}

-- ---- the loop

-- j chunks are done with, i is the index of the chunk to send next, and `done` bytes are out
pub record Emitting (ar out₀ : List ℕ) (b : SendBuf) (out : List ℕ) (t : SendBuf) (j i done : ℕ) : Type 0 where
  pub within : j ≤ b.count
  pub at_most : i ≤ j
  pub small : b.count ≤ 64
  pub fits : done ≤ length out₀
  pub long : length out ≡ length out₀
  pub reach : front (view_of b) + done ≤ M
  pub slots : length t.«data» ≡ 64
  pub same : t ≡ set_table b t.«data» b.count
  pub rest : drop j t.«data» ≡ drop j b.«data»
  pub bytes : out ≡ held ar (front (view_of b)) done ++ drop done out₀
  pub counts : done + copied (drop j (view_of b).chunks) (front (view_of b) + done) (length out₀ - done) ≡ emit_count (view_of b) (length out₀)
  pub index : i + finished (drop j (view_of b).chunks) (front (view_of b) + done) (length out₀ - done) ≡ first (view_of b) + finished (drop (first (view_of b)) (view_of b).chunks) (front (view_of b)) (length out₀)
  pub list : take j t.«data» ++ advanced (drop j (view_of b).chunks) (front (view_of b) + done) (length out₀ - done) ≡ chunks_after (view_of b) (length out₀)

-- of what a chunk has left, k bytes with room for r: all of it; or there was room for no more
min_all : (k r len pos : ℕ) → k ≡ min r (len - pos) → len - (pos + k) ≤ 0 → (k ≡ len - pos) × (len - pos ≤ r)
min_all k r len pos e h = (omega arith, omega arith)

min_some : (k r len pos : ℕ) → k ≡ min r (len - pos) → 0 < len - (pos + k) → (r < len - pos) × (k ≡ r)
min_some k r len pos e h = (omega arith, omega arith)

none_left : (n a : ℕ) → n < a → n - a ≡ 0
none_left n a h = omega arith

-- a chunk is consumed by no more than it has left
pub ate : (c : RangeBuf) (k : ℕ) (o : Outcome ⊤ RangeBuf) → k ≤ avail c → o ≡ consumed c k → (o.answer ≡ Ok tt) × (o.state ≡ used c k)
ate c k o h e =
    let f = e ∙ consumed_in c k h in
    (ap (λ (x : Outcome ⊤ RangeBuf). x.answer) f, ap (λ (x : Outcome ⊤ RangeBuf). x.state) f)

finished_none : (l : List RangeBuf) (o n : ℕ) → n ≡ 0 → finished l o n ≡ 0
finished_none [] o n e = refl
finished_none (c ∷ cs) o n e = rw e

-- one chunk: the entry at i is replaced, what lies before and behind it is as it was
set_front : (xs : List RangeBuf) (i : ℕ) (c : RangeBuf) → i < length xs → take (i + 1) (set xs i c) ≡ take i xs ++ (c ∷ [])
set_front xs i c h = rw (add-one, take-suc-set xs i c h)

set_back : (xs : List RangeBuf) (i : ℕ) (c : RangeBuf) → i < length xs → drop (i + 1) (set xs i c) ≡ drop (i + 1) xs
set_back xs i c h =
    let n : length (take i xs ++ (c ∷ [])) ≡ i + 1 = simp length-append (omega (arith, length-take-le i xs (omega arith))) in
    let e : set xs i c ≡ (take i xs ++ (c ∷ [])) ++ drop (i + 1) xs = rw (set_split xs i c h, append_assoc, add-one) in
    ap (drop (i + 1)) e ∙ drop_at (take i xs ++ (c ∷ [])) (drop (i + 1) xs) (i + 1) n

module _ (ar out₀ : List ℕ) (b : SendBuf) (g : Good b) where
  pub emit_starts : (i : ℕ) → i ≡ first (view_of b) → i ≤ b.count → Emitting ar out₀ b out₀ b i i 0
  emit_starts i e h =
      let z : length out₀ - 0 ≡ length out₀ = omega arith in
      let f = front_high (view_of b) g.facts in
      let tk : take i b.«data» ≡ take (first (view_of b)) (view_of b).chunks = sym (take-take i b.count b.«data» h) ∙ ap (λ (k : ℕ). take k (view_of b).chunks) e in
      record {
        within = h;
        at_most = omega arith;
        small = few b g;
        fits = omega arith;
        long = refl;
        reach = omega (arith, g.facts.limited, g.facts.limit_in);
        slots = table_slots b g;
        same = refl;
        rest = refl;
        bytes = rw held_none;
        counts = rw (add-zero, z, e, zero-add);
        index = rw (add-zero, z, e);
        list = rw (add-zero, z, tk, e);
      }

  module _ (out : List ℕ) (t : SendBuf) (i done : ℕ) (m : Emitting ar out₀ b out t i i done) (low : i < b.count) where
    -- the chunk of a turn is the buffer's own
    pub entry_same : get_or t.«data» i zero_buf ≡ get_or b.«data» i zero_buf
    entry_same =
        let n : i < length t.«data» = omega (arith, m.slots, m.small) in
        let k : i < length b.«data» = omega (arith, table_slots b g, m.small) in
        let e : get_or t.«data» i zero_buf ∷ drop (suc i) t.«data» ≡ get_or b.«data» i zero_buf ∷ drop (suc i) b.«data» =
        sym (drop-cons t.«data» i zero_buf n) ∙ m.rest ∙ drop-cons b.«data» i zero_buf k in
        cc

    pub entry_good : GoodChunk (get_or t.«data» i zero_buf)
    entry_good = rw entry_same (chunk_good b g i low)

    -- a chunk that goes on: k bytes of it are copied
    module _ (k : ℕ) (last : List ℕ) (on : (ltb 0 (length out - done) && eqb (start (get_or t.«data» i zero_buf)) (front (view_of b) + done)) ≡ true)
        (is : k ≡ min (length (take (length out - done) (drop done out))) (avail (get_or t.«data» i zero_buf)))
        (gave : last ≡ held ar (start (get_or t.«data» i zero_buf)) k ++ drop k (take (length out - done) (drop done out))) where
      part_long : length (take (length out - done) (drop done out)) ≡ length out₀ - done
      part_long =
          let d : length (drop done out) ≡ length out - done = length-drop done out in
          length-take-le (length out - done) (drop done out) (omega arith) ∙ ap (λ (n : ℕ). n - done) m.long

      some : 0 < length out₀ - done
      some = rw m.long at (ltb-true 0 (length out - done) (and_true (ltb 0 (length out - done)) (eqb (start (get_or t.«data» i zero_buf)) (front (view_of b) + done)) on).0)

      meets : start (get_or b.«data» i zero_buf) ≡ front (view_of b) + done
      meets = rw entry_same at (eqb-true (start (get_or t.«data» i zero_buf)) (front (view_of b) + done) (and_true (ltb 0 (length out - done)) (eqb (start (get_or t.«data» i zero_buf)) (front (view_of b) + done)) on).1)

      is' : k ≡ min (length out₀ - done) (avail (get_or b.«data» i zero_buf))
      is' = rw (part_long, entry_same) at is

      placed : put_mid done (length out - done) out last ≡ held ar (front (view_of b)) (done + k) ++ drop (done + k) out₀
      placed = placed_more ar out₀ out last (front (view_of b)) done k (start (get_or t.«data» i zero_buf)) (ap start entry_same ∙ meets) m.fits m.bytes gave

      -- the rules at this chunk
      here : (copied (drop i (view_of b).chunks) (front (view_of b) + done) (length out₀ - done) ≡ k + copied (drop (i + 1) (view_of b).chunks) (end (get_or b.«data» i zero_buf)) (length out₀ - done - avail (get_or b.«data» i zero_buf)))
          × (advanced (drop i (view_of b).chunks) (front (view_of b) + done) (length out₀ - done) ≡ used (get_or b.«data» i zero_buf) k ∷ advanced (drop (i + 1) (view_of b).chunks) (end (get_or b.«data» i zero_buf)) (length out₀ - done - avail (get_or b.«data» i zero_buf)))
      here = (
        rw (next b g i low, is') (simp (lt-ltb _ _ some, eq-eqb _ _ meets)),
        rw (next b g i low, is') (simp (lt-ltb _ _ some, eq-eqb _ _ meets)),
      )

      -- what either way has in common: the table, the output and the numbers after it
      behind_same : drop (i + 1) (set t.«data» i (used (get_or t.«data» i zero_buf) k)) ≡ drop (i + 1) b.«data»
      behind_same =
          set_back t.«data» i (used (get_or t.«data» i zero_buf) k) (omega (arith, m.slots, m.small))
          ∙ sym (drop-drop 1 i t.«data») ∙ ap (drop 1) m.rest ∙ drop-drop 1 i b.«data»

      front_same : take (i + 1) (set t.«data» i (used (get_or t.«data» i zero_buf) k)) ≡ take i t.«data» ++ (used (get_or b.«data» i zero_buf) k ∷ [])
      front_same = set_front t.«data» i (used (get_or t.«data» i zero_buf) k) (omega (arith, m.slots, m.small)) ∙ ap (λ (c : RangeBuf). take i t.«data» ++ (used c k ∷ [])) entry_same

      out_long : length (put_mid done (length out - done) out last) ≡ length out₀
      out_long = ap length placed ∙ length-append (held ar (front (view_of b)) (done + k)) (drop (done + k) out₀) ∙ rw (length_held ar (front (view_of b)) (done + k), length-drop (done + k) out₀) (omega (arith, is', m.fits))

      in_reach : front (view_of b) + (done + k) ≤ M
      in_reach = let w = chunk_in b g i low in omega (arith, meets, is', w.high, w.eats, g.facts.limited, g.facts.limit_in)

      -- the rest of the rules, at the offset o with room for r bytes
      module _ (i' : ℕ) (top : i' ≤ i + 1)
          (ends_at : copied (drop (i + 1) (view_of b).chunks) (end (get_or b.«data» i zero_buf)) (length out₀ - done - avail (get_or b.«data» i zero_buf)) ≡ copied (drop (i + 1) (view_of b).chunks) (front (view_of b) + (done + k)) (length out₀ - (done + k)))
          (ends_with : advanced (drop (i + 1) (view_of b).chunks) (end (get_or b.«data» i zero_buf)) (length out₀ - done - avail (get_or b.«data» i zero_buf)) ≡ advanced (drop (i + 1) (view_of b).chunks) (front (view_of b) + (done + k)) (length out₀ - (done + k)))
          (ends-up : i' + finished (drop (i + 1) (view_of b).chunks) (front (view_of b) + (done + k)) (length out₀ - (done + k)) ≡ i + finished (drop i (view_of b).chunks) (front (view_of b) + done) (length out₀ - done)) where
        moved : Emitting ar out₀ b (put_mid done (length out - done) out last) (set_table t (set t.«data» i (used (get_or t.«data» i zero_buf) k)) t.count) (i + 1) i' (done + k)
        moved = record {
          within = omega arith;
          at_most = top;
          small = m.small;
          fits = omega (arith, is', m.fits);
          long = out_long;
          reach = in_reach;
          slots = length-set t.«data» i (used (get_or t.«data» i zero_buf) k) ∙ m.slots;
          same = ap (λ (y : SendBuf). set_table y (set t.«data» i (used (get_or t.«data» i zero_buf) k)) y.count) m.same;
          rest = behind_same;
          bytes = placed;
          counts = omega (arith, m.counts, here.0, ends_at);
          index = ends-up ∙ m.index;
          list = rw (front_same, append_assoc, ← ends_with, ← here.1) m.list;
        }

      -- the chunk is used up
      used_up : avail (used (get_or t.«data» i zero_buf) k) ≤ 0
          → Emitting ar out₀ b (put_mid done (length out - done) out last) (set_table t (set t.«data» i (used (get_or t.«data» i zero_buf) k)) t.count) (i + 1) (i + 1) (done + k)
      used_up h =
          let c = get_or b.«data» i zero_buf in
          let a : avail (used c k) ≤ 0 = rw (← entry_same) h in
          let w = chunk_in b g i low in
          let y = min_all k (length out₀ - done) c.len c.pos is' a in
          let e : k ≡ avail c = y.0 in
          let o : end c ≡ front (view_of b) + (done + k) = omega (arith, meets, e, w.eats) in
          let r : length out₀ - done - avail c ≡ length out₀ - (done + k) = room_left (length out₀) done k (avail c) e in
          let q : avail c ≤ length out₀ - done = y.1 in
          let f : finished (drop i (view_of b).chunks) (front (view_of b) + done) (length out₀ - done) ≡ suc (finished (drop (i + 1) (view_of b).chunks) (end c) (length out₀ - done - avail c)) =
          rw (next b g i low) (simp (lt-ltb _ _ some, eq-eqb _ _ meets, le-leb _ _ q)) in
          let f' : finished (drop (i + 1) (view_of b).chunks) (end c) (length out₀ - done - avail c) ≡ finished (drop (i + 1) (view_of b).chunks) (front (view_of b) + (done + k)) (length out₀ - (done + k)) = rw (o, r) in
          moved (i + 1) (omega arith) (rw (o, r)) (rw (o, r)) (omega (arith, f, f'))

      -- some of it is left: the output is full
      some_left : 0 < avail (used (get_or t.«data» i zero_buf) k)
          → Emitting ar out₀ b (put_mid done (length out - done) out last) (set_table t (set t.«data» i (used (get_or t.«data» i zero_buf) k)) t.count) (i + 1) i (done + k)
          × (length out₀ - (done + k) ≡ 0)
      some_left h =
          let c = get_or b.«data» i zero_buf in
          let a : 0 < avail (used c k) = rw (← entry_same) h in
          let y = min_some k (length out₀ - done) c.len c.pos is' a in
          let q : length out₀ - done < avail c = y.0 in
          let z : length out₀ - (done + k) ≡ 0 = room_used (length out₀) done k y.1 in
          let r : length out₀ - done - avail c ≡ 0 = none_left (length out₀ - done) (avail c) q in
          let l = drop (i + 1) (view_of b).chunks in
          let x = front (view_of b) + (done + k) in
          let f : finished (drop i (view_of b).chunks) (front (view_of b) + done) (length out₀ - done) ≡ 0 =
          rw (next b g i low) (simp (lt-ltb _ _ some, eq-eqb _ _ meets, lt-leb _ _ q)) in (
            moved i (omega arith)
                (copied_none l (end c) (length out₀ - done - avail c) r ∙ sym (copied_none l x (length out₀ - (done + k)) z))
                (advanced_none l (end c) (length out₀ - done - avail c) r ∙ sym (advanced_none l x (length out₀ - (done + k)) z))
                (ap (λ (y : ℕ). i + y) (finished_none l x (length out₀ - (done + k)) z ∙ sym f)),
            z,
          )

      -- the same of the chunk u that the code has then
      module _ (u : RangeBuf) (e : u ≡ used (get_or t.«data» i zero_buf) k) where
        pub full : avail u ≤ 0 → Emitting ar out₀ b (put_mid done (length out - done) out last) (set_table t (set t.«data» i u) t.count) (i + 1) (i + 1) (done + k)
        full = subst
            (λ (v : RangeBuf). avail v ≤ 0 → Emitting ar out₀ b (put_mid done (length out - done) out last) (set_table t (set t.«data» i v) t.count) (i + 1) (i + 1) (done + k))
            (sym e) used_up

        pub part : 0 < avail u
            → Emitting ar out₀ b (put_mid done (length out - done) out last) (set_table t (set t.«data» i u) t.count) (i + 1) i (done + k)
            × (length out₀ - (done + k) ≡ 0)
        part = subst
            (λ (v : RangeBuf). 0 < avail v
            → Emitting ar out₀ b (put_mid done (length out - done) out last) (set_table t (set t.«data» i v) t.count) (i + 1) i (done + k)
            × (length out₀ - (done + k) ≡ 0))
            (sym e) some_left

  -- ---- the ways out

  module _ (out : List ℕ) (t : SendBuf) (j i done : ℕ) (m : Emitting ar out₀ b out t j i done)
      (none : copied (drop j (view_of b).chunks) (front (view_of b) + done) (length out₀ - done) ≡ 0)
      (up : finished (drop j (view_of b).chunks) (front (view_of b) + done) (length out₀ - done) ≡ 0)
      (as-was : advanced (drop j (view_of b).chunks) (front (view_of b) + done) (length out₀ - done) ≡ drop j (view_of b).chunks) where
    after_list : take j t.«data» ++ drop j (view_of b).chunks ≡ chunks_after (view_of b) (length out₀)
    after_list = ap (λ (l : List RangeBuf). take j t.«data» ++ l) (sym as-was) ∙ m.list

    after_length : length (chunks_after (view_of b) (length out₀)) ≡ b.count
    after_length =
        ap length (sym after_list) ∙ length-append (take j t.«data») (drop j (view_of b).chunks)
        ∙ rw (length-take-le j t.«data» (omega (arith, m.within, m.small, m.slots)), length-drop j (view_of b).chunks, chunks_length b g) (omega (arith, m.within))

    after_table : t.«data» ≡ table_of zero_buf (chunks_after (view_of b) (length out₀))
    after_table =
        let l = (view_of b).chunks in
        let n = chunks_length b g in
        let z : List RangeBuf = replicate (64 - length l) zero_buf in
        let d : drop j t.«data» ≡ drop j l ++ z = m.rest ∙ ap (drop j) (table b g).clear ∙ drop-append-le j l z (omega (arith, m.within, n)) in
        let q : 64 - length l ≡ 64 - length (chunks_after (view_of b) (length out₀)) = ap (λ (k : ℕ). 64 - k) (n ∙ sym after_length) in
        sym (take-append-drop j t.«data») ∙ ap (λ (x : List RangeBuf). take j t.«data» ++ x) d ∙ sym (append_assoc (take j t.«data») (drop j l) z)
        ∙ ap (λ (x : List RangeBuf). x ++ z) after_list ∙ ap (λ (k : ℕ). chunks_after (view_of b) (length out₀) ++ replicate k zero_buf) q

    pub emit_ends : (◌≡◌ {A = Outcome (ℕ × ℕ) SendBuf} (record { answer = Ok (done, i); state = t }) (copied_out (view_of b) (length out₀))) × (out ≡ out_after (view_of b) ar out₀)
    unfolding copied_out
    emit_ends =
        let n : done ≡ emit_count (view_of b) (length out₀) = omega (arith, m.counts, none) in
        let x : i ≡ first (view_of b) + finished (drop (first (view_of b)) (view_of b).chunks) (front (view_of b)) (length out₀) = omega (arith, m.index, up) in
        let y : t ≡ buf_of (with_queue (view_of b) (chunks_after (view_of b) (length out₀)) b.pos b.buffered_bytes) =
        m.same ∙ made (with_queue (view_of b) (chunks_after (view_of b) (length out₀)) b.pos b.buffered_bytes) t.«data» b.count b.acked after_table (sym after_length) (acked_is b g) in
        (λ p. record { answer = Ok (n p, x p); state = y p }, m.bytes ∙ ap (λ (k : ℕ). held ar (front (view_of b)) k ++ drop k out₀) n)

  -- behind the last chunk; at one that does not go on; the output is full
  pub ends_behind : (out : List ℕ) (t : SendBuf) (i done : ℕ) → Emitting ar out₀ b out t i i done → b.count ≤ i
      → (◌≡◌ {A = Outcome (ℕ × ℕ) SendBuf} (record { answer = Ok (done, i); state = t }) (copied_out (view_of b) (length out₀))) × (out ≡ out_after (view_of b) ar out₀)
  ends_behind out t i done m h = let e = behind b g i h in emit_ends out t i i done m (rw e) (rw e) (rw e)

  pub ends_apart : (out : List ℕ) (t : SendBuf) (i done : ℕ) → Emitting ar out₀ b out t i i done → i < b.count
      → (ltb 0 (length out - done) && eqb (start (get_or t.«data» i zero_buf)) (front (view_of b) + done)) ≡ false
      → (◌≡◌ {A = Outcome (ℕ × ℕ) SendBuf} (record { answer = Ok (done, i); state = t }) (copied_out (view_of b) (length out₀))) × (out ≡ out_after (view_of b) ar out₀)
  ends_apart out t i done m low e =
      let f : (ltb 0 (length out₀ - done) && eqb (start (get_or b.«data» i zero_buf)) (front (view_of b) + done)) ≡ false = rw (m.long, entry_same out t i done m low) at e in
      emit_ends out t i i done m (rw (next b g i low, f)) (rw (next b g i low, f)) (rw (next b g i low, f))

  pub ends_full : (out : List ℕ) (t : SendBuf) (j i done : ℕ) → Emitting ar out₀ b out t j i done → length out₀ - done ≡ 0
      → (◌≡◌ {A = Outcome (ℕ × ℕ) SendBuf} (record { answer = Ok (done, i); state = t }) (copied_out (view_of b) (length out₀))) × (out ≡ out_after (view_of b) ar out₀)
  ends_full out t j i done m z =
      let l = drop j (view_of b).chunks in
      let x = front (view_of b) + done in
      emit_ends out t j i done m (copied_none l x (length out₀ - done) z) (finished_none l x (length out₀ - done) z) (advanced_none l x (length out₀ - done) z)

-- ---- the whole emit

-- a number that may be missing, held against one by `==`
pub fin_at : (o : Option ℕ) (n : ℕ) → option_eq eqb o (Some n) ≡ is_at o n
fin_at None n = refl
fin_at (Some m) n = refl

module _ (s : Send) (ar out : List ℕ) where
  pub emits_bad : other_arena s (length ar) ≡ true → (emitted s (length ar) (length out) ≡ record { answer = Err BadSetup; state = buf_of s }) × (emitted_out s ar out ≡ out)
  unfolding emitted emitted_out
  emits_bad e = (simp e, simp e)

  module _ (o : Outcome (ℕ × ℕ) SendBuf) (is : o ≡ copied_out s (length out)) (k : ℕ × ℕ) (ok : o.answer ≡ Ok k) where
    counted : k ≡ (emit_count s (length out), first s + finished (drop (first s) s.chunks) (front s) (length out))
    unfolding copied_out
    counted =
        let e : Ok k ≡ Ok (emit_count s (length out), first s + finished (drop (first s) s.chunks) (front s) (length out)) = sym ok ∙ ap (λ (x : Outcome (ℕ × ℕ) SendBuf). x.answer) is in
        cc

    -- the bytes copied were to be sent, and end at or below M
    pub sent_in : GoodSend s → (k.0 ≤ o.state.buffered_bytes) × (front s + k.0 ≤ M)
    unfolding copied_out buf_of
    sent_in g =
        let t = total_sent (first s) s.chunks (front s) (length out) in
        let r = reached s g (length out) in
        let n : k.0 ≡ emit_count s (length out) = ap (λ (x : ℕ × ℕ). x.0) counted in
        let b : o.state.buffered_bytes ≡ s.buffered = ap (λ (x : Outcome (ℕ × ℕ) SendBuf). x.state.buffered_bytes) is in
        (omega (arith, n, g.all_buffered), omega (arith, n, g.limited, g.limit_in))

    pub emits : other_arena s (length ar) ≡ false → (from : ℕ) (f : Bool) (r : SendBuf) → from ≡ front s → f ≡ is_at s.fin (from + k.0) → r ≡ sent_to o.state k.1 from k.0
        → ◌≡◌ {A = Outcome (ℕ × Bool) SendBuf} (record { answer = Ok (k.0, f); state = r }) (emitted s (length ar) (length out))
    unfolding emitted copied_out sent buf_of
    emits e from f r x p q = rw (q, p, x, counted, is, e)

    pub gives : other_arena s (length ar) ≡ false → (last : List ℕ) → last ≡ out_after s ar out → last ≡ emitted_out s ar out
    unfolding emitted_out
    gives e last p = rw (p, e)

  -- the loop always counts
  pub never_refused : (o : Outcome (ℕ × ℕ) SendBuf) → o ≡ copied_out s (length out) → (why : Refusal) → o.answer ≡ Err why → ⊥
  unfolding copied_out
  never_refused o is why e =
      let f : ◌≡◌ {A = Result (ℕ × ℕ) Refusal} (Err why) (Ok (emit_count s (length out), first s + finished (drop (first s) s.chunks) (front s) (length out))) = sym e ∙ ap (λ (x : Outcome (ℕ × ℕ) SendBuf). x.answer) is in
      cc
