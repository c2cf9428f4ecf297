-- A buffer that joins is like one whose table has no end: after the same accepted calls, emits give the same bytes and marks, retransmits the same
-- amounts, and as many bytes are to be sent, as long as every ack drops the same bytes of both. Assumes nothing.
use Rattle.std.specs.Prelude.{Option, Some, Result, Ok, Err, ⊤}
use mathlib.Core.Path.{◌≡◌, refl, sym, ap, subst, subst₂, ◌∙◌}
use mathlib.Core.Bool.{Bool, true, false, cond, ◌||◌, true≢false}
use mathlib.Core.List.{List, [], ◌∷◌, ◌++◌}
use Prim.Native.Nat.{ℕ, suc, ◌+◌, ◌-◌, ◌≤◌, max}
use native.Mathlib.Omega.{arith}
use lib.Dec.{ltb, leb, eqb}
use lib.ListN.{length, drop}
use borrow.Author.Tests.{eq-eqb, eqb-true}
use Rattle.refusal.specs.Rules.{fin_with, is_at}
use Rattle.refusal.specs.declared.Refusal.{Refusal}
use Rattle.refusal.specs.declared.Refusal.TheVariants.{FinalSize, NoRoom, BadSetup}
use Rattle.range_buf.specs.declared.RangeBuf.{RangeBuf}
use Rattle.range_buf.specs.Rules.{end}
use Rattle.ranges.specs.State.{upto}
use Rattle.ranges.specs.Rules.{placed}
use Rattle.tables.proofs.Tables.{cond_elim, by_test}
use Rattle.send_buf.specs.State.{Send, base, Adjoin, Spent}
use Rattle.send_buf.specs.Rules.{other_arena, ack_off, with_queue, with_end, with_emitted, with_acked, with_limit, with_closed, marked, accepted, unless_stopped, passes_final, pieces, cut, front_of, front, first, emit_count, sent, ack_judged, acked_more, behind, drop_bytes, drop_to, dropped, back, back_bytes, settled, lost_bytes, unsent, was_reset, tabled, longer, wrote, lost}
use Rattle.send_buf.proofs.Chunks.{advanced_from, adj_le, adj_base, adj_at, adj_append, adj_cut, base_sent, adj_behind, total_behind, adj_back, total_back}
use Rattle.send_buf.proofs.Position.{spent_first}
use Rattle.joining.specs.Calls.{free_write_judged, free_wrote, free_loss_judged, free_lost}
use Rattle.send_buf.proofs.Joining.{base_tabled}
use Rattle.send_buf.proofs.Emits.{Moves, moves_from}
use Rattle.joining.proofs.Bytes.{Same, same_refl, same_trans, same_joined, begins_same, taken, taken_same, emit_map, total_same, write_map, drop_map, back_map}

-- ---- the relation

-- all but the chunks and the send position
abbrev pub bare : Send → Send
bare s = with_queue s [] 0 s.buffered

-- the same numbers; the same bytes held, and of them the same still to be sent
pub record Alike (s t : Send) : Type 0 where
  pub numbers : bare s ≡ bare t
  pub begin : base s.chunks s.off ≡ base t.chunks t.off
  pub bytes : Same s.chunks t.chunks

-- what is needed of a buffer, however many chunks it has
pub record Sound (s : Send) : Type 0 where
  pub adjoin : Adjoin (base s.chunks s.off) s.chunks s.off
  pub pos_in : s.pos ≤ length s.chunks
  pub spent : Spent s.pos s.chunks

-- the same test, two ways
pub both_ways : {A B : Type 0} (P : A → B → Type 0) (t u : Bool) {x y : A} {v w : B} → t ≡ u → (t ≡ true → P x v) → (t ≡ false → P y w) → P (cond t x y) (cond u v w)
both_ways P true true e f g = f refl
both_ways P false false e f g = g refl
both_ways P true false e f g = absurd (true≢false e)
both_ways P false true e f g = absurd (true≢false (sym e))

same_tabled : (lo : ℕ) (cs : List RangeBuf) (hi : ℕ) → Adjoin lo cs hi → Same (tabled cs) cs
same_tabled lo cs hi k = cond_elim (λ (x : List RangeBuf). Same x cs) (ltb 64 (length cs)) (λ _. same_joined lo cs hi k) (λ _. same_refl cs)

-- the front offset, from the send position p on
abbrev front_at : List RangeBuf → ℕ → ℕ → ℕ
front_at cs p hi = front_of (drop p cs) hi

-- the chunks after a write adjoin
pub longer_adjoin : (s : Send) → Sound s → (n : ℕ) → Adjoin (base s.chunks s.off) (longer s (accepted s n)) (s.off + accepted s n)
longer_adjoin s u n =
    let k : ℕ = accepted s n in
    adj_append (base s.chunks s.off) s.chunks s.off (cut (pieces k) s.off k) (s.off + k) u.adjoin
    (adj_cut (pieces k) s.off k (omega arith) (omega arith))

-- there are no chunks exactly if nothing is held
none_held : (lo : ℕ) (cs : List RangeBuf) (hi : ℕ) → Adjoin lo cs hi → eqb (length cs) 0 ≡ eqb lo hi
none_held lo [] hi k = sym (eq-eqb lo hi k)
none_held lo (c ∷ cs) hi k =
    by_test (eqb lo hi) (λ e. absurd (omega (arith, eqb-true lo hi e, k.0, k.1, adj_le (end c) cs hi k.3)))
    (λ e. by_test (eqb (suc (length cs)) 0) (λ f. absurd (omega (arith, eqb-true (suc (length cs)) 0 f))) (λ f. f ∙ sym e))

-- the numbers after a call, from those before it and what the chunks say
abbrev emit_numbers : Send → ℕ → ℕ → Send
emit_numbers x o k = with_emitted (with_queue x [] 0 (x.buffered - k)) (max x.emitted (o + k))

abbrev write_numbers : Send → ℕ → Bool → Send
write_numbers x n fin =
    with_end (with_queue x [] 0 (x.buffered + accepted x n)) (x.off + accepted x n) (fin_with x.fin (x.off + n) (marked x n fin))

abbrev write_tests : Send → ℕ → ℕ → ℕ → Bool → Result ⊤ Refusal
write_tests x b a n fin =
    cond (other_arena x a) (Err BadSetup) (
    unless_stopped x.error (
    cond (passes_final x.fin (x.off + n) (marked x n fin)) (Err FinalSize) (
    cond (ltb x.room (accepted x n + (x.off - b))) (Err NoRoom) (
    Ok tt))))

abbrev reset_numbers : Send → ℕ → Send
reset_numbers x o =
    with_acked (with_end (with_queue x [] 0 0) (max o x.emitted) (Some (max o x.emitted))) (placed (upto 0 (max o x.emitted)) x.acked)

module _ (s t : Send) (u : Sound s) (v : Sound t) (a : Alike s t) where
  lo : ℕ
  lo = base s.chunks s.off

  pub same_off : s.off ≡ t.off
  same_off = ap (λ (x : Send). x.off) a.numbers

  same_buffered : s.buffered ≡ t.buffered
  same_buffered = ap (λ (x : Send). x.buffered) a.numbers

  -- the other's chunks adjoin over the same offsets
  pub there : Adjoin (base s.chunks s.off) t.chunks s.off
  there = adj_at (base t.chunks t.off) (base s.chunks s.off) t.chunks t.off s.off (sym a.begin) (sym same_off) v.adjoin

  -- ---- emit

  pub front_alike : front s ≡ front t
  front_alike =
      begins_same (base s.chunks s.off) s.chunks t.chunks s.off s.pos t.pos 0 u.adjoin there u.spent v.spent a.bytes
      ∙ ap (λ (x : ℕ). front_at t.chunks t.pos x) same_off

  pub count_alike : (n : ℕ) → emit_count s n ≡ emit_count t n
  count_alike n =
      taken_same (base s.chunks s.off) s.chunks t.chunks s.off s.pos t.pos n u.adjoin there u.spent v.spent a.bytes
      ∙ ap (λ (x : ℕ). taken t.pos t.chunks x n) same_off

  pub mark_alike : (n : ℕ) → is_at s.fin (front s + emit_count s n) ≡ is_at t.fin (front t + emit_count t n)
  mark_alike n = λ j. is_at (a.numbers j).fin (front_alike j + count_alike n j)

  emit_bytes : (n : ℕ) → Same (advanced_from (first s) s.chunks (front s) n) (advanced_from (first t) t.chunks (front t) n)
  emit_bytes n =
      emit_map s.chunks (advanced_from (first s) s.chunks (front s) n) t.chunks (advanced_from (first t) t.chunks (front t) n) (front s) (emit_count s n)
      (moves_from (first s) (base s.chunks s.off) s.chunks s.off (front s) n u.adjoin (spent_first s.pos (base s.chunks s.off) s.chunks s.off u.adjoin u.spent))
      (subst₂ (λ (x y : ℕ). Moves t.chunks (advanced_from (first t) t.chunks (front t) n) x y) (sym front_alike) (sym (count_alike n))
      (moves_from (first t) (base t.chunks t.off) t.chunks t.off (front t) n v.adjoin (spent_first t.pos (base t.chunks t.off) t.chunks t.off v.adjoin v.spent)))
      a.bytes

  pub emit_alike : (n : ℕ) → Alike (sent s n) (sent t n)
  unfolding sent
  emit_alike n = record {
    numbers = λ j. emit_numbers (a.numbers j) (front_alike j) (count_alike n j);
    begin = base_sent (first s) s.chunks s.off (front s) n ∙ a.begin ∙ sym (base_sent (first t) t.chunks t.off (front t) n);
    bytes = emit_bytes n;
  }

  -- ---- write

  pub accepted_alike : (n : ℕ) → accepted s n ≡ accepted t n
  accepted_alike n = ap (λ (x : Send). accepted x n) a.numbers

  pub write_told : (ar n : ℕ) (fin : Bool) → free_write_judged s ar n fin ≡ free_write_judged t ar n fin
  unfolding free_write_judged
  write_told ar n fin = λ j. write_tests (a.numbers j) (a.begin j) ar n fin

  write_bytes : (n : ℕ) → Same (longer s (accepted s n)) (longer t (accepted t n))
  write_bytes n =
      let e : cut (pieces (accepted s n)) s.off (accepted s n) ≡ cut (pieces (accepted t n)) t.off (accepted t n) = λ j. cut (pieces (accepted_alike n j)) (same_off j) (accepted_alike n j) in
      subst (λ (l : List RangeBuf). Same (longer s (accepted s n)) (t.chunks ++ l)) e (write_map s.chunks t.chunks (cut (pieces (accepted s n)) s.off (accepted s n)) a.bytes)

  pub write_alike : (n : ℕ) (fin : Bool) → Alike (wrote s n fin) (free_wrote t n fin)
  unfolding wrote free_wrote
  write_alike n fin =
      let k = longer_adjoin s u n in record {
        numbers = ap (λ (x : Send). write_numbers x n fin) a.numbers;
        begin = base_tabled (base s.chunks s.off) (longer s (accepted s n)) (s.off + accepted s n) k ∙ a.begin
            ∙ sym (adj_base (base t.chunks t.off) (longer t (accepted t n)) (t.off + accepted t n) (longer_adjoin t v n));
        bytes = same_trans (tabled (longer s (accepted s n))) (longer s (accepted s n)) (longer t (accepted t n)) (same_tabled (base s.chunks s.off) (longer s (accepted s n)) (s.off + accepted s n) k) (write_bytes n);
      }

  -- ---- ack, and ack and drop

  pub ack_told : (o n : ℕ) → ack_judged s o n ≡ ack_judged t o n
  unfolding ack_judged
  ack_told o n = ap (λ (x : Send). ack_judged x o n) a.numbers

  pub ack_alike : (o n : ℕ) → Alike (acked_more s o n) (acked_more t o n)
  unfolding acked_more
  ack_alike o n = record { numbers = ap (λ (x : Send). acked_more x o n) a.numbers; begin = a.begin; bytes = a.bytes }

  pub to_alike : (o : ℕ) → drop_to s o ≡ drop_to t o
  to_alike o = ap (λ (x : Send). drop_to x o) a.numbers

  -- the drop goes to the same byte
  module _ (k : ℕ) (e : base (behind s.chunks k) s.off ≡ base (behind t.chunks k) t.off) where
    drops_there : base (behind s.chunks k) s.off ≡ base (behind t.chunks k) s.off
    drops_there = e ∙ ap (base (behind t.chunks k)) (sym same_off)

    drop_bytes_map : Same (behind s.chunks k) (behind t.chunks k)
    drop_bytes_map = drop_map (base s.chunks s.off) s.chunks t.chunks s.off k u.adjoin there drops_there a.bytes

    pub dropped_alike : drop_bytes s.chunks k ≡ drop_bytes t.chunks k
    dropped_alike =
        let p = (adj_behind (base s.chunks s.off) s.chunks s.off k u.adjoin).1 in
        let q = (adj_behind (base s.chunks s.off) t.chunks s.off k there).1 in
        let r = subst (λ (x : ℕ). Adjoin x (behind t.chunks k) s.off) (sym drops_there) q in
        omega (
          arith,
          total_behind s.chunks k,
          total_behind t.chunks k,
          total_same (base s.chunks s.off) s.chunks t.chunks s.off u.adjoin there a.bytes,
          total_same (base (behind s.chunks k) s.off) (behind s.chunks k) (behind t.chunks k) s.off p r drop_bytes_map,
        )

    pub drop_alike : Alike (dropped s k) (dropped t k)
    drop_alike = record { numbers = λ j. with_queue (a.numbers j) [] 0 (same_buffered j - dropped_alike j); begin = e; bytes = drop_bytes_map }

  -- ---- retransmit

  pub settled_alike : (o n : ℕ) → settled s o n ≡ settled t o n
  settled_alike o n =
      let e : eqb (length s.chunks) 0 ≡ eqb (length t.chunks) 0 =
      none_held (base s.chunks s.off) s.chunks s.off u.adjoin ∙ sym (none_held (base s.chunks s.off) t.chunks s.off there) in
      λ j. e j || leb (o + n) (ack_off (a.numbers j).acked)

  pub back_alike : (o e : ℕ) → back_bytes s.chunks o e ≡ back_bytes t.chunks o e
  back_alike o e =
      let b : ℕ = base s.chunks s.off in
      omega (
        arith,
        total_back b s.chunks s.off o e u.adjoin,
        total_back b t.chunks s.off o e there,
        total_same b s.chunks t.chunks s.off u.adjoin there a.bytes,
        total_same b (back s.chunks o e) (back t.chunks o e) s.off (adj_back b s.chunks s.off o e u.adjoin) (adj_back b t.chunks s.off o e there)
            (back_map b s.chunks t.chunks s.off o e u.adjoin there a.bytes),
      )

  pub lost_alike : (o n : ℕ) → lost_bytes s o n ≡ lost_bytes t o n
  lost_alike o n = λ j. cond (settled_alike o n j) 0 (back_alike o (o + n) j)

  pub loss_told : (o n : ℕ) → free_loss_judged s o n ≡ free_loss_judged t o n
  unfolding free_loss_judged
  loss_told o n = ap (λ (x : Send). free_loss_judged x o n) a.numbers

  pub loss_alike : (o n : ℕ) → Alike (lost s o n) (free_lost t o n)
  unfolding lost free_lost
  loss_alike o n =
      let b : ℕ = base s.chunks s.off in
      let e : ℕ = o + n in
      let k = adj_back b s.chunks s.off o e u.adjoin in
      both_ways Alike (settled s o n) (settled t o n) (settled_alike o n) (λ _. a)
      (λ _. record {
        numbers = λ j. with_queue (a.numbers j) [] 0 (same_buffered j + back_alike o e j);
        begin = base_tabled b (back s.chunks o e) s.off k ∙ a.begin
            ∙ sym (adj_base (base t.chunks t.off) (back t.chunks o e) t.off (adj_back (base t.chunks t.off) t.chunks t.off o e v.adjoin));
        bytes = same_trans (tabled (back s.chunks o e)) (back s.chunks o e) (back t.chunks o e) (same_tabled b (back s.chunks o e) s.off k)
            (back_map b s.chunks t.chunks s.off o e u.adjoin there a.bytes);
      })

  -- ---- reset, stop, shutdown, the limit

  pub unsent_alike : unsent s ≡ unsent t
  unsent_alike = λ j. (a.numbers j).off - max (front_alike j) (a.numbers j).emitted

  pub reset_alike : Alike (was_reset s) (was_reset t)
  unfolding was_reset
  reset_alike = record {
    numbers = λ j. reset_numbers (a.numbers j) (front_alike j);
    begin = λ j. max (front_alike j) (a.numbers j).emitted;
    bytes = same_refl [];
  }

  pub closed_alike : (shut : Bool) (error : Option ℕ) → Alike (with_closed s shut error) (with_closed t shut error)
  closed_alike shut error = record { numbers = ap (λ (x : Send). with_closed x shut error) a.numbers; begin = a.begin; bytes = a.bytes }

  pub limit_alike : (limit : ℕ) (blocked : Option ℕ) → Alike (with_limit s limit blocked) (with_limit t limit blocked)
  limit_alike limit blocked = record { numbers = ap (λ (x : Send). with_limit x limit blocked) a.numbers; begin = a.begin; bytes = a.bytes }
