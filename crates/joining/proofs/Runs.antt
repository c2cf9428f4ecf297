-- For the same accepted calls, a buffer that joins answers as one whose table has no end: the same numbers, bytes and marks, as many bytes to send,
-- from the same offset on; until an ack covers a joined chunk only in part. Assumes nothing.
use Rattle.std.specs.Prelude.{Option, None, Some, Ok, Err}
use mathlib.Core.Path.{◌≡◌, refl, sym, ap, subst, ◌∙◌}
use mathlib.Core.Bool.{Bool, true, false, cond}
use mathlib.Core.List.{List, [], ◌∷◌, ◌++◌}
use Prim.Native.Nat.{ℕ, ◌+◌, ◌-◌, ◌≤◌, max}
use native.Mathlib.Omega.{arith}
use lib.Dec.{eqb}
use lib.ListN.{length, take, drop, length-append, length-drop}
use Rattle.refusal.specs.Rules.{known}
use Rattle.refusal.specs.declared.Refusal.TheVariants.{FinalSize, NoRoom, TableFull, NeverSent, Done as NothingMore, BadSetup}
use Rattle.refusal.proofs.Chain.{passes}
use Rattle.arena.specs.Rules.{kept, held}
use Rattle.range_buf.specs.declared.RangeBuf.{RangeBuf}
use Rattle.tables.proofs.Tables.{cond_elim}
use Rattle.tables.proofs.Tests.{either}
use Rattle.send_buf.specs.State.{Send, base, Adjoin, Spent}
use Rattle.send_buf.specs.Rules.{other_arena, with_queue, with_end, with_limit, with_closed, marked, accepted, unless_stopped, passes_final, no_room, pieces, cut, front, first, finished, emit_count, emit_pos, sent, never_sent, acked_more, behind, drop_bytes, drop_to, dropped, back, back_pos, settled, unsent, was_reset, new_send, tabled, tabled_pos, longer, no_entry, write_judged, wrote, loss_judged, lost}
use Rattle.joining.specs.Calls.{free_write_judged, free_wrote, free_loss_judged, free_lost, Kind, joining, endless, Call, write, emit, ack, ack_and_drop, retransmit, reset, stop, shutdown, update_max_data, update_blocked_at, judged, next, arena_after, only, bit, given, Accepted, run, Begins, Part, covers, NoPart}
use Rattle.send_buf.proofs.Chunks.{advanced_from, adj_base, adj_sent, base_sent, length_sent, skipped_le, finished_le, adj_behind, length_behind, adj_back, length_back, back_pos_le}
use Rattle.send_buf.proofs.Position.{spent_weak, spent_append, spent_first, spent_sent, spent_behind, spent_back}
use Rattle.send_buf.proofs.Joining.{adj_tabled, pos_tabled, spent_tabled}
use Rattle.joining.proofs.Bytes.{same_refl}
use Rattle.joining.proofs.Alike.{Alike, Sound, both_ways, same_off, there, longer_adjoin, front_alike, count_alike, mark_alike, emit_alike, accepted_alike, write_told, write_alike, ack_told, ack_alike, to_alike, dropped_alike, drop_alike, settled_alike, lost_alike, loss_told, loss_alike, unsent_alike, reset_alike, closed_alike, limit_alike}
use Rattle.joining.proofs.Parts.{Finer, begins_tabled, begins_sent, finer_append, finer_back, finer_behind, drops_same_or_part}

-- ---- every call keeps a buffer sound, however many chunks it has

sound_queue : (s : Send) (cs : List RangeBuf) (pos buffered off : ℕ) (fin : Option ℕ) (lo : ℕ) → Adjoin lo cs off → pos ≤ length cs → Spent pos cs
    → Sound (with_end (with_queue s cs pos buffered) off fin)
sound_queue s cs pos buffered off fin lo k p h =
    record { adjoin = subst (λ (x : ℕ). Adjoin x cs off) (sym (adj_base lo cs off k)) k; pos_in = p; spent = h }

module _ (s : Send) (u : Sound s) where
  b : ℕ
  b = base s.chunks s.off

  longer_pos : (n : ℕ) → s.pos ≤ length (longer s (accepted s n))
  longer_pos n = omega (arith, length-append s.chunks (cut (pieces (accepted s n)) s.off (accepted s n)), u.pos_in)

  longer_spent : (n : ℕ) → Spent s.pos (longer s (accepted s n))
  longer_spent n = spent_append s.pos s.chunks (cut (pieces (accepted s n)) s.off (accepted s n)) u.pos_in u.spent

  sound_wrote : (n : ℕ) (fin : Bool) → Sound (wrote s n fin)
  unfolding wrote
  sound_wrote n fin =
      let k = longer_adjoin s u n in
      sound_queue s (tabled (longer s (accepted s n))) (tabled_pos (longer s (accepted s n)) s.pos) _ (s.off + accepted s n) _ (base s.chunks s.off)
      (adj_tabled (base s.chunks s.off) (longer s (accepted s n)) (s.off + accepted s n) k) (pos_tabled (longer s (accepted s n)) s.pos (longer_pos n)) (spent_tabled (longer s (accepted s n)) s.pos (longer_spent n))

  sound_free_wrote : (n : ℕ) (fin : Bool) → Sound (free_wrote s n fin)
  unfolding free_wrote
  sound_free_wrote n fin = sound_queue s (longer s (accepted s n)) s.pos _ (s.off + accepted s n) _ (base s.chunks s.off) (longer_adjoin s u n) (longer_pos n) (longer_spent n)

  sound_sent : (n : ℕ) → Sound (sent s n)
  unfolding sent
  sound_sent n =
      let i : ℕ = first s in
      let lo : ℕ = base s.chunks s.off in
      let cs : List RangeBuf = advanced_from i s.chunks (front s) n in
      let l = length_sent i s.chunks (front s) n in
      let f = spent_first s.pos lo s.chunks s.off u.adjoin u.spent in
      let top : emit_pos s n ≤ i + finished (drop i s.chunks) (front s) n =
      cond_elim (λ (x : ℕ). x ≤ i + finished (drop i s.chunks) (front s) n) (eqb (emit_count s n) 0) (λ _. omega arith) (λ _. omega arith) in record {
        adjoin = subst (λ (x : ℕ). Adjoin x cs s.off) (sym (base_sent i s.chunks s.off (front s) n)) (adj_sent i lo s.chunks s.off (front s) n u.adjoin);
        pos_in = omega (arith, top, l, u.pos_in, skipped_le (drop s.pos s.chunks), length-drop s.pos s.chunks, finished_le (drop i s.chunks) (front s) n, length-drop i s.chunks);
        spent = spent_weak (i + finished (drop i s.chunks) (front s) n) (emit_pos s n) cs top (spent_sent i lo s.chunks s.off (front s) n u.adjoin f);
      }

  sound_acked : (a n : ℕ) → Sound (acked_more s a n)
  unfolding acked_more
  sound_acked a n = record { adjoin = u.adjoin; pos_in = u.pos_in; spent = u.spent }

  sound_dropped : (k : ℕ) → Sound (dropped s k)
  sound_dropped k = record {
    adjoin = (adj_behind (base s.chunks s.off) s.chunks s.off k u.adjoin).1;
    pos_in = omega (arith, u.pos_in, length_behind s.chunks k);
    spent = spent_behind s.pos s.chunks k u.spent;
  }

  module _ (a e : ℕ) where
    back_adjoin : Adjoin (base s.chunks s.off) (back s.chunks a e) s.off
    back_adjoin = adj_back (base s.chunks s.off) s.chunks s.off a e u.adjoin

    back_pos_lem : back_pos s.chunks 0 s.pos a e ≤ length (back s.chunks a e)
    back_pos_lem = omega (arith, u.pos_in, length_back s.chunks a e, back_pos_le s.chunks 0 s.pos a e)

    back_spent : Spent (back_pos s.chunks 0 s.pos a e) (back s.chunks a e)
    back_spent =
        spent_weak (back_pos s.chunks 0 s.pos a e - 0) (back_pos s.chunks 0 s.pos a e) (back s.chunks a e) (omega arith)
        (spent_back s.chunks 0 s.pos a e (spent_weak s.pos (s.pos - 0) s.chunks (omega arith) u.spent))

  sound_lost : (a n : ℕ) → Sound (lost s a n)
  unfolding lost
  sound_lost a n =
      let cs : List RangeBuf = back s.chunks a (a + n) in
      let p : ℕ = back_pos s.chunks 0 s.pos a (a + n) in
      cond_elim Sound (settled s a n) (λ _. u)
      (λ _. sound_queue s (tabled cs) (tabled_pos cs p) _ s.off s.fin (base s.chunks s.off) (adj_tabled (base s.chunks s.off) cs s.off (back_adjoin a (a + n)))
      (pos_tabled cs p (back_pos_lem a (a + n))) (spent_tabled cs p (back_spent a (a + n))))

  sound_free_lost : (a n : ℕ) → Sound (free_lost s a n)
  unfolding free_lost
  sound_free_lost a n =
      cond_elim Sound (settled s a n) (λ _. u)
      (λ _. sound_queue s (back s.chunks a (a + n)) (back_pos s.chunks 0 s.pos a (a + n)) _ s.off s.fin (base s.chunks s.off) (back_adjoin a (a + n)) (back_pos_lem a (a + n)) (back_spent a (a + n)))

  sound_reset : Sound (was_reset s)
  unfolding was_reset
  sound_reset = record { adjoin = refl; pos_in = omega arith; spent = tt }

  sound_closed : (shut : Bool) (error : Option ℕ) → Sound (with_closed s shut error)
  sound_closed shut error = record { adjoin = u.adjoin; pos_in = u.pos_in; spent = u.spent }

  sound_limit : (limit : ℕ) (blocked : Option ℕ) → Sound (with_limit s limit blocked)
  sound_limit limit blocked = record { adjoin = u.adjoin; pos_in = u.pos_in; spent = u.spent }

-- what either kind needs for the two calls that are its own
record Keeps (t : Kind) : Type 0 where
  pub wrote : (s : Send) → Sound s → (n : ℕ) (fin : Bool) → Sound (t.wrote s n fin)
  pub lost : (s : Send) → Sound s → (a n : ℕ) → Sound (t.lost s a n)

joining_keeps : Keeps joining
joining_keeps = record { wrote = sound_wrote; lost = sound_lost }

endless_keeps : Keeps endless
endless_keeps = record { wrote = sound_free_wrote; lost = sound_free_lost }

next_sound : (t : Kind) → Keeps t → (s : Send) → Sound s → (x : Call) → Sound (next t s x)
next_sound t k s u (write input fin) = k.wrote s u (length input) fin
next_sound t k s u (emit out) = sound_sent s u (length out)
next_sound t k s u (ack a n) = sound_acked s u a n
next_sound t k s u (ack_and_drop a n) = sound_dropped (acked_more s a n) (sound_acked s u a n) (drop_to (acked_more s a n) a)
next_sound t k s u (retransmit a n) = k.lost s u a n
next_sound t k s u reset = sound_reset s u
next_sound t k s u (stop code) = sound_closed (was_reset s) (sound_reset s u) s.shut (Some code)
next_sound t k s u shutdown = sound_closed (was_reset s) (sound_reset s u) true s.error
next_sound t k s u (update_max_data limit) = sound_limit s u (max s.limit limit) s.blocked
next_sound t k s u (update_blocked_at blocked) = sound_limit s u s.limit blocked

-- the refusals of the one hold those of the other
write_done : (s : Send) (a n : ℕ) (fin : Bool) → write_judged s a n fin ≡ Ok tt → free_write_judged s a n fin ≡ Ok tt
unfolding write_judged free_write_judged
write_done s a n fin e = inner (other_arena s a) s.error (passes_final s.fin (s.off + n) (marked s n fin)) (no_room s n) (no_entry s n) e
  where
    inner : (p : Bool) (f : Option ℕ) (q r t : Bool)
        → cond p (Err BadSetup) (unless_stopped f (cond q (Err FinalSize) (cond r (Err NoRoom) (cond t (Err TableFull) (Ok tt))))) ≡ Ok tt
        → cond p (Err BadSetup) (unless_stopped f (cond q (Err FinalSize) (cond r (Err NoRoom) (Ok tt)))) ≡ Ok tt
    inner true f q r t e = e
    inner false (Some code) q r t e = e
    inner false None true r t e = e
    inner false None false true t e = e
    inner false None false false t e = refl

loss_done : (s : Send) (a n : ℕ) → loss_judged s a n ≡ Ok tt → free_loss_judged s a n ≡ Ok tt
unfolding loss_judged free_loss_judged
loss_done s a n e = let p = passes (never_sent s a n) NeverSent _ e in rw p.0

-- ---- one call

-- a buffer that joins, and the other after the same calls: the same numbers and bytes, and every boundary of the one is one of the other
record Both (s t : Send) : Type 0 where
  pub here : Sound s
  pub other : Sound t
  pub alike : Alike s t
  pub finer : Finer s.chunks t.chunks

both_acked : (s t : Send) → Both s t → (a n : ℕ) → Both (acked_more s a n) (acked_more t a n)
unfolding acked_more
both_acked s t r a n = record {
  here = sound_acked s r.here a n;
  other = sound_acked t r.other a n;
  alike = ack_alike s t r.here r.other r.alike a n;
  finer = r.finer;
}

module _ (s t : Send) (r : Both s t) where
  -- ---- boundaries

  finer_wrote : (n : ℕ) (fin : Bool) → Finer (wrote s n fin).chunks (free_wrote t n fin).chunks
  unfolding wrote free_wrote
  finer_wrote n fin o x =
      let k : ℕ = accepted s n in
      let same : (i : ℕ) → accepted s i ≡ accepted t i = accepted_alike s t r.here r.other r.alike in
      let e : cut (pieces (accepted s n)) s.off (accepted s n) ≡ cut (pieces (accepted t n)) t.off (accepted t n) =
      λ j. cut (pieces (same n j)) (same_off s t r.here r.other r.alike j) (same n j) in
      subst (λ (l : List RangeBuf). Begins (t.chunks ++ l) o) e (finer_append s.chunks t.chunks (cut (pieces k) s.off k) r.finer o (begins_tabled (longer s k) o x))

  finer_sent : (n : ℕ) → Finer (sent s n).chunks (sent t n).chunks
  unfolding sent
  finer_sent n o x = (begins_sent (first t) t.chunks (front t) n o).1 (r.finer o ((begins_sent (first s) s.chunks (front s) n o).0 x))

  finer_lost : (a n : ℕ) → Finer (lost s a n).chunks (free_lost t a n).chunks
  unfolding lost free_lost
  finer_lost a n =
      let lo : ℕ = base s.chunks s.off in
      both_ways (λ (x y : Send). Finer x.chunks y.chunks) (settled s a n) (settled t a n) (settled_alike s t r.here r.other r.alike a n) (λ _. r.finer)
      (λ _ o x. finer_back lo s.chunks t.chunks s.off a (a + n) (adj_back lo s.chunks s.off a (a + n) r.here.adjoin) (there s t r.here r.other r.alike) (omega arith) r.finer o
      (begins_tabled (back s.chunks a (a + n)) o x))

  finer_reset : Finer (was_reset s).chunks (was_reset t).chunks
  unfolding was_reset
  finer_reset o x = x

  -- ---- a drop up to k that covers no joined chunk in part

  module _ (k : ℕ) (w : Part s.chunks t.chunks k → ⊥) where
    drops_same : base (behind s.chunks k) s.off ≡ base (behind t.chunks k) s.off
    drops_same =
        either (drops_same_or_part (base s.chunks s.off) s.chunks t.chunks s.off k r.here.adjoin (there s t r.here r.other r.alike) r.finer)
        (λ e. e) (λ p. absurd (w p))

    drops_to : base (behind s.chunks k) s.off ≡ base (behind t.chunks k) t.off
    drops_to = drops_same ∙ ap (base (behind t.chunks k)) (same_off s t r.here r.other r.alike)

    both_dropped : Both (dropped s k) (dropped t k)
    both_dropped = record {
      here = sound_dropped s r.here k;
      other = sound_dropped t r.other k;
      alike = drop_alike s t r.here r.other r.alike k drops_to;
      finer = finer_behind (base s.chunks s.off) s.chunks t.chunks s.off k r.here.adjoin (there s t r.here r.other r.alike) drops_same r.finer;
    }

    same_bytes : drop_bytes s.chunks k ≡ drop_bytes t.chunks k
    same_bytes = dropped_alike s t r.here r.other r.alike k drops_to

-- an ack and drop
module _ (s t : Send) (r : Both s t) (a n : ℕ) (w : Part s.chunks t.chunks (drop_to (acked_more s a n) a) → ⊥) where
  to : drop_to (acked_more s a n) a ≡ drop_to (acked_more t a n) a
  to = let q = both_acked s t r a n in to_alike (acked_more s a n) (acked_more t a n) q.here q.other q.alike a

  drop_both : Both (next joining s (ack_and_drop a n)) (next endless t (ack_and_drop a n))
  unfolding acked_more
  drop_both =
      subst (λ (k : ℕ). Both (dropped (acked_more s a n) (drop_to (acked_more s a n) a)) (dropped (acked_more t a n) k)) to
      (both_dropped (acked_more s a n) (acked_more t a n) (both_acked s t r a n) (drop_to (acked_more s a n) a) w)

  drop_told : drop_bytes s.chunks (drop_to (acked_more s a n) a) ≡ drop_bytes t.chunks (drop_to (acked_more t a n) a)
  drop_told = same_bytes s t r (drop_to (acked_more s a n) a) w ∙ ap (drop_bytes t.chunks) to

-- what an emit gives depends on the bytes to send alone: chunks and send positions may be any with those bytes
pub emit_by_bytes : (s t : Send) → Sound s → Sound t → Alike s t → (ar out : List ℕ) → given s ar (emit out) ≡ given t ar (emit out)
emit_by_bytes s t u v h ar out =
    let k = count_alike s t u v h (length out) in
    λ j. record { numbers = k j ∷ bit (mark_alike s t u v h (length out) j) ∷ []; out = held ar (front_alike s t u v h j) (k j) ++ drop (k j) out }

-- the two after any call
module _ (s t : Send) (r : Both s t) where
  u : Sound s
  u = r.here

  v : Sound t
  v = r.other

  h : Alike s t
  h = r.alike

  after_both : (x : Call) → Alike (next joining s x) (next endless t x) → Finer (next joining s x).chunks (next endless t x).chunks → Both (next joining s x) (next endless t x)
  after_both x a f = record { here = next_sound joining joining_keeps s r.here x; other = next_sound endless endless_keeps t r.other x; alike = a; finer = f }

  next_both : (x : Call) → (Part s.chunks t.chunks (covers s x) → ⊥) → Both (next joining s x) (next endless t x)
  next_both (write input fin) w = after_both (write input fin) (write_alike s t u v h (length input) fin) (finer_wrote s t r (length input) fin)
  next_both (emit out) w = after_both (emit out) (emit_alike s t u v h (length out)) (finer_sent s t r (length out))
  next_both (ack a n) w = both_acked s t r a n
  next_both (ack_and_drop a n) w = drop_both s t r a n w
  next_both (retransmit a n) w = after_both (retransmit a n) (loss_alike s t u v h a n) (finer_lost s t r a n)
  next_both reset w = after_both reset (reset_alike s t u v h) (finer_reset s t r)
  next_both (stop code) w =
      after_both (stop code)
      (subst (λ (x : Bool). Alike (with_closed (was_reset s) s.shut (Some code)) (with_closed (was_reset t) x (Some code))) (ap (λ (x : Send). x.shut) h.numbers)
      (closed_alike (was_reset s) (was_reset t) (sound_reset s u) (sound_reset t v) (reset_alike s t u v h) s.shut (Some code))) (finer_reset s t r)
  next_both shutdown w =
      after_both shutdown
      (subst (λ (x : Option ℕ). Alike (with_closed (was_reset s) true s.error) (with_closed (was_reset t) true x)) (ap (λ (x : Send). x.error) h.numbers)
      (closed_alike (was_reset s) (was_reset t) (sound_reset s u) (sound_reset t v) (reset_alike s t u v h) true s.error)) (finer_reset s t r)
  next_both (update_max_data limit) w =
      after_both (update_max_data limit)
      (subst (λ (x : Send). Alike (with_limit s (max s.limit limit) s.blocked) (with_limit t (max x.limit limit) x.blocked)) h.numbers
      (limit_alike s t u v h (max s.limit limit) s.blocked)) r.finer
  next_both (update_blocked_at blocked) w =
      after_both (update_blocked_at blocked)
      (subst (λ (x : Send). Alike (with_limit s s.limit blocked) (with_limit t x.limit blocked)) h.numbers
      (limit_alike s t u v h s.limit blocked)) r.finer

  sizes_same : only (s.emitted ∷ unsent s ∷ []) ≡ only (t.emitted ∷ unsent t ∷ [])
  sizes_same = λ j. only ((h.numbers j).emitted ∷ unsent_alike s t u v h j ∷ [])

  -- they give the same
  given_same : (ar : List ℕ) (x : Call) → (Part s.chunks t.chunks (covers s x) → ⊥) → given s ar x ≡ given t ar x
  given_same ar (write input fin) w = ap (λ (k : ℕ). only (k ∷ [])) (accepted_alike s t u v h (length input))
  given_same ar (emit out) w = emit_by_bytes s t u v h ar out
  given_same ar (ack a n) w = refl
  given_same ar (ack_and_drop a n) w = ap (λ (k : ℕ). only (k ∷ [])) (drop_told s t r a n w)
  given_same ar (retransmit a n) w = ap (λ (k : ℕ). only (k ∷ [])) (lost_alike s t u v h a n)
  given_same ar reset w = sizes_same
  given_same ar (stop code) w = sizes_same
  given_same ar shutdown w = sizes_same
  given_same ar (update_max_data limit) w = refl
  given_same ar (update_blocked_at blocked) w = refl

  arena_same : (ar : List ℕ) (x : Call) → arena_after s ar x ≡ arena_after t ar x
  arena_same ar (write input fin) = λ j. kept ar (h.numbers j).off (take (accepted_alike s t u v h (length input) j) input)
  arena_same ar (emit out) = refl
  arena_same ar (ack a n) = refl
  arena_same ar (ack_and_drop a n) = refl
  arena_same ar (retransmit a n) = refl
  arena_same ar reset = refl
  arena_same ar (stop code) = refl
  arena_same ar shutdown = refl
  arena_same ar (update_max_data limit) = refl
  arena_same ar (update_blocked_at blocked) = refl

  -- what the one accepts, the other accepts
  accepts : (ar : List ℕ) (x : Call) → judged joining s ar x ≡ Ok tt → judged endless t ar x ≡ Ok tt
  accepts ar (write input fin) e = sym (write_told s t u v h (length ar) (length input) fin) ∙ write_done s (length ar) (length input) fin e
  accepts ar (emit out) e = sym (ap (λ (x : Send). cond (other_arena x (length ar)) (Err BadSetup) (Ok tt)) h.numbers) ∙ e
  accepts ar (ack a n) e = sym (ack_told s t u v h a n) ∙ e
  accepts ar (ack_and_drop a n) e = sym (ack_told s t u v h a n) ∙ e
  accepts ar (retransmit a n) e = sym (loss_told s t u v h a n) ∙ loss_done s a n e
  accepts ar reset e = refl
  accepts ar (stop code) e = sym (ap (λ (x : Send). cond (known x.error) (Err NothingMore) (Ok tt)) h.numbers) ∙ e
  accepts ar shutdown e = sym (ap (λ (x : Send). cond x.shut (Err NothingMore) (Ok tt)) h.numbers) ∙ e
  accepts ar (update_max_data limit) e = e
  accepts ar (update_blocked_at blocked) e = refl

-- ---- the theorem

runs_same : (s t : Send) → Both s t → (ar : List ℕ) (xs : List Call) → Accepted joining s ar xs → NoPart s t xs
    → (run joining s ar xs ≡ run endless t ar xs) × Accepted endless t ar xs
runs_same s t r ar [] a w = (refl, tt)
runs_same s t r ar (x ∷ xs) a w =
    let n = next_both s t r x w.0 in
    let e = arena_same s t r ar x in
    let rest = runs_same (next joining s x) (next endless t x) n (arena_after s ar x) xs a.1 w.1 in (
      λ j. record {
        gives = given_same s t r ar x w.0 j;
        to_send = (n.alike.numbers j).buffered;
        from = front_alike (next joining s x) (next endless t x) n.here n.other n.alike j;
      } ∷ (rest.0 ∙ ap (λ (l : List ℕ). run endless (next endless t x) l xs) e) j,
      (accepts s t r ar x a.0, subst (λ (l : List ℕ). Accepted endless (next endless t x) l xs) e rest.1),
    )

-- from creation on: whatever calls the buffer that joins accepts, the other accepts, and they give the same, as long as no ack covers a joined chunk
-- only in part
pub run_until_part : (A limit : ℕ) (ar : List ℕ) (xs : List Call) → Accepted joining (new_send A limit) ar xs → NoPart (new_send A limit) (new_send A limit) xs
    → (run joining (new_send A limit) ar xs ≡ run endless (new_send A limit) ar xs) × Accepted endless (new_send A limit) ar xs
run_until_part A limit =
    let s : Send = new_send A limit in
    let sound : Sound (new_send A limit) = record { adjoin = refl; pos_in = omega arith; spent = tt } in
    runs_same s s (record { here = sound; other = sound; alike = record { numbers = refl; begin = refl; bytes = same_refl [] }; finer = λ o x. x })
