-- Runs against RFC 9000: each call of a run moves what the buffer knows by the event that it is to the RFC, or not at all if it is refused: `moved_run`.
-- Assumes nothing.
use Rattle.std.specs.Prelude.{Result, Ok, Err, Some, ⊤}
use mathlib.Core.Path.{◌≡◌, refl, sym, ap, subst, ◌∙◌}
use mathlib.Core.Logic.{inl, inr}
use mathlib.Core.Bool.{Bool, true, false, cond, ◌&&◌, ◌||◌}
use mathlib.Core.List.{List, [], ◌∷◌, ◌++◌, append-nil, append_assoc}
use Prim.Native.Nat.{ℕ, ◌+◌, ◌≤◌}
use native.Mathlib.Omega.{arith}
use borrow.Author.Tests.{eqb-false, ltb-false, eq-eqb, ne_eqb}
use lib.Dec.{ltb, eqb}
use lib.ListN.{length, take, drop}
use lib.Seq.{take_at}
use Rattle.tables.proofs.Tables.{cond_elim}
use Rattle.tables.proofs.Tests.{or_false, undecided}
use Rattle.refusal.specs.declared.Refusal.{Refusal}
use Rattle.refusal.specs.declared.Refusal.TheVariants.{Offset, Stopped, FinalSize, FlowControl as OverLimit, NoRoom, TableFull, NeverSent, Done as NothingReady, Reset, BadSetup}
use Rattle.refusal.specs.declared.Outcome.{Outcome}
use Rattle.refusal.specs.Rules.{M, number_of, told, told_count, told_emit, told_sizes, after, known, is_at, with_bytes, with_sizes}
use Rattle.arena.specs.Rules.{held}
use Rattle.arena.proofs.Laws.{length_held, held_none}
use Rattle.flowcontrol.specs.declared.FlowControl.{FlowControl}
use Rattle.flowcontrol.specs.Rules.{next, committed, autotuned, recent}
use Rattle.flowcontrol.proofs.Steady.{Steady, consumed_steady, committed_steady, autotuned_steady}
use Rattle.recv_buf.specs.declared.RecvBuf.{RecvBuf}
use Rattle.recv_buf.specs.State.{Recv, view_of, buf_of}
use Rattle.recv_buf.specs.Rules.{other_arena, is_ready, new_recv, bad_numbers, created, write_judged, wrote, written, written_arena, takes, take_judged, took_out, refused_take, discarded, emitted, emitted_out, reset_judged, was_reset, resets, shuts, with_flow, commits, autotunes}
use Rattle.recv_buf.specs.Rfc9000.{Known, opened, data_over, size_over, changed, beyond, short, is_some, stream, reset_changed, reset_short, taken_only, reset_stream, available, reading, abort, advertise, Event, stream_frame, reset_frame, read_up_to, give_up, max_stream_data, effect, history, handed_out, Breaks, Lawful}
use Rattle.recv_buf.specs.RfcAgreement.{Call, write, emit, discard, reset, shutdown, commit, tune, Side, view, begin, count_of, step, run, knows, known_of, event, events, unlimited, Near}
use Rattle.recv_buf.proofs.Good.{view_buf}
use Rattle.recv_buf.proofs.RfcLaws.{final_stays}
use Rattle.recv_buf.proofs.RfcState.{Sound, knows_new, sound_new}
use Rattle.recv_buf.proofs.RfcWrite.{Numbers, numbers, knows_write, sound_write}
use Rattle.recv_buf.proofs.RfcErrors.{lawful_write, lawful_reset, Wide}
use Rattle.recv_buf.proofs.RfcEmit.{went, knows_emit, knows_refused}
use Rattle.recv_buf.proofs.RfcCalls.{knows_reset, shut, knows_shut, sound_commit, knows_tune}

-- ---- apart from the limit

-- no effect looks at the limit, and only one changes it
unlimited_effect : (k : Known) (e : Event) → unlimited (effect k e) ≡ unlimited (effect (unlimited k) e)
unfolding stream reset_stream reading abort advertise
unlimited_effect k (stream_frame f) = refl
unlimited_effect k (reset_frame code size) = go (is_some k.reset)
  where
    now : ℕ → Known
    now l = record { byte = taken_only k; highest = size; final = Some size; limit = l; delivered = k.delivered; reset = Some code; aborted = k.aborted }

    go : (t : Bool) → unlimited (cond t k (now k.limit)) ≡ unlimited (cond t (unlimited k) (now 0))
    go true = refl
    go false = refl
unlimited_effect k (read_up_to n) = refl
unlimited_effect k give_up = refl
unlimited_effect k (max_stream_data v) = refl

effects_same : (j k : Known) (e : Event) → unlimited j ≡ unlimited k → unlimited (effect j e) ≡ unlimited (effect k e)
effects_same j k e h = unlimited_effect j e ∙ ap (λ (i : Known). unlimited (effect i e)) h ∙ sym (unlimited_effect k e)

-- what breaks a rule under the larger limit breaks it under the smaller
breaks_near : (j k : Known) (e : Event) → Near j k → Breaks k e → Breaks j e
breaks_near j k (stream_frame f) n (inl b) = inl b
breaks_near j k (stream_frame f) n (inr (inl (data_over o b c))) = inr (inl (data_over o b (omega (arith, n.limit))))
breaks_near j k (stream_frame f) n (inr (inl (size_over b c))) = inr (inl (size_over b (omega (arith, n.limit))))
breaks_near j k (stream_frame f) n (inr (inr (changed x e b d))) = inr (inr (changed x (ap (λ (i : Known). i.final) n.same ∙ e) b d))
breaks_near j k (stream_frame f) n (inr (inr (beyond x o e b c))) = inr (inr (beyond x o (ap (λ (i : Known). i.final) n.same ∙ e) b c))
breaks_near j k (stream_frame f) n (inr (inr (short b c))) = let p : j.highest ≡ k.highest = ap (λ (i : Known). i.highest) n.same in
    inr (inr (short b (omega arith)))
breaks_near j k (reset_frame code size) n (inl (reset_changed x e d)) = inl (reset_changed x (ap (λ (i : Known). i.final) n.same ∙ e) d)
breaks_near j k (reset_frame code size) n (inl (reset_short c)) = let p : j.highest ≡ k.highest = ap (λ (i : Known). i.highest) n.same in
    inl (reset_short (omega arith))
breaks_near j k (reset_frame code size) n (inr b) = inr (ap (λ (i : Known). i.reset) n.same ∙ b.0, omega (arith, b.1, n.limit))
breaks_near j k (read_up_to m) n b = b
breaks_near j k give_up n b = b
breaks_near j k (max_stream_data v) n b = b

handed_same : (j k : Known) (e : Event) → unlimited j ≡ unlimited k → handed_out j (e ∷ []) ≡ handed_out k (e ∷ [])
handed_same j k (stream_frame f) h = refl
handed_same j k (reset_frame code size) h = refl
handed_same j k (read_up_to n) h = ap (λ (i : Known). available i n ++ []) h
handed_same j k give_up h = refl
handed_same j k (max_stream_data v) h = refl

-- ---- one call: from x to the state r, the arena ar and the bytes handed out, by the events es

-- from knowledge k on, the events give what is known after it, break no rule, and hand out what was handed out
pub record Follows (x : Side) (es : List Event) (j : Known) (out : List ℕ) (k : Known) : Type 0 where
  pub near : Near j (history k es)
  pub lawful : Lawful k es
  pub output : out ≡ x.out ++ handed_out k es

-- with a window whose limit does not fall, the limit is the RFC's too
pub record Tight (x : Side) (es : List Event) (r : Recv) : Type 0 where
  pub steady : Steady r.flow
  pub limit : (k : Known) → (view x).flow.max_data ≡ k.limit → r.flow.max_data ≡ (history k es).limit

pub record Moved (x : Side) (es : List Event) (r : Recv) (ar out : List ℕ) : Type 0 where
  pub sound : Sound r ar out
  pub final : (f : ℕ) → (view x).fin ≡ Some f → r.fin ≡ Some f
  pub follows : (k : Known) → Near (known_of x) k → Follows x es (knows r ar out) out k
  pub tight : Steady (view x).flow → Tight x es r
  pub wide : Wide (view x) → Wide r

same_wide : (r q : Recv) → q.flow ≡ r.flow → q.room ≡ r.room → Wide r → Wide q
same_wide r q f e v = let p : q.flow.max_window ≡ r.flow.max_window = ap (λ (w : FlowControl). w.max_window) f in omega arith

-- a refusal has a number
number_some : (why : Refusal) → eqb (number_of why) 0 ≡ false
number_some Offset = refl
number_some (Stopped code) = refl
number_some FinalSize = refl
number_some OverLimit = refl
number_some NoRoom = refl
number_some TableFull = refl
number_some NeverSent = refl
number_some NothingReady = refl
number_some (Reset code) = refl
number_some BadSetup = refl

-- the arena of a sound state is the right one
pub right_of : (r : Recv) (ar out : List ℕ) → Sound r ar out → other_arena r (length ar) ≡ false
right_of r ar out g = rw (ne_eqb (length ar) 0 (λ e. omega (arith, g.size, g.some_room)), eq-eqb (length ar) r.room g.size)

-- a refused frame leaves the arena
unwritten : (r : Recv) (ar : List ℕ) (s : ℕ) (bytes : List ℕ) (fin : Bool) (why : Refusal)
    → write_judged r (length ar) s (length bytes) fin ≡ Err why
    → written_arena r ar s bytes fin ≡ ar
unfolding written_arena
unwritten r ar s bytes fin why e = rw e

module _ (x : Side) (g : Sound (view x) x.arena x.out) where
  -- no event, and nothing changes in what is known
  none_of : (r : Recv) (ar out : List ℕ) → Sound r ar out → knows r ar out ≡ known_of x → out ≡ x.out → (Steady (view x).flow → Steady r.flow)
      → (Wide (view x) → Wide r)
      → Moved x [] r ar out
  none_of r ar out s k o st v = record {
    sound = s;
    final = λ f h. ap (λ (j : Known). j.final) k ∙ h;
    follows = λ j n. record {
      near = record { same = ap unlimited k ∙ n.same; limit = subst (λ (i : Known). i.limit ≤ j.limit) (sym k) n.limit };
      lawful = tt;
      output = o ∙ sym (append-nil x.out);
    };
    tight = λ t. record { steady = st t; limit = λ j e. ap (λ (i : Known). i.limit) k ∙ e };
    wide = v;
  }

  still : Moved x [] (view x) x.arena x.out
  still = none_of (view x) x.arena x.out g refl refl (λ s. s) (λ v. v)

  -- an accepted call is one event, which leaves the limit as it is
  one : (r : Recv) (ar out : List ℕ) (e : Event) → Sound r ar out → knows r ar out ≡ effect (known_of x) e → (Breaks (known_of x) e → ⊥)
      → out ≡ x.out ++ handed_out (known_of x) (e ∷ []) → ((k : Known) → (effect k e).limit ≡ k.limit)
      → (Steady (view x).flow → Steady r.flow) → (Wide (view x) → Wide r) → Moved x (e ∷ []) r ar out
  one r ar out e s k n o l st v = record {
    sound = s;
    final = λ f h. ap (λ (j : Known). j.final) k ∙ final_stays (known_of x) e f n h;
    follows = λ j a. record {
      near = record { same = ap unlimited k ∙ effects_same (known_of x) j e a.same; limit = omega (arith, at, l j, a.limit) };
      lawful = (λ b. n (breaks_near (known_of x) j e a b), tt);
      output = o ∙ ap (λ (bs : List ℕ). x.out ++ bs) (handed_same (known_of x) j e a.same);
    };
    tight = λ t. record { steady = st t; limit = λ j d. at ∙ d ∙ sym (l j) };
    wide = v;
  }
    where
      at : r.flow.max_data ≡ (view x).flow.max_data
      at = ap (λ (j : Known). j.limit) k ∙ l (known_of x)

  write_moved : (s : ℕ) (bytes : List ℕ) (fin : Bool) (said : Result ⊤ Refusal) → write_judged (view x) (length x.arena) s (length bytes) fin ≡ said
      → Moved x (cond (eqb (told said).number 0) (stream_frame (record { from = s; bytes = bytes; fin = fin }) ∷ []) [])
      (after said (wrote (view x) s (length bytes) fin) (view x)) (written_arena (view x) x.arena s bytes fin) x.out
  unfolding stream
  write_moved s bytes fin (Ok done) e = one (wrote (view x) s (length bytes) fin) (written_arena (view x) x.arena s bytes fin) x.out (stream_frame (record { from = s; bytes = bytes; fin = fin }))
      (sound_write (view x) x.arena x.out g s bytes fin e)
      (knows_write (view x) x.arena x.out g s bytes fin e)
      (lawful_write (view x) x.arena x.out s bytes fin (length x.arena) e)
      (sym (append-nil x.out))
      (λ k. refl)
      (subst Steady (sym t.flow))
      (same_wide (view x) (wrote (view x) s (length bytes) fin) t.flow t.room)
    where
      t : Numbers (view x) (s + length bytes) fin (ltb 0 (length bytes) || fin) (wrote (view x) s (length bytes) fin)
      t = numbers (view x) s (length bytes) fin
  write_moved s bytes fin (Err why) e = rw (number_some why)
      (subst (λ (a : List ℕ). Moved x [] (view x) a x.out) (sym (unwritten (view x) x.arena s bytes fin why e)) still)

  -- an emit or a discard: bs are the bytes that went
  take_moved : (n : ℕ) (ended : Bool) (bs : List ℕ) (said : Result ⊤ Refusal) → take_judged (view x) n ≡ said
      → (said ≡ Ok tt → bs ≡ went (view x) x.arena x.out g n) → ((why : Refusal) → said ≡ Err why → bs ≡ [])
      → Moved x (cond (eqb (told_emit (with_bytes said (takes (view x) n) ended)).number 0) (read_up_to n ∷ []) []) (after said (took_out (view x) n) (refused_take (view x))) x.arena (x.out ++ bs)
  unfolding reading took_out
  take_moved n ended bs (Ok done) e p q =
      let d = knows_emit (view x) x.arena x.out g n e in
      subst (λ (l : List ℕ). Moved x (read_up_to n ∷ []) (took_out (view x) n) x.arena (x.out ++ l)) (sym (p refl))
      (one (took_out (view x) n) x.arena (x.out ++ went (view x) x.arena x.out g n) (read_up_to n) d.sound d.after (λ z. z)
      (ap (λ (l : List ℕ). x.out ++ l) (d.bytes ∙ sym (append-nil (available (known_of x) n))))
      (λ k. refl)
      (λ st. consumed_steady (view x).flow st ((view x).flow.consumed + takes (view x) n) (omega arith))
      (λ v. v))
  take_moved n ended bs (Err why) e p q =
      let c = knows_refused (view x) x.arena x.out g in
      rw (number_some why)
      (none_of (refused_take (view x)) x.arena (x.out ++ bs) (subst (Sound (refused_take (view x)) x.arena) (sym out_same) c.1)
      (ap (knows (refused_take (view x)) x.arena) out_same ∙ c.0) out_same
      (λ s. steady s) wider)
    where
      out_same : x.out ++ bs ≡ x.out
      out_same = ap (λ (l : List ℕ). x.out ++ l) (q why refl) ∙ append-nil x.out

      steady : Steady (view x).flow → Steady (refused_take (view x)).flow
      steady s = cond_elim (λ (r : Recv). Steady r.flow) (is_ready (view x).chunks (view x).off && known (view x).error) (λ t. s) (λ t. s)

      wider : Wide (view x) → Wide (refused_take (view x))
      wider v = cond_elim Wide (is_ready (view x).chunks (view x).off && known (view x).error) (λ t. v) (λ t. v)

  reset_moved : (code size a b : ℕ) (said : Result ⊤ Refusal) → reset_judged (view x) size ≡ said
      → Moved x (cond (eqb (told_sizes (with_sizes said a b)).number 0) (reset_frame code size ∷ []) []) (after said (was_reset (view x) code size) (view x)) x.arena x.out
  unfolding reset_stream
  reset_moved code size a b (Ok done) e = let p = knows_reset (view x) x.arena x.out g code size e in
      one (was_reset (view x) code size) x.arena x.out (reset_frame code size) p.sound p.knowledge
      (lawful_reset (view x) x.arena x.out size code e)
      (sym (append-nil x.out))
      (λ k. cond_elim (λ (j : Known). j.limit ≡ k.limit) (is_some k.reset) (λ t. refl) (λ t. refl))
      (subst Steady (sym p.flow))
      (same_wide (view x) (was_reset (view x) code size) p.flow p.room)
  reset_moved code size a b (Err why) e = rw (number_some why) still

  shut_moved : Moved x (give_up ∷ []) (shut (view x) x.arena x.out g) x.arena x.out
  unfolding abort
  shut_moved = let p = knows_shut (view x) x.arena x.out g in
      one (shut (view x) x.arena x.out g) x.arena x.out give_up p.sound p.knowledge (λ z. z)
      (sym (append-nil x.out)) (λ k. refl) (λ s. s) (λ v. v)

  commit_moved : (now : ℕ) → Moved x (max_stream_data (next (view x).flow) ∷ []) (with_flow (view x) (committed (view x).flow now)) x.arena x.out
  unfolding advertise
  commit_moved now = record {
    sound = sound_commit (view x) x.arena x.out g now;
    final = λ f h. h;
    follows = λ k n. record { near = record { same = n.same; limit = omega arith }; lawful = (λ z. z, tt); output = sym (append-nil x.out) };
    tight = λ t. record { steady = committed_steady (view x).flow t now; limit = λ k e. omega (arith, t.at_most) };
    wide = λ v. v;
  }

  tune_moved : (now rtt : ℕ) → Moved x [] (with_flow (view x) (autotuned (view x).flow now rtt)) x.arena x.out
  tune_moved now rtt = let p = knows_tune (view x) x.arena x.out g now rtt in
      none_of (with_flow (view x) (autotuned (view x).flow now rtt)) x.arena x.out p.1 p.0 refl
      (λ s. autotuned_steady (view x).flow s now rtt)
      (λ v. cond_elim (λ (f : FlowControl). f.max_window ≤ (view x).room) (recent (view x).flow.last_update now rtt) (λ e. v) (λ e. v))

  -- the output of an emit
  emit_went : (out : List ℕ) (said : Result ⊤ Refusal) (ended : Bool) → take_judged (view x) (length out) ≡ said
      → (said ≡ Ok tt → take (count_of (with_bytes said (takes (view x) (length out)) ended)) (emitted_out (view x) x.arena out)
      ≡ went (view x) x.arena x.out g (length out))
      × ((why : Refusal) → said ≡ Err why
      → take (count_of (with_bytes said (takes (view x) (length out)) ended)) (emitted_out (view x) x.arena out) ≡ [])
  unfolding emitted_out
  emit_went out (Ok done) ended e = (
    λ _. let k = takes (view x) (length out) in
        ap (take k) (undecided (right_of (view x) x.arena x.out g) out _
        ∙ ap (λ (a : Result ⊤ Refusal). after a (held x.arena (view x).off k ++ drop k out) out) e)
        ∙ take_at (held x.arena (view x).off k) (drop k out) k (length_held x.arena (view x).off k),
    λ why d. let z : ◌≡◌ {A = ℕ} 0 1 = cc in absurd (omega arith),
  )
  emit_went out (Err why) ended e = (λ d. let z : ◌≡◌ {A = ℕ} 0 1 = cc in absurd (omega arith), λ why d. refl)

  discard_went : (n : ℕ) (said : Result ⊤ Refusal) (ended : Bool)
      → (said ≡ Ok tt → held x.arena (view x).off (count_of (with_bytes said (takes (view x) n) ended)) ≡ went (view x) x.arena x.out g n)
      × ((why : Refusal) → said ≡ Err why → held x.arena (view x).off (count_of (with_bytes said (takes (view x) n) ended)) ≡ [])
  discard_went n (Ok done) ended = (λ d. refl, λ why d. let z : ◌≡◌ {A = ℕ} 0 1 = cc in absurd (omega arith))
  discard_went n (Err why) ended = (λ d. let z : ◌≡◌ {A = ℕ} 0 1 = cc in absurd (omega arith), λ why d. held_none x.arena (view x).off)

  -- a discard; an emit with the right arena does the same
  discard_moved : (n : ℕ) (bs : List ℕ)
      → (take_judged (view x) n ≡ Ok tt → bs ≡ went (view x) x.arena x.out g n)
      → ((why : Refusal) → take_judged (view x) n ≡ Err why → bs ≡ [])
      → Moved x (cond (eqb (told_emit (discarded (view x) n).answer).number 0) (read_up_to n ∷ []) []) (view_of (discarded (view x) n).state) x.arena (x.out ++ bs)
  unfolding discarded
  discard_moved n bs p q = subst
      (λ (r : Recv). Moved x (cond (eqb (told_emit (discarded (view x) n).answer).number 0) (read_up_to n ∷ []) []) r x.arena (x.out ++ bs))
      (sym (view_buf (after (take_judged (view x) n) (took_out (view x) n) (refused_take (view x)))))
      (take_moved n (is_at (view x).fin ((view x).off + takes (view x) n)) bs (take_judged (view x) n) refl p q)

  pub emit_is : (n : ℕ) → emitted (view x) (length x.arena) n ≡ discarded (view x) n
  unfolding emitted
  emit_is n = undecided (right_of (view x) x.arena x.out g) _ (discarded (view x) n)

  -- every call
  moved : (c : Call) → Moved x (event x c) (view (step x c)) (step x c).arena (step x c).out
  unfolding written discarded resets shuts commits autotunes
  moved (write s bytes fin) =
      subst (λ (r : Recv). Moved x (event x (write s bytes fin)) r (written_arena (view x) x.arena s bytes fin) x.out)
      (sym (view_buf (after (write_judged (view x) (length x.arena) s (length bytes) fin) (wrote (view x) s (length bytes) fin) (view x))))
      (write_moved s bytes fin (write_judged (view x) (length x.arena) s (length bytes) fin) refl)
  moved (emit out) =
      let p = emit_went out (take_judged (view x) (length out)) (is_at (view x).fin ((view x).off + takes (view x) (length out))) refl in
      subst (λ (e : Outcome (ℕ × Bool) RecvBuf). Moved x (cond (eqb (told_emit e.answer).number 0) (read_up_to (length out) ∷ []) []) (view_of e.state) x.arena
      (x.out ++ take (count_of e.answer) (emitted_out (view x) x.arena out))) (sym (emit_is (length out)))
      (discard_moved (length out) _ p.0 p.1)
  moved (discard n) =
      let p = discard_went n (take_judged (view x) n) (is_at (view x).fin ((view x).off + takes (view x) n)) in
      discard_moved n _ p.0 p.1
  moved (reset code size) =
      subst (λ (r : Recv). Moved x (event x (reset code size)) r x.arena x.out)
      (sym (view_buf (after (reset_judged (view x) size) (was_reset (view x) code size) (view x))))
      (reset_moved code size _ _ (reset_judged (view x) size) refl)
  moved shutdown =
      cond_elim (λ (o : Outcome ℕ RecvBuf). Moved x (cond (eqb (told_count o.answer).number 0) (give_up ∷ []) []) (view_of o.state) x.arena x.out) (view x).drain
      (λ e. subst (λ (r : Recv). Moved x [] r x.arena x.out) (sym (view_buf (view x))) still)
      (λ e. subst (λ (r : Recv). Moved x (give_up ∷ []) r x.arena x.out) (sym (view_buf (shut (view x) x.arena x.out g))) shut_moved)
  moved (commit now) =
      subst (λ (r : Recv). Moved x (max_stream_data (next (view x).flow) ∷ []) r x.arena x.out) (sym (view_buf (with_flow (view x) (committed (view x).flow now)))) (commit_moved now)
  moved (tune now rtt) =
      subst (λ (r : Recv). Moved x [] r x.arena x.out) (sym (view_buf (with_flow (view x) (autotuned (view x).flow now rtt)))) (tune_moved now rtt)

-- ---- a list of calls

history_append : (k : Known) (es fs : List Event) → history k (es ++ fs) ≡ history (history k es) fs
history_append k [] fs = refl
history_append k (e ∷ es) fs = history_append (effect k e) es fs

lawful_append : (k : Known) (es fs : List Event) → Lawful k es → Lawful (history k es) fs → Lawful k (es ++ fs)
lawful_append k [] fs a b = b
lawful_append k (e ∷ es) fs a b = (a.0, lawful_append (effect k e) es fs a.1 b)

handed_append : (k : Known) (es fs : List Event) → handed_out k (es ++ fs) ≡ handed_out k es ++ handed_out (history k es) fs
handed_append k [] fs = refl
handed_append k (stream_frame f ∷ es) fs = handed_append (stream k f) es fs
handed_append k (reset_frame code size ∷ es) fs = handed_append (reset_stream k code size) es fs
handed_append k (read_up_to n ∷ es) fs =
    ap (λ (l : List ℕ). available k n ++ l) (handed_append (reading k n) es fs)
    ∙ sym (append_assoc (available k n) (handed_out (reading k n) es) (handed_out (history (reading k n) es) fs))
handed_append k (give_up ∷ es) fs = handed_append (abort k) es fs
handed_append k (max_stream_data v ∷ es) fs = handed_append (advertise k v) es fs

pub moved_run : (x : Side) → Sound (view x) x.arena x.out → (cs : List Call)
    → Moved x (events x cs) (view (run x cs)) (run x cs).arena (run x cs).out
moved_run x g [] = still x g
moved_run x g (c ∷ cs) =
    let a = moved x g c in
    let b = moved_run (step x c) a.sound cs in
    let es = event x c in
    let fs = events (step x c) cs in record {
      sound = b.sound;
      final = λ f h. b.final f (a.final f h);
      follows = λ k n. let p = a.follows k n in let q = b.follows (history k es) p.near in record {
        near = subst (Near (known_of (run (step x c) cs))) (sym (history_append k es fs)) q.near;
        lawful = lawful_append k es fs p.lawful q.lawful;
        output = q.output ∙ ap (λ (l : List ℕ). l ++ handed_out (history k es) fs) p.output
            ∙ append_assoc x.out (handed_out k es) (handed_out (history k es) fs)
            ∙ ap (λ (l : List ℕ). x.out ++ l) (sym (handed_append k es fs));
      };
      tight = λ st. let p = a.tight st in let q = b.tight p.steady in record {
        steady = q.steady;
        limit = λ k e. q.limit (history k es) (p.limit k e) ∙ ap (λ (j : Known). j.limit) (sym (history_append k es fs));
      };
      wide = λ v. b.wide (a.wide v);
    }

-- ---- from creation

-- what a successful creation gives
pub record Begun (limit maximum : ℕ) (ar : List ℕ) : Type 0 where
  pub is_new_lem : view (begin limit maximum ar) ≡ new_recv (length ar) limit maximum
  pub sound : Sound (view (begin limit maximum ar)) ar []
  pub near : Near (known_of (begin limit maximum ar)) (opened limit)

pub begun : (limit maximum : ℕ) (ar : List ℕ) → (created limit maximum (length ar)).answer ≡ Ok tt → Begun limit maximum ar
unfolding created opened
begun limit maximum ar e = go (bad_numbers limit maximum (length ar)) refl e
  where
    dead : Outcome ⊤ RecvBuf
    dead = record { answer = Err BadSetup; state = buf_of (new_recv 0 0 0) }

    made : Outcome ⊤ RecvBuf
    made = record { answer = Ok tt; state = buf_of (new_recv (length ar) limit maximum) }

    is_new_lem : bad_numbers limit maximum (length ar) ≡ false → view (begin limit maximum ar) ≡ new_recv (length ar) limit maximum
    is_new_lem h = ap (λ (o : Outcome ⊤ RecvBuf). view_of o.state) (undecided h dead made) ∙ view_buf (new_recv (length ar) limit maximum)

    go : (t : Bool) → bad_numbers limit maximum (length ar) ≡ t → (cond t dead made).answer ≡ Ok tt → Begun limit maximum ar
    go true h d = let z : ◌≡◌ {A = ℕ} 0 1 = cc in absurd (omega arith)
    go false h d =
        let p = or_false (eqb (length ar) 0 || ltb 65536 (length ar) || ltb M limit) (ltb M maximum) h in
        let q = or_false (eqb (length ar) 0 || ltb 65536 (length ar)) (ltb M limit) p.0 in
        let t = or_false (eqb (length ar) 0) (ltb 65536 (length ar)) q.0 in
        let z : length ar ≡ 0 → ⊥ = eqb-false (length ar) 0 t.0 in
        let k = ap (λ (r : Recv). knows r ar []) (is_new_lem h) ∙ knows_new (length ar) limit maximum ar in record {
          is_new_lem = is_new_lem h;
          sound = subst (λ (r : Recv). Sound r ar []) (sym (is_new_lem h))
              (sound_new (length ar) limit maximum ar (omega arith)
              (ltb-false 65536 (length ar) t.1) (ltb-false M limit q.1) (ltb-false M maximum p.1) refl);
          near = record {
            same = ap unlimited k;
            limit =
                let w : (known_of (begin limit maximum ar)).limit ≡ limit = ap (λ (j : Known). j.limit) k in
                omega arith;
          };
        }
