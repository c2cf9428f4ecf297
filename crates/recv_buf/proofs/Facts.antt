-- What the contracts say of the parts that a call does not touch. b is a good buffer. Assumes nothing.
--
--   a refusal changes neither buffer, arena nor output, but 9, which clears the chunks     write_refused, emit_refused, discard_refused, reset_refused, shutdown_refused
--   a refused creation gives a buffer that no arena fits                                   new_refused, dead_write, dead_emit
--   an accepted write changes only the places of newly kept bytes                          write_elsewhere, write_stays, write_new, write_length
--   an accepted emit changes only the first `count` bytes of the output                    emit_front, emit_behind, emit_length
--   `readable_len` says what an emit would take                                            readable_takes
--   an accepted mark sets the final size; a frame with bytes or mark raises the highest end   mark_sets, len_grows
use Rattle.std.specs.Prelude.{Result, Ok, Err, Option, Some, None, ⊤}
use mathlib.Core.Path.{◌≡◌, refl, sym, ap, ◌∙◌}
use mathlib.Core.Bool.{Bool, true, false, cond, not, ◌&&◌, ◌||◌}
use mathlib.Core.List.{List, [], ◌++◌}
use Prim.Native.Nat.{ℕ, ◌+◌, ◌-◌, ◌%◌, ◌≤◌, ◌<◌, max}
use native.Mathlib.Omega.{arith}
use lib.Dec.{ltb, eqb}
use lib.ListN.{length, get_or, take, drop, length-append, length-drop}
use lib.Seq.{take_at, drop_at}
use Rattle.tables.proofs.Tables.{cond_elim}
use Rattle.tables.proofs.Tests.{decided}
use Rattle.refusal.specs.declared.Refusal.{Refusal}
use Rattle.refusal.specs.declared.Refusal.TheVariants.{Offset, Stopped, FinalSize, FlowControl as OverLimit, NoRoom, TableFull, NeverSent, Done as NothingReady, Reset, BadSetup}
use Rattle.refusal.specs.declared.Outcome.{Outcome}
use Rattle.refusal.specs.Rules.{M, after, known, is_at, with_sizes}
use Rattle.refusal.proofs.Answers.{bytes_done, bytes_refused}
use Rattle.arena.specs.Rules.{byte_at, held}
use Rattle.arena.proofs.Laws.{length_held}
use Rattle.recv_buf.specs.declared.RecvBuf.{RecvBuf}
use Rattle.recv_buf.specs.State.{Recv, view_of, buf_of, Held, Good}
use Rattle.recv_buf.specs.Rules.{other_arena, is_ready, with_chunks, new_recv, bad_numbers, created, write_judged, wrote, written, kept_new, written_arena, takes, unless_reset, take_judged, took_out, refused_take, discarded, emitted, emitted_out, reset_judged, was_reset, resets, shuts, readable}
use Rattle.recv_buf.proofs.Lists.{chain_held, taken_most, taken_adjoining}
use Rattle.recv_buf.proofs.Bytes.{Free, kept_length, kept_elsewhere, kept_stays, kept_new_lem}
use Rattle.recv_buf.proofs.Kept.{Accepted, accepted, fits_room}

-- ---- refusals

-- the buffer after a refused emit or discard
abbrev pub cleared : RecvBuf → Refusal → RecvBuf
cleared b Offset = b
cleared b (Stopped code) = b
cleared b FinalSize = b
cleared b OverLimit = b
cleared b NoRoom = b
cleared b TableFull = b
cleared b NeverSent = b
cleared b NothingReady = b
cleared b (Reset code) = buf_of (with_chunks (view_of b) [])
cleared b BadSetup = b

module _ (b : RecvBuf) (g : Good b) where
  abbrev r : Recv
  r = view_of b

  pub write_refused : (ar : List ℕ) (s : ℕ) (bytes : List ℕ) (fin : Bool) (why : Refusal)
      → (written r (length ar) s (length bytes) fin).answer ≡ Err why
      → ((written r (length ar) s (length bytes) fin).state ≡ b) × (written_arena r ar s bytes fin ≡ ar)
  unfolding written written_arena
  write_refused ar s bytes fin why e = (ap (λ (x : Result ⊤ Refusal). buf_of (after x (wrote r s (length bytes) fin) r)) e ∙ sym g.whole, rw e)

  -- why an emit is refused, and what its state is then
  took_none : (n : ℕ) (why : Refusal) → take_judged r n ≡ Err why → buf_of (refused_take r) ≡ cleared b why
  unfolding take_judged
  took_none n why = go (is_ready r.chunks r.off) r.error (ltb M (r.flow.consumed + takes r n))
    where
      go : (t : Bool) (z : Option ℕ) (u : Bool) → cond (not t) (Err NothingReady) (unless_reset z (cond u (Err Offset) (Ok tt))) ≡ Err why
          → buf_of (cond (t && known z) (with_chunks r []) r) ≡ cleared b why
      go false z u e = let w : NothingReady ≡ why = cc in sym g.whole ∙ ap (cleared b) w
      go true (Some code) u e = let w : Reset code ≡ why = cc in ap (cleared b) w
      go true None true e = let w : Offset ≡ why = cc in sym g.whole ∙ ap (cleared b) w
      go true None false e = let z : ◌≡◌ {A = ℕ} 0 1 = cc in absurd (omega arith)

  pub discard_refused : (n : ℕ) (why : Refusal) → (discarded r n).answer ≡ Err why → (discarded r n).state ≡ cleared b why
  unfolding discarded
  discard_refused n why e =
      let s = bytes_refused (take_judged r n) (takes r n) (is_at r.fin (r.off + takes r n)) why e in
      ap (λ (x : Result ⊤ Refusal). buf_of (after x (took_out r n) (refused_take r))) s ∙ took_none n why s

  pub emit_refused : (ar out : List ℕ) (why : Refusal) → (emitted r (length ar) (length out)).answer ≡ Err why
      → ((emitted r (length ar) (length out)).state ≡ cleared b why) × (emitted_out r ar out ≡ out)
  unfolding emitted emitted_out discarded
  emit_refused ar out why = go (other_arena r (length ar))
    where
      other : Outcome (ℕ × Bool) RecvBuf
      other = record { answer = Err BadSetup; state = buf_of r }

      took : List ℕ
      took = after (take_judged r (length out)) (held ar r.off (takes r (length out)) ++ drop (takes r (length out)) out) out

      go : (t : Bool) → (cond t other (discarded r (length out))).answer ≡ Err why
          → ((cond t other (discarded r (length out))).state ≡ cleared b why) × (cond t out took ≡ out)
      go true e = let w : BadSetup ≡ why = cc in (sym g.whole ∙ ap (cleared b) w, refl)
      go false e = (
        discard_refused (length out) why e,
        ap (λ (x : Result ⊤ Refusal). after x (held ar r.off (takes r (length out)) ++ drop (takes r (length out)) out) out)
            (bytes_refused (take_judged r (length out)) (takes r (length out)) (is_at r.fin (r.off + takes r (length out))) why e),
      )

  pub reset_refused : (code size : ℕ) (why : Refusal) → (resets r code size).answer ≡ Err why → (resets r code size).state ≡ b
  unfolding resets
  reset_refused code size why = go (reset_judged r size)
    where
      go : (said : Result ⊤ Refusal) → with_sizes said (cond (known r.error) 0 (size - r.len)) (cond (known r.error) 0 (size - r.off)) ≡ Err why
          → buf_of (after said (was_reset r code size) r) ≡ b
      go (Ok done) e = let z : ◌≡◌ {A = ℕ} 0 1 = cc in absurd (omega arith)
      go (Err x) e = sym g.whole

  pub shutdown_refused : (why : Refusal) → (shuts r).answer ≡ Err why → (shuts r).state ≡ b
  unfolding shuts
  shutdown_refused why = cond_elim (λ (o : Outcome ℕ RecvBuf). o.answer ≡ Err why → o.state ≡ b) r.drain
      (λ t e. sym g.whole)
      (λ t e. let z : ◌≡◌ {A = ℕ} 0 1 = cc in absurd (omega arith))

  -- ---- an accepted write

  module _ (ar : List ℕ) (s : ℕ) (bytes : List ℕ) (fin : Bool) where
    module _ (said : (written r (length ar) s (length bytes) fin).answer ≡ Ok tt) (reads : r.drain ≡ false) where
      ok : Accepted r (length ar) s (length bytes) fin
      unfolding written
      ok = accepted r (length ar) s (length bytes) fin said

      fits : 0 < length bytes → s + length bytes ≤ r.off + length ar
      fits h = omega (arith, fits_room r s (length bytes) reads ok.room h, ok.size)

      arena_is : written_arena r ar s bytes fin ≡ kept_new r ar s bytes
      unfolding written written_arena
      arena_is = rw (said, reads)

      -- a byte that was not kept yet is the frame's
      pub write_new : (k : ℕ) → k < length bytes → Free r (s + k) → byte_at (written_arena r ar s bytes fin) (s + k) ≡ get_or bytes k 0
      write_new k lt f =
          let e : s + k - s ≡ k = omega arith in
          ap (λ (a : List ℕ). byte_at a (s + k)) arena_is
          ∙ kept_new_lem r ar s bytes (s + k) ok.some_room (fits (omega arith)) f (omega arith) (omega arith) ∙ ap (λ (i : ℕ). get_or bytes i 0) e

      -- a byte that was kept stays
      pub write_stays : (o : ℕ) → Held r.chunks o → byte_at (written_arena r ar s bytes fin) o ≡ byte_at ar o
      write_stays o h =
          ap (λ (a : List ℕ). byte_at a o) arena_is
          ∙ kept_stays r ar s bytes o fits (chain_held r.off r.chunks o g.facts.chain h) (omega (arith, g.facts.near o h, ok.size))
          (λ f _ _. f.1 h)

    -- place p changes only if it is that of a byte of the frame at or above off that was not kept yet; the same holds of a refused one
    pub write_elsewhere : (p : ℕ) → ((k : ℕ) → k < length bytes → Free r (s + k) → (s + k) % length ar ≡ p → ⊥)
        → get_or (written_arena r ar s bytes fin) p 0 ≡ get_or ar p 0
    unfolding written_arena
    write_elsewhere p h = go (write_judged r (length ar) s (length bytes) fin) r.drain
      where
        go : (said : Result ⊤ Refusal) (d : Bool) → get_or (after said (cond d ar (kept_new r ar s bytes)) ar) p 0 ≡ get_or ar p 0
        go (Ok done) true = refl
        go (Ok done) false = kept_elsewhere r ar s bytes p h
        go (Err why) d = refl

    pub write_length : length (written_arena r ar s bytes fin) ≡ length ar
    unfolding written_arena
    write_length = go (write_judged r (length ar) s (length bytes) fin) r.drain
      where
        go : (said : Result ⊤ Refusal) (d : Bool) → length (after said (cond d ar (kept_new r ar s bytes)) ar) ≡ length ar
        go (Ok done) true = refl
        go (Ok done) false = kept_length r ar s bytes
        go (Err why) d = refl

  -- ---- an accepted emit

  module _ (ar out : List ℕ) (count : ℕ) (ended : Bool) (said : (emitted r (length ar) (length out)).answer ≡ Ok (count, ended)) where
    out_is : (emitted_out r ar out ≡ held ar r.off count ++ drop count out) × (takes r (length out) ≡ count)
    unfolding emitted emitted_out discarded
    out_is = go (other_arena r (length ar)) said
      where
        other : Outcome (ℕ × Bool) RecvBuf
        other = record { answer = Err BadSetup; state = buf_of r }

        took : List ℕ
        took = after (take_judged r (length out)) (held ar r.off (takes r (length out)) ++ drop (takes r (length out)) out) out

        go : (t : Bool) → (cond t other (discarded r (length out))).answer ≡ Ok (count, ended)
            → (cond t out took ≡ held ar r.off count ++ drop count out) × (takes r (length out) ≡ count)
        go true e = let z : ◌≡◌ {A = ℕ} 0 1 = cc in absurd (omega arith)
        go false e = let p = bytes_done (take_judged r (length out)) (takes r (length out)) (is_at r.fin (r.off + takes r (length out))) count ended e in (
          ap (λ (x : Result ⊤ Refusal). after x (held ar r.off (takes r (length out)) ++ drop (takes r (length out)) out) out) p.0
              ∙ ap (λ (k : ℕ). held ar r.off k ++ drop k out) p.1,
          p.1,
        )

    -- the first `count` bytes are those kept from off on, and the others stay
    pub emit_front : take count (emitted_out r ar out) ≡ held ar r.off count
    emit_front = ap (take count) out_is.0 ∙ take_at (held ar r.off count) (drop count out) count (length_held ar r.off count)

    pub emit_behind : drop count (emitted_out r ar out) ≡ drop count out
    emit_behind = ap (drop count) out_is.0 ∙ drop_at (held ar r.off count) (drop count out) count (length_held ar r.off count)

    pub emit_length : length (emitted_out r ar out) ≡ length out
    emit_length =
        let most : count ≤ length out = omega (arith, out_is.1, taken_most r.chunks r.off (length out)) in
        ap length out_is.0 ∙ length-append (held ar r.off count) (drop count out)
        ∙ omega (arith, length_held ar r.off count, length-drop count out)

  -- `readable_len` says how many bytes an emit or a discard of up to that many takes
  pub readable_takes : (most : ℕ) → readable r most ≡ takes r most
  readable_takes most = sym (taken_adjoining r.chunks r.off most g.facts.chain)

-- ---- a refused creation: the buffer beside it is dead, whatever arena it is given

pub new_refused : (limit maximum A : ℕ) (why : Refusal) → (created limit maximum A).answer ≡ Err why
    → (why ≡ BadSetup) × ((created limit maximum A).state ≡ buf_of (new_recv 0 0 0))
unfolding created
new_refused limit maximum A why =
    cond_elim (λ (o : Outcome ⊤ RecvBuf). o.answer ≡ Err why → (why ≡ BadSetup) × (o.state ≡ buf_of (new_recv 0 0 0))) (bad_numbers limit maximum A)
    (λ t e. let z : BadSetup ≡ why = cc in (sym z, refl))
    (λ t e. let z : ◌≡◌ {A = ℕ} 0 1 = cc in absurd (omega arith))

-- an arena of no bytes is never right, and one of some bytes is not of length 0
never_right : (a : ℕ) → other_arena (new_recv 0 0 0) a ≡ true
never_right a = go (eqb a 0)
  where
    go : (t : Bool) → (t || not t) ≡ true
    go true = refl
    go false = refl

pub dead_write : (a s n : ℕ) (fin : Bool) → (written (new_recv 0 0 0) a s n fin).answer ≡ Err BadSetup
unfolding written write_judged
dead_write a s n fin = decided (never_right a) (Err BadSetup) _

pub dead_emit : (a n : ℕ) → (emitted (new_recv 0 0 0) a n).answer ≡ Err BadSetup
unfolding emitted
dead_emit a n = ap (λ (o : Outcome (ℕ × Bool) RecvBuf). o.answer) (decided (never_right a) (record { answer = Err BadSetup; state = buf_of (new_recv 0 0 0) }) (discarded (new_recv 0 0 0) n))

-- ---- the numbers after an accepted frame of n bytes at s

no_silence : (b : Bool) → (b && false) ≡ false
no_silence true = refl
no_silence false = refl

-- a mark sets F to the frame's end
pub mark_sets : (r : Recv) (s n : ℕ) → (wrote r s n true).fin ≡ Some (s + n)
unfolding wrote
mark_sets r s n = rw (no_silence (eqb n 0)) (cond_elim (λ (x : Recv). x.fin ≡ Some (s + n)) r.drain (λ _. refl) (λ _. refl))

-- a frame with bytes or mark raises `len` to its end
pub len_grows : (r : Recv) (s n : ℕ) (fin : Bool) → (eqb n 0 && not fin) ≡ false → (wrote r s n fin).len ≡ max r.len (s + n)
unfolding wrote
len_grows r s n fin h = rw h (cond_elim (λ (x : Recv). x.len ≡ max r.len (s + n)) r.drain (λ _. refl) (λ _. refl))
