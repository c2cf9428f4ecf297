-- Each refusal of a receive buffer is given exactly if docs/RULES.md says so (2.1 and 7), in the order of 2.2, for every state and every number.
-- A theorem CALL_REFUSAL says when a call gives a refusal: those tested before it let pass, and its own condition holds. CALL_only: the call gives
-- none but those numbered there, tested in that order. Assumes nothing.
use Rattle.std.specs.Prelude.{Option, None, Some, Result, Ok, Err, ⊤}
use mathlib.Core.Path.{◌≡◌, refl, sym, ap, ◌∙◌}
use mathlib.Core.Logic.Iff
use mathlib.Core.Logic.{◌↔◌, ◌≢◌, inl, inr}
use mathlib.Core.Bool.{Bool, true, false, cond, not, ◌&&◌, and-false}
use mathlib.Core.List.{List, [], ◌∷◌}
use Prim.Native.Nat.{ℕ, ◌+◌, ◌-◌, ◌≤◌, ◌<◌}
use native.Mathlib.Omega.{arith}
use lib.Dec.{eqb}
use lib.ListN.{length}
use borrow.Author.Tests.{le-ltb, not-true}
use Rattle.tables.proofs.Tables.{by_test}
use Rattle.tables.proofs.Tests.{and_true}
use Rattle.refusal.specs.Rules.{M, number_of, known, is_other}
use Rattle.refusal.specs.declared.Refusal.{Refusal}
use Rattle.refusal.specs.declared.Refusal.TheVariants.{Offset, FinalSize, FlowControl, NoRoom, TableFull, Done as NothingReady, Reset, BadSetup}
use Rattle.range_buf.specs.declared.RangeBuf.{RangeBuf}
use Rattle.range_buf.specs.Rules.{start}
use Rattle.recv_buf.specs.State.{Recv}
use Rattle.recv_buf.specs.Rules.{other_arena, bad_numbers, created, passes_final, no_room, chunks_after, no_entry, write_judged, wrote, written, is_ready, takes, unless_reset, take_judged, discarded, emitted, bad_size, reset_judged, resets, shuts}
use Rattle.settled.specs.Conditions.{◌and◌, ◌or◌, OneOf, OtherArena, SameArena, Contradicts, above, elsewhere, short, NoRoomFor, BadSize, differs, below, Ready, NotReady}
use Rattle.settled.proofs.ExactTests.{Test, less, same, flag, never, negated, both, any, told_as, named, is_known}
use Rattle.settled.proofs.Exact.{Line, line, was_reset, unless, said}
use Rattle.settled.proofs.ExactKinds.{plain_of, plain_same, plain_with, Keeps, keeps, of_either}

-- ---- the tests

other_arena_lem : (r : Recv) (a : ℕ) → Test (other_arena r a) (OtherArena r.room a) (SameArena r.room a)
other_arena_lem r a = any (same a 0) (negated (same a r.room))

reset_code : (f : Option ℕ) (rest : Result ⊤ Refusal) → unless_reset f rest ≡ unless Reset f rest
reset_code None rest = refl
reset_code (Some c) rest = refl

is_ready_lem : (cs : List RangeBuf) (off : ℕ) → Test (is_ready cs off) (Ready cs off) (NotReady cs off)
is_ready_lem [] off = never
is_ready_lem (c ∷ cs) off = same (start c) off

no_room_lem : (r : Recv) (s n : ℕ) → Test (no_room r s n) (NoRoomFor r s n) (¬ NoRoomFor r s n)
no_room_lem r s n = named (both (negated (flag r.drain)) (both (less 0 n) (less r.room (s + n - r.off)))) Iff.rfl

-- the chunks that would stand: not asked after shutdown
no_entry_lem : (r : Recv) (s n : ℕ) (fin : Bool)
    → Test (no_entry r s n fin) ((r.drain ≡ false) and (64 < length (wrote r s n fin).chunks)) ((r.drain ≡ true) or (length (chunks_after r s n fin) ≤ 64))
unfolding wrote
no_entry_lem r s n fin = told_as (both (negated (flag r.drain)) (less 64 (length (chunks_after r s n fin))))
    (λ h. (h.0, rw (stand h.0) h.1), λ h. (h.0, rw (← stand h.0) h.1)) Iff.rfl
  where
    stand : r.drain ≡ false → length (wrote r s n fin).chunks ≡ length (chunks_after r s n fin)
    stand q = by_test (eqb n 0 && not fin)
        (λ e. let p = and_true (eqb n 0) (not fin) e in rw (p.0, not-true fin p.1, and-false (not (known r.fin))))
        (λ e. rw (e, q))

module _ (r : Recv) (e : ℕ) (fin : Bool) where
  contradicts : Test (passes_final r.fin r.len e fin) (Contradicts r e fin) (¬ Contradicts r e fin)
  contradicts = go r.fin refl
    where
      marked : (fin ≡ true) and (e < r.len) → Contradicts r e fin
      marked h = short h.0 h.1

      out_none : r.fin ≡ None → Contradicts r e fin → (fin ≡ true) and (e < r.len)
      out_none q (above F p h) = let z : ◌≡◌ {A = ℕ} 0 1 = cc in absurd (omega arith)
      out_none q (elsewhere F p m h) = let z : ◌≡◌ {A = ℕ} 0 1 = cc in absurd (omega arith)
      out_none q (short m h) = (m, h)

      into : (x : ℕ) → r.fin ≡ Some x → (x < e) or ((fin ≡ true) and (e ≢ x)) or ((fin ≡ true) and (e < r.len)) → Contradicts r e fin
      into x q (inl (inl h)) = above x q h
      into x q (inl (inr h)) = elsewhere x q h.0 h.1
      into x q (inr h) = marked h

      out : (x : ℕ) → r.fin ≡ Some x → Contradicts r e fin → (x < e) or ((fin ≡ true) and (e ≢ x)) or ((fin ≡ true) and (e < r.len))
      out x q (above F p h) = let z : x ≡ F = cc in inl (inl (omega arith))
      out x q (elsewhere F p m h) = let z : x ≡ F = cc in inl (inr (m, λ k. h (k ∙ z)))
      out x q (short m h) = inr (m, h)

      go : (f : Option ℕ) → r.fin ≡ f → Test (passes_final f r.len e fin) (Contradicts r e fin) (¬ Contradicts r e fin)
      go None q = named (both (flag fin) (less e r.len)) (marked, out_none q)
      go (Some x) q = named (any (any (less x e) (both (flag fin) (negated (same e x)))) (both (flag fin) (less e r.len))) (into x q, out x q)

module _ (r : Recv) (size : ℕ) where
  abbrev Differs : Type 0
  Differs = (F : ℕ) × (r.fin ≡ Some F) × (F ≢ size)

  bad_size_lem : Test (bad_size r size) (BadSize r size) (¬ BadSize r size)
  bad_size_lem = named (any (differing r.fin refl) (less size r.len)) (into, out)
    where
      differing : (f : Option ℕ) → r.fin ≡ f → Test (is_other f size) Differs (¬ Differs)
      differing None q = named never (λ h. absurd h, λ h. let p = h.1 in let z : ◌≡◌ {A = ℕ} 0 1 = cc in omega arith)
      differing (Some x) q = named (negated (same x size)) (λ h. (x, q, h), λ h. λ k. h.2 (let p = h.1 in let z : x ≡ h.0 = cc in sym z ∙ k))

      into : Differs or (size < r.len) → BadSize r size
      into (inl h) = differs h.0 h.1 h.2
      into (inr h) = below h

      out : BadSize r size → Differs or (size < r.len)
      out (differs F q h) = inl (F, q, h)
      out (below h) = inr h

-- ---- creation (RULES 7.1)

module _ (limit maximum A : ℕ) where
  new : Keeps (created limit maximum A).answer (line BadSetup (any (any (any (same A 0) (less 65536 A)) (less M limit)) (less M maximum)) ∷ [])
  unfolding created
  new = keeps _ _ (of_either (bad_numbers limit maximum A) _ _) refl

  -- `new` gives BadSetup exactly if A is not 1 to 65,536, or the limit or the maximum window is above M
  pub new_bad_setup : ((created limit maximum A).answer ≡ Err BadSetup) ↔ ((A ≡ 0) or (65536 < A) or (M < limit) or (M < maximum))
  new_bad_setup = new.exact BadSetup

  pub new_only : (x : Refusal) → (created limit maximum A).answer ≡ Err x → OneOf (number_of x) (10 ∷ [])
  new_only = new.others

-- ---- write (RULES 7.2): a frame of n bytes at s, with an arena of a bytes

module _ (r : Recv) (a s n : ℕ) (fin : Bool) where
  write : Keeps (written r a s n fin).answer
      (line BadSetup (other_arena_lem r a) ∷ line Offset (less M (s + n)) ∷ line FlowControl (less r.flow.max_data (s + n))
      ∷ line FinalSize (contradicts r (s + n) fin) ∷ line NoRoom (no_room_lem r s n)
      ∷ line TableFull (no_entry_lem r s n fin) ∷ [])
  unfolding written write_judged
  write = keeps _ _ (plain_same _) refl

  -- BadSetup exactly if the arena's length is 0 or not that of creation
  pub write_bad_setup : ((written r a s n fin).answer ≡ Err BadSetup) ↔ OtherArena r.room a
  write_bad_setup = write.exact BadSetup

  -- Offset exactly if the frame ends above M
  pub write_offset : ((written r a s n fin).answer ≡ Err Offset) ↔ (SameArena r.room a and (M < s + n))
  write_offset = write.exact Offset

  -- FlowControl exactly if it ends above the limit
  pub write_flow_control : ((written r a s n fin).answer ≡ Err FlowControl)
      ↔ (SameArena r.room a and (s + n ≤ M) and (r.flow.max_data < s + n))
  write_flow_control = write.exact FlowControl

  -- FinalSize exactly if it contradicts the final size
  pub write_final : ((written r a s n fin).answer ≡ Err FinalSize)
      ↔ (SameArena r.room a and (s + n ≤ M) and (s + n ≤ r.flow.max_data) and Contradicts r (s + n) fin)
  write_final = write.exact FinalSize

  -- NoRoom exactly if it has bytes and its end is more than A above off; not after shutdown
  pub write_no_room : ((written r a s n fin).answer ≡ Err NoRoom)
      ↔ (SameArena r.room a and (s + n ≤ M) and (s + n ≤ r.flow.max_data) and (¬ Contradicts r (s + n) fin) and NoRoomFor r s n)
  write_no_room = write.exact NoRoom

  -- TableFull exactly if more than 64 chunks would stand after it; not after shutdown
  pub write_table_full : ((written r a s n fin).answer ≡ Err TableFull)
      ↔ (SameArena r.room a and (s + n ≤ M) and (s + n ≤ r.flow.max_data) and (¬ Contradicts r (s + n) fin) and (¬ NoRoomFor r s n)
      and (r.drain ≡ false) and (64 < length (wrote r s n fin).chunks))
  write_table_full = write.exact TableFull

  pub write_only : (x : Refusal) → (written r a s n fin).answer ≡ Err x → OneOf (number_of x) (10 ∷ 1 ∷ 4 ∷ 3 ∷ 5 ∷ 6 ∷ [])
  write_only = write.others

-- ---- emit and discard (RULES 7.3): up to n bytes; for emit, an arena of a bytes

module _ (r : Recv) (n : ℕ) where
  abbrev take_lines : List Line
  take_lines = line NothingReady (negated (is_ready_lem r.chunks r.off)) ∷ was_reset r.error ∷ line Offset (less M (r.flow.consumed + takes r n)) ∷ []

  taken : plain_of (discarded r n).answer ≡ said take_lines
  unfolding discarded take_judged
  taken = plain_with _ _ ∙ ap (cond (not (is_ready r.chunks r.off)) (Err NothingReady)) (reset_code r.error _)

  discard : Keeps (discarded r n).answer take_lines
  discard = keeps _ _ taken refl

  -- Done exactly if nothing is ready
  pub discard_done : ((discarded r n).answer ≡ Err NothingReady) ↔ NotReady r.chunks r.off
  discard_done = discard.exact NothingReady

  -- Reset exactly if it is ready and a reset was accepted, and with the reset's code
  pub discard_reset : (code : ℕ) → ((discarded r n).answer ≡ Err (Reset code)) ↔ (Ready r.chunks r.off and (r.error ≡ Some code))
  discard_reset code = discard.exact (Reset code)

  -- Offset exactly if the consumed total, with what this call would hand out, would pass M
  pub discard_offset : ((discarded r n).answer ≡ Err Offset)
      ↔ (Ready r.chunks r.off and (r.error ≡ None) and (M < r.flow.consumed + takes r n))
  discard_offset = discard.exact Offset

  pub discard_only : (x : Refusal) → (discarded r n).answer ≡ Err x → OneOf (number_of x) (8 ∷ 9 ∷ 1 ∷ [])
  discard_only = discard.others

  module _ (a : ℕ) where
    emit : Keeps (emitted r a n).answer (line BadSetup (other_arena_lem r a) ∷ take_lines)
    unfolding emitted
    emit = keeps _ _ (of_either (other_arena r a) _ _ ∙ ap (cond (other_arena r a) (Err BadSetup)) taken) refl

    -- BadSetup exactly if the arena's length is 0 or not that of creation
    pub emit_bad_setup : ((emitted r a n).answer ≡ Err BadSetup) ↔ OtherArena r.room a
    emit_bad_setup = emit.exact BadSetup

    -- with the right arena, Done exactly if nothing is ready
    pub emit_done : ((emitted r a n).answer ≡ Err NothingReady) ↔ (SameArena r.room a and NotReady r.chunks r.off)
    emit_done = emit.exact NothingReady

    -- Reset exactly if it is ready and a reset was accepted, and with the reset's code
    pub emit_reset : (code : ℕ) → ((emitted r a n).answer ≡ Err (Reset code))
        ↔ (SameArena r.room a and Ready r.chunks r.off and (r.error ≡ Some code))
    emit_reset code = emit.exact (Reset code)

    -- Offset exactly if the consumed total, with what this call would hand out, would pass M
    pub emit_offset : ((emitted r a n).answer ≡ Err Offset)
        ↔ (SameArena r.room a and Ready r.chunks r.off and (r.error ≡ None) and (M < r.flow.consumed + takes r n))
    emit_offset = emit.exact Offset

    pub emit_only : (x : Refusal) → (emitted r a n).answer ≡ Err x → OneOf (number_of x) (10 ∷ 8 ∷ 9 ∷ 1 ∷ [])
    emit_only = emit.others

-- ---- reset (RULES 7.4)

module _ (r : Recv) (code size : ℕ) where
  reset : Keeps (resets r code size).answer
      (line Offset (less M size) ∷ line FinalSize (bad_size_lem r size)
      ∷ line FlowControl (both (negated (is_known r.error)) (less r.flow.max_data size)) ∷ [])
  unfolding resets reset_judged
  reset = keeps _ _ (plain_with _ _) refl

  -- Offset exactly if the size is above M
  pub reset_offset : ((resets r code size).answer ≡ Err Offset) ↔ (M < size)
  reset_offset = reset.exact Offset

  -- FinalSize exactly if F is known and differs, or the size is below len
  pub reset_final : ((resets r code size).answer ≡ Err FinalSize) ↔ ((size ≤ M) and BadSize r size)
  reset_final = reset.exact FinalSize

  -- FlowControl exactly if this is the first reset, and the size is above the limit
  pub reset_flow_control : ((resets r code size).answer ≡ Err FlowControl)
      ↔ ((size ≤ M) and (¬ BadSize r size) and (r.error ≡ None) and (r.flow.max_data < size))
  reset_flow_control = reset.exact FlowControl

  -- a later reset that is refused neither for its offset nor for its size answers (0, 0), whatever the limit
  pub reset_again : (earlier : ℕ) → r.error ≡ Some earlier → size ≤ M → ¬ BadSize r size → (resets r code size).answer ≡ Ok (0, 0)
  unfolding resets reset_judged
  reset_again earlier e top good = rw (le-ltb M size top, (bad_size_lem r size).no.1 good, e)

  pub reset_only : (x : Refusal) → (resets r code size).answer ≡ Err x → OneOf (number_of x) (1 ∷ 3 ∷ 4 ∷ [])
  reset_only = reset.others

-- ---- shutdown (RULES 7.5)

module _ (r : Recv) where
  shutdown : Keeps (shuts r).answer (line NothingReady (flag r.drain) ∷ [])
  unfolding shuts
  shutdown = keeps _ _ (of_either r.drain _ _) refl

  -- Done exactly if there was a shutdown
  pub shutdown_done : ((shuts r).answer ≡ Err NothingReady) ↔ (r.drain ≡ true)
  shutdown_done = shutdown.exact NothingReady

  pub shutdown_only : (x : Refusal) → (shuts r).answer ≡ Err x → OneOf (number_of x) (8 ∷ [])
  shutdown_only = shutdown.others
