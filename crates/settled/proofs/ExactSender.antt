-- Each refusal of a send buffer is given exactly if docs/RULES.md says so (2.1 and 4), in the order of 2.2, for every state and every number.
-- A theorem CALL_REFUSAL says when a call gives a refusal: those tested before it let pass, and its own condition holds. CALL_only: the call gives
-- none but those numbered there, tested in that order. Assumes nothing.
use Rattle.std.specs.Prelude.{Option, None, Some, Result, Err, ⊤}
use mathlib.Core.Path.{◌≡◌, refl, ap, ◌∙◌}
use mathlib.Core.Logic.Iff
use mathlib.Core.Logic.{◌↔◌, inl, inr}
use mathlib.Core.Bool.{Bool, true, false, cond, not, ◌&&◌}
use mathlib.Core.List.{List, [], ◌∷◌}
use Prim.Native.Nat.{ℕ, ◌+◌, ◌-◌, ◌≤◌, ◌<◌}
use native.Mathlib.Omega.{arith}
use lib.Dec.{ltb}
use lib.ListN.{length}
use borrow.Author.Tests.{ltb-false, not-true}
use Rattle.refusal.specs.Rules.{M, number_of, known}
use Rattle.refusal.specs.declared.Refusal.{Refusal}
use Rattle.refusal.specs.declared.Refusal.TheVariants.{Offset, Stopped, FinalSize, NoRoom, TableFull, NeverSent, Done as NothingMore, BadSetup}
use Rattle.ranges.specs.State.{upto}
use Rattle.send_buf.specs.State.{Send, GoodSend, base}
use Rattle.send_buf.specs.Rules.{other_arena, ack_off, bad_numbers, created, marked, accepted, unless_stopped, passes_final, tabled, longer, no_entry, write_judged, wrote, written, emitted, ack_judged, acked_more, acks, ack_drops, back, settled, loss_judged, lost, retransmits, resets, stops, shuts, raised, cap}
use Rattle.send_buf.proofs.Kept.{never_full}
use Rattle.settled.specs.Conditions.{◌and◌, ◌or◌, OneOf, OtherArena, SameArena, Apart, Unmarked, PastFinal, past, unmarked, Moves}
use Rattle.settled.proofs.ExactTests.{Test, less, most, same, flag, never, negated, both, any, named, is_known}
use Rattle.settled.proofs.Exact.{Line, line, stopped, unless}
use Rattle.settled.proofs.ExactKinds.{plain_same, plain_with, Keeps, keeps, of_either}
use Rattle.settled.proofs.ExactLeaves.{needs_room_lem, would_pass}

-- ---- the tests

other_arena_lem : (s : Send) (a : ℕ) → Test (other_arena s a) (OtherArena s.room a) (SameArena s.room a)
other_arena_lem s a = any (same a 0) (negated (same a s.room))

stop_code : (f : Option ℕ) (rest : Result ⊤ Refusal) → unless_stopped f rest ≡ unless Stopped f rest
stop_code None rest = refl
stop_code (Some c) rest = refl

module _ (s : Send) (n : ℕ) (fin : Bool) where
  no_mark : Test (not (marked s n fin)) (Unmarked s n fin) ((n ≤ s.limit - s.off) and (fin ≡ true))
  no_mark = negated (both (negated (less (s.limit - s.off) n)) (flag fin))

  past_final : Test (passes_final s.fin (s.off + n) (marked s n fin)) (PastFinal s n fin) (¬ PastFinal s n fin)
  past_final = go s.fin refl
    where
      not_known : s.fin ≡ None → ¬ PastFinal s n fin
      not_known e (past F q h) = let z : ◌≡◌ {A = ℕ} 0 1 = cc in omega arith
      not_known e (unmarked F q h u) = let z : ◌≡◌ {A = ℕ} 0 1 = cc in omega arith

      into : (x : ℕ) → s.fin ≡ Some x → (x < s.off + n) or ((s.off + n ≡ x) and Unmarked s n fin) → PastFinal s n fin
      into x e (inl h) = past x e h
      into x e (inr h) = unmarked x e h.0 h.1

      out : (x : ℕ) → s.fin ≡ Some x → PastFinal s n fin → (x < s.off + n) or ((s.off + n ≡ x) and Unmarked s n fin)
      out x e (past F q h) = let z : x ≡ F = cc in inl (omega arith)
      out x e (unmarked F q h u) = let z : x ≡ F = cc in inr (omega arith, u)

      go : (f : Option ℕ) → s.fin ≡ f → Test (passes_final f (s.off + n) (marked s n fin)) (PastFinal s n fin) (¬ PastFinal s n fin)
      go None e = named never (λ h. absurd h, not_known e)
      go (Some x) e = named (any (less x (s.off + n)) (both (same (s.off + n) x) no_mark)) (into x e, out x e)

  -- the chunks that would remain, joined if they are too many
  no_entry_lem : Test (no_entry s n) (64 < length (wrote s n fin).chunks) (length (wrote s n fin).chunks ≤ 64)
  unfolding wrote
  no_entry_lem = less 64 (length (tabled (longer s (accepted s n))))

-- ---- creation (RULES 4.1)

module _ (limit A : ℕ) where
  new : Keeps (created limit A).answer (line BadSetup (any (any (same A 0) (less 65536 A)) (less M limit)) ∷ [])
  unfolding created
  new = keeps _ _ (of_either (bad_numbers limit A) _ _) refl

  -- `new` gives BadSetup exactly if A is not 1 to 65,536 or the limit is above M
  pub new_bad_setup : ((created limit A).answer ≡ Err BadSetup) ↔ ((A ≡ 0) or (65536 < A) or (M < limit))
  new_bad_setup = new.exact BadSetup

  pub new_only : (x : Refusal) → (created limit A).answer ≡ Err x → OneOf (number_of x) (10 ∷ [])
  new_only = new.others

-- ---- write (RULES 4.2): n bytes, with an arena of a bytes

module _ (s : Send) (a n : ℕ) (fin : Bool) where
  -- the bytes that the arena would hold from b on
  abbrev held : ℕ
  held = accepted s n + (s.off - base s.chunks s.off)

  write : Keeps (written s a n fin).answer
      (line BadSetup (other_arena_lem s a) ∷ stopped s.error ∷ line FinalSize (past_final s n fin) ∷ line NoRoom (less s.room held)
      ∷ line TableFull (no_entry_lem s n fin) ∷ [])
  unfolding written write_judged
  write = keeps _ _ (plain_with _ _ ∙ ap (cond (other_arena s a) (Err BadSetup)) (stop_code s.error _)) refl

  -- BadSetup exactly if the arena's length is 0 or not that of creation
  pub write_bad_setup : ((written s a n fin).answer ≡ Err BadSetup) ↔ OtherArena s.room a
  write_bad_setup = write.exact BadSetup

  -- Stopped exactly if a stop was made, and with the stop's code
  pub write_stopped : (code : ℕ) → ((written s a n fin).answer ≡ Err (Stopped code)) ↔ (SameArena s.room a and (s.error ≡ Some code))
  write_stopped code = write.exact (Stopped code)

  -- FinalSize exactly if F is known and the write ends above it, or at it without an end mark
  pub write_final : ((written s a n fin).answer ≡ Err FinalSize) ↔ (SameArena s.room a and (s.error ≡ None) and PastFinal s n fin)
  write_final = write.exact FinalSize

  -- NoRoom exactly if the accepted bytes plus off - b exceed A
  pub write_no_room : ((written s a n fin).answer ≡ Err NoRoom)
      ↔ (SameArena s.room a and (s.error ≡ None) and (¬ PastFinal s n fin)
      and (s.room < accepted s n + (s.off - base s.chunks s.off)))
  write_no_room = write.exact NoRoom

  -- TableFull exactly if more than 64 chunks remain after it and after joining, ..
  pub write_table_full : ((written s a n fin).answer ≡ Err TableFull)
      ↔ (SameArena s.room a and (s.error ≡ None) and (¬ PastFinal s n fin)
      and (accepted s n + (s.off - base s.chunks s.off) ≤ s.room) and (64 < length (wrote s n fin).chunks))
  write_table_full = write.exact TableFull

  pub write_only : (x : Refusal) → (written s a n fin).answer ≡ Err x → OneOf (number_of x) (10 ∷ 2 ∷ 3 ∷ 5 ∷ 6 ∷ [])
  write_only = write.others

  -- .. which is never so of a buffer that came from creation or a call
  pub write_never_full : GoodSend s → ¬ ((written s a n fin).answer ≡ Err TableFull)
  unfolding wrote
  write_never_full g e =
      let many = (write_table_full.0 e).1.1.1.1 in
      omega (arith, ltb-false 64 (length (tabled (longer s (accepted s n)))) (never_full s g n))

-- ---- emit (RULES 4.3): room for n bytes, an arena of a bytes

module _ (s : Send) (a n : ℕ) where
  emit : Keeps (emitted s a n).answer (line BadSetup (other_arena_lem s a) ∷ [])
  unfolding emitted
  emit = keeps _ _ (of_either (other_arena s a) _ _) refl

  -- BadSetup exactly if the arena's length is 0 or not that of creation
  pub emit_bad_setup : ((emitted s a n).answer ≡ Err BadSetup) ↔ OtherArena s.room a
  emit_bad_setup = emit.exact BadSetup

  pub emit_only : (x : Refusal) → (emitted s a n).answer ≡ Err x → OneOf (number_of x) (10 ∷ [])
  emit_only = emit.others

-- ---- ack, ack and drop, retransmit (RULES 4.4, 4.5): n bytes at a

module _ (s : Send) (a n : ℕ) where
  abbrev ack_lines : List Line
  ack_lines = line NeverSent (less s.emitted (a + n)) ∷ line TableFull (needs_room_lem 64 (upto a (a + n)) s.acked) ∷ []

  needs_65th : GoodSend s → (Apart (upto a (a + n)) s.acked and (64 ≤ length s.acked)) ↔ (64 < length (acked_more s a n).acked)
  unfolding acked_more
  needs_65th g = would_pass 64 (upto a (a + n)) (omega arith) s.acked g.acked_order g.acked_few

  ack : Keeps (acks s a n).answer ack_lines
  unfolding acks ack_judged
  ack = keeps _ _ (plain_same _) refl

  -- NeverSent exactly if the range ends above the largest emitted offset; nothing is tested before it
  pub ack_never_sent : ((acks s a n).answer ≡ Err NeverSent) ↔ (s.emitted < a + n)
  ack_never_sent = ack.exact NeverSent

  -- TableFull exactly if no acked range meets or touches it, and there are 64
  pub ack_table_full : ((acks s a n).answer ≡ Err TableFull)
      ↔ ((a + n ≤ s.emitted) and Apart (upto a (a + n)) s.acked and (64 ≤ length s.acked))
  ack_table_full = ack.exact TableFull

  -- in other words, of a buffer that came from creation or a call: exactly if the acked set would need a 65th range
  pub ack_65th : GoodSend s → ((acks s a n).answer ≡ Err TableFull) ↔ ((a + n ≤ s.emitted) and (64 < length (acked_more s a n).acked))
  ack_65th g = Iff.trans ack_table_full (Iff.and Iff.rfl (needs_65th g))

  pub ack_only : (x : Refusal) → (acks s a n).answer ≡ Err x → OneOf (number_of x) (7 ∷ 6 ∷ [])
  ack_only = ack.others

  drop : Keeps (ack_drops s a n).answer ack_lines
  unfolding ack_drops ack_judged
  drop = keeps _ _ (plain_with _ _) refl

  -- `ack_and_drop` gives NeverSent exactly where `ack` does
  pub drop_never_sent : ((ack_drops s a n).answer ≡ Err NeverSent) ↔ (s.emitted < a + n)
  drop_never_sent = drop.exact NeverSent

  -- and TableFull exactly where `ack` does
  pub drop_table_full : ((ack_drops s a n).answer ≡ Err TableFull)
      ↔ ((a + n ≤ s.emitted) and Apart (upto a (a + n)) s.acked and (64 ≤ length s.acked))
  drop_table_full = drop.exact TableFull

  -- in other words, as for `ack`
  pub drop_65th : GoodSend s → ((ack_drops s a n).answer ≡ Err TableFull) ↔ ((a + n ≤ s.emitted) and (64 < length (acked_more s a n).acked))
  drop_65th g = Iff.trans drop_table_full (Iff.and Iff.rfl (needs_65th g))

  pub drop_only : (x : Refusal) → (ack_drops s a n).answer ≡ Err x → OneOf (number_of x) (7 ∷ 6 ∷ [])
  drop_only = drop.others

  moves : Test (not (settled s a n)) (Moves s (a + n)) ((length s.chunks ≡ 0) or (a + n ≤ ack_off s.acked))
  moves = negated (any (same (length s.chunks) 0) (most (a + n) (ack_off s.acked)))

  -- chunks are moved back, and so many would be left
  abbrev Leaves65 : Type 0
  Leaves65 = Moves s (a + n) and (64 < length (lost s a n).chunks)

  leaves_65 : Test (not (settled s a n) && ltb 64 (length (tabled (back s.chunks a (a + n))))) Leaves65 (¬ Leaves65)
  unfolding lost
  leaves_65 = named (both moves (less 64 (length (tabled (back s.chunks a (a + n))))))
      (λ h. (h.0, rw (goes_on h.0) h.1), λ h. (h.0, rw (goes_on h.0) at h.1))
    where
      goes_on : Moves s (a + n) → settled s a n ≡ false
      goes_on h = not-true (settled s a n) (moves.yes.1 h)

  loss : Keeps (retransmits s a n).answer (line NeverSent (less s.emitted (a + n)) ∷ line TableFull leaves_65 ∷ [])
  unfolding retransmits loss_judged
  loss = keeps _ _ (plain_with _ _) refl

  -- `retransmit` gives NeverSent exactly if the range ends above the largest emitted offset; nothing is tested before it
  pub loss_never_sent : ((retransmits s a n).answer ≡ Err NeverSent) ↔ (s.emitted < a + n)
  loss_never_sent = loss.exact NeverSent

  -- and TableFull exactly if chunks are moved back, and more than 64 remain after that and after joining
  pub loss_table_full : ((retransmits s a n).answer ≡ Err TableFull)
      ↔ ((a + n ≤ s.emitted) and Moves s (a + n) and (64 < length (lost s a n).chunks))
  loss_table_full = loss.exact TableFull

  pub loss_only : (x : Refusal) → (retransmits s a n).answer ≡ Err x → OneOf (number_of x) (7 ∷ 6 ∷ [])
  loss_only = loss.others

-- ---- reset, stop, shutdown (RULES 4.6), the limit (4.7), `cap` (4.9)

module _ (s : Send) where
  -- `reset` refuses nothing
  pub reset_only : (x : Refusal) → ¬ ((resets s).answer ≡ Err x)
  unfolding resets
  reset_only = (keeps (resets s).answer [] refl refl).others

  stop : (code : ℕ) → Keeps (stops s code).answer (line NothingMore (is_known s.error) ∷ [])
  unfolding stops
  stop code = keeps _ _ (of_either (known s.error) _ _) refl

  -- `stop` gives Done exactly if there was a stop, whatever its code
  pub stop_done : (code : ℕ) → ((stops s code).answer ≡ Err NothingMore) ↔ ((earlier : ℕ) × (s.error ≡ Some earlier))
  stop_done code = (stop code).exact NothingMore

  pub stop_only : (code : ℕ) (x : Refusal) → (stops s code).answer ≡ Err x → OneOf (number_of x) (8 ∷ [])
  stop_only code = (stop code).others

  shutdown : Keeps (shuts s).answer (line NothingMore (flag s.shut) ∷ [])
  unfolding shuts
  shutdown = keeps _ _ (of_either s.shut _ _) refl

  -- `shutdown` gives Done exactly if there was a shutdown
  pub shutdown_done : ((shuts s).answer ≡ Err NothingMore) ↔ (s.shut ≡ true)
  shutdown_done = shutdown.exact NothingMore

  pub shutdown_only : (x : Refusal) → (shuts s).answer ≡ Err x → OneOf (number_of x) (8 ∷ [])
  shutdown_only = shutdown.others

  limit : (n : ℕ) → Keeps (raised s n).answer (line Offset (less M n) ∷ [])
  unfolding raised
  limit n = keeps _ _ (of_either (ltb M n) _ _) refl

  -- `update_max_data` gives Offset exactly if the new limit is above M
  pub limit_offset : (n : ℕ) → ((raised s n).answer ≡ Err Offset) ↔ (M < n)
  limit_offset n = (limit n).exact Offset

  pub limit_only : (n : ℕ) (x : Refusal) → (raised s n).answer ≡ Err x → OneOf (number_of x) (1 ∷ [])
  limit_only n = (limit n).others

  capacity : Keeps (cap s) (stopped s.error ∷ [])
  capacity = keeps _ _ (plain_with _ _ ∙ stop_code s.error _) refl

  -- `cap` gives Stopped exactly if a stop was made, and with the stop's code
  pub cap_stopped : (code : ℕ) → (cap s ≡ Err (Stopped code)) ↔ (s.error ≡ Some code)
  cap_stopped code = capacity.exact (Stopped code)

  pub cap_only : (x : Refusal) → cap s ≡ Err x → OneOf (number_of x) (2 ∷ [])
  cap_only = capacity.others
