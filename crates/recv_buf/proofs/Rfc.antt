-- The receive buffer agrees with RFC 9000. After a successful creation and any calls whatever, with the knowledge that the RFC's rules (specs/Rfc9000.antt)
-- give for the calls that were accepted:
--
--   agrees          it is what the buffer knows, but for a limit that may be smaller; the bytes handed out are the stream's, each once and in its place
--   final_fixed     once known, the final size never changes
--   reads           an emit or a discard takes the ordered stream's next bytes, and is refused only if there is none
--
-- and, with a starting limit of at most the maximum window, so that the limit never falls:
--
--   agrees_whole    the limit agrees too
--   refuses         FlowControl and FinalSize are given exactly where a rule of 4.1 or 4.5 is broken
--   ours            a frame that breaks no rule is refused NoRoom or TableFull only
--   buffers         with an arena as long as the maximum window, TableFull only
--
-- The words of these statements are defined in specs/RfcAgreement.antt; `start` and `told_by`, below, are short for two terms of them.
--
-- Assumes nothing.
use Rattle.std.specs.Prelude.{Ok, Err, Some}
use mathlib.Core.Path.{◌≡◌, sym, ap, subst, ◌∙◌}
use mathlib.Core.Logic.{◌⊎◌, inl}
use mathlib.Core.List.{List}
use Prim.Native.Nat.{ℕ, ◌≤◌, ◌<◌}
use native.Mathlib.Omega.{arith}
use borrow.Author.Tests.{lt-ltb}
use lib.ListN.{length, get_or}
use Rattle.tables.proofs.Tables.{cases}
use Rattle.refusal.specs.declared.Refusal.{Refusal}
use Rattle.refusal.specs.declared.Refusal.TheVariants.{NoRoom, TableFull}
use Rattle.refusal.specs.Rules.{M}
use Rattle.flowcontrol.proofs.Steady.{Steady, fresh_steady}
use Rattle.recv_buf.specs.State.{Recv}
use Rattle.recv_buf.specs.Rules.{created, written}
use Rattle.recv_buf.specs.Rfc9000.{Known, opened, Frame, end_of, Tells, stream_frame, history, Breaks}
use Rattle.recv_buf.specs.RfcAgreement.{Call, Side, view, begin, run, known_of, events, unlimited, Agrees, given, Refuses, Reads}
use Rattle.recv_buf.proofs.RfcLaws.{coherent_opened, coherent_history}
use Rattle.recv_buf.proofs.RfcState.{Sound, known_eq}
use Rattle.recv_buf.proofs.RfcErrors.{ours_only, Wide, table_only}
use Rattle.recv_buf.proofs.RfcRun.{Moved, right_of, moved_run, begun}
use Rattle.recv_buf.proofs.RfcNow.{refuses_now, reads_now}

-- a successful creation, and then any calls
module _ (limit maximum : ℕ) (ar : List ℕ) (new : (created limit maximum (length ar)).answer ≡ Ok tt) where
  abbrev pub start : Side
  start = begin limit maximum ar

  ran : (cs : List Call) → Moved start (events start cs) (view (run start cs)) (run start cs).arena (run start cs).out
  ran cs = moved_run start (begun limit maximum ar new).sound cs

  pub agrees : (cs : List Call) → Agrees (opened limit) (events start cs) (run start cs)
  agrees cs =
      let f = (ran cs).follows (opened limit) (begun limit maximum ar new).near in record {
        near = f.near;
        lawful = f.lawful;
        coherent = coherent_history (opened limit) (events start cs) (coherent_opened limit) f.lawful;
        output = f.output;
        in_place = λ o b. ap (λ (j : Known). j.byte o) (sym f.near.same) ∙ placed (run start cs) (ran cs).sound o b;
      }
    where
      placed : (y : Side) → Sound (view y) y.arena y.out → (o : ℕ) → o < length y.out → (known_of y).byte o ≡ Some (get_or y.out o 0)
      placed y g o b = rw (lt-ltb o (view y).flow.consumed (omega (arith, g.all_out)))

  -- once known, the final size never changes, whatever is called
  pub final_fixed : (before later : List Call) (f : ℕ) → (view (run start before)).fin ≡ Some f → (view (run (run start before) later)).fin ≡ Some f
  final_fixed before later = (moved_run (run start before) (ran before).sound later).final

  -- what the RFC's rules give for the calls accepted
  abbrev told_by : List Call → Known
  told_by cs = history (opened limit) (events start cs)

  pub reads : (cs : List Call) → Reads (told_by cs) (run start cs)
  reads cs = bare (run start cs) (told_by cs) (agrees cs).near.same (ran cs).sound
    where
      bare : (y : Side) (k : Known) → unlimited (known_of y) ≡ unlimited k → Sound (view y) y.arena y.out → Reads k y
      bare y k s g = let r = subst (λ (j : Known). Reads j y) s (reads_now y g) in
          record { handed = r.handed; dropped = r.dropped; ahead = r.ahead; nothing = r.nothing }

  -- with a starting limit of at most the maximum window, the limit agrees too
  module _ (low : limit ≤ maximum) where
    steady_start : Steady (view start).flow
    steady_start = subst (λ (r : Recv). Steady r.flow) (sym (begun limit maximum ar new).is_new_lem) (fresh_steady limit maximum low)

    limit_start : (view start).flow.max_data ≡ (opened limit).limit
    unfolding opened
    limit_start = ap (λ (r : Recv). r.flow.max_data) (begun limit maximum ar new).is_new_lem

    pub agrees_whole : (cs : List Call) → known_of (run start cs) ≡ history (opened limit) (events start cs)
    agrees_whole cs =
        let s = (agrees cs).near.same in
        known_eq (known_of (run start cs)) (history (opened limit) (events start cs))
        (λ o. ap (λ (j : Known). j.byte o) s) (ap (λ (j : Known). j.highest) s) (ap (λ (j : Known). j.final) s)
        (((ran cs).tight steady_start).limit (opened limit) limit_start)
        (ap (λ (j : Known). j.delivered) s) (ap (λ (j : Known). j.reset) s) (ap (λ (j : Known). j.aborted) s)

    pub refuses : (cs : List Call) → Refuses (told_by cs) (run start cs)
    refuses cs = subst (λ (k : Known). Refuses k (run start cs)) (agrees_whole cs) (refuses_now (run start cs) (ran cs).sound)

    -- a frame with bytes or mark that breaks no rule is refused for our sizes only ..
    pub ours : (cs : List Call) (f : Frame) → Tells f → (Breaks (told_by cs) (stream_frame f) → ⊥)
        → (why : Refusal) → given (run start cs) f ≡ Err why → (why ≡ NoRoom) ⊎ (why ≡ TableFull)
    unfolding written
    ours cs f t lawful why e =
        let y = run start cs in
        let g = (ran cs).sound in
        ours_only (view y) y.arena y.out f.from f.bytes f.fin (length y.arena) (right_of (view y) y.arena y.out g)
        (cases M (end_of f) (λ h. absurd (lawful (inl h))) (λ h. h)) t
        (subst (λ (k : Known). Breaks k (stream_frame f) → ⊥) (sym (agrees_whole cs)) lawful) why e

    -- .. and (2.2) with an arena at least as long as the maximum window, only if it needs a 65th chunk
    pub buffers : maximum ≤ length ar → (cs : List Call) (f : Frame) → Tells f → (Breaks (told_by cs) (stream_frame f) → ⊥)
        → (why : Refusal) → given (run start cs) f ≡ Err why → why ≡ TableFull
    unfolding written
    buffers w cs f t lawful why e =
        let y = run start cs in
        let p = ran cs in
        table_only (view y) y.arena y.out p.sound (p.tight steady_start).steady (p.wide wide_start) f.from f.bytes f.fin
        (length y.arena) (right_of (view y) y.arena y.out p.sound) t
        (subst (λ (k : Known). Breaks k (stream_frame f) → ⊥) (sym (agrees_whole cs)) lawful) why e
      where
        wide_start : Wide (view start)
        wide_start = subst Wide (sym (begun limit maximum ar new).is_new_lem) w
