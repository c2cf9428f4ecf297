-- Reset, shutdown, commit and autotune move what the buffer knows as RFC 9000 says: `knows_reset`, `knows_shut`, `knows_commit`, `knows_tune`.
-- Assumes nothing.
use Rattle.std.specs.Prelude.{Ok, Option, Some, None}
use mathlib.Core.Path.{◌≡◌, refl, ◌∙◌}
use mathlib.Core.Bool.{Bool, true, false, cond}
use mathlib.Core.List.{List, [], ◌∷◌}
use Prim.Native.Nat.{ℕ, ◌*◌, ◌≤◌}
use native.Mathlib.Omega.{arith}
use lib.Dec.{ltb}
use lib.ListN.{get_or}
use Rattle.tables.proofs.Tables.{cond_elim}
use Rattle.tables.proofs.Tests.{either, clash}
use Rattle.refusal.specs.Rules.{known}
use Rattle.arena.specs.Rules.{byte_at}
use Rattle.range_buf.specs.declared.RangeBuf.{RangeBuf}
use Rattle.range_buf.specs.Rules.{fresh}
use Rattle.flowcontrol.specs.declared.FlowControl.{FlowControl}
use Rattle.flowcontrol.specs.Rules.{next, committed, autotuned, recent, with_window}
use Rattle.flowcontrol.proofs.Kept.{committed_good, autotuned_good}
use Rattle.recv_buf.specs.State.{Recv, Held, GoodRecv}
use Rattle.recv_buf.specs.Rules.{holds, with_chunks, with_ends, with_flow, with_closed, reset_judged, was_reset}
use Rattle.recv_buf.specs.Rfc9000.{Known, is_some, taken_only, reset_stream, abort, advertise}
use Rattle.recv_buf.specs.RfcAgreement.{knows}
use Rattle.recv_buf.proofs.Kept.{reset_good, shut_good, flow_good}
use Rattle.recv_buf.proofs.RfcState.{Sound, known_eq, unheld}

-- what is left when nothing is held
only_taken : (t : Bool) (a b : Option ℕ) → cond t a None ≡ cond t (cond t a b) None
only_taken true a b = refl
only_taken false a b = refl

-- x, and what did not change in it
pub record Changed (r x : Recv) (ar out : List ℕ) (k : Known) : Type 0 where
  pub knowledge : knows x ar out ≡ k
  pub sound : Sound x ar out
  pub flow : x.flow ≡ r.flow
  pub room : x.room ≡ r.room

module _ (r : Recv) (ar out : List ℕ) (g : Sound r ar out) where
  -- RESET_STREAM
  pub knows_reset : (code size : ℕ) → reset_judged r size ≡ Ok tt → Changed r (was_reset r code size) ar out (reset_stream (knows r ar out) code size)
  unfolding was_reset reset_stream
  knows_reset code size said = go r.error refl (reset_good r g.good code size said)
    where
      now : Recv
      now = with_closed (with_ends (with_chunks r (cond r.drain [] (fresh size 0 ∷ []))) size size (Some size)) (Some code) r.drain

      reset : Known
      reset = record { byte = taken_only (knows r ar out); highest = size; final = Some size; limit = r.flow.max_data; delivered = r.flow.consumed; reset = Some code; aborted = r.drain }

      empty : (o : ℕ) → Held (cond r.drain [] (fresh size 0 ∷ [])) o → ⊥
      empty o = cond_elim (λ (cs : List RangeBuf). Held cs o → ⊥) r.drain (λ y h. h) (λ y h. either h (λ p. omega arith) (λ z. z))

      go : (z : Option ℕ) → r.error ≡ z → GoodRecv (cond (known z) r now)
          → Changed r (cond (known z) r now) ar out (cond (is_some z) (knows r ar out) reset)
      go (Some y) e w = record { knowledge = refl; sound = g; flow = refl; room = refl }
      go None e w = record {
        knowledge = known_eq (knows now ar out) reset
            (λ o. unheld now ar out o (empty o)
            ∙ only_taken (ltb o r.flow.consumed) (Some (get_or out o 0)) (cond (holds r.chunks o) (Some (byte_at ar o)) None))
            refl refl refl refl refl refl;
        sound = record {
          good = w;
          some_room = g.some_room;
          size = g.size;
          all_out = g.all_out;
          live = λ a b. let z : ◌≡◌ {A = ℕ} 0 1 = cc in absurd (omega arith);
          ended = λ c y. (refl, refl);
        };
        flow = refl;
        room = refl;
      }

  -- giving up reading
  abbrev pub shut : Recv
  shut = with_closed (with_ends (with_chunks r []) r.len r.len r.fin) r.error true

  pub knows_shut : Changed r shut ar out (abort (knows r ar out))
  unfolding abort
  knows_shut = record {
    knowledge = known_eq (knows shut ar out) (abort (knows r ar out))
        (λ o. only_taken (ltb o r.flow.consumed) (Some (get_or out o 0)) (cond (holds r.chunks o) (Some (byte_at ar o)) None)) refl refl refl refl refl refl;
    sound = record {
      good = shut_good r g.good;
      some_room = g.some_room;
      size = g.size;
      all_out = g.all_out;
      live = λ a b. clash b;
      ended = λ c y. (refl, (g.ended c y).1);
    };
    flow = refl;
    room = refl;
  }

  -- a commit advertises the next limit. The RFC keeps the largest: they agree if the limit does not fall
  pub knows_commit : (now : ℕ) → r.flow.max_data ≤ next r.flow
      → knows (with_flow r (committed r.flow now)) ar out ≡ advertise (knows r ar out) (next r.flow)
  unfolding advertise
  knows_commit now h =
      known_eq (knows (with_flow r (committed r.flow now)) ar out) (advertise (knows r ar out) (next r.flow))
      (λ o. refl) refl refl (omega arith) refl refl refl

  pub sound_commit : (now : ℕ) → Sound (with_flow r (committed r.flow now)) ar out
  sound_commit now = record {
    good = flow_good r g.good (committed r.flow now) (committed_good r.flow g.good.flow_good now);
    some_room = g.some_room;
    size = g.size;
    all_out = g.all_out;
    live = g.live;
    ended = g.ended;
  }

  -- autotuning tells the peer nothing
  pub knows_tune : (now rtt : ℕ)
      → (knows (with_flow r (autotuned r.flow now rtt)) ar out ≡ knows r ar out) × Sound (with_flow r (autotuned r.flow now rtt)) ar out
  knows_tune now rtt = go (recent r.flow.last_update now rtt) (flow_good r g.good (autotuned r.flow now rtt) (autotuned_good r.flow g.good.flow_good now rtt))
    where
      tuned : Bool → FlowControl
      tuned t = cond t (with_window r.flow (2 * r.flow.window)) r.flow

      go : (t : Bool) → GoodRecv (with_flow r (tuned t)) → (knows (with_flow r (tuned t)) ar out ≡ knows r ar out) × Sound (with_flow r (tuned t)) ar out
      go true w = (refl, record { good = w; some_room = g.some_room; size = g.size; all_out = g.all_out; live = g.live; ended = g.ended })
      go false w = (refl, record { good = w; some_room = g.some_room; size = g.size; all_out = g.all_out; live = g.live; ended = g.ended })
