-- What a sound buffer answers, against what it knows: `Refuses`, the errors of frames and resets; `Reads`, what emits and discards take. Assumes nothing.
use Rattle.std.specs.Prelude.{Result, Ok, Err, ⊤}
use mathlib.Core.Path.{◌≡◌, sym, ap, ◌∙◌}
use mathlib.Core.Logic.{◌↔◌}
use mathlib.Core.Bool.{Bool, false, cond}
use mathlib.Core.List.{List, [], ◌++◌}
use Prim.Native.Nat.{ℕ, ◌+◌, ◌-◌, ◌≤◌}
use native.Mathlib.Omega.{arith}
use lib.ListN.{length, drop}
use Rattle.tables.proofs.Tables.{cases}
use Rattle.tables.proofs.Tests.{either, undecided}
use Rattle.refusal.specs.declared.Refusal.{Refusal}
use Rattle.refusal.specs.declared.Refusal.TheVariants.{FinalSize, FlowControl as OverLimit}
use Rattle.refusal.specs.declared.Outcome.{Outcome}
use Rattle.refusal.specs.Rules.{M, after, known, is_at, with_sizes}
use Rattle.refusal.proofs.Answers.{bytes_done, bytes_refused}
use Rattle.arena.specs.Rules.{held}
use Rattle.recv_buf.specs.declared.RecvBuf.{RecvBuf}
use Rattle.recv_buf.specs.Rules.{other_arena, written, takes, take_judged, discarded, emitted, emitted_out, reset_judged, resets}
use Rattle.recv_buf.specs.Rfc9000.{Frame, end_of, TooLarge, available, is_all}
use Rattle.recv_buf.specs.RfcAgreement.{Side, view, known_of, unlimited, Refuses, Reads}
use Rattle.recv_buf.proofs.RfcState.{Sound}
use Rattle.recv_buf.proofs.RfcErrors.{offset_exact, flow_exact, final_exact, reset_final_exact, reset_flow_exact}
use Rattle.recv_buf.proofs.RfcEmit.{knows_emit, emit_refused, readable_exact}
use Rattle.recv_buf.proofs.RfcRun.{right_of, emit_is}

-- ---- the errors

-- the answer of a reset is refused as its tests say
sizes_refused : (said : Result ⊤ Refusal) (a b : ℕ) (why : Refusal) → (with_sizes said a b ≡ Err why) ↔ (said ≡ Err why)
sizes_refused (Ok done) a b why = (λ e. let z : ◌≡◌ {A = ℕ} 0 1 = cc in absurd (omega arith), λ e. let z : ◌≡◌ {A = ℕ} 0 1 = cc in absurd (omega arith))
sizes_refused (Err x) a b why = (λ e. let z : x ≡ why = cc in ap Err z, λ e. let z : x ≡ why = cc in ap Err z)

pub refuses_now : (y : Side) → Sound (view y) y.arena y.out → Refuses (known_of y) y
unfolding written resets
refuses_now y g = record {
  too_large = λ f. offset_exact (view y) y.arena y.out f.from f.bytes f.fin (length y.arena) right;
  flow = λ f n. flow_exact (view y) y.arena y.out f.from f.bytes f.fin (length y.arena) right (top f n);
  final = λ f n. final_exact (view y) y.arena y.out f.from f.bytes f.fin (length y.arena) right (top f n);
  reset_final = λ code size h.
      let p = sizes_refused (reset_judged (view y) size) (cond (known (view y).error) 0 (size - (view y).len)) (cond (known (view y).error) 0 (size - (view y).off)) FinalSize in
      let q = reset_final_exact (view y) y.arena y.out size h in (λ e. q.0 (p.0 e), λ e. p.1 (q.1 e));
  reset_flow = λ code size h.
      let p = sizes_refused (reset_judged (view y) size) (cond (known (view y).error) 0 (size - (view y).len)) (cond (known (view y).error) 0 (size - (view y).off)) OverLimit in
      let q = reset_flow_exact (view y) y.arena y.out size h in (λ e. q.0 (p.0 e), λ e. p.1 (q.1 e));
}
  where
    right : other_arena (view y) (length y.arena) ≡ false
    right = right_of (view y) y.arena y.out g

    top : (f : Frame) → (TooLarge f → ⊥) → end_of f ≤ M
    top f n = cases M (end_of f) (λ h. absurd (n h)) (λ h. h)

-- ---- what a read takes

module _ (y : Side) (g : Sound (view y) y.arena y.out) where
  dropped_now : (n count : ℕ) (ended : Bool) → (discarded (view y) n).answer ≡ Ok (count, ended)
      → (take_judged (view y) n ≡ Ok tt) × (takes (view y) n ≡ count) × (count ≡ length (available (known_of y) n))
      × (ended ≡ is_all (view y).fin ((view y).flow.consumed + count))
  unfolding discarded
  dropped_now n count ended e =
      let p = bytes_done (take_judged (view y) n) (takes (view y) n) (is_at (view y).fin ((view y).off + takes (view y) n)) count ended e in
      let d = knows_emit (view y) y.arena y.out g n p.0 in
      let c = sym p.1 ∙ d.count in
      (p.0, p.1, c, sym p.2 ∙ d.ended ∙ ap (λ (l : ℕ). is_all (view y).fin ((view y).flow.consumed + l)) (sym c))

  nothing_now : (n : ℕ) (why : Refusal) → (discarded (view y) n).answer ≡ Err why → (i : ℕ) → available (known_of y) i ≡ []
  unfolding discarded
  nothing_now n why e = emit_refused (view y) y.arena y.out g n why (bytes_refused (take_judged (view y) n) (takes (view y) n) (is_at (view y).fin ((view y).off + takes (view y) n)) why e)

  same_answer : (n : ℕ) (a : Result (ℕ × Bool) Refusal) → (emitted (view y) (length y.arena) n).answer ≡ a → (discarded (view y) n).answer ≡ a
  same_answer n a e = sym (ap (λ (o : Outcome (ℕ × Bool) RecvBuf). o.answer) (emit_is y g n)) ∙ e

  out_now : (out : List ℕ) (count : ℕ) → take_judged (view y) (length out) ≡ Ok tt → takes (view y) (length out) ≡ count
      → emitted_out (view y) y.arena out ≡ available (known_of y) (length out) ++ drop count out
  unfolding emitted_out
  out_now out count said e =
      undecided (right_of (view y) y.arena y.out g) out _
      ∙ ap (λ (a : Result ⊤ Refusal). after a (held y.arena (view y).off (takes (view y) (length out)) ++ drop (takes (view y) (length out)) out) out) said
      ∙ ap (λ (l : List ℕ). l ++ drop (takes (view y) (length out)) out) (knows_emit (view y) y.arena y.out g (length out) said).bytes
      ∙ ap (λ (c : ℕ). available (known_of y) (length out) ++ drop c out) e

  pub reads_now : Reads (unlimited (known_of y)) y
  reads_now = record {
    handed = λ out count ended e. let p = dropped_now (length out) count ended (same_answer (length out) (Ok (count, ended)) e) in
        (out_now out count p.0 p.1, p.2, p.3);
    dropped = λ n count ended e. let p = dropped_now n count ended e in (p.2, p.3);
    ahead = readable_exact (view y) y.arena y.out g;
    nothing = λ n why e. either e (λ x. nothing_now n why (same_answer n (Err why) x)) (nothing_now n why);
  }
