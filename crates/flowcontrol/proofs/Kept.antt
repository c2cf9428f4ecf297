-- Every window that came from creation or a call is good, whatever the numbers; a refused creation's too. Assumes nothing.
use Rattle.std.specs.Prelude.{⊤}
use mathlib.Core.Path.{◌≡◌, sym, subst}
use mathlib.Core.Bool.{false}
use Prim.Native.Nat.{ℕ, ◌+◌, ◌*◌, ◌≤◌}
use native.Mathlib.Omega.{arith}
use borrow.Author.Tests.{ltb-false}
use lib.Dec.{ltb}
use Rattle.tables.proofs.Tables.{by_test, cond_elim}
use Rattle.refusal.specs.Rules.{M}
use Rattle.flowcontrol.specs.declared.FlowControl.{FlowControl}
use Rattle.flowcontrol.specs.State.{Good}
use Rattle.flowcontrol.specs.Rules.{fresh, bad_numbers, created, with_consumed, with_window, consumed_more, committed, recent, autotuned, at_least}
use Rattle.refusal.specs.declared.Outcome.{Outcome}

pub fresh_good : (limit window maximum : ℕ) → limit ≤ M → maximum ≤ M → Good (fresh limit window maximum)
fresh_good limit window maximum l m = record { consumed_in = omega arith; window_in = omega arith; maximum_in = m; limit_in = omega arith }

module _ (f : FlowControl) (g : Good f) where
  pub consumed_good : (n : ℕ) → n ≤ M → Good (with_consumed f n)
  consumed_good n h = record { consumed_in = h; window_in = g.window_in; maximum_in = g.maximum_in; limit_in = g.limit_in }

  pub window_good : (n : ℕ) → Good (with_window f n)
  window_good n = record { consumed_in = g.consumed_in; window_in = omega arith; maximum_in = g.maximum_in; limit_in = g.limit_in }

-- the three creation numbers are at most M where the test says so
numbers_in : (limit window maximum : ℕ) → bad_numbers limit window maximum ≡ false → (limit ≤ M) × (maximum ≤ M)
numbers_in limit window maximum e =
    by_test (ltb M limit)
    (λ t. let z : ◌≡◌ {A = ℕ} 0 1 = cc (simp t at e) in absurd (omega arith))
    (λ t. by_test (ltb M window)
    (λ u. let z : ◌≡◌ {A = ℕ} 0 1 = cc (simp (t, u) at e) in absurd (omega arith))
    (λ u. (ltb-false M limit t, ltb-false M maximum (simp (t, u) at e))))

-- ---- the calls

pub created_good : (limit window maximum : ℕ) → Good (created limit window maximum).state
created_good limit window maximum =
    cond_elim (λ (r : Outcome ⊤ FlowControl). Good r.state) (bad_numbers limit window maximum)
    (λ _. fresh_good 0 0 0 (omega arith) (omega arith))
    (λ e. let h = numbers_in limit window maximum e in fresh_good limit window maximum h.0 h.1)

module _ (f : FlowControl) (g : Good f) where
  pub consumed_more_good : (n : ℕ) → Good (consumed_more f n).state
  consumed_more_good n =
      cond_elim (λ (r : Outcome ⊤ FlowControl). Good r.state) (ltb M (f.consumed + n))
      (λ _. g)
      (λ e. consumed_good f g (f.consumed + n) (ltb-false M (f.consumed + n) e))

  pub committed_good : (now : ℕ) → Good (committed f now)
  committed_good now =
      record { consumed_in = g.consumed_in; window_in = g.window_in; maximum_in = g.maximum_in; limit_in = omega (arith, g.consumed_in, g.window_in, g.maximum_in) }

  pub autotuned_good : (now rtt : ℕ) → Good (autotuned f now rtt)
  autotuned_good now rtt = cond_elim Good (recent f.last_update now rtt) (λ _. window_good f g (2 * f.window)) (λ _. g)

  pub at_least_good : (n : ℕ) → Good (at_least f n).state
  at_least_good n =
      cond_elim (λ (r : Outcome ⊤ FlowControl). Good r.state) (ltb M n)
      (λ _. g)
      (λ _. cond_elim Good (ltb f.window n) (λ _. window_good f g n) (λ _. g))

-- ---- a lent window: the record at exit is good

module _ (f : FlowControl) (g : Good f) (x : FlowControl) where
  pub consume_good : (n : ℕ) → x ≡ (consumed_more f n).state → Good x
  consume_good n e = subst Good (sym e) (consumed_more_good f g n)

  pub commit_good : (now : ℕ) → x ≡ committed f now → Good x
  commit_good now e = subst Good (sym e) (committed_good f g now)

  pub autotune_good : (now rtt : ℕ) → x ≡ autotuned f now rtt → Good x
  autotune_good now rtt e = subst Good (sym e) (autotuned_good f g now rtt)
