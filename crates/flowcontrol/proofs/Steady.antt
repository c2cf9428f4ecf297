-- The limit never falls, if the first is at most the maximum window: what demand 3 and the agreement with RFC 9000, 4.1 need of it.
-- Assumes nothing.
use Prim.Native.Nat.{ℕ, ◌≤◌}
use native.Mathlib.Omega.{arith}
use Rattle.tables.proofs.Tables.{cond_elim}
use Rattle.flowcontrol.specs.declared.FlowControl.{FlowControl}
use Rattle.flowcontrol.specs.Rules.{fresh, with_consumed, committed, autotuned, recent, next}

pub record Steady (f : FlowControl) : Type 0 where
  pub in_max : f.window ≤ f.max_window
  pub at_most : f.max_data ≤ next f

pub fresh_steady : (limit maximum : ℕ) → limit ≤ maximum → Steady (fresh limit limit maximum)
fresh_steady limit maximum h = record { in_max = omega arith; at_most = omega arith }

module _ (f : FlowControl) (s : Steady f) where
  pub consumed_steady : (n : ℕ) → f.consumed ≤ n → Steady (with_consumed f n)
  consumed_steady n h = record { in_max = s.in_max; at_most = omega (arith, s.at_most) }

  pub committed_steady : (now : ℕ) → Steady (committed f now)
  committed_steady now = record { in_max = s.in_max; at_most = omega arith }

  pub committed_rises : (now : ℕ) → f.max_data ≤ (committed f now).max_data
  committed_rises now = s.at_most

  pub autotuned_steady : (now rtt : ℕ) → Steady (autotuned f now rtt)
  autotuned_steady now rtt = cond_elim Steady (recent f.last_update now rtt)
      (λ e. record { in_max = omega arith; at_most = omega (arith, s.in_max, s.at_most) })
      (λ e. s)
