-- The contracts determine the answer and the window: no second one satisfies them. Assumes nothing.
use Rattle.std.specs.Prelude.{Result, ⊤}
use mathlib.Core.Path.{◌≡◌}
use mathlib.Core.Bool.{Bool}
use Prim.Native.Nat.{ℕ}
use Rattle.tables.proofs.Tables.{no_second}
use Rattle.flowcontrol.specs.declared.FlowControl.{FlowControl}
use Rattle.flowcontrol.specs.Check.{good_by}
use Rattle.flowcontrol.specs.Rules.{created, consumed_more, due, next, committed, autotuned, at_least}
use Rattle.refusal.specs.declared.Outcome.{Outcome}
use Rattle.refusal.specs.declared.Refusal.{Refusal}

pub new_unique : (limit window maximum : ℕ) (p q : Outcome ⊤ FlowControl) → p ≡ created limit window maximum → q ≡ created limit window maximum → p ≡ q
new_unique limit window maximum = no_second

pub window_unique : (f : FlowControl) (p q : ℕ) → p ≡ f.window → q ≡ f.window → p ≡ q
window_unique f = no_second

pub max_data_unique : (f : FlowControl) (p q : ℕ) → p ≡ f.max_data → q ≡ f.max_data → p ≡ q
max_data_unique f = no_second

pub add_consumed_unique : (f : FlowControl) (n : ℕ) (p q : Outcome ⊤ FlowControl) → p ≡ consumed_more f n → q ≡ consumed_more f n → p ≡ q
add_consumed_unique f n = no_second

pub should_update_max_data_unique : (f : FlowControl) (p q : Bool) → p ≡ due f → q ≡ due f → p ≡ q
should_update_max_data_unique f = no_second

pub max_data_next_unique : (f : FlowControl) (p q : ℕ) → p ≡ next f → q ≡ next f → p ≡ q
max_data_next_unique f = no_second

pub update_max_data_unique : (f : FlowControl) (now : ℕ) (p q : FlowControl) → p ≡ committed f now → q ≡ committed f now → p ≡ q
update_max_data_unique f now = no_second

pub autotune_window_unique : (f : FlowControl) (now rtt : ℕ) (p q : FlowControl) → p ≡ autotuned f now rtt → q ≡ autotuned f now rtt → p ≡ q
autotune_window_unique f now rtt = no_second

pub ensure_window_lower_bound_unique : (f : FlowControl) (n : ℕ) (p q : Outcome ⊤ FlowControl) → p ≡ at_least f n → q ≡ at_least f n → p ≡ q
ensure_window_lower_bound_unique f n = no_second

-- ---- a lent window: the answer, and the record at exit

pub consume_unique : (f : FlowControl) (n : ℕ) (p q : Result ⊤ Refusal) (x y : FlowControl)
    → p ≡ (consumed_more f n).answer → q ≡ (consumed_more f n).answer → x ≡ (consumed_more f n).state → y ≡ (consumed_more f n).state → (p ≡ q) × (x ≡ y)
consume_unique f n p q x y d e h k = (no_second p q d e, no_second x y h k)

pub commit_unique : (f : FlowControl) (now p q : ℕ) (x y : FlowControl)
    → p ≡ (committed f now).max_data → q ≡ (committed f now).max_data → x ≡ committed f now → y ≡ committed f now → (p ≡ q) × (x ≡ y)
commit_unique f now p q x y d e h k = (no_second p q d e, no_second x y h k)

pub autotune_unique : (f : FlowControl) (now rtt p q : ℕ) (x y : FlowControl)
    → p ≡ (autotuned f now rtt).window → q ≡ (autotuned f now rtt).window → x ≡ autotuned f now rtt → y ≡ autotuned f now rtt → (p ≡ q) × (x ≡ y)
autotune_unique f now rtt p q x y d e h k = (no_second p q d e, no_second x y h k)

pub is_good_unique : (f : FlowControl) (p q : Bool) → p ≡ good_by f → q ≡ good_by f → p ≡ q
is_good_unique f = no_second
