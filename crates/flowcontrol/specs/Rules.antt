-- The window (RULES 6; refusals 1 and 10). Sums and products are whole numbers. `cond t x y` is x if the test t holds, else y.
use Rattle.std.specs.Prelude.{Bool, false, cond, ◌||◌, ℕ, ◌+◌, ◌-◌, ◌*◌, ◌/◌, min, ltb, Ok, Err, Option, Some, None, ⊤}
use Rattle.refusal.specs.Rules.{M}
use Rattle.refusal.specs.declared.Refusal.TheVariants.{Offset, BadSetup}
use Rattle.flowcontrol.specs.declared.FlowControl.{FlowControl}
use Rattle.refusal.specs.declared.Outcome.{Outcome}

-- ---- creation

-- the window starts as the lesser of window and maximum
abbrev pub fresh : ℕ → ℕ → ℕ → FlowControl
fresh limit window maximum =
    record { consumed = 0; max_data = limit; window = min window maximum; max_window = maximum; last_update = None }

-- BadSetup exactly if a creation number is above M
abbrev pub bad_numbers : ℕ → ℕ → ℕ → Bool
bad_numbers limit window maximum = ltb M limit || ltb M window || ltb M maximum

abbrev pub created : ℕ → ℕ → ℕ → Outcome ⊤ FlowControl
created limit window maximum =
    cond (bad_numbers limit window maximum) (record { answer = Err BadSetup; state = fresh 0 0 0 })
    (record { answer = Ok tt; state = fresh limit window maximum })

-- ---- the parts that calls change

abbrev pub with_consumed : FlowControl → ℕ → FlowControl
with_consumed f n =
    record { consumed = n; max_data = f.max_data; window = f.window; max_window = f.max_window; last_update = f.last_update }

-- a window of n, or the maximum where that is less
abbrev pub with_window : FlowControl → ℕ → FlowControl
with_window f n =
    record { consumed = f.consumed; max_data = f.max_data; window = min n f.max_window; max_window = f.max_window; last_update = f.last_update }

-- ---- consuming, and the next limit

-- `add_consumed`: Offset exactly if the total would pass M
abbrev pub consumed_more : FlowControl → ℕ → Outcome ⊤ FlowControl
consumed_more f n =
    cond (ltb M (f.consumed + n)) (record { answer = Err Offset; state = f })
    (record { answer = Ok tt; state = with_consumed f (f.consumed + n) })

-- an update is due exactly if limit - consumed < window / 2, rounded down; consumed above the limit counts as 0 left
abbrev pub due : FlowControl → Bool
due f = ltb (f.max_data - f.consumed) (f.window / 2)

abbrev pub next : FlowControl → ℕ
next f = f.consumed + f.window

-- `update_max_data`: the next limit is the limit, and the moment is remembered
abbrev pub committed : FlowControl → ℕ → FlowControl
committed f now =
    record { consumed = f.consumed; max_data = next f; window = f.window; max_window = f.max_window; last_update = Some now }

-- ---- the window

-- there was an update, less than 2 × rtt ago; a clock gone back counts as 0 elapsed
abbrev pub recent : Option ℕ → ℕ → ℕ → Bool
recent None now rtt = false
recent (Some before) now rtt = ltb (now - before) (2 * rtt)

-- `autotune_window`: then the window becomes the lesser of double and maximum
abbrev pub autotuned : FlowControl → ℕ → ℕ → FlowControl
autotuned f now rtt = cond (recent f.last_update now rtt) (with_window f (2 * f.window)) f

-- `ensure_window_lower_bound`: Offset exactly if it is above M
abbrev pub at_least : FlowControl → ℕ → Outcome ⊤ FlowControl
at_least f n =
    cond (ltb M n) (record { answer = Err Offset; state = f })
    (record { answer = Ok tt; state = cond (ltb f.window n) (with_window f n) f })
