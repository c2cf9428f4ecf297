-- Half the time against one round trip says what the time against two says. Assumes nothing.
use Rattle.std.specs.Prelude.{Option, Some}
use mathlib.Core.Path.{◌≡◌}
use mathlib.Core.Bool.{true, false}
use Prim.Native.Nat.{ℕ, ◌+◌, ◌-◌, ◌*◌, ◌/◌, ◌%◌, ◌≤◌, ◌<◌}
use native.Mathlib.Omega.{arith}
use native.Mathlib.Nat.{div-add-mod, mod-lt}
use borrow.Author.Tests.{lt-ltb, le-ltb}
use Rattle.flowcontrol.specs.Rules.{recent}

module _ (last : Option ℕ) (before now rtt t : ℕ) (is : last ≡ Some before) (e : t ≡ now - before) where
  halves : (t ≡ 2 * (t / 2) + t % 2) × (t % 2 < 2)
  halves = (omega (arith, div-add-mod t 2), mod-lt t (omega arith))

  pub was_recent : t / 2 < rtt → recent last now rtt ≡ true
  was_recent h = rw is (lt-ltb (now - before) (2 * rtt) (omega (arith, halves)))

  pub was_long_ago : rtt ≤ t / 2 → recent last now rtt ≡ false
  was_long_ago h = rw is (le-ltb (now - before) (2 * rtt) (omega (arith, halves)))
