-- Every chunk that came from creation or a call is good, whatever the numbers; a refused creation's too. And `consumed_in`: what a consume of no
-- more than remains gives. Assumes nothing.
use Rattle.std.specs.Prelude.{Result, Ok, Err, ⊤}
use mathlib.Core.Path.{◌≡◌}
use Prim.Native.Nat.{ℕ, ◌+◌, ◌≤◌}
use native.Mathlib.Omega.{arith}
use borrow.Author.Tests.{ltb-false, le-ltb}
use lib.Dec.{ltb}
use Rattle.tables.proofs.Tables.{cond_elim}
use Rattle.refusal.specs.Rules.{M}
use Rattle.range_buf.specs.declared.RangeBuf.{RangeBuf}
use Rattle.range_buf.specs.State.{Good}
use Rattle.range_buf.specs.Rules.{avail, fresh, used, left_part, right_part, created, consumed, split}
use Rattle.refusal.specs.declared.Outcome.{Outcome}
use Rattle.refusal.specs.declared.Refusal.{Refusal}

pub fresh_good : (o n : ℕ) → o + n ≤ M → Good (fresh o n)
fresh_good o n h = record { used_in = omega arith; end_in = h }

pub used_good : (b : RangeBuf) (n : ℕ) → n ≤ avail b → Good b → Good (used b n)
used_good b n h g = record { used_in = omega (arith, g.used_in); end_in = g.end_in }

pub left_good : (b : RangeBuf) (n : ℕ) → n ≤ b.len → Good b → Good (left_part b n)
left_good b n h g = record { used_in = omega arith; end_in = omega (arith, g.end_in) }

pub right_good : (b : RangeBuf) (n : ℕ) → n ≤ b.len → Good b → Good (right_part b n)
right_good b n h g = record { used_in = omega (arith, g.used_in); end_in = omega (arith, g.end_in) }

-- ---- the calls

pub created_good : (o n : ℕ) → Good (created o n).state
created_good o n =
    cond_elim (λ (r : Outcome ⊤ RangeBuf). Good r.state) (ltb M (o + n))
    (λ _. fresh_good 0 0 (omega arith))
    (λ e. fresh_good o n (ltb-false M (o + n) e))

pub consumed_good : (b : RangeBuf) (n : ℕ) → Good b → Good (consumed b n).state
consumed_good b n g =
    cond_elim (λ (r : Outcome ⊤ RangeBuf). Good r.state) (ltb (avail b) n) (λ _. g) (λ e. used_good b n (ltb-false (avail b) n e) g)

-- no more than remains is consumed
pub consumed_in : (b : RangeBuf) (n : ℕ) → n ≤ avail b → consumed b n ≡ record { answer = Ok tt; state = used b n }
consumed_in b n h = rw (le-ltb (avail b) n h)

pub split_good : (b : RangeBuf) (n : ℕ) → Good b → Good (split b n).state
split_good b n g =
    cond_elim (λ (r : Outcome RangeBuf RangeBuf). Good r.state) (ltb b.len n) (λ _. g) (λ e. left_good b n (ltb-false b.len n e) g)

-- the right part of a split too
abbrev pub GoodRight : Result RangeBuf Refusal → Type 0
GoodRight (Ok r) = Good r
GoodRight (Err why) = Unit {0}

pub split_right : (b : RangeBuf) (n : ℕ) → Good b → GoodRight (split b n).answer
split_right b n g =
    cond_elim (λ (r : Outcome RangeBuf RangeBuf). GoodRight r.answer) (ltb b.len n) (λ _. tt) (λ e. right_good b n (ltb-false b.len n e) g)
