-- `SendBuf::off_front` meets its contract. Assumes nothing.
use Prim.Native.Nat.{◌+◌, ◌<◌, ℕ}
use Rattle.range_buf.specs.Rules.{start, zero_buf}
use Rattle.send_buf.proofs.Asked.{first_in_use, front_at_lem, front_end}
use Rattle.send_buf.proofs.Good.{chunk_good, few, slots}
use Rattle.send_buf.specs.Rules.{first}
use Rattle.send_buf.specs.State.{view_of}
use borrow.Author.Rules.{rules}
use lib.ListN.{get_or}
use mathlib.Core.Path.{◌∙◌, ap, sym}
use native.Mathlib.Omega.{arith}
use Rattle.send_buf.proofs.SendBuf.off_front.Goals as goal

pub slice_bounds-skipped-end : goal.slice_bounds-skipped-end
slice_bounds-skipped-end c = omega (arith, few c.args.self c.requires, slots c.args.self c.requires)

pub off-requires : goal.off-requires
off-requires c = chunk_good c.args.self c.requires (c.args.self.pos + c.skipped.result) (search rules)

pub returns-then-i-self : goal.returns-then-i-self
returns-then-i-self c =
    let b = c.args.self in
    let is = first_in_use b c.requires c.skipped.result c.skipped.ensures.count in
    let h : first (view_of b) < b.count = rw (← is) c.if-i-self.true in
    c.off.ensures ∙ ap (λ (i : ℕ). start (get_or b.«data» i zero_buf)) is ∙ sym (front_at_lem b c.requires h).0

pub returns-else-i-self : goal.returns-else-i-self
returns-else-i-self c =
    let b = c.args.self in
    let is = first_in_use b c.requires c.skipped.result c.skipped.ensures.count in
    sym (front_end b c.requires (rw (← is) c.if-i-self.false))
