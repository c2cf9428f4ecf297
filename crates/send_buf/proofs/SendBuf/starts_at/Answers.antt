-- `SendBuf::starts_at` meets its contract. Assumes nothing.
use Prim.Native.Nat.{◌<◌, ℕ}
use Rattle.range_buf.specs.Rules.{start, zero_buf}
use Rattle.send_buf.proofs.Asked.{front_at_lem, front_end}
use Rattle.send_buf.proofs.Good.{chunk_good, few}
use Rattle.send_buf.specs.Rules.{first}
use Rattle.send_buf.specs.State.{view_of}
use borrow.Author.Rules.{rules}
use lib.ListN.{get_or}
use mathlib.Core.Path.{◌∙◌, ap, sym}
use native.Mathlib.Omega.{arith}
use Rattle.send_buf.proofs.SendBuf.starts_at.Goals as goal

pub returns-else-i-self : goal.returns-else-i-self
returns-else-i-self c =
    sym (front_end c.args.self.now c.requires.good (rw (← c.requires.i_value) c.if-i-self.false))

pub offset_bounds-self-i : goal.offset_bounds-self-i
offset_bounds-self-i c = omega (arith, few c.args.self.now c.requires.good)

pub bounds-self-i : goal.bounds-self-i
bounds-self-i c = omega (arith, few c.args.self.now c.requires.good)

pub off-requires : goal.off-requires
off-requires c = chunk_good c.args.self.now c.requires.good c.args.i (search rules)

pub returns-then-i-self : goal.returns-then-i-self
returns-then-i-self c =
    let b = c.args.self.now in
    let h : first (view_of b) < b.count = rw (← c.requires.i_value) c.if-i-self.true in
    c.off.ensures ∙ ap (λ (i : ℕ). start (get_or b.«data» i zero_buf)) c.requires.i_value ∙ sym (front_at_lem b c.requires.good h).0
