-- `SendBuf::push` meets its contract. Assumes nothing.
use Prim.Native.Nat.{◌+◌, ◌-◌, ◌<◌}
use Rattle.range_buf.specs.Rules.{zero_buf}
use Rattle.send_buf.proofs.Pushing.{both_fit, goes_behind, is_full, joins_last, placed}
use Rattle.send_buf.specs.Check.{chunks_of}
use Rattle.send_buf.specs.Rules.{stays}
use Rattle.send_buf.specs.Steps.{pushed}
use lib.ListN.{get_or, set}
use mathlib.Core.Bool.{true}
use mathlib.Core.Path.{◌≡◌, ◌∙◌, refl, sym}
use native.Mathlib.Omega.{arith}
use Rattle.send_buf.proofs.SendBuf.push.Goals as goal
use Rattle.send_buf.proofs.SendBuf.push.Goals.{then-self-gt0+else-not-stays, else-self-gt0}

pub both-requires : goal.both-requires
both-requires c =
    let b = c.args.self.now in
    both_fit b.count b.«data» c.requires.table c.args.buf c.requires.tiled c.if-self-gt0.true

pub returns-then-not-stays-clause-ok : goal.returns-then-not-stays-clause-ok
returns-then-not-stays-clause-ok c =
    let b = c.args.self.now in
    placed b b.count (set b.«data» (b.count - 1) c.both.result) (pushed (chunks_of b) c.args.buf)
    (joins_last b.count b.«data» c.requires.table c.args.buf c.if-self-gt0.true (sym c.stays.ensures ∙ c.if-not-stays.true) c.both.result c.both.ensures)

pub returns-then-self-eq64-clause-full : goal.returns-then-self-eq64-clause-full
returns-then-self-eq64-clause-full c =
    let b = c.args.self.now in
    let k : 0 < b.count → stays (get_or b.«data» (b.count - 1) zero_buf) c.args.buf ≡ true =
    elim c.if-self-gt0.branch [ then-self-gt0+else-not-stays w ↦ λ h. sym w.stays.ensures ∙ w.if-not-stays.false | else-self-gt0 w ↦ λ h. absurd (omega (arith, w.if-self-gt0.false)) ] in
    (refl, is_full b.count b.«data» c.requires.table c.args.buf k c.if-self-eq64.true)

pub returns-clause-ok : goal.returns-clause-ok
returns-clause-ok c =
    let b = c.args.self.now in
    let k : 0 < b.count → stays (get_or b.«data» (b.count - 1) zero_buf) c.args.buf ≡ true =
    elim c.if-self-gt0.branch [ then-self-gt0+else-not-stays w ↦ λ h. sym w.stays.ensures ∙ w.if-not-stays.false | else-self-gt0 w ↦ λ h. absurd (omega (arith, w.if-self-gt0.false)) ] in
    placed b (b.count + 1) (set b.«data» b.count c.args.buf) (pushed (chunks_of b) c.args.buf)
    (goes_behind b.count b.«data» c.requires.table c.args.buf k (omega (arith, c.if-self-eq64.false, c.requires.table.few)))
