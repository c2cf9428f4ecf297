-- `RangeSet::enter` meets its contract. Assumes nothing.
use mathlib.Core.Logic.{inl, inr}
use borrow.Author.Tests.{le-ltb}
use Rattle.std.proofs.Common.{ap, ◌∙◌}
use Rattle.ranges.specs.Steps.{spot_of}
use Rattle.ranges.proofs.Insert.{at_spot, is_full, has_room, splice_fits}
use Rattle.ranges.proofs.RangeSet.enter.Goals as goal
use Rattle.ranges.proofs.RangeSet.enter.Goals.{else-at-via-then-at+else-self, else-at-via-else-at}

pub returns-then-self : goal.returns-then-self
returns-then-self c =
    let x = c.args.item in
    let e = c.spot_for-at.ensures ∙ ap (spot_of x) c.held.ensures in
    rw (le-ltb x.end x.start c.if-item.false, is_full c.args.self.now c.requires x c.if-item.false c.spot_for-at.result e c.if-at.true c.if-self.true)

pub splice-requires-clause-room : goal.splice-requires-clause-room
splice-requires-clause-room c =
    let x = c.args.item in
    let e = c.spot_for-at.ensures ∙ ap (spot_of x) c.held.ensures in
    splice_fits c.args.self.now c.requires x c.if-item.false c.spot_for-at.result e
    (elim c.else-at.branch [ else-at-via-then-at+else-self w ↦ inl w.if-self.false | else-at-via-else-at w ↦ inr w.if-at.false ])

pub returns : goal.returns
returns c =
    let s = c.args.self.now in
    let x = c.args.item in
    let ok = c.if-item.false in
    let e = c.spot_for-at.ensures ∙ ap (spot_of x) c.held.ensures in
    rw (
      le-ltb x.end x.start ok,
      has_room s c.requires x ok c.spot_for-at.result e
          (elim c.else-at.branch [ else-at-via-then-at+else-self w ↦ inl w.if-self.false | else-at-via-else-at w ↦ inr w.if-at.false ]),
      at_spot s c.requires x ok c.spot_for-at.result e c.splice.new.self c.splice.ensures,
    )
