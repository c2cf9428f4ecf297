-- `RangeSet::remove_until` meets its contract. Assumes nothing.
use Rattle.std.proofs.Common.{◌≡◌, ◌∙◌, drop, sym, ap, arith}
use Rattle.ranges.specs.State.{ranges, set_of}
use Rattle.ranges.specs.Steps.{gone_count}
use Rattle.ranges.proofs.Remove.{removed_at, cut_first, cut_none, cut_fits}
use Rattle.ranges.proofs.RangeSet.remove_until.Goals as goal

pub overflow_add-self : goal.overflow_add-self
overflow_add-self c =
    let l = ranges c.args.self in
    let v = c.args.largest in
    let k = c.count_gone-k in
    let n : k.result ≡ gone_count v l = k.ensures.count ∙ ap (gone_count v) c.held.ensures in
    omega (arith, cut_fits v c.args.self.capacity k.result l c.drop_front.new.self c.drop_front.ensures.set n c.if-self-gt0.true c.if-first-largest.true)

pub returns-then-first-largest : goal.returns-then-first-largest
returns-then-first-largest c =
    let l = ranges c.args.self in
    let v = c.args.largest in
    let k = c.count_gone-k in
    let n : k.result ≡ gone_count v l = k.ensures.count ∙ ap (gone_count v) c.held.ensures in
    cut_first v c.args.self.capacity (drop k.result l) c.drop_front.new.self c.drop_front.ensures.set c.if-self-gt0.true c.if-first-largest.true
    ∙ ap (set_of c.args.self.capacity) (sym (removed_at v k.result l c.requires.order n))

pub returns-else-self-gt0 : goal.returns-else-self-gt0
returns-else-self-gt0 c =
    let l = ranges c.args.self in
    let v = c.args.largest in
    let k = c.count_gone-k in
    let n : k.result ≡ gone_count v l = k.ensures.count ∙ ap (gone_count v) c.held.ensures in
    cut_none v c.args.self.capacity (drop k.result l) c.drop_front.new.self c.drop_front.ensures.set c.else-self-gt0.either
    ∙ ap (set_of c.args.self.capacity) (sym (removed_at v k.result l c.requires.order n))
