-- `copy` meets its contract. Assumes nothing.
use Rattle.std.proofs.Common.{rules, ◌≡◌, length, refl, sym, ◌∙◌, arith}
use native.Mathlib.Numerals.{add-one}
use lib.ListN.{get_or, length-set}
use lib.Seq.{take-suc, take-suc-set, take_all}
use Rattle.arena.proofs.copy.Goals as goal

pub loop-i-init : goal.loop-i-init
loop-i-init c = (search rules, refl)

pub loop-i-preserved : goal.loop-i-preserved
loop-i-preserved c =
    let l = c.loop-i in
    let src = c.args.src.now in
    let b = get_or src l.i 0 in
    let same = l.invariant.0 in (
      length-set l.dst l.i b ∙ same,
      rw (add-one, take-suc-set l.dst l.i b (omega (arith, same)), take-suc src l.i 0 (omega arith), l.invariant.1),
    )

pub returns : goal.returns
returns c =
    let l = c.loop-i in
    let src = c.args.src.now in
    sym (take_all l.i l.dst (omega (arith, l.invariant.0))) ∙ l.invariant.1 ∙ take_all l.i src (omega arith)
