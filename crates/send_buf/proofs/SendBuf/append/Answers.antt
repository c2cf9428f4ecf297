-- `SendBuf::append` meets its contract. The invariant, `Going`: to cut and keep what is left gives what the contract says. Assumes nothing.
use Prim.Native.Nat.{◌+◌}
use Rattle.arena.specs.Rules.{kept}
use lib.ListN.{length}
use lib.Seq.{take_all}
use mathlib.Core.Path.{◌≡◌, ◌∙◌, ap, sym}
use Rattle.send_buf.proofs.Cutting.{Done, ends, grown_made, starts, turns}
use borrow.Author.Rules.{rules}
use native.Mathlib.Omega.{arith}
use Rattle.send_buf.proofs.SendBuf.append.Goals as goal
use Rattle.send_buf.proofs.SendBuf.append.Goals.{else-loop-at-test, then-loop-at-test+in_default+else-at-end-at-gt4096}

pub loop-at-init : goal.loop-at-init
loop-at-init c = starts c.args.arena.now c.args.self c.args.bytes.now (length c.args.bytes.now) c.requires.good c.requires.fits (omega arith)

pub loop-at-preserved : goal.loop-at-preserved
loop-at-preserved c =
    let g = c.args in
    let v = c.loop-at in
    let n = c.min-n in
    let whole : n.result ≡ 4096 = search rules in
    rw (sym whole) (turns g.arena.now g.self g.bytes.now (length g.bytes.now) v.arena v.self v.at v.invariant (search rules) n.result c.from-made.result c.keep.new.arena n.ensures c.from-made.ensures c.keep.ensures)

pub returns : goal.returns
returns c =
    let g = c.args in
    let v = c.loop-at in
    let l = c.loop-at-test in
    let k = length g.bytes.now in
    let e : Done g.arena.now g.self g.bytes.now k l.arena l.self =
    elim l.branch [
      | else-loop-at-test w ↦ rw (w.arena-is, w.self-is) (ends g.arena.now g.self g.bytes.now k v.arena v.self v.at v.invariant w.loop-at-test.false)
      | then-loop-at-test+in_default+else-at-end-at-gt4096 w ↦
          let n = w.min-n in
          let t = turns g.arena.now g.self g.bytes.now k v.arena v.self v.at v.invariant w.loop-at-test.true n.result w.from-made.result w.keep.new.arena n.ensures w.from-made.ensures w.keep.ensures in
          rw (w.arena-is, w.self-is) (ends g.arena.now g.self g.bytes.now k w.keep.new.arena _ (v.at + n.result) t (search rules))
    ] in
    record { value = grown_made g.self k l.self c.requires.good e.rest e.all_cut e.count; arena_after = e.bytes ∙ ap (kept g.arena.now g.self.off) (take_all k g.bytes.now (omega arith)) }
