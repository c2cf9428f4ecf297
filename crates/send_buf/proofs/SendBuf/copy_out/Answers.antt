-- `SendBuf::copy_out` meets its contract. The invariant, `Emitting`: to copy on from here gives what the contract says. Assumes nothing.
use Rattle.std.specs.Prelude.{Ok}
use Prim.Native.Nat.{◌+◌, ◌-◌, ◌<◌, ◌≤◌}
use Rattle.range_buf.specs.Rules.{avail, start, zero_buf}
use Rattle.send_buf.proofs.Emitting.{ate, emit_starts, ends_apart, ends_behind, ends_full, entry_good, full, part}
use Rattle.range_buf.proofs.Kept.{used_good}
use Rattle.send_buf.specs.Rules.{front}
use Rattle.send_buf.specs.State.{view_of}
use Rattle.send_buf.specs.declared.SendBuf.{SendBuf}
use borrow.Author.Tests.{eqb-false, eqb-true}
use lib.Dec.{eqb, ltb}
use lib.ListN.{get_or, length}
use mathlib.Core.Bool.{◌&&◌, false, true}
use mathlib.Core.Path.{◌∙◌, ◌≡◌, ap, sym}
use native.Mathlib.Omega.{arith}
use Rattle.send_buf.proofs.SendBuf.copy_out.Goals as goal

pub loop-i-init : goal.loop-i-init
loop-i-init c = emit_starts c.args.arena.now c.args.out.now c.args.self c.requires.good c.args.at c.requires.from_value.2 c.requires.from_value.3

pub goes_on-requires : goal.goes_on-requires
goes_on-requires c =
    let b = c.args.self in
    let v = c.loop-i in
    entry_good c.args.arena.now c.args.out.now b c.requires.good v.out v.self v.i v.done v.invariant c.loop-i-test.true

pub drain-k-requires-clause-good_chunk : goal.drain-k-requires-clause-good_chunk
drain-k-requires-clause-good_chunk c =
    let b = c.args.self in
    let v = c.loop-i in
    entry_good c.args.arena.now c.args.out.now b c.requires.good v.out v.self v.i v.done v.invariant c.loop-i-test.true

pub consume-eaten-requires : goal.consume-eaten-requires
consume-eaten-requires c =
    let b = c.args.self in
    let v = c.loop-i in
    entry_good c.args.arena.now c.args.out.now b c.requires.good v.out v.self v.i v.done v.invariant c.loop-i-test.true

pub is_empty-requires : goal.is_empty-requires
is_empty-requires c =
    let b = c.args.self in
    let v = c.loop-i in
    let o = c.consume-eaten in
    let d = c.drain-k in
    rw (ate (get_or v.self.«data» v.i zero_buf) d.result o.result d.ensures.value.2 o.ensures).1
    (used_good (get_or v.self.«data» v.i zero_buf) d.result d.ensures.value.2 (entry_good c.args.arena.now c.args.out.now b c.requires.good v.out v.self v.i v.done v.invariant c.loop-i-test.true))

pub loop-i-preserved : goal.loop-i-preserved
loop-i-preserved c =
    let b = c.args.self in
    let v = c.loop-i in
    let d = c.drain-k in
    let o = c.consume-eaten in
    let low : v.i < b.count = c.loop-i-test.true in
    let on : (ltb 0 (length v.out - v.done) && eqb (start (get_or v.self.«data» v.i zero_buf)) (front (view_of b) + v.done)) ≡ true =
    rw (← c.requires.from_value.0) (sym c.goes_on.ensures ∙ c.if-not-goes_on.false) in
    let a = (ate (get_or v.self.«data» v.i zero_buf) d.result o.result d.ensures.value.2 o.ensures).1 in
    let h : avail o.result.state ≤ 0 = omega (arith, eqb-true (avail o.result.state) 0 (sym c.is_empty.ensures ∙ c.if-not-is_empty.false)) in
    full c.args.arena.now c.args.out.now b c.requires.good v.out v.self v.i v.done v.invariant low d.result d.new.out on d.ensures.value.0 d.ensures.out_after o.result.state a h

pub returns : goal.returns
returns c =
    let b = c.args.self in
    let v = c.loop-i in
    let both = ends_behind c.args.arena.now c.args.out.now b c.requires.good v.out v.self v.i v.done v.invariant c.loop-i-test.false in
    let e : v.i ≡ v.self.count = omega (arith, v.invariant.within, c.loop-i-test.false, ap (λ (x : SendBuf). x.count) v.invariant.same) in
    record { value = (λ j. record { answer = Ok (v.done, sym e j); state = v.self }) ∙ both.0; out_after = both.1 }

pub returns-then-not-goes_on : goal.returns-then-not-goes_on
returns-then-not-goes_on c =
    let b = c.args.self in
    let v = c.loop-i in
    let off : (ltb 0 (length v.out - v.done) && eqb (start (get_or v.self.«data» v.i zero_buf)) (front (view_of b) + v.done)) ≡ false =
    rw (← c.requires.from_value.0) (sym c.goes_on.ensures ∙ c.if-not-goes_on.true) in
    let both = ends_apart c.args.arena.now c.args.out.now b c.requires.good v.out v.self v.i v.done v.invariant c.loop-i-test.true off in
    record { value = both.0; out_after = both.1 }

pub returns-then-not-is_empty : goal.returns-then-not-is_empty
returns-then-not-is_empty c =
    let b = c.args.self in
    let v = c.loop-i in
    let d = c.drain-k in
    let o = c.consume-eaten in
    let low : v.i < b.count = c.loop-i-test.true in
    let on : (ltb 0 (length v.out - v.done) && eqb (start (get_or v.self.«data» v.i zero_buf)) (front (view_of b) + v.done)) ≡ true =
    rw (← c.requires.from_value.0) (sym c.goes_on.ensures ∙ c.if-not-goes_on.false) in
    let a = (ate (get_or v.self.«data» v.i zero_buf) d.result o.result d.ensures.value.2 o.ensures).1 in
    let h : 0 < avail o.result.state = omega (arith, eqb-false (avail o.result.state) 0 (sym c.is_empty.ensures ∙ c.if-not-is_empty.true)) in
    let p = part c.args.arena.now c.args.out.now b c.requires.good v.out v.self v.i v.done v.invariant low d.result d.new.out on d.ensures.value.0 d.ensures.out_after o.result.state a h in
    let both = ends_full c.args.arena.now c.args.out.now b c.requires.good _ _ (v.i + 1) v.i (v.done + d.result) p.0 p.1 in
    record { value = both.0; out_after = both.1 }
