-- `drain` meets its contract: the front of the output is filled by the arena. Assumes nothing.
use mathlib.Core.List.{◌++◌}
use Prim.Native.Nat.{ℕ, ◌-◌, min}
use Rattle.arena.specs.Rules.{handed}
use Rattle.range_buf.specs.Rules.{avail, start}
use Rattle.arena.proofs.Parts.{filled_front}
use native.Mathlib.Omega.{arith}
use lib.ListN.{drop, length, take}
use mathlib.Core.Path.{sym, ◌∙◌, ◌≡◌, ap}
use Rattle.send_buf.proofs.drain.Goals as goal

pub returns-clause-out_after : goal.returns-clause-out_after
returns-clause-out_after c =
    let k = c.min-k in
    let m : k.result ≡ min (length c.args.out.now) (avail c.args.buf) = k.ensures ∙ ap (min (length c.args.out.now)) c.len.ensures in
    let h = c.hand in
    let z : k.result - 0 ≡ k.result = omega arith in
    let e : h.new.out ≡ handed c.args.arena.now (start c.args.buf) (take (k.result - 0) c.args.out.now) = rw (z, ← c.off.ensures) h.ensures in
    ap (λ (i : ℕ). h.new.out ++ drop i c.args.out.now) (sym z) ∙ filled_front c.args.arena.now c.args.out.now h.new.out (start c.args.buf) k.result c.requires.arena_nonzero (omega (arith, m)) e
