-- `table_of` meets its contract. Assumes nothing.
use Prim.Native.Nat.{ℕ, ◌-◌}
use Rattle.std.specs.Prelude.{min}
use Rattle.std.proofs.lemmas.List.{drop-replicate, length-take, take_min}
use Rattle.range_buf.specs.Rules.{zero_buf}
use Rattle.range_buf.specs.declared.RangeBuf.{RangeBuf}
use lib.ListN.{length, replicate, take}
use mathlib.Core.List.{List, ◌++◌}
use mathlib.Core.Path.{◌≡◌, ◌∙◌, ap, ap₂}
use native.Mathlib.Omega.{arith}
use Rattle.range_buf.proofs.table_of.Goals as goal

pub returns : goal.returns
returns c =
    let xs = c.args.chunks.now in
    let n : c.min-n.result ≡ min 64 (length xs) = omega (arith, c.min-n.ensures) in
    let t : take c.min-n.result xs ≡ take 64 xs = ap (λ (k : ℕ). take k xs) n ∙ take_min 64 xs in
    let r : 64 - c.min-n.result ≡ 64 - length (take 64 xs) = omega (arith, n, length-take 64 xs) in
    ap₂ (λ (x y : List RangeBuf). x ++ y) (c.copy_from_slice.ensures.after ∙ t) (drop-replicate c.min-n.result 64 zero_buf ∙ ap (λ (k : ℕ). replicate k zero_buf) r)
