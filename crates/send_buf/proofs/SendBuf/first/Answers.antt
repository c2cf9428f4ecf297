-- `SendBuf::first` meets its contract. Assumes nothing.
use Rattle.range_buf.specs.declared.RangeBuf.{RangeBuf}
use Rattle.send_buf.proofs.Chunks.{skipped_le}
use Rattle.send_buf.proofs.Good.{chunks_length, few}
use Rattle.send_buf.specs.Rules.{skipped}
use Rattle.send_buf.specs.State.{view_of}
use Rattle.std.proofs.lemmas.List.{take_rest}
use Prim.Native.Nat.{◌+◌, ◌-◌, ℕ}
use lib.ListN.{drop, length, length-drop, take}
use mathlib.Core.List.{List}
use mathlib.Core.Path.{◌≡◌, ◌∙◌, ap}
use native.Mathlib.Omega.{arith}
use Rattle.send_buf.proofs.SendBuf.first.Goals as goal

pub chunks-requires : goal.chunks-requires
chunks-requires c = few c.args.self.now c.requires

pub returns : goal.returns
returns c =
    let b = c.args.self.now in
    let l : List RangeBuf = drop b.pos (view_of b).chunks in
    let e : c.skipped.result ≡ skipped l =
    c.skipped.ensures.count ∙ ap (λ (m : List RangeBuf). skipped (take (length m - b.pos) (drop b.pos m))) c.chunks.ensures
    ∙ ap skipped (take_rest (view_of b).chunks b.pos) in
    (ap (λ (n : ℕ). b.pos + n) e, omega (arith, e, skipped_le l, length-drop b.pos (view_of b).chunks, chunks_length b c.requires, c.requires.facts.pos_in))
