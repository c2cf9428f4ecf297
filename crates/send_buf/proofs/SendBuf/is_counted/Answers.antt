-- `SendBuf::is_counted` meets its contract: the chunks adjoin up to the end of what was written, so they hold no more. Assumes nothing.
use Rattle.range_buf.specs.Rules.{avail}
use Rattle.range_buf.specs.declared.RangeBuf.{RangeBuf}
use Rattle.send_buf.proofs.Chunks.{total_is}
use Rattle.send_buf.proofs.Checked.{tiled_total}
use Rattle.send_buf.specs.Check.{chunks_of}
use Rattle.send_buf.specs.State.{total}
use Rattle.std.specs.List.{sum_by}
use lib.Dec.{eqb}
use mathlib.Core.List.{List}
use mathlib.Core.Path.{◌≡◌, ◌∙◌, ap}
use native.Mathlib.Omega.{arith}
use Rattle.send_buf.proofs.SendBuf.is_counted.Goals as goal

pub waiting-requires : goal.waiting-requires
waiting-requires c =
    let e : sum_by avail c.chunks.result.now ≡ total (chunks_of c.args.self.now) = ap (λ (l : List RangeBuf). sum_by avail l) c.chunks.ensures ∙ total_is (chunks_of c.args.self.now) in
    omega (arith, e, tiled_total c.args.self.now c.requires.1 c.requires.2)

pub returns : goal.returns
returns c =
    ap (eqb c.args.self.now.buffered_bytes) (c.waiting.ensures ∙ ap (λ (l : List RangeBuf). sum_by avail l) c.chunks.ensures ∙ total_is (chunks_of c.args.self.now))
