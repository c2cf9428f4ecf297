-- `SendBuf::extend` meets its contract. Assumes nothing.
use Rattle.range_buf.specs.Rules.{fresh}
use Rattle.range_buf.specs.declared.RangeBuf.{RangeBuf}
use Rattle.send_buf.proofs.Good.{few}
use Rattle.send_buf.proofs.Pushing.{bytes_fit, extended, tiled_longer}
use Rattle.send_buf.specs.State.{view_of}
use Rattle.send_buf.specs.Steps.{relists, Tiled}
use lib.ListN.{length}
use mathlib.Core.List.{List, [], ◌∷◌, ◌++◌}
use mathlib.Core.Path.{◌∙◌, ap, sym, subst}
use Rattle.send_buf.proofs.SendBuf.extend.Goals as goal

pub chunks-requires : goal.chunks-requires
chunks-requires c = few c.args.self c.requires.good

pub relist_joined-out-requires-clause-tiled : goal.relist_joined-out-requires-clause-tiled
relist_joined-out-requires-clause-tiled c =
    let g = c.args in
    subst (λ (l : List RangeBuf). Tiled (l ++ (fresh g.self.off (length g.bytes.now) ∷ []))) (sym c.chunks.ensures) (tiled_longer g.self c.requires.good (length g.bytes.now) c.requires.admits c.requires.in_bounds)

pub relist_joined-out-requires-clause-bytes_in : goal.relist_joined-out-requires-clause-bytes_in
relist_joined-out-requires-clause-bytes_in c = bytes_fit c.args.self c.requires.good (length c.args.bytes.now) c.requires.admits c.requires.in_bounds

pub returns-clause-value : goal.returns-clause-value
returns-clause-value c =
    let g = c.args in
    extended g.self c.requires.good (length g.bytes.now) c.requires.admits c.requires.in_bounds c.relist_joined-out.result
    (c.relist_joined-out.ensures ∙ ap (λ (l : List RangeBuf). relists (view_of g.self) (l ++ (fresh g.self.off (length g.bytes.now) ∷ [])) (length g.bytes.now)) c.chunks.ensures)
