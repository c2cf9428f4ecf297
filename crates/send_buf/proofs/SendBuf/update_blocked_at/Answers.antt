-- `SendBuf::update_blocked_at` meets its contract. Assumes nothing.
use Rattle.send_buf.specs.Rules.{blocked_with}
use Rattle.send_buf.specs.State.{buf_of}
use Rattle.send_buf.specs.declared.SendBuf.{SendBuf}
use mathlib.Core.Path.{ap}
use Rattle.send_buf.proofs.SendBuf.update_blocked_at.Goals as goal

pub returns : goal.returns
unfolding blocked_with buf_of
returns c =
    let b = c.args.self in
    let g = c.requires in
    ap (λ (x : SendBuf). record x { blocked_at = c.args.blocked_at }) g.whole
