-- `SendBuf::shutdown` meets its contract. Assumes nothing.
use Rattle.std.specs.Prelude.{Err}
use Rattle.send_buf.proofs.Acking.{shuts_by, shuts_no}
use Rattle.send_buf.specs.State.{view_of}
use mathlib.Core.Path.{◌∙◌, sym}
use Rattle.refusal.specs.declared.Refusal.TheVariants.{Done as NothingMore}
use Rattle.send_buf.proofs.SendBuf.shutdown.Goals as goal

pub returns-then-self : goal.returns-then-self
returns-then-self c =
    let e = shuts_no (view_of c.args.self) c.if-self.true in
    (λ j. record { answer = Err NothingMore; state = c.requires.whole j }) ∙ sym e

pub returns : goal.returns
returns c =
    shuts_by (view_of c.args.self) c.reset-out.result c.reset-out.ensures c.if-self.false
