-- `SendBuf::stop` meets its contract. Assumes nothing.
use Rattle.std.specs.Prelude.{Err}
use Rattle.send_buf.proofs.Acking.{stops_by}
use Rattle.send_buf.specs.Rules.{stops}
use Rattle.send_buf.specs.State.{view_of}
use mathlib.Core.Path.{◌∙◌, sym}
use Rattle.refusal.specs.declared.Refusal.TheVariants.{Done as NothingMore}
use Rattle.send_buf.proofs.SendBuf.stop.Goals as goal

pub returns-then-is_some : goal.returns-then-is_some
unfolding stops
returns-then-is_some c = simp (sym c.is_some.ensures ∙ c.if-is_some.true) (λ j. record { answer = Err NothingMore; state = c.requires.whole j })

pub returns : goal.returns
returns c =
    stops_by (view_of c.args.self) c.reset-out.result c.reset-out.ensures c.args.code (sym c.is_some.ensures ∙ c.if-is_some.false)
