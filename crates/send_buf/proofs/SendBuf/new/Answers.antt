-- `SendBuf::new` meets its contract. Assumes nothing.
use Rattle.send_buf.specs.Rules.{created}
use mathlib.Core.Path.{◌∙◌, sym}
use Rattle.send_buf.proofs.SendBuf.new.Goals as goal

pub returns-then-bad_numbers : goal.returns-then-bad_numbers
unfolding created
returns-then-bad_numbers c = rw (c.empty.ensures, sym c.bad_numbers.ensures ∙ c.if-bad_numbers.true)

pub returns : goal.returns
unfolding created
returns c = rw (c.empty-2.ensures, sym c.bad_numbers.ensures ∙ c.if-bad_numbers.false)
