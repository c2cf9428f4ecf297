-- `SendBuf::judge_write` meets its contract. Assumes nothing.
use Rattle.send_buf.specs.Rules.{write_judged}
use Rattle.send_buf.specs.Steps.{bytes_judged}
use mathlib.Core.Path.{◌∙◌, sym}
use Rattle.send_buf.proofs.SendBuf.judge_write.Goals as goal

pub returns-then-other_arena : goal.returns-then-other_arena
unfolding write_judged
returns-then-other_arena c = simp (sym c.other_arena.ensures ∙ c.if-other_arena.true)

pub returns-in-Some : goal.returns-in-Some
unfolding write_judged
returns-in-Some c = rw (sym c.other_arena.ensures ∙ c.if-other_arena.false, c.in-Some.is)

pub returns : goal.returns
unfolding write_judged bytes_judged
returns c = rw (sym c.other_arena.ensures ∙ c.if-other_arena.false, c.in_default.is) c.judge_bytes.ensures
