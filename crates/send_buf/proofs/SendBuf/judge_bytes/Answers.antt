-- `SendBuf::judge_bytes` meets its contract. Assumes nothing.
use Rattle.send_buf.proofs.Kept.{never_full}
use Rattle.send_buf.specs.State.{view_of}
use Rattle.send_buf.specs.Steps.{bytes_judged}
use mathlib.Core.Path.{◌∙◌, sym}
use Rattle.send_buf.proofs.SendBuf.judge_bytes.Goals as goal

pub returns-then-passes_final : goal.returns-then-passes_final
unfolding bytes_judged
returns-then-passes_final c = simp (sym c.passes_final.ensures ∙ c.if-passes_final.true)

pub returns-then-no_room : goal.returns-then-no_room
unfolding bytes_judged
returns-then-no_room c =
    simp (sym c.passes_final.ensures ∙ c.if-passes_final.false, sym c.no_room.ensures ∙ c.if-no_room.true)

pub returns : goal.returns
unfolding bytes_judged
returns c =
    simp (sym c.passes_final.ensures ∙ c.if-passes_final.false, sym c.no_room.ensures ∙ c.if-no_room.false, never_full (view_of c.args.self.now) c.requires.facts c.args.n)
