-- `SendBuf::write` meets its contract. Assumes nothing.
use Rattle.std.specs.Prelude.{Err}
use Rattle.send_buf.proofs.Cutting.{is_written, not_written, write_admits, accepted_in}
use Rattle.send_buf.specs.State.{view_of}
use Rattle.send_buf.specs.Steps.{Admits, took}
use lib.ListN.{length}
use lib.Seq.{length-take-le}
use mathlib.Core.Path.{◌∙◌, ap, subst, sym}
use Rattle.send_buf.proofs.SendBuf.write.Goals as goal

pub returns-in-Err : goal.returns-in-Err
returns-in-Err c =
    let e = not_written (view_of c.args.self) c.args.arena.now c.args.input.now c.args.fin c.judge_write.result c.judge_write.ensures c.in-Err.why c.in-Err.is in
    record { value = (λ j. record { answer = Err c.in-Err.why; state = c.requires.whole j }) ∙ e.0; arena_after = e.1 }

pub take_in-out-requires-clause-admits : goal.take_in-out-requires-clause-admits
take_in-out-requires-clause-admits c =
    let v = view_of c.args.self in
    let k = c.accepted-k.result in
    subst (Admits v) (sym (length-take-le k c.args.input.now (accepted_in v (length c.args.input.now) k c.accepted-k.ensures)))
    (write_admits v c.requires.facts (length c.args.arena.now) (length c.args.input.now) c.args.fin k (sym c.judge_write.ensures ∙ c.in_default.is) c.accepted-k.ensures)

pub returns : goal.returns
returns c =
    let v = view_of c.args.self in
    let k = c.accepted-k.result in
    let n = length-take-le k c.args.input.now (accepted_in v (length c.args.input.now) k c.accepted-k.ensures) in
    let both =
    is_written v c.args.arena.now c.args.input.now c.args.fin c.judge_write.result c.judge_write.ensures c.in_default.is
    k c.take_in-out.result c.final_size-fin_off.result c.take_in-out.new.arena c.accepted-k.ensures (c.take_in-out.ensures.value ∙ ap (took v) n) c.final_size-fin_off.ensures c.take_in-out.ensures.arena_after in
    record { value = both.0; arena_after = both.1 }
