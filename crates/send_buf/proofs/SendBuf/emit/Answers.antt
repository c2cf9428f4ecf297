-- `SendBuf::emit` meets its contract. Assumes nothing.
use Rattle.std.specs.Prelude.{Err}
use Rattle.send_buf.proofs.Emitting.{emits, emits_bad, fin_at, gives, never_refused, sent_in}
use Rattle.send_buf.specs.State.{view_of}
use mathlib.Core.Path.{◌∙◌, sym}
use native.Mathlib.Omega.{arith}
use Rattle.refusal.specs.declared.Refusal.TheVariants.{BadSetup}
use Rattle.send_buf.proofs.SendBuf.emit.Goals as goal

pub returns-then-other_arena : goal.returns-then-other_arena
returns-then-other_arena c =
    let e = emits_bad (view_of c.args.self) c.args.arena.now c.args.out.now (sym c.other_arena.ensures ∙ c.if-other_arena.true) in
    record { value = (λ j. record { answer = Err BadSetup; state = c.requires.whole j }) ∙ sym e.0; out_after = sym e.1 }

pub returns-in-Err : goal.returns-in-Err
returns-in-Err c =
    let o = c.copy_out-copied in
    absurd (never_refused (view_of c.args.self) c.args.arena.now c.args.out.now o.result o.ensures.value c.in-Err.why c.in-Err.is)

pub overflow_add-front : goal.overflow_add-front
overflow_add-front c =
    let i = sent_in (view_of c.args.self) c.args.arena.now c.args.out.now c.copy_out-copied.result c.copy_out-copied.ensures.value c.in-Ok.reached c.in-Ok.is c.requires.facts in
    omega (arith, i.1, c.starts_at-front.ensures)

pub sent-requires : goal.sent-requires
sent-requires c =
    let i = sent_in (view_of c.args.self) c.args.arena.now c.args.out.now c.copy_out-copied.result c.copy_out-copied.ensures.value c.in-Ok.reached c.in-Ok.is c.requires.facts in
    (i.0, omega (arith, i.1, c.starts_at-front.ensures))

pub returns : goal.returns
returns c =
    let a = sym c.other_arena.ensures ∙ c.if-other_arena.false in
    let s = view_of c.args.self in
    let o = c.copy_out-copied in
    record {
      value = emits s c.args.arena.now c.args.out.now o.result o.ensures.value c.in-Ok.reached c.in-Ok.is a c.starts_at-front.result c.eq.result c.sent.result
          c.starts_at-front.ensures (c.eq.ensures ∙ fin_at c.args.self.fin_off _) c.sent.ensures;
      out_after = gives s c.args.arena.now c.args.out.now o.result o.ensures.value c.in-Ok.reached c.in-Ok.is a o.new.out o.ensures.out_after;
    }
