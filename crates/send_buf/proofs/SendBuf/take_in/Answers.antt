-- `SendBuf::take_in` meets its contract. Assumes nothing.
use Prim.Native.Nat.{◌+◌}
use Rattle.send_buf.proofs.Cutting.{took_plain}
use Rattle.send_buf.specs.Rules.{pieces}
use Rattle.send_buf.specs.State.{view_of}
use borrow.Author.Tests.{ltb-false}
use lib.ListN.{length}
use mathlib.Core.Path.{◌∙◌, sym}
use Rattle.send_buf.proofs.SendBuf.take_in.Goals as goal

pub returns-else-overflows-clause-value : goal.returns-else-overflows-clause-value
returns-else-overflows-clause-value c =
    let h = ltb-false 64 (length (view_of c.args.self).chunks + pieces (length c.args.bytes.now)) (sym c.overflows.ensures ∙ c.if-overflows.false) in
    c.append.ensures.value ∙ took_plain (view_of c.args.self) (length c.args.bytes.now) h
