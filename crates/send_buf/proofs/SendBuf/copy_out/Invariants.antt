-- `SendBuf::copy_out` meets its contract. The invariant, `Emitting`: to copy on from here gives what the contract says. Assumes nothing.
use Rattle.send_buf.proofs.Emitting.{Emitting}
use Rattle.send_buf.proofs.SendBuf.copy_out.Given as goal

abbrev pub invariant-loop-i : goal.invariant-loop-i
invariant-loop-i l = Emitting l.arena l.initial.out l.initial.self l.out l.self l.i l.i l.done
