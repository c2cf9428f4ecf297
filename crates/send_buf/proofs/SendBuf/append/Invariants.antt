-- `SendBuf::append` meets its contract. The invariant, `Going`: to cut and keep what is left gives what the contract says. Assumes nothing.
use Prim.Native.Nat.{◌-◌}
use lib.ListN.{length}
use Rattle.send_buf.proofs.Cutting.{Going}
use Rattle.send_buf.proofs.SendBuf.append.Given as goal

abbrev pub invariant-loop-at : goal.invariant-loop-at
invariant-loop-at l = Going l.initial.arena l.initial.self l.bytes (length l.bytes) l.arena l.self l.at

abbrev pub decreases-loop-at : goal.decreases-loop-at
decreases-loop-at l = length l.bytes - l.at
