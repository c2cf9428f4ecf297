-- What holds of a run from its first round to its last: both buffers and the connection's window are good, so each call of theirs may be
-- made, and a frame fits a slot. The ghost fields of its `ends` say so (proofs/Sound.antt).
use Rattle.std.specs.Prelude.{◌≤◌}
use Rattle.flowcontrol.specs.State.{Good as GoodFlow}
use Rattle.send_buf.specs.State.{Good as GoodSend}
use Rattle.recv_buf.specs.State.{Good as GoodRecv}
use Rattle.carry.specs.declared.run.Run.{Run}

pub record Sound (r : Run) : Type 0 where
  pub sender : GoodSend r.ends.send
  pub receiver : GoodRecv r.ends.recv
  pub connection : GoodFlow r.ends.conn
  pub small : r.ends.size ≤ 1200
