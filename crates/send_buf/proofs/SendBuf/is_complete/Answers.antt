-- `SendBuf::is_complete` meets its contract. Assumes nothing.
use Rattle.send_buf.proofs.Good.{acked_good}
use Rattle.send_buf.proofs.SendBuf.is_complete.Goals as goal

pub eq-requires : goal.eq-requires
eq-requires c = acked_good c.args.self c.requires
