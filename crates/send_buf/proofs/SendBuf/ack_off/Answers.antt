-- `SendBuf::ack_off` meets its contract. Assumes nothing.
use Rattle.send_buf.proofs.Good.{acked_good}
use Rattle.send_buf.proofs.SendBuf.ack_off.Goals as goal

pub get-requires : goal.get-requires
get-requires c = acked_good c.args.self c.requires
