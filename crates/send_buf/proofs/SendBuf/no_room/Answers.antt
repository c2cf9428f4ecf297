-- `SendBuf::no_room` meets its contract. Assumes nothing.
use Rattle.send_buf.proofs.Good.{few}
use Rattle.send_buf.proofs.SendBuf.no_room.Goals as goal

pub base-requires : goal.base-requires
base-requires c = few c.args.self.now c.requires
