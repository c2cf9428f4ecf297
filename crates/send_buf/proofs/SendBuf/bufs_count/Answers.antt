-- `SendBuf::bufs_count` meets its contract. Assumes nothing.
use Rattle.send_buf.proofs.Good.{count_is}
use Rattle.send_buf.proofs.SendBuf.bufs_count.Goals as goal

pub returns : goal.returns
returns c = count_is c.args.self c.requires
