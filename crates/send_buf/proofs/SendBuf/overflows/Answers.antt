-- `SendBuf::overflows` meets its contract. Assumes nothing.
use Rattle.send_buf.proofs.Good.{chunks_length, few}
use native.Mathlib.Omega.{arith}
use Rattle.send_buf.proofs.SendBuf.overflows.Goals as goal

pub overflow_add-result-2 : goal.overflow_add-result-2
overflow_add-result-2 c = omega (arith, few c.args.self.now c.requires.good, c.requires.k_bound)

pub returns : goal.returns
returns c = rw (chunks_length c.args.self.now c.requires.good)
