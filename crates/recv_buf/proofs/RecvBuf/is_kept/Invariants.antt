-- `RecvBuf::is_kept` meets its contract. The invariant: all are well kept exactly if the chunks from here on are, from `lo`. Assumes nothing.
use mathlib.Core.Path.{◌≡◌}
use lib.ListN.{drop}
use Rattle.recv_buf.specs.Check.{kept_by}
use Rattle.recv_buf.proofs.RecvBuf.is_kept.Given as goal

abbrev pub invariant-loop-chunk : goal.invariant-loop-chunk
invariant-loop-chunk l = kept_by l.initial.lo l.fn.self.len l.top l.chunk-items ≡ kept_by l.lo l.fn.self.len l.top (drop l.chunk-index l.chunk-items)
