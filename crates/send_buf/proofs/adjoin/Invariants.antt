-- `adjoin` meets its contract. The invariant: all adjoin exactly if the chunks from here on adjoin from `at`. Assumes nothing.
use Prim.Native.Nat.{◌≤◌}
use Rattle.send_buf.specs.Check.{adjoin_by}
use lib.ListN.{drop}
use mathlib.Core.Path.{◌≡◌}
use Rattle.send_buf.proofs.adjoin.Given as goal

abbrev pub invariant-loop-buf : goal.invariant-loop-buf
invariant-loop-buf l = (l.at ≤ l.to) × (adjoin_by l.from l.chunks l.to ≡ adjoin_by l.at (drop l.buf-index l.chunks) l.to)
