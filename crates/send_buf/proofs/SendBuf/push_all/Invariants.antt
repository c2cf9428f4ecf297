-- `SendBuf::push_all` meets its contract. The invariant: the chunks up to here are joined. Assumes nothing.
use Prim.Native.Nat.{◌≤◌}
use Rattle.send_buf.specs.Check.{chunks_of}
use Rattle.send_buf.specs.Steps.{pushed_all, with_chunks}
use lib.ListN.{length, take}
use mathlib.Core.Path.{◌≡◌}
use Rattle.send_buf.proofs.SendBuf.push_all.Given as goal

abbrev pub invariant-loop-buf : goal.invariant-loop-buf
invariant-loop-buf l =
    (l.self ≡ with_chunks l.initial.self (pushed_all (chunks_of l.initial.self) (take l.buf-index l.chunks)))
    × (length (pushed_all (chunks_of l.initial.self) (take l.buf-index l.chunks)) ≤ 64)
