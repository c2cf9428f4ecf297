-- `move_back` meets its contract. The invariant: the chunks up to here are moved back. Assumes nothing.
use Rattle.send_buf.specs.Steps.{back_to}
use lib.ListN.{drop, take}
use mathlib.Core.List.{◌++◌, map}
use mathlib.Core.Path.{◌≡◌}
use Rattle.send_buf.proofs.move_back.Given as goal

abbrev pub invariant-loop-buf : goal.invariant-loop-buf
invariant-loop-buf l = l.buf-items ≡ map (back_to l.off) (take l.buf-index l.initial.buf-items) ++ drop l.buf-index l.initial.buf-items
