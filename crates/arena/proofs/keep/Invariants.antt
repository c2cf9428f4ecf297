-- `keep` meets its contract. The invariant: to keep what is left of `src` from the first place on gives the contract's arena. Assumes nothing.
use Rattle.std.proofs.Common.{◌≡◌}
use Rattle.std.specs.Slice.Iter.{chunks_rest, chunks_size}
use Rattle.arena.specs.Rules.{kept}
use Rattle.arena.proofs.keep.Given as goal

abbrev pub invariant-loop-part : goal.invariant-loop-part
invariant-loop-part l =
    goal.iterator-loop-part.can_next l.part-iterator
    × goal.iterator-loop-part.is_finite l.part-iterator
    × (chunks_size l.part-iterator ≡ l.all)
    × (kept l.arena 0 (chunks_rest l.part-iterator) ≡ kept l.fn.arena l.off l.src)
