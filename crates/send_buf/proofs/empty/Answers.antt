-- `empty` meets its contract. Assumes nothing.
use Rattle.std.specs.Prelude.{⊤}
use Rattle.ranges.specs.State.{set_of}
use Rattle.send_buf.specs.State.{buf_of}
use mathlib.Core.List.{[]}
use mathlib.Core.Path.{◌≡◌, ap}
use Rattle.send_buf.proofs.empty.Goals as goal
use Rattle.ranges.specs.declared.RangeSet.{RangeSet}
use Rattle.refusal.specs.declared.Outcome.{Outcome}

pub returns : goal.returns
unfolding buf_of
returns c =
    let e : c.new.result.state ≡ set_of 64 [] = ap (λ (o : Outcome ⊤ RangeSet). o.state) c.new.ensures in
    rw e
