-- `SendBuf::relist_joined` meets its contract. Assumes nothing.
use Rattle.std.specs.Prelude.{Err}
use Rattle.send_buf.proofs.Pushing.{relist_refused, relist_taken}
use mathlib.Core.List.{◌∷◌, ◌++◌}
use mathlib.Core.Path.{◌∙◌}
use Rattle.send_buf.proofs.SendBuf.relist_joined.Goals as goal

pub returns-in-Err : goal.returns-in-Err
returns-in-Err c =
    let f = c.in-Err.ensures.full in
    (λ j. record { answer = Err (f.0 j); state = c.args.self.now }) ∙ relist_refused c.args.self.now c.requires.good (c.args.front.now ++ c.args.buf ∷ c.args.rest.now) c.args.bytes f.1

pub returns : goal.returns
returns c =
    let f = c.in_default.ensures.ok in
    relist_taken c.args.self.now c.requires.good (c.args.front.now ++ c.args.buf ∷ c.args.rest.now) c.args.bytes f.1 c.join.new.self f.0
