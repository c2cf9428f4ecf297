-- `SendBuf::update_max_data` meets its contract. Assumes nothing.
use Rattle.std.specs.Prelude.{Ok, Err}
use Prim.Native.Nat.{max}
use Rattle.refusal.specs.Rules.{M}
use Rattle.send_buf.proofs.Good.{acked_is, count_is, made, table}
use Rattle.send_buf.specs.Rules.{raised, with_limit}
use Rattle.send_buf.specs.State.{view_of}
use borrow.Author.Tests.{le-ltb, lt-ltb}
use mathlib.Core.Path.{◌≡◌}
use Rattle.refusal.specs.declared.Refusal.TheVariants.{Offset}
use Rattle.send_buf.proofs.SendBuf.update_max_data.Goals as goal

pub returns-then-max_data-gt-M : goal.returns-then-max_data-gt-M
unfolding raised
returns-then-max_data-gt-M c = simp (lt-ltb _ _ c.if-max_data-gt-M.true) (λ j. record { answer = Err Offset; state = c.requires.whole j })

pub returns : goal.returns
unfolding raised
returns c =
    let b = c.args.self in
    let g = c.requires in
    let m : c.max.result ≡ max b.max_data c.args.max_data = c.max.ensures in
    let e = made (with_limit (view_of b) (max b.max_data c.args.max_data) b.blocked_at) b.«data» b.count b.acked (table b g).clear (count_is b g) (acked_is b g) in
    rw (m, le-ltb M c.args.max_data c.if-max_data-gt-M.false) (λ j. record { answer = Ok tt; state = e j })
