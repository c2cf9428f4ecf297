-- `SendBuf::reset` meets its contract: the range set never refuses 0 to the end. Assumes nothing.
use Rattle.std.specs.Prelude.{Ok, Err}
use Prim.Native.Nat.{ℕ}
use Rattle.ranges.specs.Rules.{tried}
use Rattle.ranges.specs.State.{ranges, set_of, upto}
use Rattle.ranges.specs.declared.Range.{Range}
use Rattle.send_buf.proofs.Acking.{does_join, joined, reset_room, resets_at}
use Rattle.send_buf.proofs.Good.{acked_good, acked_is}
use Rattle.send_buf.specs.Rules.{cut_off}
use Rattle.send_buf.specs.State.{view_of}
use mathlib.Core.Path.{◌∙◌, ◌≡◌, ap, sym}
use native.Mathlib.Omega.{arith}
use Rattle.ranges.specs.declared.RangeSet.{RangeSet}
use Rattle.send_buf.proofs.SendBuf.reset.Goals as goal

pub try_insert-out-requires : goal.try_insert-out-requires
try_insert-out-requires c = acked_good c.args.self c.requires

pub returns-in-Err : goal.returns-in-Err
returns-in-Err c =
    let b = c.args.self in
    let m : c.max-end.result ≡ cut_off (view_of b) = rw (sym c.front.ensures) c.max-end.ensures in
    let x : Range = upto 0 (cut_off (view_of b)) in
    let o : c.try_insert-out.result ≡ tried (set_of 64 (ranges b.acked)) x =
    c.try_insert-out.ensures ∙ ap (λ (n : ℕ). tried b.acked (upto 0 n)) m ∙ ap (λ (s : RangeSet). tried s x) (acked_is b c.requires) in
    let j = does_join x (ranges b.acked) (omega arith) c.try_insert-out.result o (reset_room b c.requires) in
    let f : Err c.in-Err.why ≡ Ok tt = sym c.in-Err.is ∙ j in
    absurd (cc)

pub returns : goal.returns
returns c =
    let b = c.args.self in
    let m : c.max-end.result ≡ cut_off (view_of b) = rw (sym c.front.ensures) c.max-end.ensures in
    let x : Range = upto 0 (cut_off (view_of b)) in
    let o : c.try_insert-out.result ≡ tried (set_of 64 (ranges b.acked)) x =
    c.try_insert-out.ensures ∙ ap (λ (n : ℕ). tried b.acked (upto 0 n)) m ∙ ap (λ (s : RangeSet). tried s x) (acked_is b c.requires) in
    let j = joined x (ranges b.acked) (omega arith) c.try_insert-out.result o c.in_default.is in
    (resets_at b c.max-end.result c.try_insert-out.result.state c.saturating_sub-unsent.result m j.1 c.saturating_sub-unsent.ensures)
