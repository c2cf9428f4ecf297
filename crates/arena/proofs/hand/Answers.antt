-- `hand` meets its contract. Assumes nothing.
use Rattle.std.proofs.Common.{rules, ◌≡◌, ◌++◌, ◌≤◌, ◌%◌, length, take, drop, ℕ, ◌+◌, ◌-◌, ◌∙◌, sym, ap, arith}
use native.Mathlib.Nat.{add_assoc}
use borrow.Rule.Slice.PartMut.{put_mid}
use Rattle.arena.proofs.Places.{around}
use Rattle.arena.specs.Rules.{held}
use Rattle.arena.proofs.Loops.{hand_first, hand_next, hand_end, put_length, no_places_hand, no_bytes_hand}
use Rattle.arena.proofs.hand.Goals as goal
use Rattle.arena.proofs.hand.Goals.{then-all-eq0-via-then-all-eq0, then-all-eq0-via-else-all-eq0+then-is_empty}

pub returns-then-all-eq0 : goal.returns-then-all-eq0
returns-then-all-eq0 c =
    let a = c.args in
    elim c.then-all-eq0.branch [
      | then-all-eq0-via-then-all-eq0 w ↦ no_places_hand a.arena.now a.off a.out.now w.if-all-eq0.true
      | then-all-eq0-via-else-all-eq0+then-is_empty w ↦ no_bytes_hand a.arena.now a.off a.out.now (search rules)
    ]

pub loop-start-init : goal.loop-start-init
loop-start-init c =
    let a = c.args in
    let at = c.place-at.result in
    let n = c.min-end.result in
    let e = c.min-end.ensures in
    let p = c.place-at.ensures in
    let fit : at + n ≤ length a.arena.now = omega (arith, e, p.1) in
    let is = c.copy.ensures in
    let last = c.copy.new.dst in
    let same : length (last ++ drop n a.out.now) ≡ length a.out.now = search rules in (
      omega (arith, e, same),
      λ r. around (length a.arena.now) a.off at n p.0 (omega (arith, e, p.1, same, r)),
      hand_first a.arena.now a.off at n a.out.now last p.0 fit is,
    )

pub loop-start-preserved : goal.loop-start-preserved
loop-start-preserved c =
    let a = c.args in
    let l = c.loop-start in
    let n = c.min-n.result in
    let all = length a.arena.now in
    let inv = l.invariant in
    let last = c.copy-in-loop-start.new.dst in
    let out = put_mid l.start (l.start + n - l.start) l.out last in
    let whole : n ≡ all = omega (arith, c.min-n.ensures, inv.0) in
    let fit : l.start + n ≤ length l.out = omega (arith, c.min-n.ensures, inv.0) in
    let first : 0 ≡ (a.off + l.start) % all = inv.1 (omega arith) in
    let same = put_length l.start n l.out last fit (search rules) in
    let filled = hand_next a.arena.now a.off l.start n l.out last first (omega (arith, whole)) fit c.copy-in-loop-start.ensures inv.2 in (
      omega (arith, whole, fit, same),
      λ _. around all (a.off + l.start) 0 all first (omega arith) ∙ ap (λ (m : ℕ). m % all) (add_assoc a.off l.start all),
      ap (λ (m : ℕ). take (l.start + m) out) (sym whole) ∙ filled ∙ ap (λ (m : ℕ). held a.arena.now a.off (l.start + m)) whole,
    )

pub returns-else-is_empty : goal.returns-else-is_empty
returns-else-is_empty c =
    let a = c.args in
    let l = c.loop-start in
    hand_end a.arena.now a.off l.start l.out a.out.now (search rules) (search rules) (search rules) l.invariant.2

pub returns-else-is_empty-2 : goal.returns-else-is_empty-2
returns-else-is_empty-2 c =
    let a = c.args in
    let l = c.loop-start in
    let n = c.min-n.result in
    let inv = l.invariant in
    let last = c.copy-in-loop-start.new.dst in
    let out = put_mid l.start (l.start + n - l.start) l.out last in
    let end : l.start + n ≡ length l.out = omega (arith, c.min-n.ensures, inv.0) in
    let fit : l.start + n ≤ length l.out = omega (arith, end) in
    let first : 0 ≡ (a.off + l.start) % length a.arena.now = inv.1 (omega arith) in
    let same = put_length l.start n l.out last fit (search rules) in
    let filled = hand_next a.arena.now a.off l.start n l.out last first (omega (arith, c.min-n.ensures)) fit c.copy-in-loop-start.ensures inv.2 in
    hand_end a.arena.now a.off (l.start + n) out a.out.now (search rules) (end ∙ sym same) (same ∙ search rules) filled
