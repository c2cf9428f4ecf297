-- `keep` meets its contract. Assumes nothing.
use Rattle.std.proofs.Common.{rules, ◌≡◌, ◌++◌, ◌≤◌, min, length, ◌+◌, ◌-◌, ◌∙◌, sym, ap, arith}
use Rattle.std.specs.Slice.Iter.{chunks_rest}
use borrow.Rule.Slice.PartMut.{put_mid}
use Rattle.arena.specs.Rules.{kept}
use Rattle.arena.proofs.Loops.{keep_part, keep_next, no_places_keep, no_bytes_keep}
use Rattle.arena.proofs.keep.Goals as goal
use Rattle.arena.proofs.keep.Goals.{then-all-eq0-via-then-all-eq0, then-all-eq0-via-else-all-eq0+then-is_empty}

pub returns-then-all-eq0 : goal.returns-then-all-eq0
returns-then-all-eq0 c =
    let a = c.args in
    elim c.then-all-eq0.branch [
      | then-all-eq0-via-then-all-eq0 w ↦ no_places_keep a.arena.now a.off a.src.now w.if-all-eq0.true
      | then-all-eq0-via-else-all-eq0+then-is_empty w ↦ no_bytes_keep a.arena.now a.off a.src.now (search rules)
    ]

pub loop-part-init : goal.loop-part-init
loop-part-init c =
    let a = c.args in
    let at = c.place-at.result in
    let front = c.split_at.result.0.now in
    let rest = c.split_at.result.1.now in
    let whole : front ++ rest ≡ a.src.now = search rules in
    let source : chunks_rest c.into_iter-part-iterator.result ≡ rest = search rules in
    let some : length rest + length front ≡ length a.src.now = search rules in
    let size = c.split_at.ensures.front_len in
    let least = c.min.ensures in
    let is = c.copy.ensures in
    let last = c.copy.new.dst in
    let fit : at + length front ≤ length a.arena.now = omega (arith, size, least, c.place-at.ensures.1) in (
      search rules,
      tt,
      search rules,
      ap (kept (put_mid at (at + length front - at) a.arena.now last) 0) source
          ∙ keep_part a.arena.now a.off at front rest last c.place-at.ensures.0 fit (λ r. omega (arith, size, least, some)) is
          ∙ ap (kept a.arena.now a.off) whole,
    )

pub loop-part-preserved : goal.loop-part-preserved
loop-part-preserved c =
    let inv = c.loop-part.invariant in
    let steps = c.in-Some.ensures.steps in
    let a = c.loop-part.arena in
    let more = chunks_rest c.loop-part.part-iterator in
    let long : length a ≡ length c.args.arena.now = search rules in
    let part : length c.in-Some.part.now ≡ min (length a) (length more) = rw (inv.2 ∙ sym long) at steps.1.1 in (
      search rules,
      tt,
      steps.0 ∙ inv.2,
      keep_next a c.in-Some.part.now (chunks_rest c.next.new.self) more c.copy-in-loop-part.new.dst steps.1.0 part c.copy-in-loop-part.ensures
          ∙ inv.3,
    )

pub returns : goal.returns
returns c =
    let l = c.loop-part in
    no_bytes_keep l.arena 0 (chunks_rest l.part-iterator) c.in-None.ensures.steps.1.0 ∙ l.invariant.3
