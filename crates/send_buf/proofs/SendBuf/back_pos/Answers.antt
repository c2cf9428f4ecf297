-- `SendBuf::back_pos` meets its contract. Assumes nothing.
use Prim.Native.Nat.{◌-◌, min, ℕ}
use Rattle.range_buf.specs.Rules.{zero_buf}
use Rattle.range_buf.specs.State.{Good as GoodChunk}
use Rattle.range_buf.specs.declared.RangeBuf.{RangeBuf}
use Rattle.send_buf.proofs.Chunks.{drop_count_is}
use Rattle.send_buf.proofs.Good.{all_good, few}
use Rattle.send_buf.proofs.Losing.{not_below, pos_none, pos_some}
use Rattle.send_buf.specs.Rules.{drop_count}
use Rattle.send_buf.specs.State.{base, view_of}
use Rattle.send_buf.specs.Steps.{gone_by}
use Rattle.std.specs.List.{All, take_while}
use Rattle.tables.proofs.Tests.{and_true}
use borrow.Author.Tests.{ltb-true}
use lib.Dec.{ltb}
use mathlib.Core.Bool.{◌&&◌, false, true}
use lib.ListN.{get_or, length}
use mathlib.Core.List.{List}
use mathlib.Core.Path.{◌∙◌, ◌≡◌, ap, ap₂, subst, sym}
use native.Mathlib.Nat.{zero-add}
use Rattle.send_buf.proofs.SendBuf.back_pos.Goals as goal

pub chunks-requires : goal.chunks-requires
chunks-requires c = few c.args.self.now c.requires.good

pub drop_count-i-requires : goal.drop_count-i-requires
drop_count-i-requires c = subst (All GoodChunk) (sym c.chunks.ensures) (all_good c.args.self.now c.requires.good)

pub chunks-requires-2 : goal.chunks-requires-2
chunks-requires-2 c = few c.args.self.now c.requires.good

pub returns-then-begins_below : goal.returns-then-begins_below
returns-then-begins_below c =
    let d = c.drop_count-i in
    let b = c.args.self.now in
    let l = (view_of b).chunks in
    let i : d.result ≡ drop_count l (c.args.off - 1) =
    d.ensures ∙ ap₂ (λ (x : List RangeBuf) (k : ℕ). length (take_while (gone_by k) x)) c.chunks.ensures c.saturating_sub.ensures ∙ drop_count_is l (c.args.off - 1) in
    let f : (ltb d.result (length l) && ltb (get_or l d.result zero_buf).off c.args.end) ≡ true =
    subst (λ (x : List RangeBuf). (ltb d.result (length x) && ltb (get_or x d.result zero_buf).off c.args.end) ≡ true) c.chunks-2.ensures (sym c.begins_below.ensures ∙ c.if-begins_below.true) in
    let t = and_true (ltb d.result (length l)) (ltb (get_or l d.result zero_buf).off c.args.end) f in
    let p = pos_some c.args.off c.args.end c.requires.off_le_end (base l b.off) l b.off 0 b.pos c.requires.good.facts.adjoin (rw (sym i) (ltb-true d.result (length l) t.0)) (rw (sym i) (ltb-true (get_or l d.result zero_buf).off c.args.end t.1)) in
    c.min.ensures ∙ ap (min b.pos) (i ∙ sym (zero-add (drop_count l (c.args.off - 1)))) ∙ sym p

pub returns-else-begins_below : goal.returns-else-begins_below
returns-else-begins_below c =
    let d = c.drop_count-i in
    let b = c.args.self.now in
    let l = (view_of b).chunks in
    let i : d.result ≡ drop_count l (c.args.off - 1) =
    d.ensures ∙ ap₂ (λ (x : List RangeBuf) (k : ℕ). length (take_while (gone_by k) x)) c.chunks.ensures c.saturating_sub.ensures ∙ drop_count_is l (c.args.off - 1) in
    let f : (ltb d.result (length l) && ltb (get_or l d.result zero_buf).off c.args.end) ≡ false =
    subst (λ (x : List RangeBuf). (ltb d.result (length x) && ltb (get_or x d.result zero_buf).off c.args.end) ≡ false) c.chunks-2.ensures (sym c.begins_below.ensures ∙ c.if-begins_below.false) in
    let t = not_below l d.result c.args.end f in
    sym (pos_none c.args.off c.args.end c.requires.off_le_end (base l b.off) l b.off 0 b.pos c.requires.good.facts.adjoin (rw (sym i) t))
