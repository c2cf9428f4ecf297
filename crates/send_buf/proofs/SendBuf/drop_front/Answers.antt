-- `SendBuf::drop_front` meets its contract. Assumes nothing.
use Prim.Native.Nat.{◌-◌}
use Rattle.range_buf.specs.Rules.{zero_buf}
use Rattle.range_buf.specs.declared.RangeBuf.{RangeBuf}
use Rattle.send_buf.proofs.Good.{acked_is, chunks_length, few, made}
use Rattle.send_buf.specs.State.{view_of}
use Rattle.send_buf.specs.Steps.{without}
use Rattle.std.proofs.lemmas.List.{take_rest}
use Rattle.tables.specs.Lists.{table_of}
use lib.ListN.{drop, length, length-drop, take}
use lib.Seq.{take_all}
use mathlib.Core.List.{List}
use mathlib.Core.Path.{◌≡◌, ◌∙◌, ap, sym}
use native.Mathlib.Omega.{arith}
use Rattle.send_buf.proofs.SendBuf.drop_front.Goals as goal

pub chunks-requires : goal.chunks-requires
chunks-requires c = few c.args.self c.requires.good

pub offset_bounds-chunks-n : goal.offset_bounds-chunks-n
offset_bounds-chunks-n c = omega (arith, c.requires.n_le_count, few c.args.self c.requires.good)

pub slice_bounds-table_of-count : goal.slice_bounds-table_of-count
slice_bounds-table_of-count c = omega (arith, ap length c.chunks.ensures, chunks_length c.args.self c.requires.good, few c.args.self c.requires.good)

pub slice_bounds-table_of-start : goal.slice_bounds-table_of-start
slice_bounds-table_of-start c = omega (arith, c.requires.n_le_count, ap length c.chunks.ensures, chunks_length c.args.self c.requires.good)

pub returns : goal.returns
unfolding without
returns c =
    let b = c.args.self in
    let n = c.args.n in
    let l : List RangeBuf = drop n (view_of b).chunks in
    let m : length l ≡ b.count - n = simp (length-drop, chunks_length b c.requires.good) in
    let d : c.table_of-data.result ≡ table_of zero_buf l =
    c.table_of-data.ensures ∙ ap (λ (x : List RangeBuf). table_of zero_buf (take 64 (take (length x - n) (drop n x)))) c.chunks.ensures
    ∙ ap (table_of zero_buf) (ap (take 64) (take_rest (view_of b).chunks n) ∙ take_all 64 l (omega (arith, m, few b c.requires.good))) in
    rw c.saturating_sub.ensures (made (without (view_of b) n c.args.bytes) c.table_of-data.result (b.count - n) b.acked d (sym m) (acked_is b c.requires.good))
