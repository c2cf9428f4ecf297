-- The table once chunks went: those that are left move to its front, and zero stands behind them. Assumes nothing.
use Rattle.std.specs.Prelude.{⊤}
use Rattle.std.specs.List.{All, copy_within}
use Rattle.std.proofs.lemmas.List.{take_at, drop_at, drop-append-le, drop-drop, length-append, length-take, length-drop, replicate-append-replicate, drop_more}
use mathlib.Core.Path.{◌≡◌, refl, sym, ap, ◌∙◌}
use mathlib.Core.List.{List, [], ◌∷◌, ◌++◌}
use Prim.Native.Nat.{ℕ, ◌+◌, ◌-◌, ◌≤◌, ◌<◌}
use native.Mathlib.Omega.{arith}
use borrow.Rule.Slice.PartMut.{put_mid}
use lib.ListN.{length, take, drop, get_or, set, replicate}
use Rattle.tables.specs.Lists.{Table, table_of}
use Rattle.tables.proofs.Tables.{slots, view_length}
use Rattle.refusal.specs.declared.Outcome.{Outcome}
use Rattle.range_buf.specs.declared.RangeBuf.{RangeBuf}
use Rattle.range_buf.specs.State.{Good as GoodChunk}
use Rattle.range_buf.specs.Rules.{used, consumed, zero_buf}
use Rattle.range_buf.proofs.Kept.{consumed_in}
use Rattle.recv_buf.specs.declared.RecvBuf.{RecvBuf}
use Rattle.recv_buf.specs.declared.Reach.{Reach}
use Rattle.recv_buf.specs.State.{view_of, buf_of, Good}
use Rattle.recv_buf.specs.Rules.{with_chunks}
use Rattle.recv_buf.specs.Steps.{put_front, left_at, Fits}
use Rattle.recv_buf.proofs.Good as good
use Rattle.recv_buf.proofs.Good.{made, few, chunks_length}

module _ (d : List RangeBuf) (n : ℕ) (t : Table zero_buf n d) (i : ℕ) (le : i ≤ n) where
  whole : d ≡ take n d ++ replicate (64 - n) zero_buf
  whole = t.clear ∙ ap (λ (k : ℕ). take n d ++ replicate (64 - k) zero_buf) (view_length zero_buf n d t)

  kept_length : length (drop i (take n d)) ≡ n - i
  kept_length = length-drop i (take n d) ∙ ap (λ (k : ℕ). k - i) (view_length zero_buf n d t)

  front : take (n - i) (drop i d) ≡ drop i (take n d)
  front =
      ap (λ (l : List RangeBuf). take (n - i) (drop i l)) whole
      ∙ ap (take (n - i)) (drop-append-le i (take n d) (replicate (64 - n) zero_buf) (rw (view_length zero_buf n d t) le))
      ∙ take_at (drop i (take n d)) (replicate (64 - n) zero_buf) (n - i) kept_length

  back : drop n d ≡ replicate (64 - n) zero_buf
  back = ap (drop n) whole ∙ drop_at (take n d) (replicate (64 - n) zero_buf) n (view_length zero_buf n d t)

  moved : copy_within d i n 0 ≡ drop i (take n d) ++ drop (n - i) d
  moved = let z : 0 + (n - i) ≡ n - i = omega arith in rw (z, front)

  moved_length : length (copy_within d i n 0) ≡ 64
  moved_length = ap length moved ∙ simp length-append (omega (arith, kept_length, length-drop (n - i) d, slots zero_buf n d t, t.few))

  -- chunks moved to the front, and zero over what is then behind them
  cut_table : (x y : List RangeBuf) → x ≡ copy_within d i n 0 → y ≡ replicate (length (take (n - (n - i)) (drop (n - i) x))) zero_buf
      → put_mid (n - i) (n - (n - i)) x y ≡ table_of zero_buf (drop i (take n d))
  cut_table x y e f =
      let l : length (take (n - (n - i)) (drop (n - i) x)) ≡ n - (n - i) =
      simp (length-take, length-drop) (rw (e, moved_length) (omega (arith, t.few))) in
      let k : n - i + (n - (n - i)) ≡ n = omega (arith, le) in
      let m : n - (n - i) + (64 - n) ≡ 64 - (n - i) = omega (arith, le, t.few) in
      rw (
        f,
        l,
        e,
        moved,
        take_at (drop i (take n d)) (drop (n - i) d) (n - i) kept_length,
        drop_at (drop i (take n d)) (drop (n - i) d) (n - i) kept_length,
        drop-drop (n - (n - i)) (n - i) d,
        k,
        back,
        replicate-append-replicate (n - (n - i)) (64 - n) zero_buf,
        m,
        kept_length,
      )

-- another first chunk
put_table : (x : RangeBuf) (l : List RangeBuf) → 0 < length l → set (table_of zero_buf l) 0 x ≡ table_of zero_buf (put_front x l)
put_table x [] h = absurd (omega arith)
put_table x (c ∷ cs) h = refl

put_none : (x : RangeBuf) (l : List RangeBuf) → length l ≡ 0 → put_front x l ≡ l
put_none x [] h = refl
put_none x (c ∷ cs) h = absurd (omega arith)

put_length : (x : RangeBuf) (l : List RangeBuf) → length (put_front x l) ≡ length l
put_length x [] = refl
put_length x (c ∷ cs) = refl

first_is : (l : List RangeBuf) (i : ℕ) → i < length l → get_or (table_of zero_buf (drop i l)) 0 zero_buf ≡ get_or l i zero_buf
first_is l i h = rw (drop_more l i zero_buf h)

module _ (d : List RangeBuf) (n : ℕ) (t : Table zero_buf n d) (at : Reach) (f : Fits (take n d) at) where
  some_in : at.whole ≤ n
  some_in = rw (view_length zero_buf n d t) at f.whole_in

  cut_length : n - at.whole ≡ length (left_at (take n d) at)
  cut_length =
      sym (kept_length d n t at.whole some_in)
      ∙ sym (put_length (used (get_or (take n d) at.whole zero_buf) at.part) (drop at.whole (take n d)))

  module _ (x y : List RangeBuf) (e : x ≡ copy_within d at.whole n 0) (z : y ≡ replicate (length (take (n - (n - at.whole)) (drop (n - at.whole) x))) zero_buf) where
    table : put_mid (n - at.whole) (n - (n - at.whole)) x y ≡ table_of zero_buf (drop at.whole (take n d))
    table = cut_table d n t at.whole some_in x y e z

    cut_none : n - at.whole ≤ 0 → put_mid (n - at.whole) (n - (n - at.whole)) x y ≡ table_of zero_buf (left_at (take n d) at)
    cut_none h =
        table
        ∙ ap (table_of zero_buf) (sym (put_none (used (get_or (take n d) at.whole zero_buf) at.part) (drop at.whole (take n d)) (omega (arith, kept_length d n t at.whole some_in))))

    -- the first chunk is then the one from which a part goes
    lt_length : 0 < n - at.whole → at.whole < length (take n d)
    lt_length h = rw (view_length zero_buf n d t) (omega arith)

    first_was : 0 < n - at.whole → get_or (put_mid (n - at.whole) (n - (n - at.whole)) x y) 0 zero_buf ≡ get_or (take n d) at.whole zero_buf
    first_was h = ap (λ (l : List RangeBuf). get_or l 0 zero_buf) table ∙ first_is (take n d) at.whole (lt_length h)

    cut_good : All GoodChunk (take n d) → 0 < n - at.whole → GoodChunk (get_or (put_mid (n - at.whole) (n - (n - at.whole)) x y) 0 zero_buf)
    cut_good g h = rw (first_was h) (g at.whole zero_buf (lt_length h))

    cut_some : 0 < n - at.whole → (v : Outcome ⊤ RangeBuf) → v ≡ consumed (get_or (put_mid (n - at.whole) (n - (n - at.whole)) x y) 0 zero_buf) at.part
        → set (put_mid (n - at.whole) (n - (n - at.whole)) x y) 0 v.state ≡ table_of zero_buf (left_at (take n d) at)
    cut_some h v w =
        let u : v.state ≡ used (get_or (take n d) at.whole zero_buf) at.part =
        ap (λ (o : Outcome ⊤ RangeBuf). o.state) (w ∙ ap (λ (b : RangeBuf). consumed b at.part) (first_was h) ∙ consumed_in (get_or (take n d) at.whole zero_buf) at.part f.part_in) in
        rw (table, u)
        (put_table (used (get_or (take n d) at.whole zero_buf) at.part) (drop at.whole (take n d)) (omega (arith, kept_length d n t at.whole some_in)))

-- ---- of a buffer

module _ (b : RecvBuf) (g : Good b) (at : Reach) (f : Fits (view_of b).chunks at) (x y : List RangeBuf) (e : x ≡ copy_within b.«data» at.whole b.count 0)
    (z : y ≡ replicate (length (take (b.count - (b.count - at.whole)) (drop (b.count - at.whole) x))) zero_buf) where
  cut_buf : (d : List RangeBuf) → d ≡ table_of zero_buf (left_at (view_of b).chunks at)
      → ◌≡◌ {A = RecvBuf} (record { «data» = d; count = b.count - at.whole; off = b.off; len = b.len; flow_control = b.flow_control; fin_off = b.fin_off; error = b.error; drain = b.drain; arena_len = b.arena_len })
      (buf_of (with_chunks (view_of b) (left_at (view_of b).chunks at)))
  cut_buf d k = made (with_chunks (view_of b) (left_at (view_of b).chunks at)) d (b.count - at.whole) k (cut_length b.«data» b.count (good.table b g) at f)

  pub cut_whole : b.count - at.whole ≤ 0
      → ◌≡◌ {A = RecvBuf} (record { «data» = put_mid (b.count - at.whole) (b.count - (b.count - at.whole)) x y; count = b.count - at.whole; off = b.off; len = b.len; flow_control = b.flow_control; fin_off = b.fin_off; error = b.error; drain = b.drain; arena_len = b.arena_len })
      (buf_of (with_chunks (view_of b) (left_at (view_of b).chunks at)))
  cut_whole h = cut_buf _ (cut_none b.«data» b.count (good.table b g) at f x y e z h)

  pub first_good : 0 < b.count - at.whole → GoodChunk (get_or (put_mid (b.count - at.whole) (b.count - (b.count - at.whole)) x y) 0 zero_buf)
  first_good h = cut_good b.«data» b.count (good.table b g) at f x y e z (good.all_good b.off (view_of b).chunks (good.apart b g)) h

  pub cut_part : 0 < b.count - at.whole → (v : Outcome ⊤ RangeBuf) → v ≡ consumed (get_or (put_mid (b.count - at.whole) (b.count - (b.count - at.whole)) x y) 0 zero_buf) at.part
      → ◌≡◌ {A = RecvBuf} (record { «data» = set (put_mid (b.count - at.whole) (b.count - (b.count - at.whole)) x y) 0 v.state; count = b.count - at.whole; off = b.off; len = b.len; flow_control = b.flow_control; fin_off = b.fin_off; error = b.error; drain = b.drain; arena_len = b.arena_len })
      (buf_of (with_chunks (view_of b) (left_at (view_of b).chunks at)))
  cut_part h v w = cut_buf _ (cut_some b.«data» b.count (good.table b g) at f x y e z h v w)

-- ---- for `cut`

pub ruleset cuts = (few, chunks_length, cut_whole, first_good, cut_part)
