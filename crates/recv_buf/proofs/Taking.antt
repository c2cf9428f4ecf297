-- How far an emit or a discard reaches, chunk by chunk: what is left of the chunks at an index, and one chunk further on. Assumes nothing.
use Rattle.std.proofs.lemmas.List.{drop_more}
use mathlib.Core.Path.{◌≡◌, refl, ap}
use mathlib.Core.Bool.{Bool, true, false, cond, ◌&&◌}
use mathlib.Core.List.{List, [], ◌∷◌}
use mathlib.Core.Logic.{◌≢◌}
use Prim.Native.Nat.{ℕ, zero, suc, ◌+◌, ◌-◌, ◌≤◌, ◌<◌}
use native.Mathlib.Nat.{add-zero}
use borrow.Author.Tests.{lt-ltb, le-leb, lt-leb, eq-eqb, ne_eqb}
use lib.Dec.{ltb, leb, eqb}
use lib.ListN.{length, drop, get_or, drop_of_length-le}
use Rattle.range_buf.specs.declared.RangeBuf.{RangeBuf}
use Rattle.range_buf.specs.Rules.{start, end, avail, used, zero_buf}
use Rattle.recv_buf.specs.Rules.{taken, left_over, adjoining}
use Rattle.recv_buf.specs.Steps.{put_front}
use Rattle.recv_buf.proofs.Good.{chunk_good}

-- with no room nothing goes
pub taken_zero : (l : List RangeBuf) (off : ℕ) → taken l off 0 ≡ 0
taken_zero [] off = refl
taken_zero (c ∷ cs) off = go (eqb (start c) off)
  where
    go : (t : Bool) → cond (t && ltb 0 0) (cond (leb (avail c) 0) (avail c + taken cs (off + avail c) (0 - avail c)) 0) 0 ≡ 0
    go true = refl
    go false = refl

left_zero : (l : List RangeBuf) (off : ℕ) → left_over l off 0 ≡ l
left_zero [] off = refl
left_zero (c ∷ cs) off = go (eqb (start c) off)
  where
    go : (t : Bool) → cond (t && ltb 0 0) (cond (leb (avail c) 0) (left_over cs (off + avail c) (0 - avail c)) (used c 0 ∷ cs)) (c ∷ cs) ≡ c ∷ cs
    go true = refl
    go false = refl

-- nothing consumed of the first chunk leaves it
used_none : (c : RangeBuf) → used c 0 ≡ c
used_none c = λ j. record { off = c.off; len = c.len; pos = add-zero c.pos j }

pub put_same : (l : List RangeBuf) (i : ℕ) → put_front (used (get_or l i zero_buf) 0) (drop i l) ≡ drop i l
put_same [] zero = refl
put_same [] (suc i) = refl
put_same (c ∷ cs) zero = ap (λ (x : RangeBuf). x ∷ cs) (used_none c)
put_same (c ∷ cs) (suc i) = put_same cs i

-- another first chunk, where there is one
pub put_at : (x : RangeBuf) (l : List RangeBuf) (i : ℕ) → i < length l → put_front x (drop i l) ≡ x ∷ drop (i + 1) l
put_at x l i h = rw (drop_more l i zero_buf h)

-- ---- the chunks from i on

module _ (cs : List RangeBuf) (i off n : ℕ) where
  -- behind the last chunk, and with no room
  pub taken_end : length cs ≤ i → taken (drop i cs) off n ≡ 0
  taken_end h = rw (drop_of_length-le cs h)

  pub left_end : length cs ≤ i → left_over (drop i cs) off n ≡ drop i cs
  left_end h = rw (drop_of_length-le cs h)

  pub taken_full : n ≡ 0 → taken (drop i cs) off n ≡ 0
  taken_full e = rw e (taken_zero (drop i cs) off)

  pub left_full : n ≡ 0 → left_over (drop i cs) off n ≡ drop i cs
  left_full e = rw e (left_zero (drop i cs) off)

  module _ (lt : i < length cs) where
    -- at a hole
    pub taken_apart : start (get_or cs i zero_buf) ≢ off → taken (drop i cs) off n ≡ 0
    taken_apart h = rw (drop_more cs i zero_buf lt, ne_eqb (start (get_or cs i zero_buf)) off h)

    pub left_apart : start (get_or cs i zero_buf) ≢ off → left_over (drop i cs) off n ≡ drop i cs
    left_apart h = rw (drop_more cs i zero_buf lt, ne_eqb (start (get_or cs i zero_buf)) off h)

    module _ (e : start (get_or cs i zero_buf) ≡ off) (some : 0 < n) where
      -- a part of the chunk goes
      pub taken_part : n < avail (get_or cs i zero_buf) → taken (drop i cs) off n ≡ n
      taken_part h = rw (drop_more cs i zero_buf lt, eq-eqb (start (get_or cs i zero_buf)) off e, lt-ltb 0 n some, lt-leb (avail (get_or cs i zero_buf)) n h)

      pub left_part : n < avail (get_or cs i zero_buf) → left_over (drop i cs) off n ≡ used (get_or cs i zero_buf) n ∷ drop (i + 1) cs
      left_part h = rw (drop_more cs i zero_buf lt, eq-eqb (start (get_or cs i zero_buf)) off e, lt-ltb 0 n some, lt-leb (avail (get_or cs i zero_buf)) n h)

      -- the whole of it does
      pub taken_whole : avail (get_or cs i zero_buf) ≤ n
          → taken (drop i cs) off n ≡ avail (get_or cs i zero_buf) + taken (drop (i + 1) cs) (off + avail (get_or cs i zero_buf)) (n - avail (get_or cs i zero_buf))
      taken_whole h = rw (drop_more cs i zero_buf lt, eq-eqb (start (get_or cs i zero_buf)) off e, lt-ltb 0 n some, le-leb (avail (get_or cs i zero_buf)) n h)

      pub left_whole : avail (get_or cs i zero_buf) ≤ n
          → left_over (drop i cs) off n ≡ left_over (drop (i + 1) cs) (off + avail (get_or cs i zero_buf)) (n - avail (get_or cs i zero_buf))
      left_whole h = rw (drop_more cs i zero_buf lt, eq-eqb (start (get_or cs i zero_buf)) off e, lt-ltb 0 n some, le-leb (avail (get_or cs i zero_buf)) n h)

-- ---- the bytes that adjoin, from index i on

module _ (cs : List RangeBuf) (i reached : ℕ) where
  -- behind the last chunk, at a hole, and past a chunk that adjoins
  pub adjoining_end : length cs ≤ i → adjoining (drop i cs) reached ≡ 0
  adjoining_end h = rw (drop_of_length-le cs h)

  pub adjoining_apart : i < length cs → start (get_or cs i zero_buf) ≢ reached → adjoining (drop i cs) reached ≡ 0
  adjoining_apart h n = rw (drop_more cs i zero_buf h, ne_eqb (start (get_or cs i zero_buf)) reached n)

  pub adjoining_more : i < length cs → start (get_or cs i zero_buf) ≡ reached
      → adjoining (drop i cs) reached ≡ avail (get_or cs i zero_buf) + adjoining (drop (i + 1) cs) (end (get_or cs i zero_buf))
  adjoining_more h e = rw (drop_more cs i zero_buf h, eq-eqb (start (get_or cs i zero_buf)) reached e)

-- ---- for `reach` and `adjoining`

pub ruleset takes = (chunk_good, put_same, put_at, taken_end, left_end, taken_full, left_full, taken_apart, left_apart, taken_part, left_part, taken_whole, left_whole)

pub ruleset adjoins = (chunk_good, adjoining_end, adjoining_apart, adjoining_more)
