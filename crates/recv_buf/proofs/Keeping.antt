-- The arena after a frame: the bytes that are new are kept run by run. Assumes nothing.
use Rattle.std.proofs.lemmas.List.{drop_more}
use mathlib.Core.Path.{◌≡◌, refl, sym, ◌∙◌}
use mathlib.Core.Bool.{Bool, true, false, not, ◌&&◌, ◌||◌, and-false}
use mathlib.Core.List.{List, [], ◌∷◌}
use Prim.Native.Nat.{ℕ, zero, suc, ◌+◌, ◌-◌, ◌%◌, ◌≤◌, ◌<◌, min, max}
use native.Mathlib.Nat.{add-zero}
use native.Mathlib.Omega.{arith}
use borrow.Author.Tests.{lt-ltb, le-ltb, le-leb, lt-leb}
use lib.Dec.{ltb, leb}
use lib.ListN.{length, take, drop, get_or, set, drop_of_length-le}
use lib.Seq.{drop-drop}
use Rattle.tables.proofs.Tables.{cases}
use Rattle.arena.specs.Rules.{kept}
use Rattle.arena.proofs.Laws.{kept_none}
use Rattle.range_buf.specs.declared.RangeBuf.{RangeBuf}
use Rattle.range_buf.specs.Rules.{start, end, zero_buf}
use Rattle.recv_buf.specs.declared.RecvBuf.{RecvBuf}
use Rattle.recv_buf.specs.State.{Recv, view_of, Chain, Good}
use Rattle.recv_buf.specs.Rules.{holds, kept_new}
use Rattle.recv_buf.proofs.Good.{chunk_good}
use Rattle.recv_buf.proofs.Lists.{held_not, chain_held, within_held}

-- the byte of offset q is new
abbrev pub is_new : Recv → ℕ → Bool
is_new r q = leb r.off q && not (holds r.chunks q)

-- ---- a stretch of k offsets

-- none of them is new
new_skip : (r : Recv) (ar : List ℕ) (o k : ℕ) (xs : List ℕ) → ((q : ℕ) → o ≤ q → q < o + k → is_new r q ≡ false)
    → kept_new r ar o xs ≡ kept_new r ar (o + k) (drop k xs)
new_skip r ar o zero xs h = rw (add-zero o)
new_skip r ar o (suc k) [] h = refl
new_skip r ar o (suc k) (x ∷ xs) h =
    let e : suc o + k ≡ o + suc k = omega arith in
    rw (h o (omega arith) (omega arith)) (new_skip r ar (suc o) k xs (λ q a b. h q (omega arith) (omega arith)) ∙ rw e)

-- all of them are
new_run : (r : Recv) (ar : List ℕ) (o k : ℕ) (xs : List ℕ) → ((q : ℕ) → o ≤ q → q < o + k → is_new r q ≡ true)
    → kept_new r ar o xs ≡ kept_new r (kept ar o (take k xs)) (o + k) (drop k xs)
unfolding kept
new_run r ar o zero xs h = rw (add-zero o)
new_run r ar o (suc k) [] h = refl
new_run r ar o (suc k) (x ∷ xs) h =
    let e : suc o + k ≡ o + suc k = omega arith in
    rw (h o (omega arith) (omega arith)) (new_run r (set ar (o % length ar) x) (suc o) k xs (λ q a b. h q (omega arith) (omega arith)) ∙ rw e)

-- ---- what the chunks hold

-- nothing below the first
holds_below : (lo : ℕ) (l : List RangeBuf) (q : ℕ) → Chain lo l → q < lo → holds l q ≡ false
holds_below lo l q k h = held_not l q (λ x. omega (arith, chain_held lo l q k x))

module _ (c : RangeBuf) (cs : List RangeBuf) (q : ℕ) where
  holds_before : Chain (end c) cs → c.pos ≤ c.len → q < start c → holds (c ∷ cs) q ≡ false
  holds_before k u h = rw (lt-leb (start c) q h, holds_below (end c) cs q k (omega arith))

  holds_in : start c ≤ q → q < end c → holds (c ∷ cs) q ≡ true
  holds_in a b = rw (le-leb (start c) q a, lt-ltb q (end c) b)

  holds_behind : end c ≤ q → holds (c ∷ cs) q ≡ holds cs q
  holds_behind h = go (leb (start c) q) ∙ refl
    where
      go : (t : Bool) → (t && ltb q (end c) || holds cs q) ≡ holds cs q
      go true = rw (le-ltb q (end c) h)
      go false = refl

-- ---- run by run

module _ (s : ℕ) (input : List ℕ) where
  -- the runs before each of the chunks are kept, from lo on, and the one behind them all
  abbrev pub run_by_run : List RangeBuf → ℕ → List ℕ → List ℕ
  run_by_run [] lo ar = kept ar lo (take (s + length input - lo) (drop (lo - s) input))
  run_by_run (c ∷ cs) lo ar = run_by_run cs (max lo (end c)) (kept ar lo (take (min (start c) (s + length input) - lo) (drop (lo - s) input)))

  pub runs_end : (cs : List RangeBuf) (i lo : ℕ) (ar : List ℕ) → length cs ≤ i
      → run_by_run (drop i cs) lo ar ≡ kept ar lo (take (s + length input - lo) (drop (lo - s) input))
  runs_end cs i lo ar h = rw (drop_of_length-le cs h)

  pub runs_more : (cs : List RangeBuf) (i lo : ℕ) (ar : List ℕ) → i < length cs
      → run_by_run (drop i cs) lo ar
      ≡ run_by_run (drop (i + 1) cs) (max lo (end (get_or cs i zero_buf))) (kept ar lo (take (min (start (get_or cs i zero_buf)) (s + length input) - lo) (drop (lo - s) input)))
  runs_more cs i lo ar h = rw (drop_more cs i zero_buf h)

  module _ (r : Recv) where
    -- the bytes up to hi, of which no chunk holds one
    kept_to : (ar : List ℕ) (lo hi : ℕ) → s ≤ lo → r.off ≤ lo → ((q : ℕ) → lo ≤ q → q < hi → holds r.chunks q ≡ false)
        → kept_new r (kept ar lo (take (hi - lo) (drop (lo - s) input))) (max lo hi) (drop (max lo hi - s) input) ≡ kept_new r ar lo (drop (lo - s) input)
    kept_to ar lo hi a b h =
        let e : lo + (hi - lo) ≡ max lo hi = omega arith in
        let d : lo - s + (hi - lo) ≡ max lo hi - s = omega (arith, a) in
        sym (new_run r ar lo (hi - lo) (drop (lo - s) input)
        (λ q x y. rw (le-leb r.off q (omega (arith, b)), h q x (omega arith)))
        ∙ rw (e, drop-drop (hi - lo) (lo - s) input, d))

    -- what is new is what lies in the runs
    kept_runs : (cs : List RangeBuf) (low lo : ℕ) (ar : List ℕ) → Chain low cs → s ≤ lo → r.off ≤ lo → ((q : ℕ) → lo ≤ q → holds r.chunks q ≡ holds cs q)
        → run_by_run cs lo ar ≡ kept_new r ar lo (drop (lo - s) input)
    kept_runs [] low lo ar k a b h =
        let z : drop (max lo (s + length input) - s) input ≡ [] = drop_of_length-le input {i = max lo (s + length input) - s} (omega arith) in
        rw z at (kept_to ar lo (s + length input) a b (λ q x y. h q x))
    kept_runs (c ∷ cs) low lo ar k a b h =
        let hi = min (start c) (s + length input) in
        let ar' : List ℕ = kept ar lo (take (hi - lo) (drop (lo - s) input)) in
        let first = kept_to ar lo hi a b (λ q y z. h q y ∙ holds_before c cs q k.2 k.1 (omega arith)) in
        let past : kept_new r ar' (max lo (end c)) (drop (max lo (end c) - s) input) ≡ kept_new r ar' (max lo hi) (drop (max lo hi - s) input) =
        cases (s + length input) (start c)
        (λ l.
        let x : drop (max lo hi - s) input ≡ [] = drop_of_length-le input {i = max lo hi - s} (past_end s lo hi (length input) (start c) refl l) in
        let y : drop (max lo (end c) - s) input ≡ [] = drop_of_length-le input {i = max lo (end c) - s} (past_all s lo (start c) (end c) (length input) l (omega (arith, k.1))) in
        rw (x, y))
        (λ l.
        let m : hi ≡ start c = omega arith in
        let e : max lo hi + (max lo (end c) - max lo hi) ≡ max lo (end c) = over lo hi (end c) (omega (arith, k.1)) in
        let d : max lo hi - s + (max lo (end c) - max lo hi) ≡ max lo (end c) - s = over_from s lo hi (end c) a (omega (arith, k.1)) in
        sym (new_skip r ar' (max lo hi) (max lo (end c) - max lo hi) (drop (max lo hi - s) input)
        (λ q y z.
        let w : holds r.chunks q ≡ true = h q (omega arith) ∙ holds_in c cs q (omega arith) (below_end lo hi (end c) q y z (omega (arith, k.1))) in
        rw w (and-false (leb r.off q)))
        ∙ rw (e, drop-drop (max lo (end c) - max lo hi) (max lo hi - s) input, d))) in
        kept_runs cs (end c) (max lo (end c)) ar' k.2 (omega arith) (omega arith) (λ q x. h q (omega arith) ∙ holds_behind c cs q (omega arith))
        ∙ past
        ∙ first
      where
        past_end : (s lo hi n st : ℕ) → hi ≡ min st (s + n) → s + n < st → n ≤ max lo hi - s
        past_end s lo hi n st e l = omega arith

        past_all : (s lo st en n : ℕ) → s + n < st → st ≤ en → n ≤ max lo en - s
        past_all s lo st en n l h = omega arith

        over : (lo hi en : ℕ) → hi ≤ en → max lo hi + (max lo en - max lo hi) ≡ max lo en
        over lo hi en h = omega arith

        over_from : (s lo hi en : ℕ) → s ≤ lo → hi ≤ en → max lo hi - s + (max lo en - max lo hi) ≡ max lo en - s
        over_from s lo hi en a h = omega arith

        below_end : (lo hi en q : ℕ) → max lo hi ≤ q → q < max lo hi + (max lo en - max lo hi) → hi ≤ en → q < en
        below_end lo hi en q a l h = omega arith

-- ---- of a buffer

module _ (b : RecvBuf) (g : Good b) (s : ℕ) (input ar : List ℕ) where
  -- what lies below off is ignored
  from_off : kept_new (view_of b) ar (max s b.off) (drop (max s b.off - s) input) ≡ kept_new (view_of b) ar s input
  from_off =
      let e : s + (max s b.off - s) ≡ max s b.off = omega arith in
      sym (new_skip (view_of b) ar s (max s b.off - s) input (λ q x y. rw (lt-leb b.off q (omega arith))) ∙ rw e)

  pub runs_whole : run_by_run s input (view_of b).chunks (max s b.off) ar ≡ kept_new (view_of b) ar s input
  runs_whole = kept_runs s input (view_of b) (view_of b).chunks b.off (max s b.off) ar g.facts.chain (omega arith) (omega arith) (λ q x. refl) ∙ from_off

  -- bytes behind all that was seen are one run
  pub runs_behind : b.len ≤ max s b.off → kept ar (max s b.off) (take (s + length input - max s b.off) (drop (max s b.off - s) input)) ≡ kept_new (view_of b) ar s input
  runs_behind h =
      kept_runs s input (view_of b) [] b.off (max s b.off) ar tt (omega arith) (omega arith)
      (λ q x. held_not (view_of b).chunks q (λ y. omega (arith, within_held b.len (view_of b).chunks q g.facts.within y)))
      ∙ from_off

-- one run of an input
pub run_part : (s lo hi : ℕ) (xs : List ℕ) → s ≤ lo → take (hi - s - (lo - s)) (drop (lo - s) xs) ≡ take (hi - lo) (drop (lo - s) xs)
run_part s lo hi xs h =
    let z : hi - s - (lo - s) ≡ hi - lo = omega arith in
    rw z

pub run_none : (ar : List ℕ) (lo hi : ℕ) (xs : List ℕ) → hi ≤ lo → kept ar lo (take (hi - lo) xs) ≡ ar
run_none ar lo hi xs h =
    let z : hi - lo ≡ 0 = omega arith in
    rw z (kept_none ar lo)

-- ---- for the functions that keep the bytes

pub ruleset one_run = (run_part, run_none)

pub ruleset runs = (chunk_good, runs_end, runs_more, runs_whole, runs_behind)
