-- The chunks after a frame, as the code lists them: entry by entry, from the lowest on. Assumes nothing.
use Rattle.std.specs.List.{list_any}
use Rattle.std.proofs.lemmas.List.{drop_more}
use mathlib.Core.Path.{◌≡◌, refl, sym, ap, ◌∙◌}
use mathlib.Core.Bool.{true, false, cond, ◌&&◌, false≢true}
use mathlib.Core.List.{List, [], ◌∷◌, ◌++◌}
use Prim.Native.Nat.{ℕ, ◌+◌, ◌≤◌, ◌<◌, min, max}
use native.Mathlib.Omega.{arith}
use borrow.Author.Tests.{le-ltb, le-leb, lt-leb, eq-eqb, eqb-true}
use lib.Dec.{ltb, eqb}
use lib.ListN.{length, drop, get_or, drop_of_length-le}
use Rattle.tables.proofs.Tables.{cases, by_test}
use Rattle.tables.proofs.Tests.{and_true}
use Rattle.range_buf.specs.declared.RangeBuf.{RangeBuf}
use Rattle.range_buf.specs.State.{Good as GoodChunk}
use Rattle.range_buf.specs.Rules.{start, end, avail, is_empty, fresh, zero_buf}
use Rattle.recv_buf.specs.declared.RecvBuf.{RecvBuf}
use Rattle.recv_buf.specs.State.{view_of, Chain, Within, Good}
use Rattle.recv_buf.specs.Rules.{run, filled, marked_at}
use Rattle.recv_buf.specs.Steps.{listed, pushed_all}
use Rattle.recv_buf.proofs.Lists.{within_weaken}
use Rattle.recv_buf.proofs.Pushing.{push_all, push_listed, push_none, push_run}
use Rattle.recv_buf.proofs.Good.{chunk_good}

-- ---- the mark

pub marked_there : (l : List RangeBuf) (f : ℕ) → list_any (λ c. eqb (end c) f) l ≡ true → marked_at l f ≡ l
marked_there [] f e = let z : ◌≡◌ {A = ℕ} 0 1 = cc in absurd (omega arith)
marked_there (c ∷ cs) f e =
    by_test (eqb (end c) f) (λ y. rw y)
    (λ n. let t : list_any (λ c. eqb (end c) f) cs ≡ true = rw n at e in rw n (ap (λ (l : List RangeBuf). c ∷ l) (marked_there cs f t)))

pub marked_new : (l : List RangeBuf) (f : ℕ) → list_any (λ c. eqb (end c) f) l ≡ false → marked_at l f ≡ l ++ (fresh f 0 ∷ [])
marked_new [] f e = refl
marked_new (c ∷ cs) f e =
    by_test (eqb (end c) f) (λ y. let h : true ≡ false = rw y at e in let z : ◌≡◌ {A = ℕ} 0 1 = cc in absurd (omega arith))
    (λ n. let t : list_any (λ c. eqb (end c) f) cs ≡ false = rw n at e in rw n (ap (λ (l : List RangeBuf). c ∷ l) (marked_new cs f t)))

-- ---- a step of the runs

-- no bytes came: the chunks stay
pub filled_none : (cs : List RangeBuf) (lo hi : ℕ) → hi ≤ lo → filled cs lo hi ≡ cs
filled_none [] lo hi h = rw (le-ltb lo hi h)
filled_none (c ∷ cs) lo hi h =
    cases (start c) hi
    (λ lt. rw (lt-leb hi (start c) lt, le-ltb lo (start c) (omega arith)) (ap (λ (l : List RangeBuf). c ∷ l) (filled_none cs (max lo (end c)) hi (omega arith))))
    (λ le. rw (le-leb hi (start c) le, le-ltb lo hi h))

-- before a chunk a run ends where that starts, or at hi. An empty chunk where the last run ends goes; any other stays
module _ (c : RangeBuf) (cs : List RangeBuf) (lo hi : ℕ) (good : GoodChunk c) where
  step_low : start c < hi → filled (c ∷ cs) lo hi ≡ run lo (min (start c) hi) (c ∷ filled cs (max lo (end c)) hi)
  step_low h = let m : min (start c) hi ≡ start c = omega arith in rw (m, lt-leb hi (start c) h)

  step_high : hi ≤ start c → filled (c ∷ cs) lo hi ≡ run lo (min (start c) hi) (cond (ltb lo hi && eqb (end c) hi) (filled cs (max lo (end c)) hi) (c ∷ filled cs (max lo (end c)) hi))
  step_high h =
      let m : min (start c) hi ≡ hi = omega arith in
      let none : filled cs (max lo (end c)) hi ≡ cs = filled_none cs (max lo (end c)) hi (omega (arith, good.used_in)) in
      rw (m, none, le-leb hi (start c) h) (by_test (ltb lo hi) (λ y. rw y) (λ n. rw n))

  filled_goes : (ltb lo hi && eqb (start c) hi && is_empty c) ≡ true → filled (c ∷ cs) lo hi ≡ run lo (min (start c) hi) (filled cs (max lo (end c)) hi)
  filled_goes e =
      let p = and_true (ltb lo hi && eqb (start c) hi) (is_empty c) e in
      let q = and_true (ltb lo hi) (eqb (start c) hi) p.0 in
      let at : start c ≡ hi = eqb-true (start c) hi q.1 in
      let ends : end c ≡ hi = omega (arith, at, good.used_in, eqb-true (avail c) 0 p.1) in
      step_high (omega arith) ∙ rw (q.0, eq-eqb (end c) hi ends)

  filled_stays : (ltb lo hi && eqb (start c) hi && is_empty c) ≡ false → filled (c ∷ cs) lo hi ≡ run lo (min (start c) hi) (c ∷ filled cs (max lo (end c)) hi)
  filled_stays e =
      cases (start c) hi step_low
      (λ le.
      step_high le
      ∙ by_test (ltb lo hi)
      (λ y. by_test (eqb (end c) hi)
      (λ z.
      let ends = eqb-true (end c) hi z in
      let bad : false ≡ true = sym e ∙ rw (y, eq-eqb (start c) hi (omega (arith, good.used_in)), eq-eqb (avail c) 0 (omega (arith, good.used_in))) in
      absurd (false≢true bad))
      (λ z. rw (y, z)))
      (λ n. rw n))

-- no chunk ends above lo: the bytes come behind them all
filled_behind : (cs : List RangeBuf) (low lo hi : ℕ) → Chain low cs → Within lo cs → filled cs lo hi ≡ cs ++ run lo hi []
filled_behind [] low lo hi k w = refl
filled_behind (c ∷ cs) low lo hi k w =
    let m : max lo (end c) ≡ lo = omega (arith, w.0) in
    let first : filled (c ∷ cs) lo hi ≡ c ∷ filled cs (max lo (end c)) hi =
    cases (start c) hi
    (λ lt. rw (lt-leb hi (start c) lt, le-ltb lo (start c) (omega (arith, w.0, k.1))))
    (λ le. let h : hi ≤ lo = omega (arith, w.0, k.1) in rw (filled_none cs (max lo (end c)) hi (omega arith), le-leb hi (start c) le, le-ltb lo hi h)) in
    first ∙ rw m (ap (λ (l : List RangeBuf). c ∷ l) (filled_behind cs (end c) lo hi k.2 w.1))

-- ---- the chunks from index i on

module _ (cs : List RangeBuf) (i lo hi : ℕ) where
  pub fills_end : length cs ≤ i → filled (drop i cs) lo hi ≡ run lo hi []
  fills_end h = rw (drop_of_length-le cs h)

  module _ (lt : i < length cs) (good : GoodChunk (get_or cs i zero_buf)) where
    pub fills_goes : (ltb lo hi && eqb (start (get_or cs i zero_buf)) hi && is_empty (get_or cs i zero_buf)) ≡ true
        → filled (drop i cs) lo hi ≡ run lo (min (start (get_or cs i zero_buf)) hi) (filled (drop (i + 1) cs) (max lo (end (get_or cs i zero_buf))) hi)
    fills_goes e = rw (drop_more cs i zero_buf lt) (filled_goes _ _ lo hi good e)

    pub fills_stays : (ltb lo hi && eqb (start (get_or cs i zero_buf)) hi && is_empty (get_or cs i zero_buf)) ≡ false
        → filled (drop i cs) lo hi ≡ run lo (min (start (get_or cs i zero_buf)) hi) (get_or cs i zero_buf ∷ filled (drop (i + 1) cs) (max lo (end (get_or cs i zero_buf))) hi)
    fills_stays e = rw (drop_more cs i zero_buf lt) (filled_stays _ _ lo hi good e)

-- bytes behind all that was seen
pub fills_behind : (b : RecvBuf) → Good b → (lo hi : ℕ) → b.len ≤ lo
    → pushed_all (listed (view_of b).chunks) (run lo hi []) ≡ listed (filled (view_of b).chunks lo hi)
fills_behind b g lo hi h =
    push_all (view_of b).chunks (run lo hi [])
    ∙ ap listed (sym (filled_behind (view_of b).chunks b.off lo hi g.facts.chain (within_weaken b.len lo (view_of b).chunks h g.facts.within)))

-- ---- for the functions that list the chunks after a frame

pub ruleset marks = (marked_there, marked_new, push_listed)

pub ruleset fills = (chunk_good, push_none, push_run, fills_behind, fills_end, fills_goes, fills_stays)

pub ruleset lists = (filled_none)
