-- Cut points, and how many kept chunks a window of A bytes can hold if the chunks' edges are cut points. Assumes nothing.
--
-- Frames end at CUT POINTS: any two are at least L apart, but for the last, `top`, which is the final size (or any number above all offsets).
-- Every kept chunk then ends at a cut, and starts at one or at `off`; so the chunks are few.
--
--   Grid, OnGrid, on_grid    cut points; the multiples of L, and top
--   Edges                    the chunks' edges are cuts: kept by a frame, a mark, an emit      filled_edges, marked_edges, left_edges
--   left_stands, ..-ready    `off` is a cut, unless something is ready
--   few                      at most 64 chunks, if A ≤ 63 L
--   few_ready                at most 64 chunks, if A < 64 L, `off` is a cut and the first chunk starts there
use mathlib.Core.Path.{◌≡◌, subst}
use mathlib.Core.Logic.{◌⊎◌, inl, inr}
use mathlib.Core.Bool.{true, false≢true}
use mathlib.Core.List.{List, [], ◌∷◌}
use Prim.Native.Nat.{ℕ, suc, ◌+◌, ◌-◌, ◌*◌, ◌≤◌, ◌<◌, max}
use native.Mathlib.Nat.{mul-le-mul_left, mul-suc, mul-zero}
use native.Mathlib.Omega.{arith}
use lib.Dec.{ltb, eqb}
use lib.ListN.{length}
use borrow.Author.Tests.{ltb-true, eqb-true, eqb-false, eq-eqb}
use Rattle.tables.proofs.Tables.{cases, cond_elim}
use Rattle.range_buf.specs.declared.RangeBuf.{RangeBuf}
use Rattle.range_buf.specs.Rules.{start, end, avail}
use Rattle.recv_buf.specs.State.{Chain, Held}
use Rattle.recv_buf.specs.Rules.{filled, marked_at, is_ready, taken, left_over}
use Rattle.recv_buf.proofs.Lists.{chain_held, chain_weaken, filled_elim, taken_elim}
use Rattle.tables.proofs.Tests.{either}

-- ---- cut points

pub record Grid (Cut : ℕ → Type 0) (L top : ℕ) : Type 0 where
  pub apart : (x y : ℕ) → Cut x → Cut y → x < y → (x + L ≤ y) ⊎ (y ≡ top)
  pub below : (x : ℕ) → Cut x → x ≤ top

-- the multiples of L up to top, and top
abbrev pub OnGrid : ℕ → ℕ → ℕ → Type 0
OnGrid L top x = (x ≤ top) × ((x ≡ top) ⊎ ((k : ℕ) × (x ≡ L * k)))

pub on_grid : (L top : ℕ) → Grid (OnGrid L top) L top
on_grid L top = record { apart = go; below = λ x h. h.0 }
  where
    go : (x y : ℕ) → OnGrid L top x → OnGrid L top y → x < y → (x + L ≤ y) ⊎ (y ≡ top)
    go x y (a, p) (b, inl e) h = inr e
    go x y (a, inl e) (b, inr q) h = absurd (omega arith)
    go x y (a, inr (k, d)) (b, inr (l, e)) h =
        cases k l
        (λ z. let m : L * suc k ≤ L * l = mul-le-mul_left L z in inl (omega (arith, m, mul-suc L k)))
        (λ z. let m : L * l ≤ L * k = mul-le-mul_left L z in absurd (omega (arith, m)))

-- ---- the chunks' edges

-- the next chunk ends above e
abbrev Next : ℕ → List RangeBuf → Type 0
Next e [] = Unit {0}
Next e (c ∷ cs) = e < end c

-- each chunk starts at a cut or at off and ends at a cut; only the one at the very end may be empty; ends rise
abbrev Low : (ℕ → Type 0) → ℕ → ℕ → Type 0
Low Cut off x = Cut x ⊎ (x ≡ off)

abbrev pub Edges : (ℕ → Type 0) → ℕ → ℕ → List RangeBuf → Type 0
Edges Cut top off [] = Unit {0}
Edges Cut top off (c ∷ cs) = Low Cut off (start c) × Cut (end c) × ((start c < end c) ⊎ (end c ≡ top)) × Next (end c) cs × Edges Cut top off cs

next_weaken : (e e' : ℕ) (cs : List RangeBuf) → e' ≤ e → Next e cs → Next e' cs
next_weaken e e' [] h k = tt
next_weaken e e' (c ∷ cs) h k = omega arith

filled_next : (cs : List RangeBuf) (e lo hi : ℕ) → e ≤ lo → Next e cs → Next e (filled cs lo hi)
filled_next [] e lo hi a k = cond_elim (Next e) (ltb lo hi) (λ d. omega (arith, ltb-true lo hi d)) (λ d. tt)
filled_next (c ∷ cs) e lo hi a k =
    filled_elim (Next e) c cs lo hi (λ x y. k) (λ x y z. omega arith) (λ x y z. omega arith) (λ x y. omega arith) (λ x y. k)

module _ (Cut : ℕ → Type 0) (top : ℕ) where
  pub filled_edges : (off : ℕ) (cs : List RangeBuf) (lo₀ lo hi : ℕ) → lo₀ ≤ lo → off ≤ lo → hi ≤ top → Chain lo₀ cs → Edges Cut top off cs
      → (lo < hi → (Held cs lo → ⊥) → Low Cut off lo) → (lo < hi → (Held cs (hi - 1) → ⊥) → Cut hi) → Edges Cut top off (filled cs lo hi)
  filled_edges off [] lo₀ lo hi a b t k g p q = cond_elim (Edges Cut top off) (ltb lo hi)
      (λ e. let h = ltb-true lo hi e in
      (subst (Low Cut off) (omega arith) (p h (λ z. z)), subst Cut (omega arith) (q h (λ z. z)), inl (omega arith), tt, tt))
      (λ e. tt)
  filled_edges off (c ∷ cs) lo₀ lo hi a b t k g p q =
      let ih = filled_edges off cs (end c) (max lo (end c)) hi (omega arith) (omega arith) t k.2 g.4 in
      let hi' : lo < hi → max lo (end c) < hi → (Held cs (hi - 1) → ⊥) → Cut hi = λ y u v. q y (λ h. either h (λ w. omega arith) v) in
      let first : lo < hi → lo < start c → Low Cut off lo =
      λ y x. p y (λ h. either h (λ w. omega arith) (λ w. omega (arith, chain_held (end c) cs lo k.2 w))) in
      let last : lo < hi → hi ≤ start c → Cut hi =
      λ y x. q y (λ h. either h (λ w. omega arith) (λ w. omega (arith, chain_held (end c) cs (hi - 1) k.2 w))) in
      let atEnd : lo < end c → Low Cut off (max lo (end c)) = λ y. inl (subst Cut (omega arith) g.1) in
      filled_elim (Edges Cut top off) c cs lo hi
      (λ x y. g)
      (λ x y z. (
        subst (Low Cut off) (omega arith) (first y (omega arith)),
        subst Cut (omega arith) g.1,
        inl (omega arith),
        next_weaken (end c) (lo + (hi - lo)) cs (omega arith) g.3,
        g.4,
      ))
      (λ x y z. (subst (Low Cut off) (omega arith) (first y (omega arith)), subst Cut (omega arith) (last y x), inl (omega arith), omega arith, g))
      (λ x y. (
        subst (Low Cut off) (omega arith) (first (omega arith) y),
        subst Cut (omega arith) (either g.0 (λ z. z) (λ z. absurd (omega arith))),
        inl (omega arith),
        either g.2 (λ z. omega arith) (λ z. omega arith),
        (
          g.0,
          g.1,
          g.2,
          filled_next cs (end c) (max lo (end c)) hi (omega arith) g.3,
          ih (λ u v. atEnd (omega arith)) (hi' (omega arith)),
        ),
      ))
      (λ x y. (
        g.0,
        g.1,
        g.2,
        filled_next cs (end c) (max lo (end c)) hi (omega arith) g.3,
        ih (λ u v. cases lo (end c) atEnd
            (λ z. subst (Low Cut off) (omega arith) (p (omega arith) (λ h. either h (λ w. omega arith) (λ w. v (subst (Held cs) (omega arith) w))))))
            (λ u. hi' (omega arith) u),
      ))

  marked_next : (cs : List RangeBuf) (e f : ℕ) → e < f → Next e cs → Next e (marked_at cs f)
  marked_next [] e f h k = omega arith
  marked_next (c ∷ cs) e f h k = cond_elim (Next e) (eqb (end c) f) (λ d. k) (λ d. k)

  pub marked_edges : (off : ℕ) (cs : List RangeBuf) → ((x : ℕ) → Cut x → x ≤ top) → Cut top → Edges Cut top off cs → Edges Cut top off (marked_at cs top)
  marked_edges off [] b t g = (inl (subst Cut (omega arith) t), subst Cut (omega arith) t, inr (omega arith), tt, tt)
  marked_edges off (c ∷ cs) b t g = cond_elim (Edges Cut top off) (eqb (end c) top) (λ e. g)
      (λ e. let n : (end c ≡ top) → ⊥ = eqb-false (end c) top e in
      (g.0, g.1, g.2, marked_next cs (end c) top (omega (arith, b (end c) g.1)) g.3, marked_edges off cs b t g.4))

  -- `off` moves on: what started at it still starts above or at it
  edges_at : (off off' : ℕ) (cs : List RangeBuf) → off ≤ off' → Chain off' cs → Edges Cut top off cs → Edges Cut top off' cs
  edges_at off off' [] h k g = tt
  edges_at off off' (c ∷ cs) h k g = (
    either g.0 (λ x. inl x) (λ x. inr (omega arith)),
    g.1,
    g.2,
    g.3,
    edges_at off off' cs h (chain_weaken (end c) off' cs (omega arith) k.2) g.4,
  )

  pub left_edges : (cs : List RangeBuf) (off n : ℕ) → Chain off cs → Edges Cut top off cs → Edges Cut top (off + taken cs off n) (left_over cs off n)
  left_edges [] off n k g = tt
  left_edges (c ∷ cs) off n k g = taken_elim (λ (x : ℕ) (l : List RangeBuf). Edges Cut top (off + x) l) c cs off n
      (λ e a b. let h = chain_weaken (end c) (off + avail c) cs (omega arith) k.2 in
      subst (λ (x : ℕ). Edges Cut top x (left_over cs (off + avail c) (n - avail c))) (omega arith)
      (left_edges cs (off + avail c) (n - avail c) h (edges_at off (off + avail c) cs (omega arith) h g.4)))
      (λ e a. (
        inr (omega arith),
        g.1,
        inl (omega arith),
        g.3,
        edges_at off (off + n) cs (omega arith) (chain_weaken (end c) (off + n) cs (omega arith) k.2) g.4,
      ))
      (edges_at off (off + 0) (c ∷ cs) (omega arith) (chain_weaken off (off + 0) (c ∷ cs) (omega arith) k) g)

  -- `off` is a cut, unless something is ready
  pub left_stands : (cs : List RangeBuf) (off n : ℕ) → Chain off cs → Edges Cut top off cs → Cut off ⊎ (is_ready cs off ≡ true)
      → Cut (off + taken cs off n) ⊎ (is_ready (left_over cs off n) (off + taken cs off n) ≡ true)
  left_stands [] off n k g (inl x) = inl (subst Cut (omega arith) x)
  left_stands [] off n k g (inr x) = absurd (false≢true x)
  left_stands (c ∷ cs) off n k g d = taken_elim (λ (x : ℕ) (l : List RangeBuf). Cut (off + x) ⊎ (is_ready l (off + x) ≡ true)) c cs off n
      (λ e a b. let h = chain_weaken (end c) (off + avail c) cs (omega arith) k.2 in
      subst (λ (x : ℕ). Cut x ⊎ (is_ready (left_over cs (off + avail c) (n - avail c)) x ≡ true)) (omega arith)
      (left_stands cs (off + avail c) (n - avail c) h (edges_at off (off + avail c) cs (omega arith) h g.4) (inl (subst Cut (omega arith) g.1))))
      (λ e a. inr (eq-eqb (c.off + (c.pos + n)) (off + n) (omega arith)))
      (subst (λ (x : ℕ). Cut x ⊎ (is_ready (c ∷ cs) x ≡ true)) (omega arith) d)

pub filled_ready : (cs : List RangeBuf) (off lo hi : ℕ) → off ≤ lo → is_ready cs off ≡ true → is_ready (filled cs lo hi) off ≡ true
filled_ready [] off lo hi a e = absurd (false≢true e)
filled_ready (c ∷ cs) off lo hi a e =
    let s = eqb-true (start c) off e in
    filled_elim (λ (x : List RangeBuf). is_ready x off ≡ true) c cs lo hi
    (λ x y. e) (λ x y z. absurd (omega arith)) (λ x y z. absurd (omega arith)) (λ x y. absurd (omega arith)) (λ x y. e)

pub marked_ready : (cs : List RangeBuf) (off f : ℕ) → is_ready cs off ≡ true → is_ready (marked_at cs f) off ≡ true
marked_ready [] off f e = absurd (false≢true e)
marked_ready (c ∷ cs) off f e = cond_elim (λ (x : List RangeBuf). is_ready x off ≡ true) (eqb (end c) f) (λ d. e) (λ d. e)

-- ---- how many chunks a window of A bytes can hold

module _ (Cut : ℕ → Type 0) (L top : ℕ) (grid : Grid Cut L top) where
  -- a chunk with another behind it holds bytes
  solid : (off : ℕ) (c d : RangeBuf) (ds : List RangeBuf) → Edges Cut top off (c ∷ d ∷ ds) → (start c < end c) × (end c < top)
  solid off c d ds g =
      let b = grid.below (end d) g.4.1 in
      (either g.2 (λ x. x) (λ x. absurd (omega (arith, g.3))), omega (arith, g.3))

  spread : (off B : ℕ) (c d : RangeBuf) (ds : List RangeBuf) → Edges Cut top off (c ∷ d ∷ ds) → ((o : ℕ) → Held (c ∷ d ∷ ds) o → o < B) → end c + L * length ds ≤ B
  spread off B c d [] g h = let s = solid off c d [] g in omega (arith, h (end c - 1) (inl (omega arith)), mul-zero L)
  spread off B c d (f ∷ fs) g h =
      let s = solid off d f fs g.4 in
      let ih = spread off B d f fs g.4 (λ o x. h o (inr x)) in
      either (grid.apart (end c) (end d) g.1 g.4.1 g.3) (λ x. omega (arith, x, ih, mul-suc L (length fs))) (λ x. absurd (omega arith))

  -- 64 suffice: always, if A is at most 63 L
  pub few : (off A : ℕ) (cs : List RangeBuf) → A ≤ 63 * L → Chain off cs → Edges Cut top off cs → ((o : ℕ) → Held cs o → o < off + A) → length cs ≤ 64
  few off A [] a k g h = omega arith
  few off A (c ∷ []) a k g h = omega arith
  few off A (c ∷ d ∷ ds) a k g h = cases (length ds) 63 (λ x. omega arith)
      (λ x. let m : L * 63 ≤ L * length ds = mul-le-mul_left L x in
      let s = solid off c d ds g in
      absurd (omega (arith, m, spread off (off + A) c d ds g h, k.0)))

  -- and where the first chunk starts at off, and off is a cut, if A is below 64 L
  pub few_ready : (off A : ℕ) (cs : List RangeBuf) → A < 64 * L → Cut off → is_ready cs off ≡ true → Edges Cut top off cs → ((o : ℕ) → Held cs o → o < off + A)
      → length cs ≤ 64
  few_ready off A [] a z e g h = omega arith
  few_ready off A (c ∷ []) a z e g h = omega arith
  few_ready off A (c ∷ d ∷ ds) a z e g h =
      let s = solid off c d ds g in
      let q = eqb-true (start c) off e in
      cases (length ds) 63 (λ x. omega arith)
      (λ x. let m : L * 63 ≤ L * length ds = mul-le-mul_left L x in
      either (grid.apart off (end c) z g.1 (omega arith))
      (λ y. absurd (omega (arith, m, spread off (off + A) c d ds g h)))
      (λ y. absurd (omega arith)))
