-- The laws of a receive buffer's list of chunks: what is held, in order and within bounds, before and after a frame fills it, a mark enters it
-- and an emit takes from it. Assumes nothing.
--
--   holds, Held                 the test and the fact say the same             holds_held, holds_not, held_holds, held_not
--   Chain, Within               of a higher or lower bound, and from i on      chain_weaken, chain_drop, within_weaken, within_drop
--   filled                      keeps order and bounds                         filled_chain, filled_within
--                               holds what was held and lo..hi, and no more    filled_held, held_filled, filled_whole
--   marked_at                    the same; it holds no more                     marked_chain, marked_within, marked_held, held_marked
--   taken, left_over             what goes was held and adjoins off             taken_held, taken_within, taken_most, taken_stops, taken_adjoining
--                               what stays is the rest                         left_chain, left_within, left_held, held_left, left_length
--                               draining comes to an end                       weight_left, weight_falls, held_ready
use mathlib.Core.Path.{◌≡◌, refl, subst}
use mathlib.Core.Logic.{◌⊎◌, inl, inr}
use mathlib.Core.Bool.{Bool, true, false, cond, ◌&&◌, false≢true}
use mathlib.Core.List.{List, [], ◌∷◌}
use Prim.Native.Nat.{ℕ, zero, suc, ◌+◌, ◌-◌, ◌≤◌, ◌<◌, min, max}
use native.Mathlib.Omega.{arith}
use borrow.Author.Tests.{ltb-true, ltb-false, leb-true, leb-false, eqb-true, eqb-false, eq-eqb}
use lib.Dec.{ltb, leb, eqb}
use lib.ListN.{length, drop}
use Rattle.tables.proofs.Tables.{cases, cond_elim}
use Rattle.tables.proofs.Tests.{either, and_true, and-false, or-true, or_false}
use Rattle.range_buf.specs.declared.RangeBuf.{RangeBuf}
use Rattle.range_buf.specs.Rules.{start, end, avail, fresh, used}
use Rattle.recv_buf.specs.State.{Chain, Within, Held}
use Rattle.recv_buf.specs.Rules.{filled, marked_at, holds, is_ready, taken, left_over, adjoining}

-- ---- held, in order, within

pub holds_held : (cs : List RangeBuf) (o : ℕ) → holds cs o ≡ true → Held cs o
holds_held [] o e = absurd (false≢true e)
holds_held (c ∷ cs) o e = either (or-true (leb (start c) o && ltb o (end c)) (holds cs o) e)
    (λ h. let p = and_true (leb (start c) o) (ltb o (end c)) h in inl (leb-true (start c) o p.0, ltb-true o (end c) p.1))
    (λ h. inr (holds_held cs o h))

pub holds_not : (cs : List RangeBuf) (o : ℕ) → holds cs o ≡ false → Held cs o → ⊥
holds_not [] o e h = h
holds_not (c ∷ cs) o e (inl h) = either (and-false (leb (start c) o) (ltb o (end c)) (or_false (leb (start c) o && ltb o (end c)) (holds cs o) e).0)
    (λ d. omega (arith, leb-false (start c) o d))
    (λ d. omega (arith, ltb-false o (end c) d))
holds_not (c ∷ cs) o e (inr h) = holds_not cs o (or_false (leb (start c) o && ltb o (end c)) (holds cs o) e).1 h

pub held_holds : (cs : List RangeBuf) (o : ℕ) → Held cs o → holds cs o ≡ true
held_holds cs o h = go (holds cs o) refl
  where
    go : (t : Bool) → holds cs o ≡ t → t ≡ true
    go true e = refl
    go false e = absurd (holds_not cs o e h)

pub held_not : (cs : List RangeBuf) (o : ℕ) → (Held cs o → ⊥) → holds cs o ≡ false
held_not cs o h = go (holds cs o) refl
  where
    go : (t : Bool) → holds cs o ≡ t → t ≡ false
    go true e = absurd (h (holds_held cs o e))
    go false e = refl

pub chain_held : (lo : ℕ) (cs : List RangeBuf) (o : ℕ) → Chain lo cs → Held cs o → lo ≤ o
chain_held lo [] o h k = absurd k
chain_held lo (c ∷ cs) o h (inl k) = omega arith
chain_held lo (c ∷ cs) o h (inr k) = omega (arith, chain_held (end c) cs o h.2 k)

pub chain_weaken : (lo lo' : ℕ) (cs : List RangeBuf) → lo' ≤ lo → Chain lo cs → Chain lo' cs
chain_weaken lo lo' [] h k = tt
chain_weaken lo lo' (c ∷ cs) h k = (omega arith, k.1, k.2)

pub chain_drop : (i lo : ℕ) (cs : List RangeBuf) → Chain lo cs → Chain lo (drop i cs)
chain_drop zero lo cs k = k
chain_drop (suc i) lo [] k = tt
chain_drop (suc i) lo (c ∷ cs) k = chain_weaken (end c) lo (drop i cs) (omega (arith, k.0, k.1)) (chain_drop i (end c) cs k.2)

pub within_weaken : (hi hi' : ℕ) (cs : List RangeBuf) → hi ≤ hi' → Within hi cs → Within hi' cs
within_weaken hi hi' [] h k = tt
within_weaken hi hi' (c ∷ cs) h k = (omega arith, within_weaken hi hi' cs h k.1)

pub within_drop : (i hi : ℕ) (cs : List RangeBuf) → Within hi cs → Within hi (drop i cs)
within_drop zero hi cs k = k
within_drop (suc i) hi [] k = tt
within_drop (suc i) hi (c ∷ cs) k = within_drop i hi cs k.1

pub within_held : (hi : ℕ) (cs : List RangeBuf) (o : ℕ) → Within hi cs → Held cs o → o < hi
within_held hi [] o h k = absurd k
within_held hi (c ∷ cs) o h (inl k) = omega arith
within_held hi (c ∷ cs) o h (inr k) = within_held hi cs o h.1 k

-- ---- a frame: the runs of lo..hi that no chunk holds become chunks

-- the five shapes of a step of `filled`; in the second and third, what `unmark` found
pub filled_elim : (P : List RangeBuf → Type 0) (c : RangeBuf) (cs : List RangeBuf) (lo hi : ℕ)
    → (hi ≤ start c → hi ≤ lo → P (c ∷ cs))
    → (hi ≤ start c → lo < hi → end c ≡ hi → P (fresh lo (hi - lo) ∷ cs))
    → (hi ≤ start c → lo < hi → (end c ≡ hi → ⊥) → P (fresh lo (hi - lo) ∷ c ∷ cs))
    → (start c < hi → lo < start c → P (fresh lo (start c - lo) ∷ c ∷ filled cs (max lo (end c)) hi))
    → (start c < hi → start c ≤ lo → P (c ∷ filled cs (max lo (end c)) hi))
    → P (filled (c ∷ cs) lo hi)
filled_elim P c cs lo hi f₁ f₂ f₃ f₄ f₅ = cond_elim P (leb hi (start c))
    (λ e. cond_elim P (ltb lo hi)
    (λ d. cond_elim (λ (x : List RangeBuf). P (fresh lo (hi - lo) ∷ x)) (eqb (end c) hi)
    (λ g. f₂ (leb-true hi (start c) e) (ltb-true lo hi d) (eqb-true (end c) hi g))
    (λ g. f₃ (leb-true hi (start c) e) (ltb-true lo hi d) (eqb-false (end c) hi g)))
    (λ d. f₁ (leb-true hi (start c) e) (ltb-false lo hi d)))
    (λ e. cond_elim P (ltb lo (start c))
    (λ d. f₄ (leb-false hi (start c) e) (ltb-true lo (start c) d))
    (λ d. f₅ (leb-false hi (start c) e) (ltb-false lo (start c) d)))

pub filled_chain : (cs : List RangeBuf) (lo₀ lo hi : ℕ) → lo₀ ≤ lo → Chain lo₀ cs → Chain lo₀ (filled cs lo hi)
filled_chain [] lo₀ lo hi h k = cond_elim (Chain lo₀) (ltb lo hi) (λ e. (omega arith, omega arith, tt)) (λ e. tt)
filled_chain (c ∷ cs) lo₀ lo hi h k =
    let ih = filled_chain cs (end c) (max lo (end c)) hi (omega arith) k.2 in
    filled_elim (Chain lo₀) c cs lo hi
    (λ a b. k)
    (λ a b e. (omega arith, omega arith, chain_weaken (end c) (lo + (hi - lo)) cs (omega arith) k.2))
    (λ a b n. (omega arith, omega arith, (omega arith, k.1, k.2)))
    (λ a b. (omega arith, omega arith, (omega arith, k.1, ih)))
    (λ a b. (k.0, k.1, ih))

pub filled_within : (cs : List RangeBuf) (h lo hi : ℕ) → hi ≤ h → Within h cs → Within h (filled cs lo hi)
filled_within [] h lo hi a k = cond_elim (Within h) (ltb lo hi) (λ e. (omega (arith, ltb-true lo hi e), tt)) (λ e. tt)
filled_within (c ∷ cs) h lo hi a k =
    let ih = filled_within cs h (max lo (end c)) hi a k.1 in
    filled_elim (Within h) c cs lo hi
    (λ x y. k)
    (λ x y e. (omega arith, k.1))
    (λ x y n. (omega arith, k))
    (λ x y. (omega arith, (k.0, ih)))
    (λ x y. (k.0, ih))

-- what the chunks then hold was held, or lies in lo..hi
pub filled_held : (cs : List RangeBuf) (lo hi o : ℕ) → Held (filled cs lo hi) o → Held cs o ⊎ ((lo ≤ o) × (o < hi))
filled_held [] lo hi o = cond_elim (λ (x : List RangeBuf). Held x o → ⊥ ⊎ ((lo ≤ o) × (o < hi))) (ltb lo hi)
    (λ e h. either h (λ p. inr (omega arith)) (λ z. absurd z)) (λ e z. absurd z)
filled_held (c ∷ cs) lo hi o =
    let ih : Held (filled cs (max lo (end c)) hi) o → Held (c ∷ cs) o ⊎ ((lo ≤ o) × (o < hi)) =
    λ h. either (filled_held cs (max lo (end c)) hi o h) (λ x. inl (inr x)) (λ p. inr (omega arith)) in
    filled_elim (λ (x : List RangeBuf). Held x o → Held (c ∷ cs) o ⊎ ((lo ≤ o) × (o < hi))) c cs lo hi
    (λ a b h. inl h)
    (λ a b e h. either h (λ p. inr (omega arith)) (λ q. inl (inr q)))
    (λ a b n h. either h (λ p. inr (omega arith)) (λ q. inl q))
    (λ a b h. either h (λ p. inr (omega arith)) (λ q. either q (λ p. inl (inl p)) ih))
    (λ a b h. either h (λ p. inl (inl p)) ih)

-- what was held still is
pub held_filled : (cs : List RangeBuf) (lo hi o : ℕ) → Held cs o → Held (filled cs lo hi) o
held_filled [] lo hi o h = absurd h
held_filled (c ∷ cs) lo hi o h = filled_elim (λ (x : List RangeBuf). Held x o) c cs lo hi
    (λ a b. h)
    (λ a b e. either h (λ p. absurd (omega arith)) (λ q. inr q))
    (λ a b n. inr h)
    (λ a b. either h (λ p. inr (inl p)) (λ q. inr (inr (held_filled cs (max lo (end c)) hi o q))))
    (λ a b. either h (λ p. inl p) (λ q. inr (held_filled cs (max lo (end c)) hi o q)))

-- and so is all of lo..hi
pub filled_whole : (cs : List RangeBuf) (lo hi o : ℕ) → lo ≤ o → o < hi → Held (filled cs lo hi) o
filled_whole [] lo hi o h k = cond_elim (λ (x : List RangeBuf). Held x o) (ltb lo hi) (λ e. inl (omega arith))
    (λ e. absurd (omega (arith, ltb-false lo hi e)))
filled_whole (c ∷ cs) lo hi o h k =
    let ih : end c ≤ o → Held (filled cs (max lo (end c)) hi) o = λ d. filled_whole cs (max lo (end c)) hi o (omega arith) k in
    filled_elim (λ (x : List RangeBuf). Held x o) c cs lo hi
    (λ a b. absurd (omega arith))
    (λ a b e. inl (omega arith))
    (λ a b n. inl (omega arith))
    (λ a b. cases o (start c) (λ p. inl (omega arith)) (λ p. inr (cases o (end c) (λ q. inl (p, q)) (λ q. inr (ih q)))))
    (λ a b. cases o (end c) (λ q. inl (omega arith)) (λ q. inr (ih q)))

-- ---- a mark: an empty chunk at f

pub marked_chain : (cs : List RangeBuf) (lo f : ℕ) → lo ≤ f → Within f cs → Chain lo cs → Chain lo (marked_at cs f)
marked_chain [] lo f h w k = (omega arith, omega arith, tt)
marked_chain (c ∷ cs) lo f h w k = cond_elim (Chain lo) (eqb (end c) f) (λ e. k) (λ e. (k.0, k.1, marked_chain cs (end c) f w.0 w.1 k.2))

pub marked_within : (cs : List RangeBuf) (h f : ℕ) → f ≤ h → Within h cs → Within h (marked_at cs f)
marked_within [] h f a k = (omega arith, tt)
marked_within (c ∷ cs) h f a k = cond_elim (Within h) (eqb (end c) f) (λ e. k) (λ e. (k.0, marked_within cs h f a k.1))

pub marked_held : (cs : List RangeBuf) (f o : ℕ) → Held (marked_at cs f) o → Held cs o
marked_held [] f o = λ h. either h (λ p. omega arith) (λ z. z)
marked_held (c ∷ cs) f o = cond_elim (λ (x : List RangeBuf). Held x o → Held (c ∷ cs) o) (eqb (end c) f)
    (λ e h. h) (λ e h. either h (λ p. inl p) (λ q. inr (marked_held cs f o q)))

pub held_marked : (cs : List RangeBuf) (f o : ℕ) → Held cs o → Held (marked_at cs f) o
held_marked [] f o h = absurd h
held_marked (c ∷ cs) f o h = cond_elim (λ (x : List RangeBuf). Held x o) (eqb (end c) f)
    (λ e. h) (λ e. either h (λ p. inl p) (λ q. inr (held_marked cs f o q)))

-- ---- an emit

-- the three shapes of a step of `taken` and `left_over`
pub taken_elim : (P : ℕ → List RangeBuf → Type 0) (c : RangeBuf) (cs : List RangeBuf) (off n : ℕ)
    → (start c ≡ off → 0 < n → avail c ≤ n → P (avail c + taken cs (off + avail c) (n - avail c)) (left_over cs (off + avail c) (n - avail c)))
    → (start c ≡ off → n < avail c → P n (used c n ∷ cs))
    → P 0 (c ∷ cs)
    → P (taken (c ∷ cs) off n) (left_over (c ∷ cs) off n)
taken_elim P c cs off n f g h = go (eqb (start c) off && ltb 0 n) refl (leb (avail c) n) refl
  where
    go : (t : Bool) → (eqb (start c) off && ltb 0 n) ≡ t → (u : Bool) → leb (avail c) n ≡ u
        → P (cond t (cond u (avail c + taken cs (off + avail c) (n - avail c)) n) 0) (cond t (cond u (left_over cs (off + avail c) (n - avail c)) (used c n ∷ cs)) (c ∷ cs))
    go true e true d = let p = and_true (eqb (start c) off) (ltb 0 n) e in
        f (eqb-true (start c) off p.0) (ltb-true 0 n p.1) (leb-true (avail c) n d)
    go true e false d = let p = and_true (eqb (start c) off) (ltb 0 n) e in g (eqb-true (start c) off p.0) (leb-false (avail c) n d)
    go false e u d = h

pub left_chain : (cs : List RangeBuf) (off n : ℕ) → Chain off cs → Chain (off + taken cs off n) (left_over cs off n)
left_chain [] off n k = tt
left_chain (c ∷ cs) off n k = taken_elim (λ (x : ℕ) (l : List RangeBuf). Chain (off + x) l) c cs off n
    (λ e a b. chain_weaken (off + avail c + taken cs (off + avail c) (n - avail c)) (off + (avail c + taken cs (off + avail c) (n - avail c))) (left_over cs (off + avail c) (n - avail c)) (omega arith)
    (left_chain cs (off + avail c) (n - avail c) (chain_weaken (end c) (off + avail c) cs (omega arith) k.2)))
    (λ e a. (omega arith, omega arith, k.2))
    (omega arith, k.1, k.2)

pub left_within : (cs : List RangeBuf) (h off n : ℕ) → Within h cs → Within h (left_over cs off n)
left_within [] h off n k = tt
left_within (c ∷ cs) h off n k = taken_elim (λ (x : ℕ) (l : List RangeBuf). Within h l) c cs off n
    (λ e a b. left_within cs h (off + avail c) (n - avail c) k.1)
    (λ e a. k)
    k

pub left_held : (cs : List RangeBuf) (off n o : ℕ) → Held (left_over cs off n) o → Held cs o
left_held [] off n o h = h
left_held (c ∷ cs) off n o h = taken_elim (λ (x : ℕ) (l : List RangeBuf). Held l o → Held (c ∷ cs) o) c cs off n
    (λ e a b k. inr (left_held cs (off + avail c) (n - avail c) o k))
    (λ e a k. either k (λ p. inl (omega arith)) (λ q. inr q))
    (λ k. k) h

-- what goes was held
pub taken_held : (cs : List RangeBuf) (off n q : ℕ) → Chain off cs → off ≤ q → q < off + taken cs off n → Held cs q
taken_held [] off n q k a b = omega arith
taken_held (c ∷ cs) off n q k a b = taken_elim (λ (x : ℕ) (l : List RangeBuf). q < off + x → Held (c ∷ cs) q) c cs off n
    (λ e p r d. cases q (end c) (λ x. inl (omega arith))
    (λ x. inr (taken_held cs (off + avail c) (n - avail c) q (chain_weaken (end c) (off + avail c) cs (omega arith) k.2) (omega arith) (omega arith))))
    (λ e p d. inl (omega arith))
    (λ d. absurd (omega arith)) b

-- what was held goes or stays
pub held_left : (cs : List RangeBuf) (off n o : ℕ) → Chain off cs → Held cs o → (o < off + taken cs off n) ⊎ Held (left_over cs off n) o
held_left [] off n o k h = inr h
held_left (c ∷ cs) off n o k h = taken_elim (λ (x : ℕ) (l : List RangeBuf). (o < off + x) ⊎ Held l o) c cs off n
    (λ e a b. either h (λ p. inl (omega arith))
    (λ q. either (held_left cs (off + avail c) (n - avail c) o (chain_weaken (end c) (off + avail c) cs (omega arith) k.2) q)
    (λ x. inl (omega arith)) (λ x. inr x)))
    (λ e a. either h (λ p. cases o (off + n) (λ x. inl x) (λ x. inr (inl (omega arith)))) (λ q. inr (inr q)))
    (inr h)

-- the last byte that goes lies within
pub taken_within : (cs : List RangeBuf) (h off n : ℕ) → Chain off cs → Within h cs → off ≤ h → off + taken cs off n ≤ h
taken_within [] h off n k w a = omega arith
taken_within (c ∷ cs) h off n k w a = taken_elim (λ (x : ℕ) (l : List RangeBuf). off + x ≤ h) c cs off n
    (λ e p r. omega (arith, taken_within cs h (off + avail c) (n - avail c) (chain_weaken (end c) (off + avail c) cs (omega arith) k.2) w.1 (omega arith)))
    (λ e p. omega arith)
    (omega arith)

pub left_length : (cs : List RangeBuf) (off n : ℕ) → length (left_over cs off n) ≤ length cs
left_length [] off n = omega arith
left_length (c ∷ cs) off n = taken_elim (λ (x : ℕ) (l : List RangeBuf). length l ≤ length (c ∷ cs)) c cs off n
    (λ e a b. omega (arith, left_length cs (off + avail c) (n - avail c))) (λ e a. omega arith) (omega arith)

-- at most n bytes go, and fewer only where the next is not held
pub taken_most : (cs : List RangeBuf) (off n : ℕ) → taken cs off n ≤ n
taken_most [] off n = omega arith
taken_most (c ∷ cs) off n = taken_elim (λ (x : ℕ) (l : List RangeBuf). x ≤ n) c cs off n
    (λ e a b. omega (arith, taken_most cs (off + avail c) (n - avail c)))
    (λ e a. omega arith)
    (omega arith)

pub taken_stops : (cs : List RangeBuf) (off n : ℕ) → Chain off cs → (taken cs off n ≡ n) ⊎ (Held cs (off + taken cs off n) → ⊥)
taken_stops [] off n k = inr (λ h. h)
taken_stops (c ∷ cs) off n k = go (taken_stops cs (off + avail c) (n - avail c)) (eqb (start c) off) refl (ltb 0 n) refl (leb (avail c) n) refl
  where
    go : (Chain (off + avail c) cs
        → (taken cs (off + avail c) (n - avail c) ≡ n - avail c) ⊎ (Held cs (off + avail c + taken cs (off + avail c) (n - avail c)) → ⊥))
        → (t : Bool) → eqb (start c) off ≡ t → (v : Bool) → ltb 0 n ≡ v → (u : Bool) → leb (avail c) n ≡ u
        → (cond (t && v) (cond u (avail c + taken cs (off + avail c) (n - avail c)) n) 0 ≡ n)
        ⊎ (Held (c ∷ cs) (off + cond (t && v) (cond u (avail c + taken cs (off + avail c) (n - avail c)) n) 0) → ⊥)
    go ih true e true f true d = let a = eqb-true (start c) off e in let b = leb-true (avail c) n d in
        either (ih (chain_weaken (start c + avail c) (off + avail c) cs (omega arith) (chain_weaken (c.off + c.len) (start c + avail c) cs (omega arith) k.2)))
        (λ x. inl (omega arith))
        (λ x. inr (λ h. either h (λ p. omega arith) (λ q. x (subst (Held cs) (omega arith) q))))
    go ih true e true f false d = inl refl
    go ih true e false f u d = inl (omega (arith, ltb-false 0 n f))
    go ih false e v f u d = inr
        (λ h. let a = eqb-false (start c) off e in
        either h (λ p. omega arith) (λ q. omega (arith, chain_held (c.off + c.len) cs (off + 0) k.2 q)))

-- what goes is what adjoins off, as far as there is room
pub taken_adjoining : (cs : List RangeBuf) (off n : ℕ) → Chain off cs → taken cs off n ≡ min (adjoining cs off) n
taken_adjoining [] off n k = omega arith
taken_adjoining (c ∷ cs) off n k = go (taken_adjoining cs (end c) (n - avail c)) (eqb (start c) off) refl (ltb 0 n) refl (leb (avail c) n) refl
  where
    go : (Chain (end c) cs → taken cs (end c) (n - avail c) ≡ min (adjoining cs (end c)) (n - avail c))
        → (t : Bool) → eqb (start c) off ≡ t → (v : Bool) → ltb 0 n ≡ v → (u : Bool) → leb (avail c) n ≡ u
        → cond (t && v) (cond u (avail c + taken cs (off + avail c) (n - avail c)) n) 0 ≡ min (cond t (avail c + adjoining cs (end c)) 0) n
    go ih true e true f true d =
        let a = eqb-true (start c) off e in
        let w : off + avail c ≡ end c = omega (arith, k.1) in
        rw (w, ih k.2) (omega (arith, leb-true (avail c) n d))
    go ih true e true f false d = omega (arith, leb-false (avail c) n d)
    go ih true e false f u d = omega (arith, ltb-false 0 n f)
    go ih false e v f u d = omega arith

-- ---- draining comes to an end: bytes and chunks

abbrev pub weight : List RangeBuf → ℕ
weight [] = 0
weight (c ∷ cs) = suc (avail c + weight cs)

pub weight_left : (cs : List RangeBuf) (off n : ℕ) → weight (left_over cs off n) ≤ weight cs
weight_left [] off n = omega arith
weight_left (c ∷ cs) off n = taken_elim (λ (x : ℕ) (l : List RangeBuf). weight l ≤ weight (c ∷ cs)) c cs off n
    (λ e p r. omega (arith, weight_left cs (off + avail c) (n - avail c)))
    (λ e p. omega arith)
    (omega arith)

pub weight_falls : (cs : List RangeBuf) (off n : ℕ) → is_ready cs off ≡ true → 0 < n → weight (left_over cs off n) < weight cs
weight_falls [] off n e h = absurd (false≢true e)
weight_falls (c ∷ cs) off n e h = go (eqb (start c) off) e (ltb 0 n) refl (leb (avail c) n) refl
  where
    go : (t : Bool) → t ≡ true → (v : Bool) → ltb 0 n ≡ v → (u : Bool) → leb (avail c) n ≡ u
        → weight (cond (t && v) (cond u (left_over cs (off + avail c) (n - avail c)) (used c n ∷ cs)) (c ∷ cs)) < weight (c ∷ cs)
    go true e true x true d = omega (arith, weight_left cs (off + avail c) (n - avail c))
    go true e true x false d = omega (arith, leb-false (avail c) n d)
    go true e false x u d = absurd (omega (arith, ltb-false 0 n x))
    go false e v x u d = absurd (false≢true e)

-- nothing is_ready, the chunks none below off, and one holds off: not so
pub held_ready : (cs : List RangeBuf) (off : ℕ) → Chain off cs → Held cs off → is_ready cs off ≡ true
held_ready [] off k h = absurd h
held_ready (c ∷ cs) off k (inl h) = eq-eqb (start c) off (omega arith)
held_ready (c ∷ cs) off k (inr h) = eq-eqb (start c) off (omega (arith, chain_held (end c) cs off k.2 h))
