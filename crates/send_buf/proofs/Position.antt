-- The laws of the send position and of the largest emitted offset: the chunks before the position are spent, and no byte above the offset is.
-- Assumes nothing.
use mathlib.Core.Path.{◌≡◌, refl, sym, subst}
use mathlib.Core.Bool.{Bool, true, false, cond, ◌&&◌}
use mathlib.Core.List.{List, [], ◌∷◌, ◌++◌}
use Prim.Native.Nat.{ℕ, zero, suc, ◌+◌, ◌-◌, ◌≤◌, ◌<◌, min}
use native.Mathlib.Nat.{zero-add, suc-add}
use native.Mathlib.Omega.{arith}
use lib.Dec.{ltb, leb, eqb}
use lib.ListN.{length, drop}
use borrow.Author.Tests.{lt-ltb, le-ltb, eq-eqb, ltb-false, leb-true, eqb-true}
use Rattle.range_buf.specs.declared.RangeBuf.{RangeBuf}
use Rattle.range_buf.specs.Rules.{start, end, avail, used, left_part, right_part}
use Rattle.tables.proofs.Tables.{cases, cond_elim}
use Rattle.send_buf.specs.State.{base, Adjoin, total, Spent, Used}
use Rattle.send_buf.specs.Rules.{cut, skipped, front_of, copied, finished, advanced, behind, drop_count, moved_back, back, back_pos}
use Rattle.send_buf.proofs.Chunks.{advanced_from, advanced_none, back_pos_le}
use Rattle.tables.proofs.Tests.{and_true}

pub spent_weak : (n n' : ℕ) (cs : List RangeBuf) → n' ≤ n → Spent n cs → Spent n' cs
spent_weak n n' [] h k = tt
spent_weak n n' (c ∷ cs) h k = (λ x. k.0 (omega arith), spent_weak (n - 1) (n' - 1) cs (omega arith) k.1)

spent_none : (n : ℕ) (cs : List RangeBuf) → n ≡ 0 → Spent n cs
spent_none n [] e = tt
spent_none n (c ∷ cs) e = (λ x. absurd (omega arith), spent_none (n - 1) cs (omega arith))

pub used_weak : (e e' : ℕ) (cs : List RangeBuf) → e ≤ e' → Used e cs → Used e' cs
used_weak e e' [] h k = tt
used_weak e e' (c ∷ cs) h k = (λ x. omega (arith, k.0 x), used_weak e e' cs h k.1)

-- ---- write

pub spent_append : (n : ℕ) (cs ds : List RangeBuf) → n ≤ length cs → Spent n cs → Spent n (cs ++ ds)
spent_append n [] ds h k = spent_none n ds (omega arith)
spent_append n (c ∷ cs) ds h k = (k.0, spent_append (n - 1) cs ds (omega arith) k.1)

pub used_append : (e : ℕ) (cs ds : List RangeBuf) → Used e cs → Used e ds → Used e (cs ++ ds)
used_append e [] ds h k = k
used_append e (c ∷ cs) ds h k = (h.0, used_append e cs ds h.1 k)

pub used_cut : (e k o n : ℕ) → Used e (cut k o n)
used_cut e zero o n = tt
used_cut e (suc k) o n = (λ x. absurd (omega arith), used_cut e k (o + 4096) (n - 4096))

-- ---- emit

spent_skipped : (lo : ℕ) (cs : List RangeBuf) (hi : ℕ) → Adjoin lo cs hi → Spent (skipped cs) cs
spent_skipped lo [] hi k = tt
spent_skipped lo (c ∷ cs) hi k =
    cond_elim (λ (n : ℕ). Spent n (c ∷ cs)) (ltb 0 (avail c)) (λ e. spent_none 0 (c ∷ cs) refl)
    (λ e. (
      λ x. omega (arith, ltb-false 0 (avail c) e, k.2),
      spent_weak (skipped cs) (suc (skipped cs) - 1) cs (omega arith) (spent_skipped (end c) cs hi k.3),
    ))

-- the chunks before the one that an emit begins with
pub spent_first : (i lo : ℕ) (cs : List RangeBuf) (hi : ℕ) → Adjoin lo cs hi → Spent i cs → Spent (i + skipped (drop i cs)) cs
spent_first zero lo cs hi k h = spent_weak (skipped cs) (0 + skipped cs) cs (omega arith) (spent_skipped lo cs hi k)
spent_first (suc i) lo [] hi k h = tt
spent_first (suc i) lo (c ∷ cs) hi k h = (
  λ x. h.0 (omega arith),
  spent_weak (i + skipped (drop i cs)) (suc i + skipped (drop i cs) - 1) cs (omega arith)
      (spent_first i (end c) cs hi k.3 (spent_weak (suc i - 1) i cs (omega arith) h.1)),
)

spent_finished : (lo : ℕ) (cs : List RangeBuf) (hi next n : ℕ) → Adjoin lo cs hi → Spent (finished cs next n) (advanced cs next n)
spent_finished lo [] hi next n k = tt
spent_finished lo (c ∷ cs) hi next n k = go (ltb 0 n && eqb (start c) next) (leb (avail c) n) refl (spent_finished (end c) cs hi (end c) (n - avail c) k.3)
  where
    m : ℕ
    m = n - avail c

    go : (t u : Bool) → leb (avail c) n ≡ u → Spent (finished cs (end c) (n - avail c)) (advanced cs (end c) (n - avail c))
        → Spent (cond (t && u) (suc (finished cs (end c) (n - avail c))) 0) (cond t (used c (min n (avail c)) ∷ advanced cs (end c) (n - avail c)) (c ∷ cs))
    go true true e h = (
      λ x. omega (arith, leb-true (avail c) n e, k.2),
      spent_weak (finished cs (end c) m) (suc (finished cs (end c) m) - 1) (advanced cs (end c) m) (omega arith) h,
    )
    go true false e h = spent_none 0 (used c (min n (avail c)) ∷ advanced cs (end c) (n - avail c)) refl
    go false u e h = spent_none 0 (c ∷ cs) refl

pub spent_sent : (i lo : ℕ) (cs : List RangeBuf) (hi next n : ℕ) → Adjoin lo cs hi → Spent i cs → Spent (i + finished (drop i cs) next n) (advanced_from i cs next n)
spent_sent zero lo cs hi next n k h = spent_weak (finished cs next n) (0 + finished cs next n) (advanced cs next n) (omega arith) (spent_finished lo cs hi next n k)
spent_sent (suc i) lo [] hi next n k h = tt
spent_sent (suc i) lo (c ∷ cs) hi next n k h = (
  λ x. h.0 (omega arith),
  spent_weak (i + finished (drop i cs) next n) (suc i + finished (drop i cs) next n - 1) (advanced_from i cs next n) (omega arith)
      (spent_sent i (end c) cs hi next n k.3 (spent_weak (suc i - 1) i cs (omega arith) h.1)),
)

used_advanced : (lo : ℕ) (cs : List RangeBuf) (hi next n e : ℕ) → Adjoin lo cs hi → next + copied cs next n ≤ e → Used e cs → Used e (advanced cs next n)
used_advanced lo [] hi next n e k h g = tt
used_advanced lo (c ∷ cs) hi next n e k h g =
    go (λ x. used_advanced (end c) cs hi (end c) (n - avail c) e k.3 x g.1) (ltb 0 n && eqb (start c) next) refl h
  where
    go : (end c + copied cs (end c) (n - avail c) ≤ e → Used e (advanced cs (end c) (n - avail c))) → (t : Bool) → (ltb 0 n && eqb (start c) next) ≡ t
        → next + cond t (min n (avail c) + copied cs (end c) (n - avail c)) 0 ≤ e → Used e (cond t (used c (min n (avail c)) ∷ advanced cs (end c) (n - avail c)) (c ∷ cs))
    go rec false d x = g
    go rec true d x =
        let q = eqb-true (start c) next (and_true (ltb 0 n) (eqb (start c) next) d).1 in (
          λ y. omega arith,
          cases n (avail c)
              (λ y. subst (Used e) (sym (advanced_none cs (end c) (n - avail c) (omega arith))) g.1)
              (λ y. rec (omega (arith, k.2))),
        )

pub used_sent : (i lo : ℕ) (cs : List RangeBuf) (hi next n e : ℕ) → Adjoin lo cs hi → next + copied (drop i cs) next n ≤ e → Used e cs → Used e (advanced_from i cs next n)
used_sent zero lo cs hi next n e k h g = used_advanced lo cs hi next n e k h g
used_sent (suc i) lo [] hi next n e k h g = tt
used_sent (suc i) lo (c ∷ cs) hi next n e k h g = (g.0, used_sent i (end c) cs hi next n e k.3 h g.1)

-- with room and bytes to send, some are copied
copied_front : (cs : List RangeBuf) (hi n : ℕ) → 0 < n → 0 < total cs → 0 < copied (drop (skipped cs) cs) (front_of cs hi) n
copied_front [] hi n h k = absurd (omega arith)
copied_front (c ∷ cs) hi n h k =
    cases 0 (avail c)
    (λ a. simp (lt-ltb _ _ a, lt-ltb _ _ h, eq-eqb (start c) (start c) refl) (omega arith))
    (λ a. simp (le-ltb _ _ a) (copied_front cs hi n h (omega arith)))

pub copied_some : (i : ℕ) (cs : List RangeBuf) (hi n : ℕ) → Spent i cs → 0 < n → 0 < total cs
    → 0 < copied (drop (i + skipped (drop i cs)) cs) (front_of (drop i cs) hi) n
copied_some zero cs hi n s h k = rw zero-add (copied_front cs hi n h k)
copied_some (suc i) [] hi n s h k = absurd (omega arith)
copied_some (suc i) (c ∷ cs) hi n s h k =
    rw suc-add (copied_some i cs hi n (spent_weak (suc i - 1) i cs (omega arith) s.1) h (omega (arith, s.0 (omega arith))))

-- ---- the front lies at or below what was emitted

front_of_lem : (lo : ℕ) (cs : List RangeBuf) (hi e : ℕ) → Adjoin lo cs hi → lo ≤ e → Used e cs → front_of cs hi ≤ e
front_of_lem lo [] hi e k a g = omega arith
front_of_lem lo (c ∷ cs) hi e k a g =
    cond_elim (λ (x : ℕ). x ≤ e) (ltb 0 (avail c))
    (λ d. cases 0 c.pos (λ x. g.0 x) (λ x. omega (arith, k.0)))
    (λ d. front_of_lem (end c) cs hi e k.3 (omega (arith, g.0 (omega (arith, ltb-false 0 (avail c) d, k.1)), ltb-false 0 (avail c) d)) g.1)

pub front_below : (i lo : ℕ) (cs : List RangeBuf) (hi e : ℕ) → Adjoin lo cs hi → lo ≤ e → Used e cs → Spent i cs → front_of (drop i cs) hi ≤ e
front_below zero lo cs hi e k a g h = front_of_lem lo cs hi e k a g
front_below (suc i) lo [] hi e k a g h = omega arith
front_below (suc i) lo (c ∷ cs) hi e k a g h =
    let p = h.0 (omega arith) in
    front_below i (end c) cs hi e k.3 (omega (arith, g.0 (omega (arith, k.1)))) g.1 (spent_weak (suc i - 1) i cs (omega arith) h.1)

-- ---- ack and drop

pub spent_behind : (n : ℕ) (cs : List RangeBuf) (k : ℕ) → Spent n cs → Spent (n - drop_count cs k) (behind cs k)
spent_behind n [] k h = tt
spent_behind n (c ∷ cs) k h = go (leb (end c) k) (spent_behind (n - 1) cs k h.1)
  where
    go : (t : Bool) → Spent (n - 1 - drop_count cs k) (behind cs k) → Spent (n - cond t (suc (drop_count cs k)) 0) (cond t (behind cs k) (c ∷ cs))
    go true x = spent_weak (n - 1 - drop_count cs k) (n - suc (drop_count cs k)) (behind cs k) (omega arith) x
    go false x = spent_weak n (n - 0) (c ∷ cs) (omega arith) h

pub used_behind : (e : ℕ) (cs : List RangeBuf) (k : ℕ) → Used e cs → Used e (behind cs k)
used_behind e [] k h = tt
used_behind e (c ∷ cs) k h = cond_elim (Used e) (leb (end c) k) (λ d. used_behind e cs k h.1) (λ d. h)

pub base_behind : (lo : ℕ) (cs : List RangeBuf) (hi k e : ℕ) → Adjoin lo cs hi → lo ≤ e → k ≤ e → base (behind cs k) hi ≤ e
base_behind lo [] hi k e a h x = omega arith
base_behind lo (c ∷ cs) hi k e a h x =
    cond_elim (λ (y : List RangeBuf). base y hi ≤ e) (leb (end c) k)
    (λ d. base_behind (end c) cs hi k e a.3 (omega (arith, leb-true (end c) k d)) x)
    (λ d. omega (arith, a.0))

-- ---- retransmit

pub used_back : (u : ℕ) (cs : List RangeBuf) (a e : ℕ) → Used u cs → Used u (back cs a e)
used_back u [] a e h = tt
used_back u (c ∷ cs) a e h =
    cond_elim (Used u) (leb e c.off) (λ d. h)
    (λ d. cond_elim (Used u) (ltb (end c) a) (λ y. (h.0, used_back u cs a e h.1))
    (λ y. cond_elim (Used u) (ltb e (end c))
    (λ z. (λ x. omega (arith, h.0 (omega arith)), (λ x. omega (arith, h.0 (omega arith)), h.1)))
    (λ z. (λ x. omega (arith, h.0 (omega arith)), used_back u cs a e h.1))))

pub spent_back : (cs : List RangeBuf) (i p a e : ℕ) → Spent (p - i) cs → Spent (back_pos cs i p a e - i) (back cs a e)
spent_back [] i p a e h = tt
spent_back (c ∷ cs) i p a e h =
    go (leb e c.off) (ltb (end c) a) (spent_back cs (suc i) p a e (spent_weak (p - i - 1) (p - suc i) cs (omega arith) h.1))
  where
    moved : List RangeBuf
    moved = cond (ltb e (end c)) (moved_back (left_part c (e - c.off)) a ∷ right_part c (e - c.off) ∷ cs) (moved_back c a ∷ back cs a e)

    go : (t u : Bool) → Spent (back_pos cs (suc i) p a e - suc i) (back cs a e)
        → Spent (cond t p (cond u (back_pos cs (suc i) p a e) (min p i)) - i) (cond t (c ∷ cs) (cond u (c ∷ back cs a e) moved))
    go true u x = h
    go false true x = (
      λ y. h.0 (omega (arith, back_pos_le cs (suc i) p a e)),
      spent_weak (back_pos cs (suc i) p a e - suc i) (back_pos cs (suc i) p a e - i - 1) (back cs a e) (omega arith) x,
    )
    go false false x = spent_none (min p i - i) moved (omega arith)
