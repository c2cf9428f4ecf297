-- The laws of the send buffer's chunk lists: chunks go on adjoining, and their count and the bytes they hold are known, after every call.
-- Assumes nothing.
use mathlib.Core.Path.{◌≡◌, refl, sym, ap, subst, subst₂, ◌∙◌}
use mathlib.Core.Bool.{◌&&◌}
use mathlib.Core.List.{List, [], ◌∷◌, ◌++◌}
use Prim.Native.Nat.{ℕ, zero, suc, ◌+◌, ◌-◌, ◌*◌, ◌≤◌, ◌<◌, min}
use native.Mathlib.Omega.{arith}
use Rattle.std.specs.List.{prefix_len, take_while, sum_by}
use Rattle.std.proofs.lemmas.List.Folds.{length-prefix_len}
use Rattle.std.proofs.lemmas.List.Sums.{sum_by-cons}
use Rattle.send_buf.specs.Steps.{gone_by}
use lib.Dec.{ltb, leb, eqb}
use lib.ListN.{length, take, drop}
use borrow.Author.Tests.{ltb-true, leb-false, eqb-true, lt-ltb, le-ltb, le-leb, lt-leb}
use Rattle.range_buf.specs.declared.RangeBuf.{RangeBuf}
use Rattle.range_buf.specs.Rules.{start, end, avail, fresh, right_part}
use Rattle.tables.proofs.Tables.{cases, by_test, cond_elim}
use Rattle.send_buf.specs.State.{base, Adjoin, total}
use Rattle.send_buf.specs.Rules.{cut, skipped, front_of, copied, finished, advanced, behind, drop_count, drop_bytes, back, back_bytes, back_pos}
use Rattle.tables.proofs.Tests.{and_true}

-- the chunks after an emit that begins with the one at index i
abbrev pub advanced_from : ℕ → List RangeBuf → ℕ → ℕ → List RangeBuf
advanced_from i cs next n = take i cs ++ advanced (drop i cs) next n

-- ---- chunks that adjoin

pub adj_le : (lo : ℕ) (cs : List RangeBuf) (hi : ℕ) → Adjoin lo cs hi → lo ≤ hi
adj_le lo [] hi k = omega arith
adj_le lo (c ∷ cs) hi k = omega (arith, adj_le (end c) cs hi k.3)

pub total_le : (lo : ℕ) (l : List RangeBuf) (hi : ℕ) → Adjoin lo l hi → total l + lo ≤ hi
total_le lo [] hi a = omega (arith, a)
total_le lo (c ∷ l) hi a = omega (arith, a.0, total_le (end c) l hi a.3)

pub adj_base : (lo : ℕ) (cs : List RangeBuf) (hi : ℕ) → Adjoin lo cs hi → base cs hi ≡ lo
adj_base lo [] hi k = sym k
adj_base lo (c ∷ cs) hi k = k.0

pub adj_append : (lo : ℕ) (cs : List RangeBuf) (mid : ℕ) (ds : List RangeBuf) (hi : ℕ) → Adjoin lo cs mid → Adjoin mid ds hi → Adjoin lo (cs ++ ds) hi
adj_append lo [] mid ds hi k l = subst (λ (x : ℕ). Adjoin x ds hi) (sym k) l
adj_append lo (c ∷ cs) mid ds hi k l = (k.0, k.1, k.2, adj_append (end c) cs mid ds hi k.3 l)

pub adj_at : (lo lo' : ℕ) (cs : List RangeBuf) (hi hi' : ℕ) → lo ≡ lo' → hi ≡ hi' → Adjoin lo cs hi → Adjoin lo' cs hi'
adj_at lo lo' cs hi hi' p q k = subst₂ (λ (x y : ℕ). Adjoin x cs y) p q k

-- ---- write: the chunks that n bytes are cut into

pub adj_cut : (k o n : ℕ) → n ≤ 4096 * k → 4096 * k < n + 4096 → Adjoin o (cut k o n) (o + n)
adj_cut zero o n a b = omega arith
adj_cut (suc zero) o n a b = (refl, omega arith, omega arith, omega arith)
adj_cut (suc (suc k)) o n a b = (
  refl,
  omega arith,
  omega arith,
  adj_at (o + 4096) (end (fresh o (min n 4096))) (cut (suc k) (o + 4096) (n - 4096)) (o + 4096 + (n - 4096)) (o + n) (omega arith) (omega arith)
      (adj_cut (suc k) (o + 4096) (n - 4096) (omega arith) (omega arith)),
)

pub length_cut : (k o n : ℕ) → length (cut k o n) ≡ k
length_cut zero o n = refl
length_cut (suc k) o n = ap suc (length_cut k (o + 4096) (n - 4096))

pub total_append : (cs ds : List RangeBuf) → total (cs ++ ds) ≡ total cs + total ds
total_append [] ds = omega arith
total_append (c ∷ cs) ds = omega (arith, total_append cs ds)

pub total_cut : (k o n : ℕ) → n ≤ 4096 * k → total (cut k o n) ≡ n
total_cut zero o n a = omega arith
total_cut (suc k) o n a = omega (arith, total_cut k (o + 4096) (n - 4096) (omega arith))

-- ---- emit: the front lies within the chunks, and no more is copied than there is

front_within : (lo : ℕ) (cs : List RangeBuf) (hi : ℕ) → Adjoin lo cs hi → (lo ≤ front_of cs hi) × (front_of cs hi ≤ hi)
front_within lo [] hi k = (omega arith, omega arith)
front_within lo (c ∷ cs) hi k =
    cond_elim (λ (x : ℕ). (lo ≤ x) × (x ≤ hi)) (ltb 0 (avail c))
    (λ e. let h = adj_le (end c) cs hi k.3 in (omega arith, omega arith))
    (λ e. let h = front_within (end c) cs hi k.3 in (omega arith, h.1))

pub front_in : (i lo : ℕ) (cs : List RangeBuf) (hi : ℕ) → Adjoin lo cs hi → (lo ≤ front_of (drop i cs) hi) × (front_of (drop i cs) hi ≤ hi)
front_in zero lo cs hi k = front_within lo cs hi k
front_in (suc i) lo [] hi k = (omega arith, omega arith)
front_in (suc i) lo (c ∷ cs) hi k = let h = front_in i (end c) cs hi k.3 in (omega arith, h.1)

-- the leading chunks that end at or below an offset, and the bytes held, as chains count them
count_prefix : (cs : List RangeBuf) (k : ℕ) → prefix_len (gone_by k) cs ≡ drop_count cs k
count_prefix [] k = refl
count_prefix (c ∷ cs) k = by_test (leb (end c) k) (λ e. simp e (omega (arith, count_prefix cs k))) (λ e. simp e)

pub drop_count_is : (cs : List RangeBuf) (k : ℕ) → length (take_while (gone_by k) cs) ≡ drop_count cs k
drop_count_is cs k = length-prefix_len (gone_by k) cs ∙ count_prefix cs k

pub total_is : (cs : List RangeBuf) → sum_by avail cs ≡ total cs
total_is [] = refl
total_is (c ∷ cs) = sum_by-cons avail c cs ∙ ap (λ (n : ℕ). avail c + n) (total_is cs)

pub skipped_le : (cs : List RangeBuf) → skipped cs ≤ length cs
skipped_le [] = omega arith
skipped_le (c ∷ cs) = cond_elim (λ (x : ℕ). x ≤ suc (length cs)) (ltb 0 (avail c)) (λ e. omega arith) (λ e. omega (arith, skipped_le cs))

pub copied_none : (cs : List RangeBuf) (next n : ℕ) → n ≡ 0 → copied cs next n ≡ 0
copied_none [] next n e = refl
copied_none (c ∷ cs) next n e = rw (le-ltb 0 n (omega arith))

pub copied_le : (cs : List RangeBuf) (next n : ℕ) → copied cs next n ≤ n
copied_le [] next n = omega arith
copied_le (c ∷ cs) next n =
    cond_elim (λ (x : ℕ). x ≤ n) (ltb 0 n && eqb (start c) next)
    (λ e. cases n (avail c)
    (λ x. omega (arith, copied_none cs (end c) (n - avail c) (omega arith)))
    (λ x. omega (arith, copied_le cs (end c) (n - avail c))))
    (λ e. omega arith)

copied_within : (lo : ℕ) (cs : List RangeBuf) (hi next n : ℕ) → Adjoin lo cs hi → next ≤ hi → next + copied cs next n ≤ hi
copied_within lo [] hi next n k h = omega arith
copied_within lo (c ∷ cs) hi next n k h =
    cond_elim (λ (x : ℕ). next + x ≤ hi) (ltb 0 n && eqb (start c) next)
    (λ e. let q = eqb-true (start c) next (and_true (ltb 0 n) (eqb (start c) next) e).1 in
    let l = adj_le (end c) cs hi k.3 in
    cases n (avail c)
    (λ x. omega (arith, copied_none cs (end c) (n - avail c) (omega arith)))
    (λ x. omega (arith, copied_within (end c) cs hi (end c) (n - avail c) k.3 l)))
    (λ e. omega arith)

pub copied_in : (i lo : ℕ) (cs : List RangeBuf) (hi next n : ℕ) → Adjoin lo cs hi → next ≤ hi → next + copied (drop i cs) next n ≤ hi
copied_in zero lo cs hi next n k h = copied_within lo cs hi next n k h
copied_in (suc i) lo [] hi next n k h = omega arith
copied_in (suc i) lo (c ∷ cs) hi next n k h = copied_in i (end c) cs hi next n k.3 h

pub finished_le : (cs : List RangeBuf) (next n : ℕ) → finished cs next n ≤ length cs
finished_le [] next n = omega arith
finished_le (c ∷ cs) next n =
    cond_elim (λ (x : ℕ). x ≤ suc (length cs)) (ltb 0 n && eqb (start c) next && leb (avail c) n)
    (λ e. omega (arith, finished_le cs (end c) (n - avail c)))
    (λ e. omega arith)

-- ---- emit: the chunks after it

pub advanced_none : (cs : List RangeBuf) (next n : ℕ) → n ≡ 0 → advanced cs next n ≡ cs
advanced_none [] next n e = refl
advanced_none (c ∷ cs) next n e = rw (le-ltb 0 n (omega arith))

adj_advanced : (lo : ℕ) (cs : List RangeBuf) (hi next n : ℕ) → Adjoin lo cs hi → Adjoin lo (advanced cs next n) hi
adj_advanced lo [] hi next n k = k
adj_advanced lo (c ∷ cs) hi next n k =
    cond_elim (λ (x : List RangeBuf). Adjoin lo x hi) (ltb 0 n && eqb (start c) next)
    (λ e. (k.0, k.1, omega arith, adj_advanced (end c) cs hi (end c) (n - avail c) k.3))
    (λ e. k)

pub adj_sent : (i lo : ℕ) (cs : List RangeBuf) (hi next n : ℕ) → Adjoin lo cs hi → Adjoin lo (advanced_from i cs next n) hi
adj_sent zero lo cs hi next n k = adj_advanced lo cs hi next n k
adj_sent (suc i) lo [] hi next n k = k
adj_sent (suc i) lo (c ∷ cs) hi next n k = (k.0, k.1, k.2, adj_sent i (end c) cs hi next n k.3)

pub base_sent : (i : ℕ) (cs : List RangeBuf) (hi next n : ℕ) → base (advanced_from i cs next n) hi ≡ base cs hi
base_sent zero [] hi next n = refl
base_sent zero (c ∷ cs) hi next n = cond_elim (λ (x : List RangeBuf). base x hi ≡ c.off) (ltb 0 n && eqb (start c) next) (λ e. refl) (λ e. refl)
base_sent (suc i) [] hi next n = refl
base_sent (suc i) (c ∷ cs) hi next n = refl

pub length_sent : (i : ℕ) (cs : List RangeBuf) (next n : ℕ) → length (advanced_from i cs next n) ≡ length cs
length_sent zero [] next n = refl
length_sent zero (c ∷ cs) next n =
    cond_elim (λ (x : List RangeBuf). length x ≡ suc (length cs)) (ltb 0 n && eqb (start c) next)
    (λ e. ap suc (length_sent zero cs (end c) (n - avail c)))
    (λ e. refl)
length_sent (suc i) [] next n = refl
length_sent (suc i) (c ∷ cs) next n = ap suc (length_sent i cs next n)

pub total_sent : (i : ℕ) (cs : List RangeBuf) (next n : ℕ) → total (advanced_from i cs next n) + copied (drop i cs) next n ≡ total cs
total_sent zero [] next n = refl
total_sent zero (c ∷ cs) next n =
    let h = total_sent zero cs (end c) (n - avail c) in
    by_test (ltb 0 n && eqb (start c) next) (λ e. simp e (omega arith)) (λ e. simp e (omega arith))
total_sent (suc i) [] next n = refl
total_sent (suc i) (c ∷ cs) next n = omega (arith, total_sent i cs next n)

-- ---- ack and drop: the chunks behind those that go

pub adj_behind : (lo : ℕ) (cs : List RangeBuf) (hi k : ℕ) → Adjoin lo cs hi → (lo ≤ base (behind cs k) hi) × Adjoin (base (behind cs k) hi) (behind cs k) hi
adj_behind lo [] hi k a = (omega arith, refl)
adj_behind lo (c ∷ cs) hi k a =
    cond_elim (λ (x : List RangeBuf). (lo ≤ base x hi) × Adjoin (base x hi) x hi) (leb (end c) k)
    (λ e. let h = adj_behind (end c) cs hi k a.3 in (omega arith, h.1))
    (λ e. (omega arith, (refl, a.1, a.2, a.3)))

pub length_behind : (cs : List RangeBuf) (k : ℕ) → length (behind cs k) + drop_count cs k ≡ length cs
length_behind [] k = refl
length_behind (c ∷ cs) k =
    let h = length_behind cs k in
    by_test (leb (end c) k) (λ e. simp e (omega arith)) (λ e. simp e (omega arith))

pub total_behind : (cs : List RangeBuf) (k : ℕ) → total (behind cs k) + drop_bytes cs k ≡ total cs
total_behind [] k = refl
total_behind (c ∷ cs) k =
    let h = total_behind cs k in
    by_test (leb (end c) k) (λ e. simp e (omega arith)) (λ e. simp e (omega arith))

-- ---- retransmit: the chunks moved back

pub adj_back : (lo : ℕ) (cs : List RangeBuf) (hi a e : ℕ) → Adjoin lo cs hi → Adjoin lo (back cs a e) hi
adj_back lo [] hi a e k = k
adj_back lo (c ∷ cs) hi a e k =
    cond_elim P (leb e c.off) (λ d. k)
    (λ d. cond_elim P (ltb (end c) a) (λ y. (k.0, k.1, k.2, adj_back (end c) cs hi a e k.3))
    (λ y. cond_elim P (ltb e (end c))
    (λ z. let p = leb-false e c.off d in
    let q = ltb-true e (end c) z in (
      k.0,
      omega arith,
      omega arith,
      (refl, omega arith, omega arith, adj_at (end c) (end (right_part c (e - c.off))) cs hi hi (omega arith) refl k.3),
    ))
    (λ z. (k.0, k.1, omega arith, adj_back (end c) cs hi a e k.3))))
  where
    P : List RangeBuf → Type 0
    P x = Adjoin lo x hi

pub length_back : (cs : List RangeBuf) (a e : ℕ) → length cs ≤ length (back cs a e)
length_back [] a e = omega arith
length_back (c ∷ cs) a e =
    cond_elim P (leb e c.off) (λ d. omega arith)
    (λ d. cond_elim P (ltb (end c) a) (λ y. omega (arith, length_back cs a e))
    (λ y. cond_elim P (ltb e (end c)) (λ z. omega arith) (λ z. omega (arith, length_back cs a e))))
  where
    P : List RangeBuf → Type 0
    P x = suc (length cs) ≤ length x

pub back_pos_le : (cs : List RangeBuf) (i p a e : ℕ) → back_pos cs i p a e ≤ p
back_pos_le [] i p a e = omega arith
back_pos_le (c ∷ cs) i p a e =
    cond_elim (λ (x : ℕ). x ≤ p) (leb e c.off) (λ d. omega arith)
    (λ d. cond_elim (λ (x : ℕ). x ≤ p) (ltb (end c) a) (λ y. back_pos_le cs (suc i) p a e) (λ y. omega arith))

split_sum : (k len pos v u w : ℕ) → u + w ≡ pos → k + w ≤ len → u ≤ k → v ≤ u → (k - v) + (len - k - w) ≡ (len - pos) + (u - v)
split_sum k len pos v u w a b c d = omega arith

regroup : (p q r t n : ℕ) → p + q ≡ r + t → p + (q + n) ≡ r + n + t
regroup p q r t n h = omega arith

pub total_back : (lo : ℕ) (cs : List RangeBuf) (hi a e : ℕ) → Adjoin lo cs hi → total (back cs a e) ≡ total cs + back_bytes cs a e
total_back lo [] hi a e k = refl
total_back lo (c ∷ cs) hi a e k =
    let h = total_back (end c) cs hi a e k.3 in
    let n = e - c.off in
    let v = min (min c.pos n) (a - c.off) in
    cases c.off e
    (λ d. cases (end c) a
    (λ y. simp (lt-leb _ _ d, lt-ltb _ _ y) (omega arith))
    (λ y. cases e (end c)
    (λ z. simp (lt-leb _ _ d, le-ltb _ _ y, lt-ltb _ _ z)
    (regroup (n - v) (c.len - n - (c.pos - n)) (avail c) (min c.pos n - v) (total cs)
    (split_sum n c.len c.pos v (min c.pos n) (c.pos - n) (omega arith) (omega (arith, k.2)) (omega arith) (omega arith))))
    (λ z. simp (lt-leb _ _ d, le-ltb _ _ y, le-ltb _ _ z) (omega (arith, k.2)))))
    (λ d. simp (le-leb _ _ d) (omega arith))
