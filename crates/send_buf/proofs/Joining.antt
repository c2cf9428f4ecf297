-- The laws of joined chunks: they adjoin over the same offsets, hold the same bytes to send, and alternate. Assumes nothing.
use mathlib.Core.Path.{◌≡◌, refl, sym, ap, ◌∙◌}
use mathlib.Core.Logic.{◌⊎◌, inl, inr}
use mathlib.Core.Bool.{false}
use mathlib.Core.List.{List, [], ◌∷◌, ◌++◌, append-nil}
use Prim.Native.Nat.{ℕ, zero, suc, ◌+◌, ◌-◌, ◌*◌, ◌≤◌, ◌<◌, min, max}
use native.Mathlib.Nat.{add-zero}
use native.Mathlib.Omega.{arith}
use lib.Dec.{ltb}
use lib.ListN.{length}
use borrow.Author.Tests.{ltb-false, lt-ltb}
use Rattle.range_buf.specs.declared.RangeBuf.{RangeBuf}
use Rattle.range_buf.specs.Rules.{end, avail, fresh}
use Rattle.tables.proofs.Tables.{cases, cond_elim, by_test}
use Rattle.tables.proofs.Tests.{and-false, either, decided, undecided}
use Rattle.send_buf.specs.State.{base, Adjoin, total, Spent, Used}
use Rattle.send_buf.specs.Rules.{cut, pieces, stays, both, joined_to, joined, tabled, tabled_pos}
use Rattle.send_buf.proofs.Chunks.{adj_at, adj_base}

spent_none : (n : ℕ) (cs : List RangeBuf) → n ≡ 0 → Spent n cs
spent_none n [] e = tt
spent_none n (c ∷ cs) e = (λ x. absurd (omega arith), spent_none (n - 1) cs (omega arith))

-- ---- two neighbours in one

-- a boundary that does not stay: all before it is sent, or nothing behind it
pub goes : (c d : RangeBuf) → c.pos ≤ c.len → stays c d ≡ false → ((c.pos ≡ c.len) ⊎ (d.pos ≡ 0))
goes c d k e =
    either (and-false (ltb 0 (avail c)) (ltb 0 d.pos) e)
    (λ x. inl (omega (arith, ltb-false 0 (avail c) x)))
    (λ x. inr (omega (arith, ltb-false 0 d.pos x)))

adj_joined_to : (lo : ℕ) (c : RangeBuf) (ds : List RangeBuf) (hi : ℕ) → Adjoin lo (c ∷ ds) hi → Adjoin lo (joined_to c ds) hi
adj_joined_to lo c [] hi k = k
adj_joined_to lo c (d ∷ ds) hi k =
    let r = k.3 in
    cond_elim (λ (x : List RangeBuf). Adjoin lo x hi) (stays c d) (λ _. k)
    (λ _. (k.0, omega (arith, k.1), omega (arith, k.2, r.2), adj_at (end d) (end (both c d)) ds hi hi (omega (arith, r.0)) refl r.3))

pub adj_joined : (lo : ℕ) (cs : List RangeBuf) (hi : ℕ) → Adjoin lo cs hi → Adjoin lo (joined cs) hi
adj_joined lo [] hi k = k
adj_joined lo (c ∷ cs) hi k = adj_joined_to lo c (joined cs) hi (k.0, k.1, k.2, adj_joined (end c) cs hi k.3)

total_joined_to : (lo : ℕ) (c : RangeBuf) (ds : List RangeBuf) (hi : ℕ) → Adjoin lo (c ∷ ds) hi → total (joined_to c ds) ≡ avail c + total ds
total_joined_to lo c [] hi k = refl
total_joined_to lo c (d ∷ ds) hi k =
    cond_elim (λ (x : List RangeBuf). total x ≡ avail c + (avail d + total ds)) (stays c d) (λ _. refl)
    (λ _. omega (arith, k.2, k.3.2))

pub total_joined : (lo : ℕ) (cs : List RangeBuf) (hi : ℕ) → Adjoin lo cs hi → total (joined cs) ≡ total cs
total_joined lo [] hi k = refl
total_joined lo (c ∷ cs) hi k =
    total_joined_to lo c (joined cs) hi (k.0, k.1, k.2, adj_joined (end c) cs hi k.3)
    ∙ ap (λ (n : ℕ). avail c + n) (total_joined (end c) cs hi k.3)

used_joined_to : (e lo : ℕ) (c : RangeBuf) (ds : List RangeBuf) (hi : ℕ) → Adjoin lo (c ∷ ds) hi → Used e (c ∷ ds) → Used e (joined_to c ds)
used_joined_to e lo c [] hi k h = h
used_joined_to e lo c (d ∷ ds) hi k h =
    cond_elim (Used e) (stays c d) (λ _. h)
    (λ t. (
      λ x. either (goes c d k.2 t)
          (λ y. cases 0 d.pos (λ z. omega (arith, h.1.0 z, k.3.0)) (λ z. omega (arith, h.0 (omega arith))))
          (λ y. omega (arith, h.0 (omega arith))),
      h.1.1,
    ))

pub used_joined : (e lo : ℕ) (cs : List RangeBuf) (hi : ℕ) → Adjoin lo cs hi → Used e cs → Used e (joined cs)
used_joined e lo [] hi k h = tt
used_joined e lo (c ∷ cs) hi k h =
    used_joined_to e lo c (joined cs) hi (k.0, k.1, k.2, adj_joined (end c) cs hi k.3) (h.0, used_joined e (end c) cs hi k.3 h.1)

pub length_joined_to : (c : RangeBuf) (ds : List RangeBuf) → length (joined_to c ds) ≤ suc (length ds)
length_joined_to c [] = omega arith
length_joined_to c (d ∷ ds) = cond_elim (λ (x : List RangeBuf). length x ≤ suc (suc (length ds))) (stays c d) (λ _. omega arith) (λ _. omega arith)

pub length_joined : (cs : List RangeBuf) → length (joined cs) ≤ length cs
length_joined [] = omega arith
length_joined (c ∷ cs) = omega (arith, length_joined_to c (joined cs), length_joined cs)

-- ---- bytes never sent join what is before them

-- k bytes more, none of which was sent, join the last chunk
abbrev pub grown_by : RangeBuf → ℕ → RangeBuf
grown_by c k = record { off = c.off; len = c.len + k; pos = c.pos }

abbrev pub grown_last : List RangeBuf → ℕ → List RangeBuf
grown_last [] k = []
grown_last (c ∷ []) k = grown_by c k ∷ []
grown_last (c ∷ d ∷ ds) k = c ∷ grown_last (d ∷ ds) k

pub joined_cut : (m o n : ℕ) → 0 < n → n ≤ 4096 * m → 4096 * m < n + 4096 → joined (cut m o n) ≡ fresh o n ∷ []
joined_cut zero o n h a b = absurd (omega arith)
joined_cut (suc zero) o n h a b = ap (λ (k : ℕ). fresh o k ∷ []) (omega arith)
joined_cut (suc (suc m)) o n h a b =
    ap (joined_to (fresh o (min n 4096))) (joined_cut (suc m) (o + 4096) (n - 4096) (omega arith) (omega arith) (omega arith))
    ∙ undecided {t = stays (fresh o (min n 4096)) (fresh (o + 4096) (n - 4096))} (rw (lt-ltb 0 (min n 4096 - 0) (omega arith))) _ _
    ∙ ap (λ (k : ℕ). fresh o k ∷ []) (omega arith)

grown_to : (c : RangeBuf) (l : List RangeBuf) (k : ℕ) → 0 < length l → joined_to c (grown_last l k) ≡ grown_last (joined_to c l) k
grown_to c [] k h = absurd (omega arith)
grown_to c (d ∷ []) k h =
    by_test (stays c d)
    (λ e. decided e (c ∷ grown_by d k ∷ []) (both c (grown_by d k) ∷ []) ∙ ap (λ (l : List RangeBuf). grown_last l k) (sym (decided e (c ∷ d ∷ []) (both c d ∷ []))))
    (λ e. undecided e (c ∷ grown_by d k ∷ []) (both c (grown_by d k) ∷ [])
    ∙ ap (λ (n : ℕ). record { off = c.off; len = n; pos = c.pos + d.pos } ∷ []) (omega arith)
    ∙ ap (λ (l : List RangeBuf). grown_last l k) (sym (undecided e (c ∷ d ∷ []) (both c d ∷ []))))
grown_to c (d ∷ x ∷ xs) k h =
    let g : List RangeBuf = grown_last (x ∷ xs) k in
    by_test (stays c d)
    (λ e. decided e (c ∷ d ∷ g) (both c d ∷ g) ∙ ap (λ (l : List RangeBuf). grown_last l k) (sym (decided e (c ∷ d ∷ x ∷ xs) (both c d ∷ x ∷ xs))))
    (λ e. undecided e (c ∷ d ∷ g) (both c d ∷ g) ∙ ap (λ (l : List RangeBuf). grown_last l k) (sym (undecided e (c ∷ d ∷ x ∷ xs) (both c d ∷ x ∷ xs))))

pub joined_to_some : (c : RangeBuf) (ds : List RangeBuf) → 0 < length (joined_to c ds)
joined_to_some c [] = omega arith
joined_to_some c (d ∷ ds) = cond_elim (λ (x : List RangeBuf). 0 < length x) (stays c d) (λ _. omega arith) (λ _. omega arith)

-- chunks and one more of k bytes, none of which was sent: the last grows by them
pub joined_grown : (c : RangeBuf) (cs ds : List RangeBuf) (o k : ℕ) → joined ds ≡ fresh o k ∷ [] → joined (c ∷ cs ++ ds) ≡ grown_last (joined (c ∷ cs)) k
joined_grown c [] ds o k e =
    let f : stays c (fresh o k) ≡ false = by_test (ltb 0 (avail c)) (λ t. rw t) (λ t. rw t) in
    ap (joined_to c) e ∙ undecided f (c ∷ fresh o k ∷ []) (both c (fresh o k) ∷ [])
    ∙ ap (λ (p : ℕ). record { off = c.off; len = c.len + k; pos = p } ∷ []) (add-zero c.pos)
joined_grown c (d ∷ cs) ds o k e =
    ap (joined_to c) (joined_grown d cs ds o k e) ∙ grown_to c (joined (d ∷ cs)) k (joined_to_some d (joined cs))

pub length_grown : (l : List RangeBuf) (k : ℕ) → length (grown_last l k) ≡ length l
length_grown [] k = refl
length_grown (c ∷ []) k = refl
length_grown (c ∷ d ∷ ds) k = ap suc (length_grown (d ∷ ds) k)

cut_none : (o k : ℕ) → k ≡ 0 → cut (pieces k) o k ≡ []
cut_none o k e = rw e

-- so a write never leaves more chunks than there were, or one
pub joined_few : (cs : List RangeBuf) (o k : ℕ) → length (joined (cs ++ cut (pieces k) o k)) ≤ max 1 (length cs)
joined_few [] o k =
    cases 0 k (λ h. omega (arith, ap length (joined_cut (pieces k) o k h (omega arith) (omega arith))))
    (λ h. let e : k ≡ 0 = omega arith in rw e (omega arith))
joined_few (c ∷ cs) o k =
    cases 0 k
    (λ h. omega (arith, ap length (joined_grown c cs (cut (pieces k) o k) o k (joined_cut (pieces k) o k h (omega arith) (omega arith))), length_grown (joined (c ∷ cs)) k, length_joined (c ∷ cs)))
    (λ h. let e : (c ∷ cs) ++ cut (pieces k) o k ≡ c ∷ cs = ap (λ (l : List RangeBuf). (c ∷ cs) ++ l) (cut_none o k (omega arith)) ∙ append-nil (c ∷ cs) in
    omega (arith, ap (λ (l : List RangeBuf). length (joined l)) e, length_joined (c ∷ cs)))

-- ---- what the table is to hold

module _ (lo : ℕ) (cs : List RangeBuf) (hi : ℕ) (k : Adjoin lo cs hi) where
  pub adj_tabled : Adjoin lo (tabled cs) hi
  adj_tabled = cond_elim (λ (x : List RangeBuf). Adjoin lo x hi) (ltb 64 (length cs)) (λ _. adj_joined lo cs hi k) (λ _. k)

  pub base_tabled : base (tabled cs) hi ≡ lo
  base_tabled = adj_base lo (tabled cs) hi adj_tabled

  pub total_tabled : total (tabled cs) ≡ total cs
  total_tabled = cond_elim (λ (x : List RangeBuf). total x ≡ total cs) (ltb 64 (length cs)) (λ _. total_joined lo cs hi k) (λ _. refl)

  pub used_tabled : (e : ℕ) → Used e cs → Used e (tabled cs)
  used_tabled e h = cond_elim (Used e) (ltb 64 (length cs)) (λ _. used_joined e lo cs hi k h) (λ _. h)

pub pos_tabled : (cs : List RangeBuf) (p : ℕ) → p ≤ length cs → tabled_pos cs p ≤ length (tabled cs)
pos_tabled cs p h =
    by_test (ltb 64 (length cs))
    (λ e. simp e (omega arith))
    (λ e. simp e h)

pub spent_tabled : (cs : List RangeBuf) (p : ℕ) → Spent p cs → Spent (tabled_pos cs p) (tabled cs)
spent_tabled cs p h =
    by_test (ltb 64 (length cs))
    (λ e. simp e (spent_none 0 (joined cs) refl))
    (λ e. simp e h)

-- a write is never refused for want of a table entry
pub tabled_few : (cs : List RangeBuf) (o k : ℕ) → length cs ≤ 64 → length (tabled (cs ++ cut (pieces k) o k)) ≤ 64
tabled_few cs o k h =
    cond_elim (λ (x : List RangeBuf). length x ≤ 64) (ltb 64 (length (cs ++ cut (pieces k) o k)))
    (λ _. omega (arith, joined_few cs o k)) (λ e. ltb-false 64 (length (cs ++ cut (pieces k) o k)) e)
