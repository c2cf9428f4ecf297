-- When an ack drops other bytes of a buffer that joins than of one without a limit: only where it covers a joined chunk in part. For every boundary of
-- the one is a boundary of the other. Assumes nothing.
use mathlib.Core.Path.{◌≡◌, refl, sym, subst, ◌∙◌}
use mathlib.Core.Logic.{◌⊎◌, inl, inr}
use mathlib.Core.Bool.{Bool, true, false, cond, ◌&&◌}
use mathlib.Core.List.{List, [], ◌∷◌, ◌++◌}
use Prim.Native.Nat.{ℕ, zero, suc, ◌-◌, ◌≤◌, ◌<◌}
use native.Mathlib.Omega.{arith}
use lib.Dec.{ltb, leb, eqb}
use lib.ListN.{length}
use borrow.Author.Tests.{ltb-true, ltb-false, leb-true, leb-false}
use Rattle.range_buf.specs.declared.RangeBuf.{RangeBuf}
use Rattle.range_buf.specs.Rules.{start, end, avail}
use Rattle.tables.proofs.Tables.{cases, cond_elim}
use Rattle.tables.proofs.Tests.{either}
use Rattle.send_buf.specs.State.{base, Adjoin}
use Rattle.send_buf.specs.Rules.{stays, joined_to, joined, tabled, advanced, behind, back}
use Rattle.send_buf.proofs.Chunks.{advanced_from, adj_le, adj_behind}
use Rattle.joining.specs.Calls.{Begins, Part}
use Rattle.joining.proofs.Edges.{begins_in}

-- every chunk of the one begins where one of the other does
abbrev pub Finer : List RangeBuf → List RangeBuf → Type 0
Finer cs ds = (o : ℕ) → Begins cs o → Begins ds o

-- ---- what a call does to the begins

begins_to : (c : RangeBuf) (ds : List RangeBuf) (o : ℕ) → Begins (joined_to c ds) o → Begins (c ∷ ds) o
begins_to c [] o h = h
begins_to c (d ∷ ds) o h =
    cond_elim (λ (x : List RangeBuf). Begins x o → Begins (c ∷ d ∷ ds) o) (stays c d) (λ _ x. x)
    (λ _ x. either x (λ e. inl e) (λ e. inr (inr e))) h

pub begins_joined : (cs : List RangeBuf) (o : ℕ) → Begins (joined cs) o → Begins cs o
begins_joined [] o h = h
begins_joined (c ∷ cs) o h = either (begins_to c (joined cs) o h) (λ e. inl e) (λ e. inr (begins_joined cs o e))

pub begins_tabled : (cs : List RangeBuf) (o : ℕ) → Begins (tabled cs) o → Begins cs o
begins_tabled cs o h = cond_elim (λ (x : List RangeBuf). Begins x o → Begins cs o) (ltb 64 (length cs)) (λ _ x. begins_joined cs o x) (λ _ x. x) h

begins_advanced : (cs : List RangeBuf) (next n o : ℕ) → (Begins (advanced cs next n) o → Begins cs o) × (Begins cs o → Begins (advanced cs next n) o)
begins_advanced [] next n o = (λ h. h, λ h. h)
begins_advanced (c ∷ cs) next n o =
    let r = begins_advanced cs (end c) (n - avail c) o in
    cond_elim (λ (x : List RangeBuf). (Begins x o → Begins (c ∷ cs) o) × (Begins (c ∷ cs) o → Begins x o)) (ltb 0 n && eqb (start c) next)
    (λ _. (λ h. either h (λ e. inl e) (λ e. inr (r.0 e)), λ h. either h (λ e. inl e) (λ e. inr (r.1 e))))
    (λ _. (λ h. h, λ h. h))

pub begins_sent : (i : ℕ) (cs : List RangeBuf) (next n o : ℕ) → (Begins (advanced_from i cs next n) o → Begins cs o) × (Begins cs o → Begins (advanced_from i cs next n) o)
begins_sent zero cs next n o = begins_advanced cs next n o
begins_sent (suc i) [] next n o = (λ h. h, λ h. h)
begins_sent (suc i) (c ∷ cs) next n o =
    let r = begins_sent i cs next n o in
    (λ h. either h (λ e. inl e) (λ e. inr (r.0 e)), λ h. either h (λ e. inl e) (λ e. inr (r.1 e)))

begins_append : (cs ds : List RangeBuf) (o : ℕ) → Begins (cs ++ ds) o → Begins cs o ⊎ Begins ds o
begins_append [] ds o h = inr h
begins_append (c ∷ cs) ds o h = either h (λ e. inl (inl e)) (λ e. either (begins_append cs ds o e) (λ x. inl (inr x)) (λ x. inr x))

begins_left : (cs ds : List RangeBuf) (o : ℕ) → Begins cs o → Begins (cs ++ ds) o
begins_left [] ds o h = absurd h
begins_left (c ∷ cs) ds o h = either h (λ e. inl e) (λ e. inr (begins_left cs ds o e))

begins_right : (cs ds : List RangeBuf) (o : ℕ) → Begins ds o → Begins (cs ++ ds) o
begins_right [] ds o h = h
begins_right (c ∷ cs) ds o h = inr (begins_right cs ds o h)

pub finer_append : (cs ds es : List RangeBuf) → Finer cs ds → Finer (cs ++ es) (ds ++ es)
finer_append cs ds es f o h = either (begins_append cs es o h) (λ x. begins_left ds es o (f o x)) (λ x. begins_right ds es o x)

-- a retransmit of a..e makes one more begin, at e, if that lies inside
begins_back : (cs : List RangeBuf) (a e o : ℕ) → Begins (back cs a e) o → Begins cs o ⊎ (o ≡ e)
begins_back [] a e o h = absurd h
begins_back (c ∷ cs) a e o h =
    let rest : Begins (back cs a e) o → Begins (c ∷ cs) o ⊎ (o ≡ e) = λ x. either (begins_back cs a e o x) (λ y. inl (inr y)) (λ y. inr y) in
    cond_elim P (leb e c.off) (λ _ x. inl x)
    (λ d. cond_elim P (ltb (end c) a) (λ _ x. either x (λ y. inl (inl y)) rest)
    (λ y. cond_elim P (ltb e (end c))
    (λ z x. either x (λ w. inl (inl w)) (λ w. either w (λ v. inr (omega (arith, leb-false e c.off d))) (λ v. inl (inr v))))
    (λ z x. either x (λ w. inl (inl w)) rest))) h
  where
    P : List RangeBuf → Type 0
    P x = Begins x o → Begins (c ∷ cs) o ⊎ (o ≡ e)

back_begins : (cs : List RangeBuf) (a e o : ℕ) → Begins cs o → Begins (back cs a e) o
back_begins [] a e o h = h
back_begins (c ∷ cs) a e o h =
    let rest : Begins cs o → Begins (back cs a e) o = λ x. back_begins cs a e o x in
    cond_elim P (leb e c.off) (λ _. h)
    (λ d. cond_elim P (ltb (end c) a) (λ _. either h (λ x. inl x) (λ x. inr (rest x)))
    (λ y. cond_elim P (ltb e (end c))
    (λ z. either h (λ x. inl x) (λ x. inr (inr x)))
    (λ z. either h (λ x. inl x) (λ x. inr (rest x)))))
  where
    P : List RangeBuf → Type 0
    P x = Begins x o

back_end : (lo : ℕ) (cs : List RangeBuf) (hi a e : ℕ) → Adjoin lo cs hi → a ≤ e → lo < e → e < hi → Begins (back cs a e) e
back_end lo [] hi a e k l p q = absurd (omega (arith, k))
back_end lo (c ∷ cs) hi a e k l p q =
    let rest : end c ≤ e → Begins (back cs a e) e = λ x. cases (end c) e (λ y. back_end (end c) cs hi a e k.3 l y q) (λ y. back_begins cs a e e (begins_at (end c) cs hi e k.3 (omega arith) q)) in
    cond_elim P (leb e c.off) (λ d. absurd (omega (arith, leb-true e c.off d, k.0)))
    (λ d. cond_elim P (ltb (end c) a) (λ y. inr (rest (omega (arith, ltb-true (end c) a y))))
    (λ y. cond_elim P (ltb e (end c))
    (λ z. inr (inl (omega (arith, leb-false e c.off d))))
    (λ z. inr (rest (ltb-false e (end c) z)))))
  where
    P : List RangeBuf → Type 0
    P x = Begins x e

    -- chunks that adjoin from e on begin there
    begins_at : (lo : ℕ) (cs : List RangeBuf) (hi e : ℕ) → Adjoin lo cs hi → lo ≡ e → e < hi → Begins cs e
    begins_at lo [] hi e k p q = absurd (omega (arith, k))
    begins_at lo (c ∷ cs) hi e k p q = inl (k.0 ∙ p)

pub finer_back : (lo : ℕ) (cs ds : List RangeBuf) (hi a e : ℕ) → Adjoin lo (back cs a e) hi → Adjoin lo ds hi → a ≤ e → Finer cs ds → Finer (back cs a e) (back ds a e)
finer_back lo cs ds hi a e k l p f o h =
    either (begins_back cs a e o h) (λ x. back_begins ds a e o (f o x))
    (λ x. let b = begins_in lo (back cs a e) hi o k h in
    cases lo o
    (λ y. subst (Begins (back ds a e)) (sym x) (back_end lo ds hi a e l p (omega arith) (omega (arith, b.1))))
    (λ y. back_begins ds a e o (begins_low lo ds hi o l (omega (arith, b.0)) b.1)))
  where
    begins_low : (lo : ℕ) (ds : List RangeBuf) (hi o : ℕ) → Adjoin lo ds hi → lo ≡ o → o < hi → Begins ds o
    begins_low lo [] hi o k p q = absurd (omega (arith, k))
    begins_low lo (c ∷ cs) hi o k p q = inl (k.0 ∙ p)

-- ---- a drop up to k

begins_behind : (cs : List RangeBuf) (k o : ℕ) → Begins (behind cs k) o → Begins cs o
begins_behind [] k o h = h
begins_behind (c ∷ cs) k o h = cond_elim (λ (x : List RangeBuf). Begins x o → Begins (c ∷ cs) o) (leb (end c) k) (λ _ x. inr (begins_behind cs k o x)) (λ _ x. x) h

behind_begins : (lo : ℕ) (cs : List RangeBuf) (hi k o : ℕ) → Adjoin lo cs hi → base (behind cs k) hi ≤ o → Begins cs o → Begins (behind cs k) o
behind_begins lo [] hi k o a b h = h
behind_begins lo (c ∷ cs) hi k o a b h =
    cond_elim (λ (x : List RangeBuf). base x hi ≤ o → Begins x o) (leb (end c) k)
    (λ _ x. either h (λ e. absurd (omega (arith, a.1, (adj_behind (end c) cs hi k a.3).0))) (λ e. behind_begins (end c) cs hi k o a.3 x e))
    (λ _ x. h) b

pub finer_behind : (lo : ℕ) (cs ds : List RangeBuf) (hi k : ℕ) → Adjoin lo cs hi → Adjoin lo ds hi → base (behind cs k) hi ≡ base (behind ds k) hi → Finer cs ds → Finer (behind cs k) (behind ds k)
finer_behind lo cs ds hi k a b e f o h =
    let w = begins_in (base (behind cs k) hi) (behind cs k) hi o (adj_behind lo cs hi k a).1 h in
    behind_begins lo ds hi k o b (omega (arith, e, w.0)) (f o (begins_behind cs k o h))

-- where a drop up to k ends: at or below k, or where the chunks begin; and no chunk that ends at or below k is left
drop_end : (lo : ℕ) (cs : List RangeBuf) (hi k : ℕ) → Adjoin lo cs hi → (base (behind cs k) hi ≡ lo) ⊎ (base (behind cs k) hi ≤ k)
drop_end lo [] hi k a = inl (sym a)
drop_end lo (c ∷ cs) hi k a =
    cond_elim (λ (x : List RangeBuf). (base x hi ≡ lo) ⊎ (base x hi ≤ k)) (leb (end c) k)
    (λ d. inr (either (drop_end (end c) cs hi k a.3) (λ e. omega (arith, e, leb-true (end c) k d)) (λ e. e)))
    (λ d. inl a.0)

-- all up to a begin at or below k is dropped
drops_past : (lo : ℕ) (cs : List RangeBuf) (hi k o : ℕ) → Adjoin lo cs hi → Begins cs o → o ≤ k → o ≤ base (behind cs k) hi
drops_past lo [] hi k o a h l = absurd h
drops_past lo (c ∷ cs) hi k o a h l =
    cond_elim (λ (x : List RangeBuf). o ≤ base x hi) (leb (end c) k)
    (λ d. either h (λ e. omega (arith, (adj_behind (end c) cs hi k a.3).0)) (λ e. drops_past (end c) cs hi k o a.3 e l))
    (λ d. either h (λ e. omega arith) (λ e. absurd (omega (arith, leb-false (end c) k d, (begins_in (end c) cs hi o a.3 e).0))))

all_dropped : (lo : ℕ) (cs : List RangeBuf) (hi k : ℕ) → Adjoin lo cs hi → hi ≤ k → base (behind cs k) hi ≡ hi
all_dropped lo [] hi k a h = refl
all_dropped lo (c ∷ cs) hi k a h =
    cond_elim (λ (x : List RangeBuf). base x hi ≡ hi) (leb (end c) k) (λ d. all_dropped (end c) cs hi k a.3 h)
    (λ d. absurd (omega (arith, leb-false (end c) k d, adj_le (end c) cs hi a.3)))

base_begins : (cs : List RangeBuf) (hi k : ℕ) → base (behind cs k) hi < hi → Begins cs (base (behind cs k) hi)
base_begins [] hi k h = absurd (omega arith)
base_begins (c ∷ cs) hi k h = go (leb (end c) k) (λ x. base_begins cs hi k x) h
  where
    go : (t : Bool) → (base (behind cs k) hi < hi → Begins cs (base (behind cs k) hi)) → base (cond t (behind cs k) (c ∷ cs)) hi < hi
        → Begins (c ∷ cs) (base (cond t (behind cs k) (c ∷ cs)) hi)
    go true r x = inr (r x)
    go false r x = inl refl

part_at : (lo : ℕ) (cs ds : List RangeBuf) (hi k y : ℕ) → Adjoin lo cs hi → base (behind cs k) hi < y → y ≤ k → y < hi → Begins ds y → Part cs ds k
part_at lo [] ds hi k y a h l m b = absurd (omega arith)
part_at lo (c ∷ cs) ds hi k y a h l m b =
    cond_elim (λ (x : List RangeBuf). base x hi < y → Part (c ∷ cs) ds k) (leb (end c) k)
    (λ d x. inr (part_at (end c) cs ds hi k y a.3 x l m b))
    (λ d x. inl (y, x, l, leb-false (end c) k d, b)) h

-- a drop ends at the same byte of both, or it covers a joined chunk in part
pub drops_same_or_part : (lo : ℕ) (cs ds : List RangeBuf) (hi k : ℕ) → Adjoin lo cs hi → Adjoin lo ds hi → Finer cs ds
    → (base (behind cs k) hi ≡ base (behind ds k) hi) ⊎ Part cs ds k
drops_same_or_part lo cs ds hi k a b f =
    let x : ℕ = base (behind cs k) hi in
    let y : ℕ = base (behind ds k) hi in
    let p = adj_behind lo cs hi k a in
    let q = adj_behind lo ds hi k b in
    let xh = adj_le x (behind cs k) hi p.1 in
    let yh = adj_le y (behind ds k) hi q.1 in
    cases x y
    (λ h. either (drop_end lo ds hi k b) (λ e. absurd (omega (arith, e, p.0)))
    (λ e. cases y hi
    (λ w. inr (part_at lo cs ds hi k y a h e w (base_begins ds hi k w)))
    (λ w. absurd (omega (arith, all_dropped lo cs hi k a (omega arith))))))
    (λ h. cases y x
    (λ g. either (drop_end lo cs hi k a) (λ e. absurd (omega (arith, e, q.0)))
    (λ e. cases x hi
    (λ w. absurd (omega (arith, drops_past lo ds hi k x b (f x (base_begins cs hi k w)) e)))
    (λ w. absurd (omega (arith, all_dropped lo ds hi k b (omega arith))))))
    (λ g. inl (omega arith)))
