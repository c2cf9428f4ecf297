-- The byte map: which of the bytes held are still to be sent. Where an emit begins, how many bytes it takes, how many bytes there are to send, and
-- what every call does to the map depend on the map alone, not on how it is cut into chunks. Assumes nothing.
use mathlib.Core.Path.{◌≡◌, refl, sym, ap, subst, ◌∙◌}
use mathlib.Core.Logic.{◌⊎◌, inl, inr}
use mathlib.Core.Bool.{Bool, true, false, cond, ◌&&◌, true≢false}
use mathlib.Core.List.{List, [], ◌∷◌, ◌++◌}
use Prim.Native.Nat.{ℕ, zero, suc, ◌+◌, ◌-◌, ◌≤◌, ◌<◌, min}
use native.Mathlib.Nat.{zero-add, suc-add, add-zero}
use native.Mathlib.Omega.{arith}
use lib.Dec.{ltb, leb, eqb}
use lib.ListN.{drop}
use borrow.Author.Tests.{ltb-true, ltb-false, leb-true, leb-false, eqb-true, eqb-false, le-ltb, lt-ltb, le-leb, eq-eqb}
use Rattle.range_buf.specs.declared.RangeBuf.{RangeBuf}
use Rattle.range_buf.specs.Rules.{start, end, avail}
use Rattle.tables.proofs.Tables.{cases, cond_elim, by_test}
use Rattle.tables.proofs.Tests.{and_true, either}
use Rattle.send_buf.specs.State.{base, Adjoin, Spent, total}
use Rattle.send_buf.specs.Rules.{skipped, front_of, copied, back, behind, stays, joined_to, joined}
use Rattle.send_buf.proofs.Chunks.{adj_le, adj_behind, adj_back, front_in, copied_none, copied_le}
use Rattle.send_buf.proofs.Position.{spent_weak, spent_first}
use Rattle.send_buf.proofs.Joining.{goes, adj_joined}
use Rattle.send_buf.proofs.Emits.{ToSend, Moves, moves_from, adj_to_send}

-- the same bytes are to be sent
abbrev pub Same : List RangeBuf → List RangeBuf → Type 0
Same cs ds = (o : ℕ) → (ToSend cs o → ToSend ds o) × (ToSend ds o → ToSend cs o)

pub same_refl : (cs : List RangeBuf) → Same cs cs
same_refl cs o = (λ h. h, λ h. h)

pub same_sym : (cs ds : List RangeBuf) → Same cs ds → Same ds cs
same_sym cs ds h o = ((h o).1, (h o).0)

pub same_trans : (cs ds es : List RangeBuf) → Same cs ds → Same ds es → Same cs es
same_trans cs ds es h k o = (λ x. (k o).0 ((h o).0 x), λ x. (h o).1 ((k o).1 x))

-- ---- joining keeps the map

to_joined : (lo : ℕ) (c : RangeBuf) (ds : List RangeBuf) (hi : ℕ) → Adjoin lo (c ∷ ds) hi → Same (joined_to c ds) (c ∷ ds)
to_joined lo c [] hi k = same_refl (c ∷ [])
to_joined lo c (d ∷ ds) hi k =
    cond_elim (λ (x : List RangeBuf). Same x (c ∷ d ∷ ds)) (stays c d) (λ _. same_refl (c ∷ d ∷ ds))
    (λ t o. let r = k.3 in
    either (goes c d k.2 t)
    (λ y. (
      λ h. either h (λ p. inr (inl (omega (arith, r.0), omega (arith, r.0)))) (λ p. inr (inr p)),
      λ h. either h (λ p. absurd (omega arith)) (λ q. either q (λ p. inl (omega (arith, r.0), omega (arith, r.0))) (λ p. inr p)),
    ))
    (λ y. (
      λ h. either h (λ p. cases o (end c) (λ w. inl (omega arith, w)) (λ w. inr (inl (omega (arith, r.0), omega (arith, r.0))))) (λ p. inr (inr p)),
      λ h. either h (λ p. inl (omega arith, omega arith)) (λ q. either q (λ p. inl (omega (arith, r.0, k.2), omega (arith, r.0))) (λ p. inr p)),
    )))

same_cons : (c : RangeBuf) (cs ds : List RangeBuf) → Same cs ds → Same (c ∷ cs) (c ∷ ds)
same_cons c cs ds h o = (λ x. either x (λ p. inl p) (λ p. inr ((h o).0 p)), λ x. either x (λ p. inl p) (λ p. inr ((h o).1 p)))

pub same_joined : (lo : ℕ) (cs : List RangeBuf) (hi : ℕ) → Adjoin lo cs hi → Same (joined cs) cs
same_joined lo [] hi k = same_refl []
same_joined lo (c ∷ cs) hi k =
    same_trans (joined_to c (joined cs)) (c ∷ joined cs) (c ∷ cs)
    (to_joined lo c (joined cs) hi (k.0, k.1, k.2, adj_joined (end c) cs hi k.3))
    (same_cons c (joined cs) cs (same_joined (end c) cs hi k.3))

-- ---- the front is the first byte to send, else the end

front_due : (cs : List RangeBuf) (hi : ℕ) → ToSend cs (front_of cs hi) ⊎ (front_of cs hi ≡ hi)
front_due [] hi = inr refl
front_due (c ∷ cs) hi =
    cond_elim (λ (x : ℕ). ToSend (c ∷ cs) x ⊎ (x ≡ hi)) (ltb 0 (avail c))
    (λ e. inl (inl (omega arith, omega (arith, ltb-true 0 (avail c) e))))
    (λ e. either (front_due cs hi) (λ x. inl (inr x)) (λ x. inr x))

front_least : (lo : ℕ) (cs : List RangeBuf) (hi o : ℕ) → Adjoin lo cs hi → ToSend cs o → front_of cs hi ≤ o
front_least lo [] hi o k h = absurd h
front_least lo (c ∷ cs) hi o k h =
    cond_elim (λ (x : ℕ). x ≤ o) (ltb 0 (avail c))
    (λ e. either h (λ p. p.0) (λ p. omega (arith, adj_to_send (end c) cs hi o k.3 p, k.2)))
    (λ e. either h (λ p. absurd (omega (arith, ltb-false 0 (avail c) e))) (λ p. front_least (end c) cs hi o k.3 p))

pub front_from : (i : ℕ) (cs : List RangeBuf) (hi : ℕ) → Spent i cs → front_of (drop i cs) hi ≡ front_of cs hi
front_from zero cs hi s = refl
front_from (suc i) [] hi s = refl
front_from (suc i) (c ∷ cs) hi s =
    let e : c.pos ≡ c.len = s.0 (omega arith) in
    front_from i cs hi (spent_weak (suc i - 1) i cs (omega arith) s.1)
    ∙ ap (λ (t : Bool). cond t (start c) (front_of cs hi)) (sym (le-ltb 0 (avail c) (omega arith)))

front_below : (lo : ℕ) (cs ds : List RangeBuf) (hi : ℕ) → Adjoin lo cs hi → Adjoin lo ds hi → Same cs ds → front_of ds hi ≤ front_of cs hi
front_below lo cs ds hi k l h =
    either (front_due cs hi) (λ x. front_least lo ds hi (front_of cs hi) l ((h (front_of cs hi)).0 x))
    (λ x. omega (arith, (front_in 0 lo ds hi l).1))

pub front_same : (lo : ℕ) (cs ds : List RangeBuf) (hi : ℕ) → Adjoin lo cs hi → Adjoin lo ds hi → Same cs ds → front_of cs hi ≡ front_of ds hi
front_same lo cs ds hi k l h = omega (arith, front_below lo cs ds hi k l h, front_below lo ds cs hi l k (same_sym cs ds h))

-- ---- an emit takes the run of bytes to send from the front on, up to the room

-- it ends for want of room, or because the next byte is not to be sent
abbrev Stops : List RangeBuf → ℕ → ℕ → ℕ → Type 0
Stops cs next k n = (k ≡ n) ⊎ (ToSend cs (next + k) → ⊥)

stops_on : (e : ℕ) (cs : List RangeBuf) (hi n : ℕ) → Adjoin e cs hi → Stops cs e (copied cs e n) n
stops_on e [] hi n k = inr (λ h. h)
stops_on e (c ∷ cs) hi n k = go (stops_on (end c) cs hi (n - avail c) k.3) (ltb 0 n) refl (eqb (start c) e) refl
  where
    rest : ℕ
    rest = copied cs (end c) (n - avail c)

    go : Stops cs (end c) rest (n - avail c) → (t : Bool) → ltb 0 n ≡ t → (u : Bool) → eqb (start c) e ≡ u → Stops (c ∷ cs) e (cond (t && u) (min n (avail c) + rest) 0) n
    go r false x u y = inl (omega (arith, ltb-false 0 n x))
    go r true x false y =
        let ne : start c ≡ e → ⊥ = eqb-false (start c) e y in
        inr (λ h. either h (λ p. ne (omega (arith, k.0))) (λ p. omega (arith, adj_to_send (end c) cs hi (e + 0) k.3 p, k.0, k.1)))
    go r true x true y =
        let q = eqb-true (start c) e y in
        cases n (avail c)
        (λ z. inl (omega (arith, copied_none cs (end c) (n - avail c) (omega arith))))
        (λ z. either r (λ w. inl (omega arith))
        (λ w. inr (λ h. either h (λ p. omega (arith, k.0)) (λ p. w (subst (ToSend cs) (omega (arith, k.0)) p)))))

stops_here : (c : RangeBuf) (cs : List RangeBuf) (hi n : ℕ) → c.pos ≤ c.len → Adjoin (end c) cs hi → Stops (c ∷ cs) (start c) (copied (c ∷ cs) (start c) n) n
stops_here c cs hi n l k = go (stops_on (end c) cs hi (n - avail c) k) (ltb 0 n) refl (eqb (start c) (start c)) (eq-eqb (start c) (start c) refl)
  where
    rest : ℕ
    rest = copied cs (end c) (n - avail c)

    go : Stops cs (end c) rest (n - avail c) → (t : Bool) → ltb 0 n ≡ t → (u : Bool) → u ≡ true → Stops (c ∷ cs) (start c) (cond (t && u) (min n (avail c) + rest) 0) n
    go r false x u y = inl (omega (arith, ltb-false 0 n x))
    go r true x false y = absurd (true≢false (sym y))
    go r true x true y =
        cases n (avail c)
        (λ z. inl (omega (arith, copied_none cs (end c) (n - avail c) (omega arith))))
        (λ z. either r (λ w. inl (omega arith))
        (λ w. inr (λ h. either h (λ p. omega arith) (λ p. w (subst (ToSend cs) (omega arith) p)))))

stops_front : (lo : ℕ) (cs : List RangeBuf) (hi n : ℕ) → Adjoin lo cs hi → Stops cs (front_of cs hi) (copied (drop (skipped cs) cs) (front_of cs hi) n) n
stops_front lo [] hi n k = inr (λ h. h)
stops_front lo (c ∷ cs) hi n k = go (ltb 0 (avail c)) refl (stops_front (end c) cs hi n k.3)
  where
    go : (t : Bool) → ltb 0 (avail c) ≡ t → Stops cs (front_of cs hi) (copied (drop (skipped cs) cs) (front_of cs hi) n) n
        → Stops (c ∷ cs) (cond t (start c) (front_of cs hi)) (copied (drop (cond t 0 (suc (skipped cs))) (c ∷ cs)) (cond t (start c) (front_of cs hi)) n) n
    go true e r = stops_here c cs hi n k.2 k.3
    go false e r = either r (λ x. inl x) (λ x. inr (λ h. either h (λ p. omega (arith, ltb-false 0 (avail c) e)) (λ p. x p)))

-- the bytes copied, from the send position p on
abbrev pub taken : ℕ → List RangeBuf → ℕ → ℕ → ℕ
taken p cs hi n = copied (drop (p + skipped (drop p cs)) cs) (front_of (drop p cs) hi) n

stops_pos : (p lo : ℕ) (cs : List RangeBuf) (hi n : ℕ) → Adjoin lo cs hi → Spent p cs → Stops cs (front_of (drop p cs) hi) (taken p cs hi n) n
stops_pos zero lo cs hi n k s = rw zero-add (stops_front lo cs hi n k)
stops_pos (suc p) lo [] hi n k s = rw suc-add (inr (λ h. h))
stops_pos (suc p) lo (c ∷ cs) hi n k s =
    let e : c.pos ≡ c.len = s.0 (omega arith) in
    rw suc-add
    (either (stops_pos p (end c) cs hi n k.3 (spent_weak (suc p - 1) p cs (omega arith) s.1)) (λ x. inl x)
    (λ x. inr (λ h. either h (λ q. omega arith) (λ q. x q))))

-- the law of emit: where it begins and how many bytes it takes are the map's, whatever the chunks and the send positions
module _ (lo : ℕ) (cs ds : List RangeBuf) (hi p q n : ℕ) (k : Adjoin lo cs hi) (l : Adjoin lo ds hi) (s : Spent p cs) (t : Spent q ds) (h : Same cs ds) where
  pub begins_same : front_of (drop p cs) hi ≡ front_of (drop q ds) hi
  begins_same = front_from p cs hi s ∙ front_same lo cs ds hi k l h ∙ sym (front_from q ds hi t)

-- all that it takes is to be sent, and it is the whole run, or fills the room
taken_due : (p lo : ℕ) (cs : List RangeBuf) (hi n : ℕ) → Adjoin lo cs hi → Spent p cs → (o : ℕ) → front_of (drop p cs) hi ≤ o → o < front_of (drop p cs) hi + taken p cs hi n → ToSend cs o
taken_due p lo cs hi n k s o a b = (moves_from (p + skipped (drop p cs)) lo cs hi (front_of (drop p cs) hi) n k (spent_first p lo cs hi k s)).was o a b

taken_fits : (p : ℕ) (cs : List RangeBuf) (hi n : ℕ) → taken p cs hi n ≤ n
taken_fits p cs hi n = copied_le (drop (p + skipped (drop p cs)) cs) (front_of (drop p cs) hi) n

taken_less : (lo : ℕ) (cs ds : List RangeBuf) (hi p q n : ℕ) → Adjoin lo cs hi → Adjoin lo ds hi → Spent p cs → Spent q ds → Same cs ds → taken p cs hi n ≤ taken q ds hi n
taken_less lo cs ds hi p q n k l s t h =
    let f = begins_same lo cs ds hi p q n k l s t h in
    cases (taken q ds hi n) (taken p cs hi n)
    (λ x. either (stops_pos q lo ds hi n l t)
    (λ y. omega (arith, taken_fits p cs hi n))
    (λ y. absurd (y ((h (front_of (drop q ds) hi + taken q ds hi n)).0 (taken_due p lo cs hi n k s (front_of (drop q ds) hi + taken q ds hi n) (omega arith) (omega arith))))))
    (λ x. x)

pub taken_same : (lo : ℕ) (cs ds : List RangeBuf) (hi p q n : ℕ) → Adjoin lo cs hi → Adjoin lo ds hi → Spent p cs → Spent q ds → Same cs ds → taken p cs hi n ≡ taken q ds hi n
taken_same lo cs ds hi p q n k l s t h = omega (arith, taken_less lo cs ds hi p q n k l s t h, taken_less lo ds cs hi q p n l k t s (same_sym cs ds h))

-- and so is the map after it
moved_in : (cs cs' ds ds' : List RangeBuf) (next m : ℕ) → Moves cs cs' next m → Moves ds ds' next m → Same cs ds → (o : ℕ) → ToSend cs' o → ToSend ds' o
moved_in cs cs' ds ds' next m u v h o x =
    either (v.stay o ((h o).0 (u.old o x))) (λ y. y) (λ y. absurd (u.gone o y.0 y.1 x))

pub emit_map : (cs cs' ds ds' : List RangeBuf) (next m : ℕ) → Moves cs cs' next m → Moves ds ds' next m → Same cs ds → Same cs' ds'
emit_map cs cs' ds ds' next m u v h o = (moved_in cs cs' ds ds' next m u v h o, moved_in ds ds' cs cs' next m v u (same_sym cs ds h) o)

-- ---- the bytes to send are counted by the map

abbrev due : List RangeBuf → ℕ → Bool
due [] o = false
due (c ∷ cs) o = cond (leb (start c) o && ltb o (end c)) true (due cs o)

due_true : (cs : List RangeBuf) (o : ℕ) → due cs o ≡ true → ToSend cs o
due_true [] o e = absurd (true≢false (sym e))
due_true (c ∷ cs) o e =
    cond_elim (λ (t : Bool). t ≡ true → ToSend (c ∷ cs) o) (leb (start c) o && ltb o (end c))
    (λ x y. let p = and_true (leb (start c) o) (ltb o (end c)) x in inl (leb-true (start c) o p.0, ltb-true o (end c) p.1))
    (λ x y. inr (due_true cs o y)) e

true_due : (cs : List RangeBuf) (o : ℕ) → ToSend cs o → due cs o ≡ true
true_due [] o h = absurd h
true_due (c ∷ cs) o (inl h) = simp (le-leb (start c) o h.0, lt-ltb o (end c) h.1)
true_due (c ∷ cs) o (inr h) = cond_elim (λ (t : Bool). t ≡ true) (leb (start c) o && ltb o (end c)) (λ _. refl) (λ _. true_due cs o h)

due_same : (cs ds : List RangeBuf) → Same cs ds → (o : ℕ) → due cs o ≡ due ds o
due_same cs ds h o =
    by_test (due cs o) (λ e. e ∙ sym (true_due ds o ((h o).0 (due_true cs o e))))
    (λ e. by_test (due ds o) (λ f. absurd (true≢false (sym (true_due cs o ((h o).1 (due_true ds o f))) ∙ e))) (λ f. e ∙ sym f))

abbrev tally : (ℕ → Bool) → ℕ → ℕ → ℕ
tally f o zero = 0
tally f o (suc n) = cond (f o) 1 0 + tally f (suc o) n

tally_same : (f g : ℕ → Bool) (o n : ℕ) → ((i : ℕ) → o ≤ i → f i ≡ g i) → tally f o n ≡ tally g o n
tally_same f g o zero h = refl
tally_same f g o (suc n) h = rw (h o (omega arith), tally_same f g (suc o) n (λ i x. h i (omega arith)))

-- one chunk: first what is consumed of it, then what is not
tally_spent : (f : ℕ → Bool) (o m n : ℕ) → ((i : ℕ) → o ≤ i → i < o + m → f i ≡ false) → tally f o (m + n) ≡ tally f (o + m) n
tally_spent f o zero n h = rw (zero-add, add-zero)
tally_spent f o (suc m) n h =
    let e : f o ≡ false = h o (omega arith) (omega arith) in
    let q : o + suc m ≡ suc o + m = omega arith in
    rw (suc-add, e, zero-add, q) (tally_spent f (suc o) m n (λ i x y. h i (omega arith) (omega arith)))

tally_held : (f : ℕ → Bool) (o m n : ℕ) → ((i : ℕ) → o ≤ i → i < o + m → f i ≡ true) → tally f o (m + n) ≡ m + tally f (o + m) n
tally_held f o zero n h = rw (zero-add, zero-add, add-zero)
tally_held f o (suc m) n h =
    let e : f o ≡ true = h o (omega arith) (omega arith) in
    let q : o + suc m ≡ suc o + m = omega arith in
    let r = tally_held f (suc o) m n (λ i x y. h i (omega arith) (omega arith)) in
    rw (suc-add, e, q) (omega arith)

total_tally : (lo : ℕ) (cs : List RangeBuf) (hi : ℕ) → Adjoin lo cs hi → total cs ≡ tally (due cs) lo (hi - lo)
total_tally lo [] hi k = let e : hi - lo ≡ 0 = omega (arith, k) in rw e
total_tally lo (c ∷ cs) hi k =
    let l = adj_le (end c) cs hi k.3 in
    let n : hi - lo ≡ c.pos + (avail c + (hi - end c)) = omega (arith, k.0, k.2) in
    let f : ℕ → Bool = due (c ∷ cs) in
    let a : tally f lo (c.pos + (avail c + (hi - end c))) ≡ tally f (lo + c.pos) (avail c + (hi - end c)) = tally_spent f lo c.pos (avail c + (hi - end c)) (λ i x y. not_due i (omega (arith, k.0))) in
    let b : tally f (lo + c.pos) (avail c + (hi - end c)) ≡ avail c + tally f (lo + c.pos + avail c) (hi - end c) = tally_held f (lo + c.pos) (avail c) (hi - end c) (λ i x y. true_due (c ∷ cs) i (inl (omega (arith, k.0), omega (arith, k.0)))) in
    let e : lo + c.pos + avail c ≡ end c = omega (arith, k.0, k.2) in
    let d : tally f (end c) (hi - end c) ≡ tally (due cs) (end c) (hi - end c) = tally_same f (due cs) (end c) (hi - end c) (λ i x. behind_chunk i x) in
    let r = total_tally (end c) cs hi k.3 in
    let b' : tally f (lo + c.pos) (avail c + (hi - end c)) ≡ avail c + tally f (end c) (hi - end c) = b ∙ ap (λ (o : ℕ). avail c + tally f o (hi - end c)) e in
    rw n (omega (arith, a, b', d, r))
  where
    not_due : (i : ℕ) → i < start c → due (c ∷ cs) i ≡ false
    not_due i x =
        by_test (due (c ∷ cs) i)
        (λ e. either (due_true (c ∷ cs) i e) (λ p. absurd (omega arith)) (λ p. absurd (omega (arith, adj_to_send (end c) cs hi i k.3 p, k.2))))
        (λ e. e)

    behind_chunk : (i : ℕ) → end c ≤ i → due (c ∷ cs) i ≡ due cs i
    behind_chunk i x =
        cond_elim (λ (t : Bool). t ≡ due cs i) (leb (start c) i && ltb i (end c))
        (λ e. absurd (omega (arith, ltb-true i (end c) (and_true (leb (start c) i) (ltb i (end c)) e).1)))
        (λ e. refl)

pub total_same : (lo : ℕ) (cs ds : List RangeBuf) (hi : ℕ) → Adjoin lo cs hi → Adjoin lo ds hi → Same cs ds → total cs ≡ total ds
total_same lo cs ds hi k l h =
    total_tally lo cs hi k ∙ tally_same (due cs) (due ds) lo (hi - lo) (λ i x. due_same cs ds h i) ∙ sym (total_tally lo ds hi l)

-- ---- write

to_append : (cs ds : List RangeBuf) (o : ℕ) → ToSend (cs ++ ds) o → ToSend cs o ⊎ ToSend ds o
to_append [] ds o h = inr h
to_append (c ∷ cs) ds o h = either h (λ p. inl (inl p)) (λ p. either (to_append cs ds o p) (λ x. inl (inr x)) (λ x. inr x))

append_left : (cs ds : List RangeBuf) (o : ℕ) → ToSend cs o → ToSend (cs ++ ds) o
append_left [] ds o h = absurd h
append_left (c ∷ cs) ds o h = either h (λ p. inl p) (λ p. inr (append_left cs ds o p))

append_right : (cs ds : List RangeBuf) (o : ℕ) → ToSend ds o → ToSend (cs ++ ds) o
append_right [] ds o h = h
append_right (c ∷ cs) ds o h = inr (append_right cs ds o h)

pub write_map : (cs ds es : List RangeBuf) → Same cs ds → Same (cs ++ es) (ds ++ es)
write_map cs ds es h o = (
  λ x. either (to_append cs es o x) (λ p. append_left ds es o ((h o).0 p)) (λ p. append_right ds es o p),
  λ x. either (to_append ds es o x) (λ p. append_left cs es o ((h o).1 p)) (λ p. append_right cs es o p),
)

-- ---- ack and drop, to the same byte

behind_old : (cs : List RangeBuf) (k o : ℕ) → ToSend (behind cs k) o → ToSend cs o
behind_old [] k o h = h
behind_old (c ∷ cs) k o h = cond_elim (λ (x : List RangeBuf). ToSend x o → ToSend (c ∷ cs) o) (leb (end c) k) (λ _ x. inr (behind_old cs k o x)) (λ _ x. x) h

behind_stays : (lo : ℕ) (cs : List RangeBuf) (hi k o : ℕ) → Adjoin lo cs hi → base (behind cs k) hi ≤ o → ToSend cs o → ToSend (behind cs k) o
behind_stays lo [] hi k o a b h = h
behind_stays lo (c ∷ cs) hi k o a b h =
    cond_elim (λ (x : List RangeBuf). base x hi ≤ o → ToSend x o) (leb (end c) k)
    (λ _ x. either h (λ p. absurd (omega (arith, (adj_behind (end c) cs hi k a.3).0))) (λ p. behind_stays (end c) cs hi k o a.3 x p))
    (λ _ x. h) b

drop_in : (lo : ℕ) (cs ds : List RangeBuf) (hi k : ℕ) → Adjoin lo cs hi → Adjoin lo ds hi → base (behind cs k) hi ≡ base (behind ds k) hi → Same cs ds → (o : ℕ) → ToSend (behind cs k) o → ToSend (behind ds k) o
drop_in lo cs ds hi k a b e h o x =
    behind_stays lo ds hi k o b (omega (arith, e, adj_to_send (base (behind cs k) hi) (behind cs k) hi o (adj_behind lo cs hi k a).1 x)) ((h o).0 (behind_old cs k o x))

pub drop_map : (lo : ℕ) (cs ds : List RangeBuf) (hi k : ℕ) → Adjoin lo cs hi → Adjoin lo ds hi → base (behind cs k) hi ≡ base (behind ds k) hi → Same cs ds → Same (behind cs k) (behind ds k)
drop_map lo cs ds hi k a b e h o = (drop_in lo cs ds hi k a b e h o, drop_in lo ds cs hi k b a (sym e) (same_sym cs ds h) o)

-- ---- retransmit of a..e: what was to be sent, and what of the range is held

back_old : (cs : List RangeBuf) (a e o : ℕ) → ToSend cs o → ToSend (back cs a e) o
back_old [] a e o h = h
back_old (c ∷ cs) a e o h =
    cond_elim P (leb e c.off) (λ _. h)
    (λ d. cond_elim P (ltb (end c) a) (λ _. either h (λ p. inl p) (λ p. inr (back_old cs a e o p)))
    (λ y. cond_elim P (ltb e (end c))
    (λ z. let w = leb-false e c.off d in
    either h (λ p. cases o e (λ x. inl (omega arith, omega arith)) (λ x. inr (inl (omega arith, omega arith)))) (λ p. inr (inr p)))
    (λ z. either h (λ p. inl (omega arith, p.1)) (λ p. inr (back_old cs a e o p)))))
  where
    P : List RangeBuf → Type 0
    P x = ToSend x o

back_new : (lo : ℕ) (cs : List RangeBuf) (hi a e o : ℕ) → Adjoin lo cs hi → a ≤ o → o < e → lo ≤ o → o < hi → ToSend (back cs a e) o
back_new lo [] hi a e o k p q r t = absurd (omega (arith, k))
back_new lo (c ∷ cs) hi a e o k p q r t =
    let rec : end c ≤ o → ToSend (back cs a e) o = λ x. back_new (end c) cs hi a e o k.3 p q x t in
    cond_elim P (leb e c.off) (λ d. absurd (omega (arith, leb-true e c.off d, k.0)))
    (λ d. cond_elim P (ltb (end c) a) (λ y. inr (rec (omega (arith, ltb-true (end c) a y))))
    (λ y. cond_elim P (ltb e (end c))
    (λ z. inl (omega (arith, k.0), omega (arith, leb-false e c.off d)))
    (λ z. cases o (end c) (λ x. inl (omega (arith, k.0), x)) (λ x. inr (rec x)))))
  where
    P : List RangeBuf → Type 0
    P x = ToSend x o

back_only : (cs : List RangeBuf) (a e o : ℕ) → ToSend (back cs a e) o → ToSend cs o ⊎ ((a ≤ o) × (o < e))
back_only [] a e o h = absurd h
back_only (c ∷ cs) a e o h =
    let rest : ToSend (back cs a e) o → ToSend (c ∷ cs) o ⊎ ((a ≤ o) × (o < e)) = λ x. either (back_only cs a e o x) (λ p. inl (inr p)) (λ p. inr p) in
    cond_elim P (leb e c.off) (λ _ x. inl x)
    (λ d. cond_elim P (ltb (end c) a) (λ _ x. either x (λ p. inl (inl p)) rest)
    (λ y. cond_elim P (ltb e (end c))
    (λ z x. let w = leb-false e c.off d in
    let v = ltb-true e (end c) z in
    either x (λ p. cases o a (λ m. inl (inl (omega arith, omega arith))) (λ m. inr (m, omega arith)))
    (λ q. either q (λ p. inl (inl (omega arith, omega arith))) (λ p. inl (inr p))))
    (λ z x. let v = ltb-false e (end c) z in
    either x (λ p. cases o a (λ m. inl (inl (omega arith, p.1))) (λ m. inr (m, omega arith))) rest))) h
  where
    P : List RangeBuf → Type 0
    P x = ToSend x o → ToSend (c ∷ cs) o ⊎ ((a ≤ o) × (o < e))

below_end : (lo : ℕ) (cs : List RangeBuf) (hi o : ℕ) → Adjoin lo cs hi → ToSend cs o → o < hi
below_end lo [] hi o k h = absurd h
below_end lo (c ∷ cs) hi o k h = either h (λ p. omega (arith, adj_le (end c) cs hi k.3)) (λ p. below_end (end c) cs hi o k.3 p)

back_in : (lo : ℕ) (cs ds : List RangeBuf) (hi a e : ℕ) → Adjoin lo cs hi → Adjoin lo ds hi → Same cs ds → (o : ℕ) → ToSend (back cs a e) o → ToSend (back ds a e) o
back_in lo cs ds hi a e k l h o x =
    let m = adj_back lo cs hi a e k in
    either (back_only cs a e o x) (λ p. back_old ds a e o ((h o).0 p))
    (λ p. back_new lo ds hi a e o l p.0 p.1 (adj_to_send lo (back cs a e) hi o m x) (below_end lo (back cs a e) hi o m x))

pub back_map : (lo : ℕ) (cs ds : List RangeBuf) (hi a e : ℕ) → Adjoin lo cs hi → Adjoin lo ds hi → Same cs ds → Same (back cs a e) (back ds a e)
back_map lo cs ds hi a e k l h o = (back_in lo cs ds hi a e k l h o, back_in lo ds cs hi a e l k (same_sym cs ds h) o)
