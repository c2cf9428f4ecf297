-- How many emits until all is out: with b bytes to send, in g separate runs, at most b / r + g emits of room r leave nothing to send, each byte to
-- send lies in exactly one of their frames, and no other byte in any. Assumes nothing.
use mathlib.Core.Path.{◌≡◌, refl, sym, ap, subst, ◌∙◌}
use mathlib.Core.Logic.{◌⊎◌, inl, inr}
use mathlib.Core.Bool.{Bool, true, false, cond, ◌&&◌}
use mathlib.Core.List.{List, [], ◌∷◌}
use Prim.Native.Nat.{ℕ, zero, suc, ◌+◌, ◌-◌, ◌*◌, ◌/◌, ◌≤◌, ◌<◌, min}
use native.Mathlib.Nat.{mul-suc, mul-zero, div-add-mod, mod-lt}
use native.Mathlib.Omega.{arith}
use lib.Dec.{ltb, leb, eqb}
use lib.ListN.{length, drop}
use borrow.Author.Tests.{ltb-true, ltb-false, leb-true, leb-false, eqb-true, eqb-false, le-ltb, lt-ltb, eq-eqb}
use Rattle.range_buf.specs.declared.RangeBuf.{RangeBuf}
use Rattle.range_buf.specs.Rules.{start, end, avail, used}
use Rattle.tables.proofs.Tables.{cases, cond_elim}
use Rattle.send_buf.specs.State.{Send, Adjoin, Spent, total, GoodSend}
use Rattle.send_buf.specs.Rules.{skipped, front_of, front, copied, advanced, first, emit_count, sent}
use Rattle.send_buf.proofs.Chunks.{advanced_from, copied_none, advanced_none, total_sent}
use Rattle.send_buf.proofs.Position.{spent_weak, spent_first}
use Rattle.send_buf.proofs.Kept.{sent_good}
use Rattle.tables.proofs.Tests.{and_true, and-false, either}

-- ---- the separate contiguous runs of the bytes still to send

-- a chunk that holds bytes from o on begins a run, unless the run before it ends there; t is 1 more than where that one ends, or 0 with none
abbrev pub joint : ℕ → ℕ → ℕ
joint o t = cond (eqb (suc o) t) 0 1

abbrev pub more : ℕ → List RangeBuf → ℕ
more t [] = 0
more t (c ∷ cs) = cond (ltb 0 (avail c)) (joint (start c) t + more (suc (end c)) cs) (more t cs)

abbrev pub groups : List RangeBuf → ℕ
groups cs = more 0 cs

joint_same : (o t : ℕ) → suc o ≡ t → joint o t ≡ 0
joint_same o t h = cond_elim (λ (x : ℕ). x ≡ 0) (eqb (suc o) t) (λ d. refl) (λ d. absurd (eqb-false (suc o) t d h))

joint_other : (o t : ℕ) → (suc o ≡ t → ⊥) → joint o t ≡ 1
joint_other o t h = cond_elim (λ (x : ℕ). x ≡ 1) (eqb (suc o) t) (λ d. absurd (h (eqb-true (suc o) t d))) (λ d. refl)

joint_le : (o t : ℕ) → joint o t ≤ 1
joint_le o t = cond_elim (λ (x : ℕ). x ≤ 1) (eqb (suc o) t) (λ d. omega arith) (λ d. omega arith)

more_skip : (t : ℕ) (c : RangeBuf) (cs : List RangeBuf) → avail c ≡ 0 → more t (c ∷ cs) ≡ more t cs
more_skip t c cs e = ap (λ (b : Bool). cond b (joint (start c) t + more (suc (end c)) cs) (more t cs)) (le-ltb 0 (avail c) (omega arith))

more_some : (t : ℕ) (c : RangeBuf) (cs : List RangeBuf) → 0 < avail c → more t (c ∷ cs) ≡ joint (start c) t + more (suc (end c)) cs
more_some t c cs e = ap (λ (b : Bool). cond b (joint (start c) t + more (suc (end c)) cs) (more t cs)) (lt-ltb 0 (avail c) e)

more_any : (t u : ℕ) (cs : List RangeBuf) → more t cs ≤ suc (more u cs)
more_any t u [] = omega arith
more_any t u (c ∷ cs) = go (ltb 0 (avail c)) (more_any t u cs)
  where
    go : (b : Bool) → more t cs ≤ suc (more u cs)
        → cond b (joint (start c) t + more (suc (end c)) cs) (more t cs) ≤ suc (cond b (joint (start c) u + more (suc (end c)) cs) (more u cs))
    go true h = omega (arith, joint_le (start c) t)
    go false h = h

-- a run that ended below the first chunk adjoins none
more_far : (lo : ℕ) (cs : List RangeBuf) (hi e : ℕ) → Adjoin lo cs hi → e < lo → more (suc e) cs ≡ more 0 cs
more_far lo [] hi e k h = refl
more_far lo (c ∷ cs) hi e k h = go (ltb 0 (avail c)) (more_far (end c) cs hi e k.3 (omega arith))
  where
    go : (b : Bool) → more (suc e) cs ≡ more 0 cs
        → cond b (joint (start c) (suc e) + more (suc (end c)) cs) (more (suc e) cs) ≡ cond b (joint (start c) 0 + more (suc (end c)) cs) (more 0 cs)
    go true x = omega (arith, joint_other (start c) (suc e) (λ y. omega arith), joint_other (start c) 0 (λ y. omega arith))
    go false x = x

-- no more runs than chunks
more_le : (t : ℕ) (cs : List RangeBuf) → more t cs ≤ length cs
more_le t [] = omega arith
more_le t (c ∷ cs) =
    cond_elim (λ (x : ℕ). x ≤ suc (length cs)) (ltb 0 (avail c))
    (λ e. omega (arith, joint_le (start c) t, more_le (suc (end c)) cs))
    (λ e. omega (arith, more_le t cs))

pub groups_le : (cs : List RangeBuf) → groups cs ≤ length cs
groups_le cs = more_le 0 cs

-- no bytes, no runs, and the other way round
groups_none : (t : ℕ) (cs : List RangeBuf) → total cs ≡ 0 → more t cs ≡ 0
groups_none t [] h = refl
groups_none t (c ∷ cs) h = more_skip t c cs (omega arith) ∙ groups_none t cs (omega arith)

none_groups : (cs : List RangeBuf) → groups cs ≡ 0 → total cs ≡ 0
none_groups [] h = refl
none_groups (c ∷ cs) h =
    cases 0 (avail c)
    (λ x. absurd (omega (arith, more_some 0 c cs x, joint_other (start c) 0 (λ y. omega arith))))
    (λ x. omega (arith, none_groups cs (sym (more_skip 0 c cs (omega arith)) ∙ h)))

-- ---- one emit with room r: the room is used up, or a run is finished, or there was nothing

abbrev Progress : List RangeBuf → List RangeBuf → ℕ → Type 0
Progress cs ds r =
    ((total ds + r ≡ total cs) × (groups ds ≤ groups cs)) ⊎ (((total ds ≤ total cs) × (suc (groups ds) ≤ groups cs)) ⊎ ((total cs ≡ 0) × (total ds ≡ 0)))

-- on from the end e of a run, with room n left
abbrev OnFrom : ℕ → List RangeBuf → ℕ → List RangeBuf → Type 0
OnFrom e cs n ds = ((total ds + n ≡ total cs) × (groups ds ≤ suc (more (suc e) cs))) ⊎ (groups ds ≤ more (suc e) cs)

on_from : (e : ℕ) (cs : List RangeBuf) (hi n : ℕ) → Adjoin e cs hi → OnFrom e cs n (advanced cs e n)
on_from e [] hi n k = inr (omega arith)
on_from e (c ∷ cs) hi n k = go (on_from (end c) cs hi (n - avail c) k.3) (ltb 0 n) refl (eqb (start c) e) refl
  where
    d : RangeBuf
    d = used c (min n (avail c))

    go : OnFrom (end c) cs (n - avail c) (advanced cs (end c) (n - avail c)) → (t : Bool) → ltb 0 n ≡ t → (u : Bool) → eqb (start c) e ≡ u
        → OnFrom e (c ∷ cs) n (cond (t && u) (used c (min n (avail c)) ∷ advanced cs (end c) (n - avail c)) (c ∷ cs))
    go rec false x u y = inl (omega (arith, ltb-false 0 n x), more_any 0 (suc e) (c ∷ cs))
    go rec true x false y =
        let ne : (start c ≡ e) → ⊥ = eqb-false (start c) e y in
        inr
        (cases 0 (avail c)
        (λ z. omega (arith, more_some 0 c cs z, more_some (suc e) c cs z, joint_le (start c) 0, joint_other (start c) (suc e) (λ w. ne (omega arith))))
        (λ z. omega (arith, more_skip 0 c cs (omega arith), more_skip (suc e) c cs (omega arith), more_far (end c) cs hi e k.3 (omega (arith, k.0, k.1)))))
    go rec true x true y =
        let q = eqb-true (start c) e y in
        let a : 0 < avail c = omega (arith, k.0, k.1) in
        let m : more (suc e) (c ∷ cs) ≡ more (suc (end c)) cs = omega (arith, more_some (suc e) c cs a, joint_same (start c) (suc e) (omega arith)) in
        cases n (avail c)
        (λ z. let r = advanced_none cs (end c) (n - avail c) (omega arith) in
        subst (λ (l : List RangeBuf). OnFrom e (c ∷ cs) n (d ∷ l)) (sym r) (inl (omega arith, omega (arith, more_some 0 d cs (omega arith), joint_le (start d) 0, m))))
        (λ z. let w = more_skip 0 d (advanced cs (end c) (n - avail c)) (omega arith) in
        either rec (λ h. inl (omega (arith, h.0), omega (arith, h.1, w, m))) (λ h. inr (omega (arith, w, m))))

progress_skip : (c : RangeBuf) (cs ds : List RangeBuf) (r : ℕ) → avail c ≡ 0 → Progress cs ds r → Progress (c ∷ cs) (c ∷ ds) r
progress_skip c cs ds r e p =
    let a = more_skip 0 c cs e in
    let b = more_skip 0 c ds e in
    either p (λ h. inl (omega (arith, h.0), omega (arith, h.1)))
    (λ q. either q (λ h. inr (inl (omega (arith, h.0), omega (arith, h.1)))) (λ h. inr (inr (omega (arith, h.0), omega (arith, h.1)))))

step_here : (c : RangeBuf) (cs : List RangeBuf) (hi r : ℕ) → c.pos ≤ c.len → Adjoin (end c) cs hi → 0 < avail c → 0 < r
    → Progress (c ∷ cs) (advanced (c ∷ cs) (start c) r) r
step_here c cs hi r l k a h =
    subst (λ (t : Bool). Progress (c ∷ cs) (cond t (d ∷ advanced cs (end c) (r - avail c)) (c ∷ cs)) r) (sym is_true)
    (cases r (avail c)
    (λ z. subst (λ (x : List RangeBuf). Progress (c ∷ cs) (d ∷ x) r) (sym (advanced_none cs (end c) (r - avail c) (omega arith)))
    (inl (omega arith, omega (arith, more_some 0 c cs a, more_some 0 d cs (omega arith), joint_le (start d) 0, joint_other (start c) 0 (λ w. omega arith)))))
    (λ z. let w = more_skip 0 d (advanced cs (end c) (r - avail c)) (omega arith) in
    let g = more_some 0 c cs a in
    let j = joint_other (start c) 0 (λ w. omega arith) in
    either (on_from (end c) cs hi (r - avail c) k) (λ x. inl (omega (arith, x.0), omega (arith, x.1, w, g, j)))
    (λ x. inr (inl (omega (arith, total_sent 0 cs (end c) (r - avail c)), omega (arith, x, w, g, j))))))
  where
    d : RangeBuf
    d = used c (min r (avail c))

    is_true : (ltb 0 r && eqb (start c) (start c)) ≡ true
    is_true = rw (lt-ltb 0 r h, eq-eqb (start c) (start c) refl)

step_front : (lo : ℕ) (cs : List RangeBuf) (hi r : ℕ) → Adjoin lo cs hi → 0 < r → Progress cs (advanced_from (skipped cs) cs (front_of cs hi) r) r
step_front lo [] hi r k h = inr (inr (refl, refl))
step_front lo (c ∷ cs) hi r k h = go (ltb 0 (avail c)) refl (step_front (end c) cs hi r k.3 h)
  where
    go : (t : Bool) → ltb 0 (avail c) ≡ t → Progress cs (advanced_from (skipped cs) cs (front_of cs hi) r) r
        → Progress (c ∷ cs) (advanced_from (cond t 0 (suc (skipped cs))) (c ∷ cs) (cond t (start c) (front_of cs hi)) r) r
    go true e p = step_here c cs hi r k.2 k.3 (ltb-true 0 (avail c) e) h
    go false e p = progress_skip c cs (advanced_from (skipped cs) cs (front_of cs hi) r) r (omega (arith, ltb-false 0 (avail c) e)) p

step_pos : (p lo : ℕ) (cs : List RangeBuf) (hi r : ℕ) → Adjoin lo cs hi → Spent p cs → 0 < r
    → Progress cs (advanced_from (p + skipped (drop p cs)) cs (front_of (drop p cs) hi) r) r
step_pos zero lo cs hi r k s h =
    let e : skipped cs ≡ 0 + skipped cs = omega arith in
    subst (λ (i : ℕ). Progress cs (advanced_from i cs (front_of cs hi) r) r) e (step_front lo cs hi r k h)
step_pos (suc p) lo [] hi r k s h =
    let e : suc (p + 0) ≡ suc p + 0 = omega arith in
    subst (λ (i : ℕ). Progress [] (advanced_from i [] hi r) r) e (inr (inr (refl, refl)))
step_pos (suc p) lo (c ∷ cs) hi r k s h =
    let e : suc (p + skipped (drop p cs)) ≡ suc p + skipped (drop p cs) = omega arith in
    subst (λ (i : ℕ). Progress (c ∷ cs) (advanced_from i (c ∷ cs) (front_of (drop p cs) hi) r) r) e
    (progress_skip c cs (advanced_from (p + skipped (drop p cs)) cs (front_of (drop p cs) hi) r) r (omega (arith, s.0 (omega arith)))
    (step_pos p (end c) cs hi r k.3 (spent_weak (suc p - 1) p cs (omega arith) s.1) h))

-- ---- m emits of room r, one after the other

abbrev pub emits : ℕ → ℕ → Send → Send
emits zero r s = s
emits (suc m) r s = emits m r (sent s r)

pub emits_good : (m r : ℕ) (s : Send) → GoodSend s → GoodSend (emits m r s)
emits_good zero r s g = g
emits_good (suc m) r s g = emits_good m r (sent s r) (sent_good s g r)

emit_progress : (s : Send) (r : ℕ) → GoodSend s → 0 < r → Progress s.chunks (sent s r).chunks r
unfolding sent
emit_progress s r g h = step_pos s.pos _ s.chunks s.off r g.adjoin g.spent h

runs_out : (m q r : ℕ) (s : Send) → GoodSend s → 0 < r → total s.chunks < r * suc q → q + groups s.chunks ≤ m → total (emits m r s).chunks ≡ 0
runs_out zero q r s g h b l = none_groups s.chunks (omega arith)
runs_out (suc m) q r s g h b l =
    let w = sent_good s g r in
    either (emit_progress s r g h)
    (λ x. less q b l x (λ q' b' l'. runs_out m q' r t w h b' l'))
    (λ y. either y (λ x. runs_out m q r t w h (omega (arith, x.0)) (omega (arith, x.1)))
    (λ x. runs_out m 0 r t w h (omega (arith, x.1, mul-suc r 0, mul-zero r)) (omega (arith, groups_none 0 t.chunks x.1))))
  where
    t : Send
    t = sent s r

    less : (q : ℕ) → total s.chunks < r * suc q → q + groups s.chunks ≤ suc m → (total t.chunks + r ≡ total s.chunks) × (groups t.chunks ≤ groups s.chunks)
        → ((q' : ℕ) → total t.chunks < r * suc q' → q' + groups t.chunks ≤ m → total (emits m r t).chunks ≡ 0)
        → total (emits m r t).chunks ≡ 0
    less zero b l x rec = absurd (omega (arith, x.0, mul-suc r 0, mul-zero r))
    less (suc q) b l x rec = rec q (omega (arith, x.0, mul-suc r (suc q))) (omega (arith, x.1))

-- at most b / r + g emits of room r leave nothing to send; more do no harm
pub all_out : (s : Send) (r m : ℕ) → GoodSend s → 0 < r → s.buffered / r + groups s.chunks ≤ m → (emits m r s).buffered ≡ 0
all_out s r m g h l =
    let b : ℕ = s.buffered in
    let e = g.all_buffered in
    (emits_good m r s g).all_buffered
    ∙ runs_out m (b / r) r s g h (omega (arith, div-add-mod b r, mod-lt b h, mul-suc r (b / r))) l

-- ---- each byte still to send goes out exactly once, no other does

-- the byte at o is still to be sent
abbrev pub ToSend : List RangeBuf → ℕ → Type 0
ToSend [] o = ⊥
ToSend (c ∷ cs) o = ((start c ≤ o) × (o < end c)) ⊎ ToSend cs o

-- what an emit of k bytes at `next` does to the bytes still to send
pub record Moves (cs ds : List RangeBuf) (next k : ℕ) : Type 0 where
  pub was : (o : ℕ) → next ≤ o → o < next + k → ToSend cs o
  pub gone : (o : ℕ) → next ≤ o → o < next + k → ToSend ds o → ⊥
  pub old : (o : ℕ) → ToSend ds o → ToSend cs o
  pub stay : (o : ℕ) → ToSend cs o → ToSend ds o ⊎ ((next ≤ o) × (o < next + k))

moves_none : (cs : List RangeBuf) (next : ℕ) → Moves cs cs next 0
moves_none cs next = record { was = λ o a b. absurd (omega arith); gone = λ o a b h. omega arith; old = λ o h. h; stay = λ o h. inl h }

pub adj_to_send : (lo : ℕ) (cs : List RangeBuf) (hi o : ℕ) → Adjoin lo cs hi → ToSend cs o → lo ≤ o
adj_to_send lo [] hi o k h = absurd h
adj_to_send lo (c ∷ cs) hi o k (inl h) = omega (arith, k.0)
adj_to_send lo (c ∷ cs) hi o k (inr h) = omega (arith, k.0, adj_to_send (end c) cs hi o k.3 h)

advanced_moves : (lo : ℕ) (cs : List RangeBuf) (hi next n : ℕ) → Adjoin lo cs hi → Moves cs (advanced cs next n) next (copied cs next n)
advanced_moves lo [] hi next n k = moves_none [] next
advanced_moves lo (c ∷ cs) hi next n k = go (advanced_moves (end c) cs hi (end c) (n - avail c) k.3) (ltb 0 n && eqb (start c) next) refl
  where
    rest : ℕ
    rest = copied cs (end c) (n - avail c)

    ds : List RangeBuf
    ds = advanced cs (end c) (n - avail c)

    go : Moves cs ds (end c) rest → (t : Bool) → (ltb 0 n && eqb (start c) next) ≡ t
        → Moves (c ∷ cs) (cond t (used c (min n (avail c)) ∷ ds) (c ∷ cs)) next (cond t (min n (avail c) + rest) 0)
    go r false d = moves_none (c ∷ cs) next
    go r true d =
        let q = eqb-true (start c) next (and_true (ltb 0 n) (eqb (start c) next) d).1 in
        let l = k.2 in
        cases n (avail c)
        (λ z. let e = advanced_none cs (end c) (n - avail c) (omega arith) in
        let y = copied_none cs (end c) (n - avail c) (omega arith) in
        subst (λ (x : List RangeBuf). Moves (c ∷ cs) (used c (min n (avail c)) ∷ x) next (min n (avail c) + rest)) (sym e) record {
          was = λ o a b. inl (omega (arith, y), omega (arith, y));
          gone = λ o a b h. either h (λ p. omega (arith, y)) (λ p. omega (arith, y, adj_to_send (end c) cs hi o k.3 p));
          old = λ o h. either h (λ p. inl (omega arith, p.1)) (λ p. inr p);
          stay = λ o h. either h (λ p. cases o (next + n) (λ w. inr (omega arith, omega (arith, y))) (λ w. inl (inl (omega arith, p.1)))) (λ p. inl (inr p));
        })
        (λ z. record {
          was = λ o a b. cases o (end c) (λ w. inl (omega arith, w)) (λ w. inr (r.was o w (omega arith)));
          gone = λ o a b h. either h (λ p. omega arith) (λ p. r.gone o (adj_to_send (end c) cs hi o k.3 (r.old o p)) (omega arith) p);
          old = λ o h. either h (λ p. inl (omega arith, p.1)) (λ p. inr (r.old o p));
          stay = λ o h. either h (λ p. inr (omega arith, omega arith)) (λ p. either (r.stay o p) (λ w. inl (inr w)) (λ w. inr (omega arith, omega arith)));
        })

pub moves_from : (i lo : ℕ) (cs : List RangeBuf) (hi next n : ℕ) → Adjoin lo cs hi → Spent i cs → Moves cs (advanced_from i cs next n) next (copied (drop i cs) next n)
moves_from zero lo cs hi next n k s = advanced_moves lo cs hi next n k
moves_from (suc i) lo [] hi next n k s = moves_none [] next
moves_from (suc i) lo (c ∷ cs) hi next n k s =
    let e = s.0 (omega arith) in
    let r = moves_from i (end c) cs hi next n k.3 (spent_weak (suc i - 1) i cs (omega arith) s.1) in record {
      was = λ o a b. inr (r.was o a b);
      gone = λ o a b h. either h (λ p. omega arith) (λ p. r.gone o a b p);
      old = λ o h. either h (λ p. inl p) (λ p. inr (r.old o p));
      stay = λ o h. either h (λ p. inl (inl p)) (λ p. either (r.stay o p) (λ w. inl (inr w)) (λ w. inr w));
    }

emit_moves : (s : Send) (r : ℕ) → GoodSend s → Moves s.chunks (sent s r).chunks (front s) (emit_count s r)
unfolding sent
emit_moves s r g =
    moves_from (first s) _ s.chunks s.off (front s) r g.adjoin (spent_first s.pos _ s.chunks s.off g.adjoin g.spent)

-- in how many of the frames of m emits the offset o lies
abbrev pub hits : ℕ → ℕ → Send → ℕ → ℕ
hits zero r s o = 0
hits (suc m) r s o = cond (leb (front s) o && ltb o (front s + emit_count s r)) 1 0 + hits m r (sent s r) o

none_to_send : (cs : List RangeBuf) (o : ℕ) → total cs ≡ 0 → ToSend cs o → ⊥
none_to_send [] o e h = h
none_to_send (c ∷ cs) o e (inl h) = omega arith
none_to_send (c ∷ cs) o e (inr h) = none_to_send cs o (omega arith) h

pub once : (m : ℕ) (s : Send) (r : ℕ) → GoodSend s → (emits m r s).buffered ≡ 0
    → (o : ℕ) → (ToSend s.chunks o → hits m r s o ≡ 1) × ((ToSend s.chunks o → ⊥) → hits m r s o ≡ 0)
once zero s r g e o = (λ h. absurd (none_to_send s.chunks o (omega (arith, g.all_buffered)) h), λ h. refl)
once (suc m) s r g e o = go (once m (sent s r) r (sent_good s g r) e o) (leb (front s) o && ltb o (front s + emit_count s r)) refl
  where
    k : ℕ
    k = emit_count s r

    t : Send
    t = sent s r

    v : Moves s.chunks t.chunks (front s) k
    v = emit_moves s r g

    go : (ToSend t.chunks o → hits m r t o ≡ 1) × ((ToSend t.chunks o → ⊥) → hits m r t o ≡ 0) → (b : Bool) → (leb (front s) o && ltb o (front s + k)) ≡ b
        → (ToSend s.chunks o → cond b 1 0 + hits m r t o ≡ 1) × ((ToSend s.chunks o → ⊥) → cond b 1 0 + hits m r t o ≡ 0)
    go ih true x =
        let p = and_true (leb (front s) o) (ltb o (front s + k)) x in
        let a = leb-true (front s) o p.0 in
        let b = ltb-true o (front s + k) p.1 in
        (λ h. omega (arith, ih.1 (v.gone o a b)), λ h. absurd (h (v.was o a b)))
    go ih false x = (
      λ h. either (v.stay o h) (λ w. omega (arith, ih.0 w))
          (λ w. either (and-false (leb (front s) o) (ltb o (front s + k)) x)
          (λ y. absurd (omega (arith, leb-false (front s) o y)))
          (λ y. absurd (omega (arith, ltb-false o (front s + k) y)))),
      λ h. omega (arith, ih.1 (λ w. h (v.old o w))),
    )
