-- A sender whose frames END at cut points: then they also start at one, except at the first chunk held. Assumes nothing.
--
--   Fronts        where bytes to send begin behind bytes sent there is a cut: so the front is one, or the start of the first chunk     front_at_lem
--                 kept by every call, if frames end at cuts      fronts_sent, fronts_cut, fronts_append, fronts_behind, fronts_back, fronts_tabled
--   Ends          every acked range ends at a cut: kept when one more enters, and so contiguous ack is one                ends_placed, ack_ends
--   Poised        the two, of a send buffer: kept by every call                          poised_wrote, poised_sent, poised_acked, poised_dropped, poised_lost
--   begin         where the first chunk held begins: only a drop moves it, to a cut or to an acked byte            begin_wrote, .., begin_drops
use Rattle.std.specs.List.{filter}
use mathlib.Core.Path.{◌≡◌, refl, sym, subst}
use mathlib.Core.Logic.{◌⊎◌, inl, inr}
use mathlib.Core.Bool.{Bool, true, false, cond, ◌&&◌}
use mathlib.Core.List.{List, [], ◌∷◌, ◌++◌}
use Prim.Native.Nat.{ℕ, zero, suc, ◌+◌, ◌-◌, ◌*◌, ◌≤◌, ◌<◌, min}
use native.Mathlib.Omega.{arith}
use lib.Dec.{ltb, leb, eqb}
use lib.ListN.{length, drop}
use borrow.Author.Tests.{ltb-true, ltb-false, leb-true, leb-false, eqb-true, le-leb, lt-ltb}
use Rattle.tables.proofs.Tables.{cases, cond_elim}
use Rattle.range_buf.specs.declared.RangeBuf.{RangeBuf}
use Rattle.range_buf.specs.Rules.{start, end, avail, fresh, used, left_part, right_part}
use Rattle.ranges.specs.declared.Range.{Range}
use Rattle.ranges.specs.State.{upto}
use Rattle.ranges.specs.Rules.{member_of, ends_below, starts_above, joins, hull, hull2, placed}
use Rattle.send_buf.specs.State.{Send, base, Adjoin, Spent, GoodSend}
use Rattle.send_buf.specs.Rules.{ack_off, new_send, accepted, stays, both, joined_to, joined, tabled, pieces, cut, longer, wrote, front_of, front, copied, advanced, first, emit_count, sent, acked_more, behind, drop_to, dropped, moved_back, back, settled, lost}
use Rattle.send_buf.proofs.Chunks.{advanced_from, adj_behind, adj_back, base_sent, copied_none, advanced_none}
use Rattle.send_buf.proofs.Position.{spent_weak}
use Rattle.send_buf.proofs.Joining.{goes, adj_joined, base_tabled}
use Rattle.send_buf.proofs.Kept.{laid}
use Rattle.tables.proofs.Tests.{and_true, either}

-- ---- the acked ranges

abbrev pub Ends : (ℕ → Type 0) → List Range → Type 0
Ends Cut [] = Unit {0}
Ends Cut (r ∷ rs) = Cut r.end × Ends Cut rs

module _ (Cut : ℕ → Type 0) where
  ends_filter : (p : Range → Bool) (l : List Range) → Ends Cut l → Ends Cut (filter p l)
  ends_filter p [] k = tt
  ends_filter p (r ∷ rs) k = cond_elim (Ends Cut) (p r) (λ _. (k.0, ends_filter p rs k.1)) (λ _. ends_filter p rs k.1)

  ends_append : (l m : List Range) → Ends Cut l → Ends Cut m → Ends Cut (l ++ m)
  ends_append [] m k j = j
  ends_append (r ∷ rs) m k j = (k.0, ends_append rs m k.1 j)

  -- a joined range ends where one of its parts does
  ends_hull : (x : Range) (l : List Range) → Cut x.end → Ends Cut l → Cut (hull x l).end
  ends_hull x [] e k = e
  ends_hull x (r ∷ rs) e k =
      ends_hull (hull2 x r) rs (cases x.end r.end (λ w. subst Cut (omega arith) k.0) (λ w. subst Cut (omega arith) e)) k.1

  pub ends_placed : (x : Range) (l : List Range) → Cut x.end → Ends Cut l → Ends Cut (placed x l)
  ends_placed x l e k =
      ends_append (filter (ends_below x) l) (hull x (filter (joins x) l) ∷ filter (starts_above x) l)
      (ends_filter (ends_below x) l k)
      (ends_hull x (filter (joins x) l) e (ends_filter (joins x) l k), ends_filter (starts_above x) l k)

  pub ack_ends : (l : List Range) → Ends Cut l → 0 < ack_off l → Cut (ack_off l)
  ack_ends [] k h = absurd (omega arith)
  ack_ends (r ∷ rs) k h = cond_elim (λ (y : ℕ). 0 < y → Cut y) (eqb r.start 0) (λ e w. k.0) (λ e w. absurd (omega arith)) h

-- what lies below contiguous ack is acked
pub below_ack : (l : List Range) (o : ℕ) → o < ack_off l → member_of o l ≡ true
below_ack [] o h = absurd (omega arith)
below_ack (r ∷ rs) o h = cond_elim (λ (y : ℕ). o < y → member_of o (r ∷ rs) ≡ true) (eqb r.start 0)
    (λ e w. let z : r.start ≤ o = omega (arith, eqb-true r.start 0 e) in simp (le-leb _ _ z, lt-ltb _ _ w))
    (λ e w. absurd (omega arith)) h

-- where the first chunk begins after a drop up to k
pub base_dropped : (lo : ℕ) (cs : List RangeBuf) (hi k : ℕ) → Adjoin lo cs hi → (base (behind cs k) hi ≡ lo) ⊎ ((0 < base (behind cs k) hi) × (base (behind cs k) hi ≤ k))
base_dropped lo [] hi k a = inl (sym a)
base_dropped lo (c ∷ cs) hi k a = cond_elim (λ (y : List RangeBuf). (base y hi ≡ lo) ⊎ ((0 < base y hi) × (base y hi ≤ k))) (leb (end c) k)
    (λ d. inr (either (base_dropped (end c) cs hi k a.3) (λ e. (omega (arith, e, a.1), omega (arith, e, leb-true (end c) k d))) (λ e. e)))
    (λ d. inl a.0)

-- ---- the fronts

-- where bytes to send begin behind bytes sent there is a cut; u is what the chunk before has still to send (1 for the first)
abbrev pub Begin : (ℕ → Type 0) → ℕ → RangeBuf → Type 0
Begin Cut u c = Cut (start c) ⊎ ((avail c ≡ 0) ⊎ ((c.pos ≡ 0) × (0 < u)))

abbrev pub Fronts : (ℕ → Type 0) → ℕ → ℕ → List RangeBuf → Type 0
Fronts Cut u off [] = Cut off ⊎ (0 < u)
Fronts Cut u off (c ∷ cs) = Begin Cut u c × Fronts Cut (avail c) off cs

module _ (Cut : ℕ → Type 0) where
  fronts_weak : (u u' off : ℕ) (cs : List RangeBuf) → (0 < u → 0 < u') → Fronts Cut u off cs → Fronts Cut u' off cs
  fronts_weak u u' off [] f h = either h (λ x. inl x) (λ x. inr (f x))
  fronts_weak u u' off (c ∷ cs) f h =
      (either h.0 (λ x. inl x) (λ y. either y (λ x. inr (inl x)) (λ x. inr (inr (x.0, f x.1)))), h.1)

  -- the front is a cut, or the start of the first chunk
  pub front_at_lem : (i u lo : ℕ) (cs : List RangeBuf) (hi : ℕ) → Adjoin lo cs hi → Spent i cs → Fronts Cut u hi cs
      → Cut (front_of (drop i cs) hi) ⊎ ((0 < u) × (front_of (drop i cs) hi ≡ lo))
  front_at_lem zero u lo [] hi k s h = either h (λ x. inl x) (λ x. inr (x, sym k))
  front_at_lem zero u lo (c ∷ cs) hi k s h = cond_elim (λ (x : ℕ). Cut x ⊎ ((0 < u) × (x ≡ lo))) (ltb 0 (avail c))
      (λ e. let a = ltb-true 0 (avail c) e in
      either h.0 (λ x. inl x) (λ y. either y (λ x. absurd (omega arith)) (λ x. inr (x.1, omega (arith, x.0, k.0)))))
      (λ e. let a = ltb-false 0 (avail c) e in
      either (front_at_lem zero (avail c) (end c) cs hi k.3 (spent_weak (0 - 1) 0 cs (omega arith) s.1) h.1)
      (λ x. inl x) (λ x. absurd (omega (arith, x.0))))
  front_at_lem (suc i) u lo [] hi k s h = either h (λ x. inl x) (λ x. inr (x, sym k))
  front_at_lem (suc i) u lo (c ∷ cs) hi k s h =
      let e = s.0 (omega arith) in
      either (front_at_lem i (avail c) (end c) cs hi k.3 (spent_weak (suc i - 1) i cs (omega arith) s.1) h.1)
      (λ x. inl x) (λ x. absurd (omega (arith, x.0)))

  -- ---- emit

  -- the chunk d is copied from, from its start on: what is behind the bytes copied begins at a cut
  copied_from : (d : RangeBuf) (cs : List RangeBuf) (hi n u : ℕ) → d.pos ≤ d.len → Fronts Cut (avail d) hi cs
      → (Cut (end d + copied cs (end d) (n - avail d)) → Fronts Cut 0 hi (advanced cs (end d) (n - avail d)))
      → Cut (start d + (min n (avail d) + copied cs (end d) (n - avail d)))
      → Fronts Cut u hi (used d (min n (avail d)) ∷ advanced cs (end d) (n - avail d))
  copied_from d cs hi n u k h rec y = cases n (avail d)
      (λ z. let r = advanced_none cs (end d) (n - avail d) (omega arith) in (
        inl (subst Cut (omega (arith, copied_none cs (end d) (n - avail d) (omega arith))) y),
        subst (Fronts Cut (avail (used d (min n (avail d)))) hi) (sym r) (fronts_weak (avail d) (avail (used d (min n (avail d)))) hi cs (λ w. omega arith) h),
      ))
      (λ z. (
        inr (inl (omega arith)),
        fronts_weak 0 (avail (used d (min n (avail d)))) hi (advanced cs (end d) (n - avail d)) (λ w. absurd (omega arith)) (rec (subst Cut (omega arith) y)),
      ))

  -- on from the end e of what was sent
  fronts_on : (e : ℕ) (cs : List RangeBuf) (hi n v : ℕ) → Adjoin e cs hi → Cut (e + copied cs e n) → Fronts Cut v hi cs → Fronts Cut 0 hi (advanced cs e n)
  fronts_on e [] hi n v k c h = inl (subst Cut (omega (arith, k)) c)
  fronts_on e (d ∷ cs) hi n v k c h =
      go (λ x. fronts_on (end d) cs hi (n - avail d) (avail d) k.3 x h.1) (ltb 0 n && eqb (start d) e) refl c
    where
      go : (Cut (end d + copied cs (end d) (n - avail d)) → Fronts Cut 0 hi (advanced cs (end d) (n - avail d))) → (t : Bool) → (ltb 0 n && eqb (start d) e) ≡ t
          → Cut (e + cond t (min n (avail d) + copied cs (end d) (n - avail d)) 0)
          → Fronts Cut 0 hi (cond t (used d (min n (avail d)) ∷ advanced cs (end d) (n - avail d)) (d ∷ cs))
      go rec false x y =
          (either h.0 (λ z. inl z) (λ w. either w (λ z. inr (inl z)) (λ z. inl (subst Cut (omega (arith, z.0, k.0)) y))), h.1)
      go rec true x y =
          let q = eqb-true (start d) e (and_true (ltb 0 n) (eqb (start d) e) x).1 in
          copied_from d cs hi n 0 k.2 h.1 rec (subst Cut (omega arith) y)

  fronts_advanced : (u lo : ℕ) (cs : List RangeBuf) (hi next n : ℕ) → Adjoin lo cs hi → Cut (next + copied cs next n) → Fronts Cut u hi cs → Fronts Cut u hi (advanced cs next n)
  fronts_advanced u lo [] hi next n k c h = h
  fronts_advanced u lo (d ∷ cs) hi next n k c h = go (ltb 0 n && eqb (start d) next) refl c
    where
      go : (t : Bool) → (ltb 0 n && eqb (start d) next) ≡ t → Cut (next + cond t (min n (avail d) + copied cs (end d) (n - avail d)) 0)
          → Fronts Cut u hi (cond t (used d (min n (avail d)) ∷ advanced cs (end d) (n - avail d)) (d ∷ cs))
      go false x y = h
      go true x y =
          let q = eqb-true (start d) next (and_true (ltb 0 n) (eqb (start d) next) x).1 in
          copied_from d cs hi n u k.2 h.1 (λ z. fronts_on (end d) cs hi (n - avail d) (avail d) k.3 z h.1) (subst Cut (omega arith) y)

  pub fronts_sent : (i u lo : ℕ) (cs : List RangeBuf) (hi next n : ℕ) → Adjoin lo cs hi → Cut (next + copied (drop i cs) next n) → Fronts Cut u hi cs
      → Fronts Cut u hi (advanced_from i cs next n)
  fronts_sent zero u lo cs hi next n k c h = fronts_advanced u lo cs hi next n k c h
  fronts_sent (suc i) u lo [] hi next n k c h = h
  fronts_sent (suc i) u lo (d ∷ cs) hi next n k c h = (h.0, fronts_sent i (avail d) (end d) cs hi next n k.3 c h.1)

  -- ---- write, drop

  pub fronts_cut : (k o n u off : ℕ) → n ≤ 4096 * k → 4096 * k < n + 4096 → (Cut o × (n ≡ 0 → o ≡ off)) ⊎ (0 < u) → Fronts Cut u off (cut k o n)
  fronts_cut zero o n u off a b p = either p (λ x. inl (subst Cut (x.1 (omega arith)) x.0)) (λ x. inr x)
  fronts_cut (suc k) o n u off a b p = (
    either p (λ x. inl (subst Cut (omega arith) x.0)) (λ x. inr (inr (refl, x))),
    fronts_cut k (o + 4096) (n - 4096) (avail (fresh o (min n 4096))) off (omega arith) (omega arith) (inr (omega arith)),
  )

  pub fronts_append : (u off off' : ℕ) (cs ds : List RangeBuf) → ((v : ℕ) → Cut off ⊎ (0 < v) → Fronts Cut v off' ds) → Fronts Cut u off cs → Fronts Cut u off' (cs ++ ds)
  fronts_append u off off' [] ds f h = f u h
  fronts_append u off off' (c ∷ cs) ds f h = (h.0, fronts_append (avail c) off off' cs ds f h.1)

  pub fronts_behind : (off : ℕ) (cs : List RangeBuf) (k : ℕ) → Fronts Cut 1 off cs → Fronts Cut 1 off (behind cs k)
  fronts_behind off [] k h = h
  fronts_behind off (c ∷ cs) k h = cond_elim (Fronts Cut 1 off) (leb (end c) k)
      (λ d. fronts_behind off cs k (fronts_weak (avail c) 1 off cs (λ x. omega arith) h.1))
      (λ d. h)

  -- ---- joining

  fronts_to : (u lo off : ℕ) (c : RangeBuf) (ds : List RangeBuf) (hi : ℕ) → Adjoin lo (c ∷ ds) hi → Fronts Cut u off (c ∷ ds) → Fronts Cut u off (joined_to c ds)
  fronts_to u lo off c [] hi k h = h
  fronts_to u lo off c (d ∷ ds) hi k h =
      cond_elim (Fronts Cut u off) (stays c d) (λ _. h)
      (λ t. (
        either (goes c d k.2 t) (λ x. spent x) (λ x. either h.0 (λ y. inl (subst Cut (omega arith) y)) (λ z. either z (λ y. spent (omega (arith, k.2))) (λ y. inr (inr (omega (arith, y.0), y.1))))),
        fronts_weak (avail d) (avail (both c d)) off ds (λ x. omega (arith, k.2, k.3.2)) h.1.1,
      ))
    where
      -- all of the first was sent: the second begins as the two do
      spent : c.pos ≡ c.len → Begin Cut u (both c d)
      spent x =
          either h.1.0 (λ y. inl (subst Cut (omega (arith, k.3.0)) y))
          (λ z. either z (λ y. inr (inl (omega arith))) (λ y. absurd (omega (arith, y.1))))

  pub fronts_joined : (u lo off : ℕ) (cs : List RangeBuf) (hi : ℕ) → Adjoin lo cs hi → Fronts Cut u off cs → Fronts Cut u off (joined cs)
  fronts_joined u lo off [] hi k h = h
  fronts_joined u lo off (c ∷ cs) hi k h =
      fronts_to u lo off c (joined cs) hi (k.0, k.1, k.2, adj_joined (end c) cs hi k.3) (h.0, fronts_joined (avail c) (end c) off cs hi k.3 h.1)

  pub fronts_tabled : (u lo : ℕ) (cs : List RangeBuf) (hi : ℕ) → Adjoin lo cs hi → Fronts Cut u hi cs → Fronts Cut u hi (tabled cs)
  fronts_tabled u lo cs hi k h = cond_elim (Fronts Cut u hi) (ltb 64 (length cs)) (λ _. fronts_joined u lo hi cs hi k h) (λ _. h)

  -- ---- retransmit of a..e

  -- a chunk moved back begins at a, or where it began, or is whole again
  moved_begin : (c : RangeBuf) (a u : ℕ) → (c.off < a → Cut a) → (Cut a × (c.off ≤ a)) ⊎ (0 < u) → Begin Cut u c → Begin Cut u (moved_back c a)
  moved_begin c a u r q h = cases c.off a
      (λ w. cases c.pos (a - c.off)
      (λ z. subst (λ (p : ℕ). Begin Cut u (record { off = c.off; len = c.len; pos = p })) (let y : c.pos ≡ min c.pos (a - c.off) = omega arith in y) h)
      (λ z. inl (subst Cut (omega arith) (r w))))
      (λ w. either q (λ x. inl (subst Cut (omega arith) x.0)) (λ x. inr (inr (omega arith, x))))

  pub fronts_back : (u lo : ℕ) (cs : List RangeBuf) (hi a e : ℕ) → Adjoin lo cs hi → Cut e → Cut a ⊎ (a ≤ lo) → (Cut a × (lo ≤ a)) ⊎ (0 < u) → Fronts Cut u hi cs
      → Fronts Cut u hi (back cs a e)
  fronts_back u lo [] hi a e k ce r q h = h
  fronts_back u lo (c ∷ cs) hi a e k ce r q h = cond_elim (Fronts Cut u hi) (leb e c.off) (λ d. h)
      (λ d. cond_elim (Fronts Cut u hi) (ltb (end c) a)
      (λ y. let w = ltb-true (end c) a y in
      let ca = inner (omega arith) in
      (h.0, fronts_back (avail c) (end c) cs hi a e k.3 ce (inl ca) (inl (ca, omega arith)) h.1))
      (λ y. let v = ltb-false (end c) a y in
      cond_elim (Fronts Cut u hi) (ltb e (end c))
      (λ z. let n = e - c.off in
      let p = leb-false e c.off d in
      let w = ltb-true e (end c) z in (
        moved_begin (left_part c n) a u inner here (first n (omega arith) (omega arith)),
        (second n (omega arith) (omega arith), fronts_weak (avail c) (avail (right_part c n)) hi cs (λ x. omega arith) h.1),
      ))
      (λ z. (
        moved_begin c a u inner here h.0,
        fronts_back (avail (moved_back c a)) (end c) cs hi a e k.3 ce (either r (λ x. inl x) (λ x. inr (omega (arith, k.0))))
            (cases a (end c) (λ x. inr (opened x)) (λ x. inl (inner (omega (arith, k.1)), x)))
            (fronts_weak (avail c) (avail (moved_back c a)) hi cs (λ x. omega arith) h.1),
      ))))
    where
      inner : c.off < a → Cut a
      inner x = either r (λ y. y) (λ y. absurd (omega (arith, k.0)))

      here : (Cut a × (c.off ≤ a)) ⊎ (0 < u)
      here = either q (λ x. inl (x.0, omega (arith, x.1, k.0))) (λ x. inr x)

      opened : a < end c → 0 < avail (moved_back c a)
      opened x = omega (arith, k.1)

      -- the part before the split
      first : (n : ℕ) → c.off + n ≡ e → n < c.len → Begin Cut u (left_part c n)
      first n p w = cases c.pos n
          (λ z. either h.0 (λ x. inl (subst Cut (omega arith) x)) (λ y. either y (λ x. absurd (omega arith)) (λ x. inr (inr (omega (arith, x.0), x.1)))))
          (λ z. inr (inl (omega arith)))

      -- and the part behind it, which begins at e
      second : (n : ℕ) → c.off + n ≡ e → n < c.len → Begin Cut (avail (moved_back (left_part c n) a)) (right_part c n)
      second n p w = cases n c.pos
          (λ z. either h.0 (λ x. inl (subst Cut (omega arith) x)) (λ y. either y (λ x. inr (inl (omega arith))) (λ x. absurd (omega (arith, x.0)))))
          (λ z. inl (subst Cut (omega arith) ce))

-- ---- the calls

-- where the first chunk held begins
abbrev pub begin : Send → ℕ
begin s = base s.chunks s.off

pub record Poised (Cut : ℕ → Type 0) (s : Send) : Type 0 where
  pub fronts : Fronts Cut 1 s.off s.chunks
  pub ends : Ends Cut s.acked

pub poised_new : (Cut : ℕ → Type 0) (A limit : ℕ) → Poised Cut (new_send A limit)
poised_new Cut A limit = record { fronts = inr (omega arith); ends = tt }

module _ (Cut : ℕ → Type 0) (s : Send) (g : GoodSend s) (p : Poised Cut s) where
  -- where the next frame starts: at a cut, or at the start of the first chunk
  pub front_is : Cut (front s) ⊎ (front s ≡ begin s)
  front_is = either (front_at_lem Cut s.pos 1 (begin s) s.chunks s.off g.adjoin g.spent p.fronts) (λ x. inl x) (λ x. inr x.1)

  -- a write, of whatever length
  pub poised_wrote : (n : ℕ) (fin : Bool) → Poised Cut (wrote s n fin)
  unfolding wrote
  poised_wrote n fin =
      let k : ℕ = accepted s n in record {
        fronts =
            fronts_tabled Cut 1 (begin s) (longer s k) (s.off + k) (laid s g k)
            (fronts_append Cut 1 s.off (s.off + k) s.chunks (cut (pieces k) s.off k)
            (λ u h. fronts_cut Cut (pieces k) s.off k u (s.off + k) (omega arith) (omega arith) (either h (λ x. inl (x, λ e. omega arith)) (λ x. inr x)))
            p.fronts);
        ends = p.ends;
      }

  pub begin_wrote : (n : ℕ) (fin : Bool) → begin (wrote s n fin) ≡ begin s
  unfolding wrote
  begin_wrote n fin = let k : ℕ = accepted s n in base_tabled (begin s) (longer s k) (s.off + k) (laid s g k)

  -- an emit whose frame ends at a cut
  pub poised_sent : (n : ℕ) → Cut (front s + emit_count s n) → Poised Cut (sent s n)
  unfolding sent
  poised_sent n c = record {
    fronts = fronts_sent Cut (first s) 1 (begin s) s.chunks s.off (front s) n g.adjoin c p.fronts;
    ends = p.ends;
  }

  pub begin_sent : (n : ℕ) → begin (sent s n) ≡ begin s
  unfolding sent
  begin_sent n = base_sent (first s) s.chunks s.off (front s) n

  -- an ack of a frame that ended at a cut
  pub poised_acked : (a n : ℕ) → Cut (a + n) → Poised Cut (acked_more s a n)
  unfolding acked_more
  poised_acked a n c = record { fronts = p.fronts; ends = ends_placed Cut (upto a (a + n)) s.acked c p.ends }

  pub begin_acked : (a n : ℕ) → begin (acked_more s a n) ≡ begin s
  unfolding acked_more
  begin_acked a n = refl

  -- a drop: what then begins the first chunk is a cut, or acked
  module _ (a : ℕ) where
    abbrev less : Send
    less = dropped s (drop_to s a)

    pub poised_dropped : Poised Cut less
    poised_dropped = record { fronts = fronts_behind Cut s.off s.chunks (drop_to s a) p.fronts; ends = p.ends }

    pub begin_dropped : begin s ≤ begin less
    begin_dropped = (adj_behind (begin s) s.chunks s.off (drop_to s a) g.adjoin).0

    pub begin_drops : (begin less ≡ begin s) ⊎ (Cut (begin less) ⊎ (member_of (begin less) s.acked ≡ true))
    begin_drops =
        let low : drop_to s a ≤ ack_off s.acked =
        cond_elim (λ (x : ℕ). x ≤ ack_off s.acked) (leb a (ack_off s.acked)) (λ _. omega arith) (λ _. omega arith) in
        either (base_dropped (begin s) s.chunks s.off (drop_to s a) g.adjoin) (λ e. inl e)
        (λ h. inr (cases (begin less) (ack_off s.acked)
        (λ x. inr (below_ack s.acked (begin less) x))
        (λ x. let e : ack_off s.acked ≡ begin less = omega (arith, low, h.1) in
        inl (subst Cut e (ack_ends Cut s.acked p.ends (omega (arith, h.0)))))))

  -- a loss of a frame that ended at a cut, and started at one or at or below the first chunk
  module _ (a n : ℕ) where
    pub poised_lost : Cut (a + n) → Cut a ⊎ (a ≤ begin s) → Poised Cut (lost s a n)
    unfolding lost
    poised_lost c h = cond_elim (Poised Cut) (settled s a n) (λ _. p)
        (λ _. record {
          fronts =
              fronts_tabled Cut 1 (begin s) (back s.chunks a (a + n)) s.off (adj_back (begin s) s.chunks s.off a (a + n) g.adjoin)
              (fronts_back Cut 1 (begin s) s.chunks s.off a (a + n) g.adjoin c h (inr (omega arith)) p.fronts);
          ends = p.ends;
        })

    pub begin_lost : begin (lost s a n) ≡ begin s
    unfolding lost
    begin_lost = cond_elim (λ (t : Send). begin t ≡ begin s) (settled s a n) (λ _. refl)
        (λ _. base_tabled (begin s) (back s.chunks a (a + n)) s.off (adj_back (begin s) s.chunks s.off a (a + n) g.adjoin))

    pub acked_lost : (lost s a n).acked ≡ s.acked
    unfolding lost
    acked_lost = cond_elim (λ (t : Send). t.acked ≡ s.acked) (settled s a n) (λ _. refl) (λ _. refl)
