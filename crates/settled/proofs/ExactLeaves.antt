-- Each refusal of a chunk, a window and a range set is given exactly if docs/RULES.md says so (2.1; 3, 5 and 6), for every state and every number.
-- A theorem CALL_REFUSAL says when a call gives a refusal; CALL_only, that it gives none but those numbered there, tested in that order.
-- Assumes nothing.
use Rattle.std.specs.Prelude.{Result, Ok, Err, ⊤}
use Rattle.std.specs.List.{filter}
use mathlib.Core.Path.{◌≡◌, refl, sym, ap, ◌∙◌}
use mathlib.Core.Logic.{◌↔◌, inl, inr}
use mathlib.Core.Bool.{Bool, true, false, cond, not, ◌&&◌}
use mathlib.Core.List.{List, [], ◌∷◌}
use Prim.Native.Nat.{ℕ, suc, ◌+◌, ◌-◌, ◌≤◌, ◌<◌}
use native.Mathlib.Omega.{arith}
use lib.Dec.{ltb, leb, eqb}
use lib.ListN.{length, length-append}
use borrow.Author.Tests.{eqb-true, lt-ltb, le-ltb, le-leb, lt-leb, eq-eqb, ne_eqb}
use Rattle.tables.proofs.Tables.{cases}
use Rattle.tables.proofs.Tests.{either, clash}
use Rattle.refusal.specs.Rules.{M, number_of}
use Rattle.refusal.specs.declared.Refusal.{Refusal}
use Rattle.refusal.specs.declared.Refusal.TheVariants.{Offset, TableFull, BadSetup}
use Rattle.range_buf.specs.declared.RangeBuf.{RangeBuf}
use Rattle.range_buf.specs.Rules as chunk
use Rattle.flowcontrol.specs.declared.FlowControl.{FlowControl}
use Rattle.flowcontrol.specs.Rules as window
use Rattle.ranges.specs.declared.Range.{Range}
use Rattle.ranges.specs.declared.RangeSet.{RangeSet}
use Rattle.ranges.specs.State.{Good, Sorted, ranges, upto}
use Rattle.ranges.specs.Rules as set
use Rattle.ranges.proofs.Good.{ranges_length}
use Rattle.settled.specs.Conditions.{◌and◌, ◌or◌, OneOf, Apart, Meets}
use Rattle.settled.proofs.ExactTests.{Test, less, most, same, always, negated, both, any}
use Rattle.settled.proofs.Exact.{line}
use Rattle.settled.proofs.ExactKinds.{plain_of, Keeps, keeps, of_either}

-- ---- chunk (RULES 3)

module _ (off n : ℕ) where
  from : Keeps (chunk.created off n).answer (line Offset (less M (off + n)) ∷ [])
  from = keeps _ _ (of_either (ltb M (off + n)) _ _) refl

  -- `from` gives Offset exactly if the chunk would end above M
  pub from_offset : ((chunk.created off n).answer ≡ Err Offset) ↔ (M < off + n)
  from_offset = from.exact Offset

  pub from_only : (x : Refusal) → (chunk.created off n).answer ≡ Err x → OneOf (number_of x) (1 ∷ [])
  from_only = from.others

module _ (b : RangeBuf) (n : ℕ) where
  consume : Keeps (chunk.consumed b n).answer (line Offset (less (chunk.avail b) n) ∷ [])
  consume = keeps _ _ (of_either (ltb (chunk.avail b) n) _ _) refl

  -- `consume` gives Offset exactly if that is above what remains
  pub consume_offset : ((chunk.consumed b n).answer ≡ Err Offset) ↔ (b.len - b.pos < n)
  consume_offset = consume.exact Offset

  pub consume_only : (x : Refusal) → (chunk.consumed b n).answer ≡ Err x → OneOf (number_of x) (1 ∷ [])
  consume_only = consume.others

  split : Keeps (chunk.split b n).answer (line Offset (less b.len n) ∷ [])
  split = keeps _ _ (of_either (ltb b.len n) _ _) refl

  -- `split_off` gives Offset exactly if that is above the whole length, the consumed part included
  pub split_offset : ((chunk.split b n).answer ≡ Err Offset) ↔ (b.len < n)
  split_offset = split.exact Offset

  pub split_only : (x : Refusal) → (chunk.split b n).answer ≡ Err x → OneOf (number_of x) (1 ∷ [])
  split_only = split.others

-- ---- window (RULES 6)

module _ (limit size maximum : ℕ) where
  window_new : Keeps (window.created limit size maximum).answer (line BadSetup (any (any (less M limit) (less M size)) (less M maximum)) ∷ [])
  window_new = keeps _ _ (of_either (window.bad_numbers limit size maximum) _ _) refl

  -- `new` of a window gives BadSetup exactly if limit, window or maximum is above M
  pub window_bad_setup : ((window.created limit size maximum).answer ≡ Err BadSetup) ↔ ((M < limit) or (M < size) or (M < maximum))
  window_bad_setup = window_new.exact BadSetup

  pub window_only : (x : Refusal) → (window.created limit size maximum).answer ≡ Err x → OneOf (number_of x) (10 ∷ [])
  window_only = window_new.others

module _ (f : FlowControl) (n : ℕ) where
  add_consumed_lem : Keeps (window.consumed_more f n).answer (line Offset (less M (f.consumed + n)) ∷ [])
  add_consumed_lem = keeps _ _ (of_either (ltb M (f.consumed + n)) _ _) refl

  -- `add_consumed`, and `lent::consume`, give Offset exactly if the consumed total would pass M
  pub add_consumed_offset : ((window.consumed_more f n).answer ≡ Err Offset) ↔ (M < f.consumed + n)
  add_consumed_offset = add_consumed_lem.exact Offset

  pub add_consumed_only : (x : Refusal) → (window.consumed_more f n).answer ≡ Err x → OneOf (number_of x) (1 ∷ [])
  add_consumed_only = add_consumed_lem.others

  lower_bound_lem : Keeps (window.at_least f n).answer (line Offset (less M n) ∷ [])
  lower_bound_lem = keeps _ _ (of_either (ltb M n) _ _) refl

  -- `ensure_window_lower_bound` gives Offset exactly if the bound is above M
  pub lower_bound_offset : ((window.at_least f n).answer ≡ Err Offset) ↔ (M < n)
  lower_bound_offset = lower_bound_lem.exact Offset

  pub lower_bound_only : (x : Refusal) → (window.at_least f n).answer ≡ Err x → OneOf (number_of x) (1 ∷ [])
  lower_bound_only = lower_bound_lem.others

-- ---- range set (RULES 5)

module _ (cap : ℕ) where
  set_new : Keeps (set.created cap).answer (line BadSetup (negated (both (most 1 cap) (most cap 64))) ∷ [])
  set_new = keeps _ _ (of_either (leb 1 cap && leb cap 64) _ _ ∙ turned (leb 1 cap && leb cap 64)) refl
    where
      turned : (t : Bool) → ◌≡◌ {A = Result ⊤ Refusal} (cond t (Ok tt) (Err BadSetup)) (cond (not t) (Err BadSetup) (Ok tt))
      turned true = refl
      turned false = refl

  -- `new` of a set gives BadSetup exactly if the capacity is not 1 to 64
  pub set_bad_setup : ((set.created cap).answer ≡ Err BadSetup) ↔ ((cap < 1) or (64 < cap))
  set_bad_setup = set_new.exact BadSetup

  pub set_only : (x : Refusal) → (set.created cap).answer ≡ Err x → OneOf (number_of x) (10 ∷ [])
  set_only = set_new.others

-- a new range x meets or touches r; of a list no range does; and the set is full besides
joined : (x r : Range) → Test (set.joins x r) ((r.start ≤ x.end) and (x.start ≤ r.end)) ((x.end < r.start) or (r.end < x.start))
joined x r = both (most r.start x.end) (most x.start r.end)

pub apart : (x : Range) (l : List Range) → Test (eqb (length (filter (set.joins x) l)) 0) (Apart x l) (Meets x l)
apart x [] = always
apart x (r ∷ rs) = go (set.joins x r) refl (apart x rs)
  where
    f : List Range
    f = filter (set.joins x) rs

    go : (b : Bool) → set.joins x r ≡ b → Test (eqb (length f) 0) (Apart x rs) (Meets x rs)
        → Test (eqb (length (cond b (r ∷ f) f)) 0) (Apart x (r ∷ rs)) (Meets x (r ∷ rs))
    go true q ih = record {
      yes = (λ e. absurd (omega (arith, eqb-true (length (r ∷ f)) 0 e)), λ h. clash (sym q ∙ (joined x r).no.1 h.0));
      no = (λ e. inl ((joined x r).yes.0 q), λ h. ne_eqb (length (r ∷ f)) 0 (λ e. omega arith));
    }
    go false q ih = record {
      yes = (λ e. ((joined x r).no.0 q, ih.yes.0 e), λ h. ih.yes.1 h.1);
      no = (λ e. inr (ih.no.0 e), λ h. either h (λ p. clash (sym ((joined x r).yes.1 p) ∙ q)) ih.no.1);
    }

pub needs_room_lem : (cap : ℕ) (x : Range) (l : List Range)
    → Test (set.needs_room cap x l) (Apart x l and (cap ≤ length l)) (Meets x l or (length l < cap))
needs_room_lem cap x l = both (apart x l) (most cap (length l))

-- in a set that is in order and within its capacity, that is so exactly if the set with x in it would pass the capacity
module _ (cap : ℕ) (x : Range) (ok : x.start ≤ x.end) where
  parts : (lo : ℕ) (l : List Range) → Sorted lo l
      → length (filter (set.ends_below x) l) + length (filter (set.joins x) l) + length (filter (set.starts_above x) l) ≡ length l
  parts lo [] s = refl
  parts lo (r ∷ rs) s = let ih = parts (suc r.end) rs s.2 in
      cases r.end x.start
      (λ h. simp (lt-ltb r.end x.start h, le-leb r.start x.end (omega arith), lt-leb x.start r.end h, le-ltb x.end r.start (omega arith))
      (omega arith))
      (λ h. cases x.end r.start
      (λ k. simp (le-ltb r.end x.start h, lt-leb r.start x.end k, lt-ltb x.end r.start k) (omega arith))
      (λ k. simp (le-ltb r.end x.start h, le-leb r.start x.end k, le-leb x.start r.end h, le-ltb x.end r.start k) (omega arith)))

  pub would_pass : (l : List Range) → Sorted 0 l → length l ≤ cap → (Apart x l and (cap ≤ length l)) ↔ (cap < length (set.placed x l))
  would_pass l s few = (
    λ h. omega (arith, all, eqb-true (length (filter (set.joins x) l)) 0 ((apart x l).yes.1 h.0), h.1),
    λ h. ((apart x l).yes.0 (eq-eqb (length (filter (set.joins x) l)) 0 (omega (arith, all))), omega (arith, all)),
  )
    where
      all : length (set.placed x l) + length (filter (set.joins x) l) ≡ length l + 1
      all = omega (
        arith,
        parts 0 l s,
        length-append (filter (set.ends_below x) l) (set.hull x (filter (set.joins x) l) ∷ filter (set.starts_above x) l),
      )

module _ (s : RangeSet) (x : Range) where
  insert : Keeps (set.inserted s x).answer (line Offset (less x.end x.start) ∷ [])
  insert = keeps _ _ (of_either (ltb x.end x.start) _ _) refl

  -- `insert` gives Offset exactly if the range starts above its end
  pub insert_offset : ((set.inserted s x).answer ≡ Err Offset) ↔ (x.end < x.start)
  insert_offset = insert.exact Offset

  pub insert_only : (y : Refusal) → (set.inserted s x).answer ≡ Err y → OneOf (number_of y) (1 ∷ [])
  insert_only = insert.others

  try_insert_lem : Keeps (set.tried s x).answer
      (line Offset (less x.end x.start) ∷ line TableFull (needs_room_lem s.capacity x (ranges s)) ∷ [])
  try_insert_lem = keeps _ _ (of_either (ltb x.end x.start) _ _
      ∙ ap (cond (ltb x.end x.start) (Err Offset)) (of_either (set.needs_room s.capacity x (ranges s)) _ _)) refl

  -- `try_insert` gives Offset exactly if the range starts above its end
  pub try_insert_offset : ((set.tried s x).answer ≡ Err Offset) ↔ (x.end < x.start)
  try_insert_offset = try_insert_lem.exact Offset

  -- and TableFull exactly if it does not, no range of the set meets or touches it, and the set is full
  pub try_insert_table_full : ((set.tried s x).answer ≡ Err TableFull)
      ↔ ((x.start ≤ x.end) and Apart x (ranges s) and (s.capacity ≤ length (ranges s)))
  try_insert_table_full = try_insert_lem.exact TableFull

  -- in other words, of a set that came from creation or a call: exactly if a range would be lost
  pub try_insert_lost : Good s → ((set.tried s x).answer ≡ Err TableFull)
      ↔ ((x.start ≤ x.end) and (s.capacity < length (set.placed x (ranges s))))
  try_insert_lost g = (
    λ e. let h = try_insert_table_full.0 e in (h.0, (would_pass s.capacity x h.0 (ranges s) g.order few).0 h.1),
    λ h. try_insert_table_full.1 (h.0, (would_pass s.capacity x h.0 (ranges s) g.order few).1 h.1),
  )
    where
      few : length (ranges s) ≤ s.capacity
      few = omega (arith, ranges_length s g, g.room)

  pub try_insert_only : (y : Refusal) → (set.tried s x).answer ≡ Err y → OneOf (number_of y) (1 ∷ 6 ∷ [])
  try_insert_only = try_insert_lem.others

module _ (s : RangeSet) (v : ℕ) where
  push : Keeps (set.pushed s v).answer (line Offset (same v 0xffff_ffff_ffff_ffff) ∷ [])
  push = keeps _ _ (of_either (eqb v 0xffff_ffff_ffff_ffff) _ _
      ∙ ap (cond (eqb v 0xffff_ffff_ffff_ffff) (Err Offset)) in_order) refl
    where
      in_order : plain_of (set.inserted s (upto v (v + 1))).answer ≡ Ok tt
      in_order = rw (le-ltb (v + 1) v (omega arith))

  -- `push_item` gives Offset exactly for 2^64 - 1, whose range would end beyond 64 bits
  pub push_offset : ((set.pushed s v).answer ≡ Err Offset) ↔ (v ≡ 0xffff_ffff_ffff_ffff)
  push_offset = push.exact Offset

  pub push_only : (x : Refusal) → (set.pushed s v).answer ≡ Err x → OneOf (number_of x) (1 ∷ [])
  push_only = push.others
