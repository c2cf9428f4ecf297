-- What the acked set answers, taken up by `ack` and `reset`. Assumes nothing.
use Rattle.std.specs.Prelude.{Ok, Err, Some, ⊤}
use Rattle.std.specs.List.{filter}
use Prim.Native.Nat.{◌+◌, ◌-◌, ◌≤◌, suc, zero-le, ℕ}
use Rattle.ranges.specs.Rules.{needs_room, placed, tried}
use Rattle.ranges.specs.State.{ranges, set_of, upto}
use Rattle.ranges.specs.declared.Range.{Range}
use Rattle.refusal.specs.Rules.{known}
use Rattle.send_buf.proofs.Acked.{upto_weak}
use Rattle.send_buf.specs.Rules.{ack_judged, acked_more, acks, cut_off, never_sent, resets, shuts, stops, unsent, was_reset, with_closed}
use Rattle.send_buf.specs.State.{Good, Send, Upto, buf_of, view_of}
use Rattle.send_buf.specs.declared.SendBuf.{SendBuf}
use Rattle.tables.proofs.Tables.{by_test}
use borrow.Author.Tests.{le-leb, le-ltb, ne_eqb}
use Rattle.range_buf.specs.Rules.{zero_buf}
use lib.ListN.{length, replicate}
use mathlib.Core.Bool.{Bool, cond, false, true}
use mathlib.Core.List.{List, [], ◌∷◌}
use mathlib.Core.Path.{◌∙◌, ◌≡◌, ap, refl, sym}
use native.Mathlib.Omega.{arith}
use Rattle.refusal.specs.declared.Refusal.TheVariants.{TableFull, NeverSent, Done as NothingMore}
use Rattle.ranges.specs.declared.RangeSet.{RangeSet}
use Rattle.ranges.specs.State.{Sorted}
use Rattle.ranges.specs.Rules.{joins}
use Rattle.ranges.proofs.Good.{ranges_of}
use Rattle.refusal.specs.declared.Outcome.{Outcome}
use Rattle.refusal.specs.declared.Refusal.{Refusal}

module _ (x : Range) (l : List Range) (ok : x.start ≤ x.end) where
  tried_full : needs_room 64 x l ≡ true → tried (set_of 64 l) x ≡ record { answer = Err TableFull; state = set_of 64 l }
  tried_full e = simp (ranges_of 64 l, le-ltb _ _ ok, e)

  tried_room : needs_room 64 x l ≡ false → tried (set_of 64 l) x ≡ record { answer = Ok tt; state = set_of 64 (placed x l) }
  tried_room e = simp (ranges_of 64 l, le-ltb _ _ ok, e)

  -- the set says Ok: there is room, and the range is placed
  pub joined : (o : Outcome ⊤ RangeSet) → o ≡ tried (set_of 64 l) x → o.answer ≡ Ok tt → (needs_room 64 x l ≡ false) × (o.state ≡ set_of 64 (placed x l))
  joined o e d =
      by_test (needs_room 64 x l)
      (λ t. let h : o ≡ record { answer = Err TableFull; state = set_of 64 l } = e ∙ tried_full t in let z : ◌≡◌ {A = ℕ} 0 1 = cc in absurd (omega arith))
      (λ t. (t, ap (λ (q : Outcome ⊤ RangeSet). q.state) (e ∙ tried_room t)))

  -- it refuses: TableFull, since there is none
  pub not_joined : (o : Outcome ⊤ RangeSet) → o ≡ tried (set_of 64 l) x → (why : Refusal) → o.answer ≡ Err why → (needs_room 64 x l ≡ true) × (why ≡ TableFull)
  not_joined o e why d =
      by_test (needs_room 64 x l)
      (λ t. let f : Err why ≡ Err TableFull = sym d ∙ ap (λ (q : Outcome ⊤ RangeSet). q.answer) (e ∙ tried_full t) in (t, cc))
      (λ t. let f : Err why ≡ Ok tt = sym d ∙ ap (λ (q : Outcome ⊤ RangeSet). q.answer) (e ∙ tried_room t) in absurd (cc))

  -- where there is room, it says Ok
  pub does_join : (o : Outcome ⊤ RangeSet) → o ≡ tried (set_of 64 l) x → needs_room 64 x l ≡ false → o.answer ≡ Ok tt
  does_join o e t = ap (λ (q : Outcome ⊤ RangeSet). q.answer) (e ∙ tried_room t)

-- a range from 0 joins any that starts at or below its end, so that it needs no room
pub zero_room : (h : ℕ) (l : List Range) → Sorted 0 l → Upto h l → needs_room 64 (upto 0 h) l ≡ false
zero_room h [] s u = refl
zero_room h (r ∷ rs) s u = simp (le-leb r.start h (omega (arith, s.1, u.0)), le-leb 0 r.end zero-le, ne_eqb (suc (length (filter (joins (upto 0 h)) rs))) 0 (λ e. omega arith))

module _ (s : Send) (a n : ℕ) where
  pub acks_unsent : never_sent s a n ≡ true → acks s a n ≡ record { answer = Err NeverSent; state = buf_of s }
  unfolding acks ack_judged
  acks_unsent e = simp e

  pub acks_full : never_sent s a n ≡ false → needs_room 64 (upto a (a + n)) s.acked ≡ true → acks s a n ≡ record { answer = Err TableFull; state = buf_of s }
  unfolding acks ack_judged
  acks_full e f = simp (e, f)

  pub acks_done : never_sent s a n ≡ false → needs_room 64 (upto a (a + n)) s.acked ≡ false → acks s a n ≡ record { answer = Ok tt; state = buf_of (acked_more s a n) }
  unfolding acks ack_judged
  acks_done e f = simp (e, f)

module _ (b : SendBuf) (g : Good b) where
  -- 0 to the end of a reset needs no room
  pub reset_room : needs_room 64 (upto 0 (cut_off (view_of b))) (ranges b.acked) ≡ false
  reset_room =
      zero_room (cut_off (view_of b)) (ranges b.acked) g.facts.acked_order
      (upto_weak b.emit_off (cut_off (view_of b)) (ranges b.acked) (omega arith) g.facts.acked_in)

-- a reset, from the end that it finds, the set that holds all up to there, and the bytes never sent
pub resets_at : (b : SendBuf) (e : ℕ) (a : RangeSet) (u : ℕ) → e ≡ cut_off (view_of b) → a ≡ set_of 64 (placed (upto 0 (cut_off (view_of b))) (ranges b.acked)) → u ≡ b.off - e
    → ◌≡◌ {A = Outcome (ℕ × ℕ) SendBuf} (record { answer = Ok (b.emit_off, u); state = record b { «data» = replicate 64 zero_buf; count = 0; pos = 0; off = e; buffered_bytes = 0; fin_off = Some e; acked = a } }) (resets (view_of b))
unfolding resets was_reset buf_of
resets_at b e a u p q r = rw (r, q, p)

-- `stop` and `shutdown` from a reset's outcome r
module _ (s : Send) (r : Outcome (ℕ × ℕ) SendBuf) (e : r ≡ resets s) where
  pub stops_by : (code : ℕ) → known s.error ≡ false → ◌≡◌ {A = Outcome (ℕ × ℕ) SendBuf} (record { answer = r.answer; state = record r.state { error = Some code } }) (stops s code)
  unfolding stops resets was_reset buf_of
  stops_by code k = rw (e, k)

  pub shuts_by : s.shut ≡ false → ◌≡◌ {A = Outcome (ℕ × ℕ) SendBuf} (record { answer = r.answer; state = record r.state { shutdown = true } }) (shuts s)
  unfolding shuts resets was_reset buf_of
  shuts_by k =
      ap (λ (x : Outcome (ℕ × ℕ) SendBuf). record { answer = x.answer; state = record x.state { shutdown = true } }) e
      ∙ sym (ap (λ (t : Bool). cond t (record { answer = Err NothingMore; state = buf_of s }) (record { answer = Ok (s.emitted, unsent s); state = buf_of (with_closed (was_reset s) true s.error) })) k)

pub shuts_no : (s : Send) → s.shut ≡ true → shuts s ≡ record { answer = Err NothingMore; state = buf_of s }
unfolding shuts
shuts_no s k = ap (λ (t : Bool). cond t (record { answer = Err NothingMore; state = buf_of s }) (record { answer = Ok (s.emitted, unsent s); state = buf_of (with_closed (was_reset s) true s.error) })) k
