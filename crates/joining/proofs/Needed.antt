-- The theorem of `Runs` has runs to speak of, and its condition is needed. From creation on, 65 bytes are written one by one, so that the last joins
-- chunks. In one run bytes are lost after that and sent again, the stream is closed by a write of no bytes and all of it is acked: the theorem holds of it
-- (`met`). In the other an ack covers a joined chunk only in part, and the two buffers answer otherwise (`differs`). By computing. Assumes nothing.
use Rattle.std.specs.Prelude.{Result, Ok, Err, ⊤}
use mathlib.Core.Path.{◌≡◌, refl, sym, subst}
use mathlib.Core.Bool.{Bool, true, false, not, ◌&&◌, ◌||◌}
use mathlib.Core.List.{List, [], ◌∷◌, ◌++◌}
use Prim.Native.Nat.{ℕ, zero, suc, ◌≤◌, ◌<◌}
use lib.Dec.{ltb, leb}
use lib.ListN.{replicate}
use borrow.Author.Tests.{lt-ltb, le-leb}
use Rattle.refusal.specs.declared.Refusal.{Refusal}
use Rattle.range_buf.specs.declared.RangeBuf.{RangeBuf}
use Rattle.range_buf.specs.Rules.{end}
use Rattle.arena.specs.Rules.{kept, held}
use Rattle.tables.proofs.Tests.{and_true, clash, either}
use Rattle.send_buf.specs.State.{Send}
use Rattle.send_buf.specs.Rules.{new_send, write_judged, wrote, sent, ack_judged, acked_more, loss_judged, lost, was_reset}
use Rattle.joining.specs.Calls.{free_write_judged, free_wrote, free_loss_judged, free_lost, Kind, joining, endless, Call, write, emit, ack_and_drop, retransmit, judged, next, arena_after, given, Accepted, after, run, Begins, Part, covers, NoPart}
use Rattle.joining.proofs.Runs.{run_until_part}

-- ---- the premises as tests

abbrev is_done : Result ⊤ Refusal → Bool
is_done (Ok done) = true
is_done (Err why) = false

done_is : (a : Result ⊤ Refusal) → is_done a ≡ true → a ≡ Ok tt
done_is (Ok done) e = refl
done_is (Err why) e = clash (sym e)

abbrev accepts : Kind → Send → List ℕ → List Call → Bool
accepts t s ar [] = true
accepts t s ar (x ∷ xs) = is_done (judged t s ar x) && accepts t (next t s x) (arena_after s ar x) xs

accepted : (t : Kind) (s : Send) (ar : List ℕ) (xs : List Call) → accepts t s ar xs ≡ true → Accepted t s ar xs
accepted t s ar [] e = tt
accepted t s ar (x ∷ xs) e =
    let p = and_true (is_done (judged t s ar x)) (accepts t (next t s x) (arena_after s ar x) xs) e in
    (done_is (judged t s ar x) p.0, accepted t (next t s x) (arena_after s ar x) xs p.1)

-- a chunk begins above lo, and not above k
abbrev begins : List RangeBuf → ℕ → ℕ → Bool
begins [] lo k = false
begins (d ∷ ds) lo k = ltb lo d.off && leb d.off k || begins ds lo k

abbrev in_part : List RangeBuf → List RangeBuf → ℕ → Bool
in_part [] ds k = false
in_part (c ∷ cs) ds k = ltb k (end c) && begins ds c.off k || in_part cs ds k

either_true : (a b : Bool) → b ≡ true → (a || b) ≡ true
either_true true b e = refl
either_true false b e = e

begins_true : (ds : List RangeBuf) (lo k o : ℕ) → lo < o → o ≤ k → Begins ds o → begins ds lo k ≡ true
begins_true [] lo k o a b h = absurd h
begins_true (d ∷ ds) lo k o a b h =
    either h
    (λ e. rw (lt-ltb lo d.off (subst (λ (x : ℕ). lo < x) (sym e) a), le-leb d.off k (subst (λ (x : ℕ). x ≤ k) (sym e) b)))
    (λ r. either_true (ltb lo d.off && leb d.off k) (begins ds lo k) (begins_true ds lo k o a b r))

part_true : (cs ds : List RangeBuf) (k : ℕ) → Part cs ds k → in_part cs ds k ≡ true
part_true [] ds k h = absurd h
part_true (c ∷ cs) ds k h =
    either h
    (λ p. rw (lt-ltb k (end c) p.3, begins_true ds c.off k p.0 p.1 p.2 p.4))
    (λ r. either_true (ltb k (end c) && begins ds c.off k) (in_part cs ds k) (part_true cs ds k r))

abbrev whole_only : Send → Send → List Call → Bool
whole_only s t [] = true
whole_only s t (x ∷ xs) = not (in_part s.chunks t.chunks (covers s x)) && whole_only (next joining s x) (next endless t x) xs

no_part : (s t : Send) (xs : List Call) → whole_only s t xs ≡ true → NoPart s t xs
no_part s t [] e = tt
no_part s t (x ∷ xs) e =
    let p = and_true (not (in_part s.chunks t.chunks (covers s x))) (whole_only (next joining s x) (next endless t x) xs) e in
    (λ h. denied (in_part s.chunks t.chunks (covers s x)) (part_true s.chunks t.chunks (covers s x) h) p.0, no_part (next joining s x) (next endless t x) xs p.1)
  where
    denied : (b : Bool) → b ≡ true → not b ≡ true → ⊥
    denied true e f = clash (sym f)
    denied false e f = clash (sym e)

-- ---- the runs

abbrev start : Send
start = new_send 80 80

abbrev arena : List ℕ
arena = replicate 80 255

abbrev singles : ℕ → List Call
singles zero = []
singles (suc n) = write (7 ∷ []) false ∷ singles n

abbrev joins : List Call
joins = singles 64 ++ emit (replicate 64 0) ∷ write (7 ∷ []) false ∷ []

abbrev goes_on : List Call
goes_on = joins ++ retransmit 0 3 ∷ write [] true ∷ emit (replicate 80 0) ∷ emit (replicate 80 0) ∷ ack_and_drop 0 65 ∷ []

pub joined_is : (after joining start joins).chunks ≡ record { off = 0; len = 65; pos = 64 } ∷ []
unfolding wrote sent
joined_is = refl

pub met : (run joining start arena goes_on ≡ run endless start arena goes_on) × Accepted endless start arena goes_on
unfolding write_judged wrote sent ack_judged acked_more loss_judged lost was_reset kept held free_write_judged free_wrote free_loss_judged free_lost
met = run_until_part 80 80 arena goes_on (accepted joining start arena goes_on refl) (no_part start start goes_on refl)

abbrev part : List Call
part = singles 65 ++ emit (replicate 2 0) ∷ retransmit 0 2 ∷ []

pub differs : ((given (after joining start part) arena (ack_and_drop 0 1)).numbers ≡ 0 ∷ []) × ((given (after endless start part) arena (ack_and_drop 0 1)).numbers ≡ 1 ∷ [])
unfolding wrote sent acked_more lost free_wrote free_lost
differs = (refl, refl)
