-- The calls of `Calls` are the contracts': an accepted call's contract has the numbers and the output of `given`, the buffer of `next`, and the arena of
-- `arena_after`. So the buffers of a run are buffers that calls reach from creation. Assumes nothing.
use Rattle.std.specs.Prelude.{Ok, ⊤}
use mathlib.Core.Path.{◌≡◌, refl, ap, subst}
use mathlib.Core.Bool.{false}
use mathlib.Core.List.{List, [], ◌∷◌}
use Prim.Native.Nat.{ℕ}
use lib.Dec.{ltb}
use lib.ListN.{length}
use Rattle.refusal.specs.Rules.{M, success, known}
use Rattle.refusal.specs.declared.Outcome.{Outcome}
use Rattle.refusal.specs.declared.Refusal.TheVariants.{Offset, Done as NothingMore, BadSetup}
use Rattle.refusal.proofs.Chain.{passes}
use Rattle.send_buf.specs.declared.SendBuf.{SendBuf}
use Rattle.send_buf.specs.State.{Send, view_of, buf_of}
use Rattle.send_buf.specs.Rules.{other_arena, new_send, bad_numbers, created, written, written_arena, emitted, emitted_out, acks, ack_drops, retransmits, resets, stops, shuts, raised, blocked_with}
use Rattle.joining.specs.Calls.{Call, write, emit, ack, ack_and_drop, retransmit, reset, stop, shutdown, update_max_data, update_blocked_at, joining, judged, next, given, arena_after, contract, Accepted, after}
use Rattle.send_buf.proofs.Views.{view_of_lem}
use Rattle.send_buf.proofs.Reached as reached
use Rattle.send_buf.proofs.Reached.{Reached}

pub tied : (s : Send) (ar : List ℕ) (x : Call) → judged joining s ar x ≡ Ok tt
    → contract s ar x ≡ record { answer = success (given s ar x).numbers; buf = buf_of (next joining s x); arena = arena_after s ar x; out = (given s ar x).out }
unfolding written written_arena emitted emitted_out acks ack_drops retransmits resets stops shuts raised blocked_with
tied s ar (write input fin) e = rw e
tied s ar (emit out) e = let h = (passes (other_arena s (length ar)) BadSetup (Ok tt) e).0 in rw h
tied s ar (ack a n) e = rw e
tied s ar (ack_and_drop a n) e = rw e
tied s ar (retransmit a n) e = rw e
tied s ar reset e = refl
tied s ar (stop code) e = let h = (passes (known s.error) NothingMore (Ok tt) e).0 in rw h
tied s ar shutdown e = let h = (passes s.shut NothingMore (Ok tt) e).0 in rw h
tied s ar (update_max_data limit) e = let h = (passes (ltb M limit) Offset (Ok tt) e).0 in rw h
tied s ar (update_blocked_at blocked) e = refl

reached_contract : (s : Send) (ar : List ℕ) (x : Call) → Reached (buf_of s) → Reached (contract s ar x).buf
reached_contract s ar x r = subst (λ (v : Send). Reached (contract v ar x).buf) (view_of_lem s) (from x)
  where
    from : (x : Call) → Reached (contract (view_of (buf_of s)) ar x).buf
    from (write input fin) = reached.write (buf_of s) (length ar) (length input) fin r
    from (emit out) = reached.emit (buf_of s) (length ar) (length out) r
    from (ack a n) = reached.ack (buf_of s) a n r
    from (ack_and_drop a n) = reached.ack_and_drop_lem (buf_of s) a n r
    from (retransmit a n) = reached.retransmit (buf_of s) a n r
    from reset = reached.reset (buf_of s) r
    from (stop code) = reached.stop (buf_of s) code r
    from shutdown = reached.shutdown (buf_of s) r
    from (update_max_data limit) = reached.update_max_data_lem (buf_of s) limit r
    from (update_blocked_at blocked) = reached.update_blocked_at_lem (buf_of s) blocked r

reached_after : (s : Send) (ar : List ℕ) (xs : List Call) → Accepted joining s ar xs → Reached (buf_of s) → Reached (buf_of (after joining s xs))
reached_after s ar [] a r = r
reached_after s ar (x ∷ xs) a r =
    reached_after (next joining s x) (arena_after s ar x) xs a.1 (subst Reached (ap (λ o. o.buf) (tied s ar x a.0)) (reached_contract s ar x r))

pub run_reached : (A limit : ℕ) → bad_numbers limit A ≡ false → (ar : List ℕ) (xs : List Call) → Accepted joining (new_send A limit) ar xs → Reached (buf_of (after joining (new_send A limit) xs))
unfolding created
run_reached A limit e ar xs a =
    let q : created limit A ≡ record { answer = Ok tt; state = buf_of (new_send A limit) } = rw e in
    reached_after (new_send A limit) ar xs a (subst (λ (o : Outcome ⊤ SendBuf). Reached o.state) q (reached.new limit A))
