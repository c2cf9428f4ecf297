-- The receive table that cannot fill, and the reader that cannot be stalled, over every schedule of the joined system. Assumes nothing.
--
-- THE RULE binds the emitter alone: every frame ENDS at a cut point, which is a multiple of L or the final size (`Ended`; cut points in
-- general: `Grid` of Cuts). Frames then start at a cut, or at a byte that was acked, which the receiver has. Writes may be of any length, and
-- the channel may lose, repeat and reorder. A is the receiver's arena, `recv_room`.
--
--   ends_suffice     A ≤ 63 L: no frame ever emitted, delivered now, is refused TableFull
--   ends_unblock     A < 64 L: with nothing ready, a frame ever emitted that brings the byte at off, and has at most A bytes, is accepted,
--   ends_ready       and then something is ready
--   multiples_suffice, multiples_unblock     the same, of the multiples of L and the final size
--   every_room, every_room_unblocked         from L = 1,041, and L = 1,025, on that is every A
--   stalled_run      without the rule: once 64 chunks of bytes are kept and none is at off, no schedule brings the reader a byte, ever
--
-- StallRuns.antt has schedules at A = 63 L + 1 and A = 64 L in which each of the first two fails.
use Rattle.std.specs.Prelude.{slice_get, Option, Some, Result, Ok, Err, ⊤}
use mathlib.Core.Path.{◌≡◌, refl, sym, ap, subst, subst₂, ◌∙◌}
use mathlib.Core.Logic.{◌⊎◌, inl, inr}
use mathlib.Core.Bool.{Bool, true, false, ◌&&◌}
use mathlib.Core.List.{List, [], ◌∷◌, ◌++◌, append-nil}
use Prim.Native.Nat.{ℕ, ◌+◌, ◌*◌, ◌≤◌, ◌<◌, max}
use native.Mathlib.Nat.{mul-zero}
use native.Mathlib.Omega.{arith}
use lib.Dec.{ltb}
use lib.ListN.{length, take}
use Rattle.tables.proofs.Tables.{cond_elim}
use Rattle.refusal.specs.Rules.{M, after as sent_after, is_at as sent_at, after, known, is_at, with_bytes}
use Rattle.refusal.specs.declared.Refusal.{Refusal}
use Rattle.refusal.specs.declared.Outcome.{Outcome}
use Rattle.refusal.specs.declared.Refusal.TheVariants.{TableFull, Done as NothingReady}
use Rattle.refusal.proofs.Answers.{not_both}
use Rattle.arena.proofs.Laws.{length_held}
use Rattle.flowcontrol.specs.declared.FlowControl.{FlowControl}
use Rattle.ranges.specs.Rules.{member_of}
use Rattle.flowcontrol.specs.Rules.{committed, autotuned}
use Rattle.send_buf.specs.declared.SendBuf.{SendBuf}
use Rattle.send_buf.specs.State.{Send, buf_of as send_buf_of, GoodSend}
use Rattle.send_buf.specs.Rules as send
use Rattle.send_buf.proofs.Views.{view_of_lem}
use Rattle.send_buf.proofs.Facts.{ack_only, emit_gives}
use Rattle.send_buf.proofs.Kept.{acked_good}
use Rattle.recv_buf.specs.declared.RecvBuf.{RecvBuf}
use Rattle.recv_buf.specs.State.{Recv, view_of as recv_view, buf_of}
use Rattle.recv_buf.specs.Rules as recv
use Rattle.recv_buf.specs.Rfc9000.{Frame, end_of, Brings}
use Rattle.recv_buf.proofs.Good.{view_buf}
use Rattle.recv_buf.proofs.Lists.{held_ready}
use Rattle.recv_buf.proofs.Kept.{wrote_good}
use Rattle.channel.specs.System.{SendEnd, RecvEnd, System, sender, receiver, Setup, fresh, Premises, Move, write, emit, deliver, read, commit, tune, raise, block, ack, ack_drop, lose, with_send, writes, frame_of, emits, raises, blocks, acks, ack_drops, loses, accepted_by, takes, reads, bytes_of, commits, tunes, step, run, on_send, on_recv}
use Rattle.channel.specs.Demand3.{on_delivery}
use Rattle.channel.proofs.Lists.{All, all_map, all_append, all_left, all_last, all_at}
use Rattle.channel.proofs.SendSide.{Honest}
use Rattle.channel.proofs.RecvSide.{Follows, Covers, covers_stay, covers_new, wrote_same, took_covers}
use Rattle.channel.proofs.Joined.{Inv, sender_is, receiver_is, inv_fresh, named_elim, inv_step, inv_run}
use Rattle.channel.proofs.Demand3.{safety}
use Rattle.channel.proofs.Cuts.{Grid, OnGrid, on_grid}
use Rattle.channel.proofs.Table.{Fair, Tidy, tidy_wrote, tidy_took, not_full, not_stalled, fits_at_off, Stalled, stalled_write, stalled_emit}
use Rattle.channel.proofs.Ends.{begin, Poised, poised_new, front_is, poised_wrote, begin_wrote, poised_sent, begin_sent, poised_acked, begin_acked, poised_dropped, begin_dropped, begin_drops, poised_lost, begin_lost, acked_lost}
use Rattle.tables.proofs.Tests.{either, clash, and_true}

-- ---- what a move does to the buffers' numbers and lists

-- what holds of a send buffer's view before a call, and after its success, holds after it
after_send : (P : Send → Type 0) (said : Result ⊤ Refusal) {t s : Send} → (said ≡ Ok tt → P t) → P s → P (sender (record { buf = send_buf_of (sent_after said t s); arena = []; written = []; frames = [] }))
after_send P (Ok done) {t} {s} f g = subst P (sym (view_of_lem t)) (f refl)
after_send P (Err why) {t} {s} f g = subst P (sym (view_of_lem s)) g

module _ (P : Send → Type 0) (x : SendEnd) where
  writes_elim : (input : List ℕ) (fin : Bool) → (send.write_judged (sender x) (length x.arena) (length input) fin ≡ Ok tt → P (send.wrote (sender x) (length input) fin))
      → P (sender x) → P (sender (writes x input fin))
  unfolding writes send.written
  writes_elim input fin f g = after_send P (send.write_judged (sender x) (length x.arena) (length input) fin) f g

  raises_elim : (limit : ℕ) → P (send.with_limit (sender x) (max (sender x).limit limit) (sender x).blocked) → P (sender x) → P (sender (raises x limit))
  unfolding raises send.raised
  raises_elim limit f g = cond_elim (λ (o : Outcome ⊤ SendBuf). P (sender (with_send x o.state))) (ltb M limit)
      (λ _. subst P (sym (view_of_lem (sender x))) g)
      (λ _. subst P (sym (view_of_lem (send.with_limit (sender x) (max (sender x).limit limit) (sender x).blocked))) f)

  blocks_elim : (at : Option ℕ) → P (send.with_limit (sender x) (sender x).limit at) → P (sender (blocks x at))
  unfolding blocks send.blocked_with
  blocks_elim at f = subst P (sym (view_of_lem (send.with_limit (sender x) (sender x).limit at))) f

  module _ (f : Frame) where
    acks_elim : (send.ack_judged (sender x) f.from (length f.bytes) ≡ Ok tt → P (send.acked_more (sender x) f.from (length f.bytes)))
        → P (sender x) → P (sender (acks x f))
    unfolding acks send.acks
    acks_elim h g = after_send P (send.ack_judged (sender x) f.from (length f.bytes)) h g

    abbrev more : Send
    more = send.acked_more (sender x) f.from (length f.bytes)

    ack_drops_elim : (send.ack_judged (sender x) f.from (length f.bytes) ≡ Ok tt → P (send.dropped more (send.drop_to more f.from)))
        → P (sender x) → P (sender (ack_drops x f))
    unfolding ack_drops send.ack_drops
    ack_drops_elim h g = after_send P (send.ack_judged (sender x) f.from (length f.bytes)) h g

    loses_elim : (send.loss_judged (sender x) f.from (length f.bytes) ≡ Ok tt → P (send.lost (sender x) f.from (length f.bytes)))
        → P (sender x) → P (sender (loses x f))
    unfolding loses send.retransmits
    loses_elim h g = after_send P (send.loss_judged (sender x) f.from (length f.bytes)) h g

-- the frame that an emit gives
abbrev emitted_frame : SendEnd → List ℕ → Frame
emitted_frame x out = record {
  from = send.front (sender x);
  bytes = take (send.emit_count (sender x) (length out)) (send.emitted_out (sender x) x.arena out);
  fin = sent_at (sender x).fin (send.front (sender x) + send.emit_count (sender x) (length out));
}

emits_elim : (P : Send → List Frame → Type 0) (x : SendEnd) (out : List ℕ)
    → (send.other_arena (sender x) (length x.arena) ≡ false → P (send.sent (sender x) (length out)) (x.frames ++ emitted_frame x out ∷ []))
    → P (sender x) (x.frames ++ []) → P (sender (emits x out)) (emits x out).frames
unfolding emits send.emitted
emits_elim P x out f g =
    cond_elim
    (λ (o : Outcome (ℕ × Bool) SendBuf). P (sender (with_send x o.state)) (x.frames ++ frame_of (send.front (sender x)) (send.emitted_out (sender x) x.arena out) o.answer))
    (send.other_arena (sender x) (length x.arena))
    (λ _. subst (λ (t : Send). P t (x.frames ++ [])) (sym (view_of_lem (sender x))) g)
    (λ e. subst (λ (t : Send). P t (x.frames ++ emitted_frame x out ∷ [])) (sym (view_of_lem (send.sent (sender x) (length out)))) (f e))

-- the same of a receive buffer
takes_elim : (P : Recv → List Frame → Type 0) (x : RecvEnd) (f : Frame)
    → (recv.write_judged (receiver x) (length x.arena) f.from (length f.bytes) f.fin ≡ Ok tt
    → P (recv.wrote (receiver x) f.from (length f.bytes) f.fin) (x.accepted ++ f ∷ []))
    → P (receiver x) (x.accepted ++ []) → P (receiver (takes x f)) (takes x f).accepted
unfolding takes recv.written
takes_elim P x f h g = go (recv.write_judged (receiver x) (length x.arena) f.from (length f.bytes) f.fin) h
  where
    new : Recv
    new = recv.wrote (receiver x) f.from (length f.bytes) f.fin

    go : (said : Result ⊤ Refusal) → (said ≡ Ok tt → P new (x.accepted ++ f ∷ []))
        → P (receiver (record { buf = buf_of (after said new (receiver x)); arena = []; out = []; accepted = []; granted = [] })) (x.accepted ++ accepted_by said f)
    go (Ok done) h = subst (λ (t : Recv). P t (x.accepted ++ f ∷ [])) (sym (view_buf new)) (h refl)
    go (Err why) h = subst (λ (t : Recv). P t (x.accepted ++ [])) (sym (view_buf (receiver x))) g

-- an accepted frame
judged_done : (x : RecvEnd) (f : Frame) → on_delivery x f ≡ Ok tt → recv.write_judged (receiver x) (length x.arena) f.from (length f.bytes) f.fin ≡ Ok tt
unfolding recv.written
judged_done x f said = said

takes_done : (x : RecvEnd) (f : Frame) → on_delivery x f ≡ Ok tt → receiver (takes x f) ≡ recv.wrote (receiver x) f.from (length f.bytes) f.fin
unfolding takes recv.written
takes_done x f said =
    ap (λ (z : Result ⊤ Refusal). recv_view (buf_of (after z (recv.wrote (receiver x) f.from (length f.bytes) f.fin) (receiver x)))) said
    ∙ view_buf (recv.wrote (receiver x) f.from (length f.bytes) f.fin)

reads_elim : (P : Recv → Type 0) (x : RecvEnd) (out : List ℕ) → (recv.take_judged (receiver x) (length out) ≡ Ok tt → P (recv.took_out (receiver x) (length out)))
    → P (recv.refused_take (receiver x)) → P (receiver x) → P (receiver (reads x out))
unfolding reads recv.emitted recv.discarded
reads_elim P x out f g h =
    cond_elim (λ (o : Outcome (ℕ × Bool) RecvBuf). P (receiver (record { buf = o.state; arena = []; out = []; accepted = []; granted = [] })))
    (recv.other_arena (receiver x) (length x.arena))
    (λ _. subst P (sym (view_buf (receiver x))) h)
    (λ _. go (recv.take_judged (receiver x) (length out)) f)
  where
    went : Recv
    went = recv.took_out (receiver x) (length out)

    go : (said : Result ⊤ Refusal) → (said ≡ Ok tt → P went)
        → P (receiver (record { buf = buf_of (after said went (recv.refused_take (receiver x))); arena = []; out = []; accepted = []; granted = [] }))
    go (Ok done) f = subst P (sym (view_buf went)) (f refl)
    go (Err why) f = subst P (sym (view_buf (recv.refused_take (receiver x)))) g

-- ---- the rule

-- the frame ends at a cut, a marked one at top
pub record Ended (Cut : ℕ → Type 0) (top : ℕ) (f : Frame) : Type 0 where
  pub high : Cut (end_of f)
  pub at_top : f.fin ≡ true → end_of f ≡ top

-- then it started at a cut; or at or below b, where the first chunk held begins, at a byte that the receiver has
abbrev Start : (ℕ → Type 0) → ℕ → Recv → Frame → Type 0
Start Cut b r f = Cut f.from ⊎ ((f.from ≤ b) × Covers r f.from)

-- what a schedule under the rule keeps, of sender s and receiver r with an arena of A bytes
record Links (Cut : ℕ → Type 0) (top A : ℕ) (s : Send) (frames : List Frame) (r : Recv) (got : List Frame) : Type 0 where
  pub poised : Poised Cut s
  pub tidy : Tidy Cut top r
  pub room : r.room ≡ A
  -- every frame emitted started well, every frame accepted ended well
  pub starts : All (Start Cut (begin s) r) frames
  pub ends : All (λ (f : Frame). Cut (end_of f)) got
  -- the receiver has what is acked; and the byte that the first chunk begins with, unless that is a cut
  pub acks : (o : ℕ) → member_of o s.acked ≡ true → Covers r o
  pub first : Cut (begin s) ⊎ Covers r (begin s)

abbrev Track : (ℕ → Type 0) → ℕ → ℕ → System → Type 0
Track Cut top A y = Links Cut top A (sender y.snd) y.snd.frames (receiver y.rcv) y.rcv.accepted

module _ (Cut : ℕ → Type 0) (L top A : ℕ) (grid : Grid Cut L top) where
  -- such a frame is fair whenever it comes
  fair_now : (b : ℕ) (r : Recv) (f : Frame) → Start Cut b r f → Ended Cut top f → Fair Cut top r f.from (length f.bytes) f.fin
  fair_now b r f s e = record {
    low = λ n x y. either s (λ z. z) (λ z. either z.1 (λ w. absurd (omega arith)) (λ w. absurd (y w)));
    high = λ n x y. e.high;
    inside = λ n. grid.below (end_of f) e.high;
    marks = λ d. (e.high, e.at_top d);
  }

  -- one of the two moves on
  module _ (s : Send) (frames : List Frame) (r : Recv) (got : List Frame) (k : Links Cut top A s frames r got) where
    -- the sender: its first chunk begins where it did, or further on at a cut or a byte that the receiver has
    sender_on : (t : Send) → Poised Cut t → begin s ≤ begin t → ((o : ℕ) → member_of o t.acked ≡ true → Covers r o) → Cut (begin t) ⊎ Covers r (begin t)
        → Links Cut top A t frames r got
    sender_on t p b h c = record {
      poised = p;
      tidy = k.tidy;
      room = k.room;
      starts = all_map (Start Cut (begin s) r) (Start Cut (begin t) r) frames (λ f e. either e (λ x. inl x) (λ x. inr (omega (arith, x.0), x.1))) k.starts;
      ends = k.ends;
      acks = h;
      first = c;
    }

    -- its first chunk begins where it did, and no more is acked
    sender_same : (t : Send) → Poised Cut t → begin t ≡ begin s → t.acked ≡ s.acked → Links Cut top A t frames r got
    sender_same t p b e =
        sender_on t p (omega arith) (λ o m. k.acks o (ap (member_of o) (sym e) ∙ m)) (subst (λ (z : ℕ). Cut z ⊎ Covers r z) (sym b) k.first)

    -- the receiver: what it had it still has
    receiver_on : (r' : Recv) → Tidy Cut top r' → r'.room ≡ r.room → ((o : ℕ) → Covers r o → Covers r' o) → (got' : List Frame)
        → All (λ (f : Frame). Cut (end_of f)) got' → Links Cut top A s frames r' got'
    receiver_on r' t e h got' c = record {
      poised = k.poised;
      tidy = t;
      room = e ∙ k.room;
      starts = all_map (Start Cut (begin s) r) (Start Cut (begin s) r') frames (λ f e. either e (λ x. inl x) (λ x. inr (x.0, h f.from x.1))) k.starts;
      ends = c;
      acks = λ o e. h o (k.acks o e);
      first = either k.first (λ x. inl x) (λ x. inr (h (begin s) x));
    }

  module _ (y : System) (i : Inv y) (t : Track Cut top A y) where
    abbrev s : Send
    s = sender y.snd

    abbrev r : Recv
    r = receiver y.rcv

    abbrev frames : List Frame
    frames = y.snd.frames

    abbrev got : List Frame
    got = y.rcv.accepted

    g : GoodSend s
    g = i.send_inv.carries.good

    follows : Follows y.snd.written s.fin r y.rcv.arena
    follows = i.recv_inv.follows

    -- ---- the sender's moves

    abbrev Sends : Send → Type 0
    Sends s' = Links Cut top A s' frames r got

    track_writes : (input : List ℕ) (fin : Bool) → Track Cut top A (on_send y (writes y.snd input fin))
    unfolding writes send.wrote
    track_writes input fin =
        let n : ℕ = length input in
        writes_elim Sends y.snd input fin
        (λ _. sender_same s frames r got t (send.wrote s n fin) (poised_wrote Cut s g t.poised n fin) (begin_wrote Cut s g t.poised n fin) refl)
        t

    track_raises : (limit : ℕ) → Track Cut top A (on_send y (raises y.snd limit))
    unfolding raises
    track_raises limit =
        raises_elim Sends y.snd limit
        (sender_same s frames r got t (send.with_limit s (max s.limit limit) s.blocked) (record { fronts = t.poised.fronts; ends = t.poised.ends }) refl refl)
        t

    track_blocks : (at : Option ℕ) → Track Cut top A (on_send y (blocks y.snd at))
    unfolding blocks
    track_blocks at =
        blocks_elim Sends y.snd at
        (sender_same s frames r got t (send.with_limit s s.limit at) (record { fronts = t.poised.fronts; ends = t.poised.ends }) refl refl)

    track_loses : (f : Frame) → Ended Cut top f → Start Cut (begin s) r f → Track Cut top A (on_send y (loses y.snd f))
    unfolding loses
    track_loses f c b =
        let n : ℕ = length f.bytes in
        loses_elim Sends y.snd f
        (λ _. sender_same s frames r got t (send.lost s f.from n)
        (poised_lost Cut s g t.poised f.from n c.high (either b (λ x. inl x) (λ x. inr x.0)))
        (begin_lost Cut s g t.poised f.from n) (acked_lost Cut s g t.poised f.from n))
        t

    -- an accepted frame is acked: the receiver has its bytes
    module _ (f : Frame) (c : Cut (end_of f)) (h : (o : ℕ) → Brings f o → Covers r o) where
      abbrev acked : Send
      acked = send.acked_more s f.from (length f.bytes)

      abbrev less : Send
      less = send.dropped acked (send.drop_to acked f.from)

      sends_acked : Sends acked
      sends_acked =
          let n : ℕ = length f.bytes in
          let b : begin acked ≡ begin s = begin_acked Cut s g t.poised f.from n in
          sender_on s frames r got t acked (poised_acked Cut s g t.poised f.from n c) (omega arith)
          (λ o m. either (ack_only s f.from n o m) (h o) (t.acks o))
          (subst (λ (z : ℕ). Cut z ⊎ Covers r z) (sym b) t.first)

      sends_less : GoodSend acked → Sends less
      sends_less g' =
          let k = sends_acked in
          sender_on acked frames r got k less (poised_dropped Cut acked g' k.poised f.from) (begin_dropped Cut acked g' k.poised f.from) k.acks
          (either (begin_drops Cut acked g' k.poised f.from)
          (λ d. subst (λ (z : ℕ). Cut z ⊎ Covers r z) (sym d) k.first)
          (λ d. either d (λ x. inl x) (λ m. inr (k.acks (begin less) m))))

      track_acks : Track Cut top A (on_send y (acks y.snd f))
      unfolding acks
      track_acks = acks_elim Sends y.snd f (λ _. sends_acked) t

      track_ack_drops : Track Cut top A (on_send y (ack_drops y.snd f))
      unfolding ack_drops
      track_ack_drops = ack_drops_elim Sends y.snd f (λ e. sends_less (acked_good s g f.from (length f.bytes) e)) t

    -- an emit whose frame ends at a cut: it starts at the front
    track_emits : (out : List ℕ) → All (Ended Cut top) (emits y.snd out).frames → Track Cut top A (on_send y (emits y.snd out))
    unfolding send.sent
    track_emits out =
        emits_elim (λ (s' : Send) (fs : List Frame). All (Ended Cut top) fs → Links Cut top A s' fs r got) y.snd out
        (λ e h. sends_frame e (all_last (Ended Cut top) frames new h).high)
        (λ _. subst (λ (fs : List Frame). Links Cut top A s fs r got) (sym (append-nil frames)) t)
      where
        new : Frame
        new = emitted_frame y.snd out

        n : ℕ
        n = length out

        long : send.other_arena s (length y.snd.arena) ≡ false → length new.bytes ≡ send.emit_count s n
        long e = ap length (emit_gives s y.snd.arena out e) ∙ length_held y.snd.arena (send.front s) (send.emit_count s n)

        sends_frame : send.other_arena s (length y.snd.arena) ≡ false → Cut (end_of new) → Links Cut top A (send.sent s n) (frames ++ new ∷ []) r got
        sends_frame e c =
            let b : begin (send.sent s n) ≡ begin s = begin_sent Cut s g t.poised n in
            let p : Poised Cut (send.sent s n) = poised_sent Cut s g t.poised n (subst (λ (m : ℕ). Cut (send.front s + m)) (long e) c) in
            let k : Links Cut top A (send.sent s n) frames r got = sender_same s frames r got t (send.sent s n) p b refl in
            let here : Start Cut (begin (send.sent s n)) r new = either (front_is Cut s g t.poised) (λ x. inl x)
            (λ x. either t.first (λ z. inl (subst Cut (sym x) z)) (λ z. inr (omega (arith, x, b), subst (Covers r) (sym x) z))) in record {
              poised = p;
              tidy = k.tidy;
              room = k.room;
              starts = all_append (Start Cut (begin (send.sent s n)) r) frames (new ∷ []) k.starts (here, tt);
              ends = k.ends;
              acks = k.acks;
              first = k.first;
            }

    -- ---- the receiver's moves

    abbrev Receives : Recv → Type 0
    Receives r' = Links Cut top A s frames r' got

    -- a frame comes
    track_takes : (f : Frame) → Honest y.snd.written s.fin f → Ended Cut top f → Start Cut (begin s) r f → Track Cut top A (on_recv y (takes y.rcv f))
    track_takes f h c b =
        let n : ℕ = length f.bytes in
        let r' : Recv = recv.wrote r f.from n f.fin in
        takes_elim (λ (r : Recv) (got : List Frame). Links Cut top A s frames r got) y.rcv f
        (λ e. receiver_on s frames r got t r'
        (tidy_wrote Cut L top grid r f.from n f.fin follows.good t.tidy (fair_now (begin s) r f b c) follows.reading)
        (wrote_same y.snd.written s.fin r y.rcv.arena f follows h).2
        (covers_stay y.snd.written s.fin r y.rcv.arena f follows h)
        (got ++ f ∷ []) (all_append (λ (f : Frame). Cut (end_of f)) got (f ∷ []) t.ends (c.high, tt)))
        (subst (λ (fs : List Frame). Links Cut top A s frames r fs) (sym (append-nil got)) t)

    -- a refused read changes nothing, since there was no reset
    refused_same : recv.refused_take r ≡ r
    refused_same = cond_elim (λ (t : Recv). t ≡ r) (recv.is_ready r.chunks r.off && known r.error)
        (λ e. clash (sym (and_true (recv.is_ready r.chunks r.off) (known r.error) e).1 ∙ ap known follows.unreset))
        (λ e. refl)

    track_reads : (out : List ℕ) → Track Cut top A (on_recv y (reads y.rcv out))
    unfolding reads recv.took_out
    track_reads out =
        let n : ℕ = length out in
        reads_elim Receives y.rcv out
        (λ e. receiver_on s frames r got t (recv.took_out r n) (tidy_took Cut top r n follows.good t.tidy) refl
        (took_covers y.snd.written s.fin r y.rcv.arena follows n) got t.ends)
        (subst Receives (sym refused_same) t)
        t

    receives_flow : (w : FlowControl) → Receives (recv.with_flow r w)
    receives_flow w = receiver_on s frames r got t (recv.with_flow r w) (record { edges = t.tidy.edges; stands = t.tidy.stands }) refl (λ o x. x) got t.ends

    track_commits : (now : ℕ) → Track Cut top A (on_recv y (commits y.rcv now))
    unfolding commits recv.commits
    track_commits now = let w : FlowControl = committed r.flow now in subst Receives (sym (view_buf (recv.with_flow r w))) (receives_flow w)

    track_tunes : (now rtt : ℕ) → Track Cut top A (on_recv y (tunes y.rcv now rtt))
    unfolding tunes recv.autotunes
    track_tunes now rtt = let w : FlowControl = autotuned r.flow now rtt in subst Receives (sym (view_buf (recv.with_flow r w))) (receives_flow w)

  -- ---- any move, and any schedule

  covered : (y : System) → Inv y → (k : ℕ) (f : Frame) → slice_get y.rcv.accepted k ≡ Some f → (o : ℕ) → Brings f o → Covers (receiver y.rcv) o
  covered y i k f e = all_at (λ (f : Frame). (o : ℕ) → Brings f o → Covers (receiver y.rcv) o) y.rcv.accepted k f e i.recv_inv.covered

  track_step : (y : System) (m : Move) → Inv y → Track Cut top A y → All (Ended Cut top) y.snd.frames → All (Ended Cut top) (step y m).snd.frames
      → Track Cut top A (step y m)
  track_step y (write input fin) i t c d = track_writes y i t input fin
  track_step y (emit out) i t c d = track_emits y i t out d
  track_step y (deliver k) i t c d =
      named_elim (Track Cut top A) (slice_get y.snd.frames k) (λ f. on_recv y (takes y.rcv f)) y
      (λ f e. track_takes y i t f
      (all_at (Honest y.snd.written (sender y.snd).fin) y.snd.frames k f e i.send_inv.honest) (all_at (Ended Cut top) y.snd.frames k f e c) (all_at (Start Cut (begin (sender y.snd)) (receiver y.rcv)) y.snd.frames k f e t.starts))
      t
  track_step y (read out) i t c d = track_reads y i t out
  track_step y (commit now) i t c d = track_commits y i t now
  track_step y (tune now rtt) i t c d = track_tunes y i t now rtt
  track_step y (raise k) i t c d =
      named_elim (Track Cut top A) (slice_get y.rcv.granted k) (λ limit. on_send y (raises y.snd limit)) y (λ limit e. track_raises y i t limit) t
  track_step y (block at) i t c d = track_blocks y i t at
  track_step y (ack k) i t c d =
      named_elim (Track Cut top A) (slice_get y.rcv.accepted k) (λ f. on_send y (acks y.snd f)) y
      (λ f e. track_acks y i t f (all_at (λ (f : Frame). Cut (end_of f)) y.rcv.accepted k f e t.ends) (covered y i k f e)) t
  track_step y (ack_drop k) i t c d =
      named_elim (Track Cut top A) (slice_get y.rcv.accepted k) (λ f. on_send y (ack_drops y.snd f)) y
      (λ f e. track_ack_drops y i t f (all_at (λ (f : Frame). Cut (end_of f)) y.rcv.accepted k f e t.ends) (covered y i k f e)) t
  track_step y (lose k) i t c d =
      named_elim (Track Cut top A) (slice_get y.snd.frames k) (λ f. on_send y (loses y.snd f)) y
      (λ f e. track_loses y i t f (all_at (Ended Cut top) y.snd.frames k f e c) (all_at (Start Cut (begin (sender y.snd)) (receiver y.rcv)) y.snd.frames k f e t.starts)) t

  -- frames are only added
  frames_step : (P : Frame → Type 0) (y : System) (m : Move) → All P (step y m).snd.frames → All P y.snd.frames
  unfolding writes emits raises blocks acks ack_drops loses
  frames_step P y (write input fin) h = h
  frames_step P y (emit out) h = all_left P y.snd.frames _ h
  frames_step P y (deliver k) h =
      named_elim (λ (z : System). All P z.snd.frames → All P y.snd.frames) (slice_get y.snd.frames k) (λ f. on_recv y (takes y.rcv f)) y (λ f e g. g) (λ g. g) h
  frames_step P y (read out) h = h
  frames_step P y (commit now) h = h
  frames_step P y (tune now rtt) h = h
  frames_step P y (raise k) h =
      named_elim (λ (z : System). All P z.snd.frames → All P y.snd.frames) (slice_get y.rcv.granted k) (λ limit. on_send y (raises y.snd limit)) y (λ f e g. g) (λ g. g) h
  frames_step P y (block at) h = h
  frames_step P y (ack k) h =
      named_elim (λ (z : System). All P z.snd.frames → All P y.snd.frames) (slice_get y.rcv.accepted k) (λ f. on_send y (acks y.snd f)) y (λ f e g. g) (λ g. g) h
  frames_step P y (ack_drop k) h =
      named_elim (λ (z : System). All P z.snd.frames → All P y.snd.frames) (slice_get y.rcv.accepted k) (λ f. on_send y (ack_drops y.snd f)) y (λ f e g. g) (λ g. g) h
  frames_step P y (lose k) h =
      named_elim (λ (z : System). All P z.snd.frames → All P y.snd.frames) (slice_get y.snd.frames k) (λ f. on_send y (loses y.snd f)) y (λ f e g. g) (λ g. g) h

  frames_run : (P : Frame → Type 0) (ms : List Move) (y : System) → All P (run y ms).snd.frames → All P y.snd.frames
  frames_run P [] y h = h
  frames_run P (m ∷ ms) y h = frames_step P y m (frames_run P ms (step y m) h)

  track_run : (ms : List Move) (y : System) → Inv y → Track Cut top A y → All (Ended Cut top) (run y ms).snd.frames → Track Cut top A (run y ms)
  track_run [] y i t h = t
  track_run (m ∷ ms) y i t h =
      let h₁ = frames_run (Ended Cut top) ms (step y m) h in
      track_run ms (step y m) (inv_step y m i) (track_step y m i t (frames_step (Ended Cut top) y m h₁) h₁) h

-- ---- the theorems

module _ (u : Setup) (p : Premises u) where
  module _ (Cut : ℕ → Type 0) (L top : ℕ) (grid : Grid Cut L top) (zero-cut : Cut 0) (ms : List Move)
      (rule : All (Ended Cut top) (run (fresh u) ms).snd.frames) where
    abbrev y : System
    y = run (fresh u) ms

    track_fresh : Track Cut top u.recv_room (fresh u)
    unfolding fresh
    track_fresh =
        let s : Send = send.new_send u.send_room u.send_limit in
        let r : Recv = recv.new_recv u.recv_room u.recv_limit u.max_window in
        subst₂ (λ (s : Send) (r : Recv). Links Cut top u.recv_room s [] r []) (sym (sender_is u p)) (sym (receiver_is u p)) record {
          poised = poised_new Cut u.send_room u.send_limit;
          tidy = record { edges = tt; stands = inl zero-cut };
          room = refl;
          starts = tt;
          ends = tt;
          acks = λ o e. let z : ◌≡◌ {A = ℕ} 0 1 = cc in absurd (omega arith);
          first = inl zero-cut;
        }

    tracked : Track Cut top u.recv_room y
    tracked = track_run Cut L top u.recv_room grid ms (fresh u) (inv_fresh u p) track_fresh rule

    inv : Inv y
    inv = inv_run (fresh u) ms (inv_fresh u p)

    follow : Follows y.snd.written (sender y.snd).fin (receiver y.rcv) y.rcv.arena
    follow = inv.recv_inv.follows

    fair_sent : (k : ℕ) (f : Frame) → slice_get y.snd.frames k ≡ Some f → Fair Cut top (receiver y.rcv) f.from (length f.bytes) f.fin
    fair_sent k f e = fair_now Cut L top u.recv_room grid (begin (sender y.snd)) (receiver y.rcv) f
        (all_at (Start Cut (begin (sender y.snd)) (receiver y.rcv)) y.snd.frames k f e tracked.starts) (all_at (Ended Cut top) y.snd.frames k f e rule)

    -- A at most 63 L: no frame ever emitted, delivered now, is refused for the table
    pub ends_suffice : u.recv_room ≤ 63 * L → (k : ℕ) (f : Frame) → slice_get y.snd.frames k ≡ Some f → on_delivery y.rcv f ≡ Err TableFull → ⊥
    unfolding recv.written
    ends_suffice a k f e said =
        not_full (receiver y.rcv) (length y.rcv.arena) f.from (length f.bytes) f.fin Cut L top grid follow.good tracked.tidy (fair_sent k f e)
        (omega (arith, tracked.room)) said

    -- A below 64 L: with nothing ready, a frame ever emitted that brings the byte at off, and has at most A bytes, is accepted
    pub ends_unblock : u.recv_room < 64 * L → (k : ℕ) (f : Frame) → slice_get y.snd.frames k ≡ Some f
        → recv.is_ready (receiver y.rcv).chunks (receiver y.rcv).off ≡ false → Brings f (receiver y.rcv).off → length f.bytes ≤ u.recv_room
        → on_delivery y.rcv f ≡ Ok tt
    unfolding recv.written
    ends_unblock a k f e idle b n =
        let r : Recv = receiver y.rcv in
        let room : r.room ≡ u.recv_room = tracked.room in
        either ((safety u p ms).welcome k f e) (λ said. said)
        (λ h. either h
        (λ said. absurd (fits_at_off r (length y.rcv.arena) f.from (length f.bytes) f.fin b.0 (omega arith) said))
        (λ said. absurd (not_stalled r (length y.rcv.arena) f.from (length f.bytes) f.fin Cut L top grid follow.good tracked.tidy
        (fair_sent k f e) (omega arith) idle b.0 b.1 said)))

    -- and once it is accepted, there is something to read
    pub ends_ready : (k : ℕ) (f : Frame) → slice_get y.snd.frames k ≡ Some f → Brings f (receiver y.rcv).off → on_delivery y.rcv f ≡ Ok tt
        → recv.is_ready (receiver (takes y.rcv f)).chunks (receiver (takes y.rcv f)).off ≡ true
    ends_ready k f e b said =
        let r : Recv = receiver y.rcv in
        let t : Recv = recv.wrote r f.from (length f.bytes) f.fin in
        let h = all_at (Honest y.snd.written (sender y.snd).fin) y.snd.frames k f e inv.send_inv.honest in
        let same : t.off ≡ r.off = (wrote_same y.snd.written (sender y.snd).fin r y.rcv.arena f follow h).1 in
        let chain = (wrote_good r f.from (length f.bytes) f.fin follow.good (length y.rcv.arena) (judged_done y.rcv f said)).chain in
        subst (λ (r : Recv). recv.is_ready r.chunks r.off ≡ true) (sym (takes_done y.rcv f said))
        (either (covers_new y.snd.written (sender y.snd).fin r y.rcv.arena f follow h t.off (omega (arith, b.0), omega (arith, b.1)))
        (λ x. absurd (omega arith))
        (λ x. held_ready t.chunks t.off chain x))

  -- the same, where every frame ends at a multiple of L or at `top`, the final size
  module _ (L top : ℕ) (ms : List Move) (rule : All (Ended (OnGrid L top) top) (run (fresh u) ms).snd.frames) where
    zero_on : OnGrid L top 0
    zero_on = (omega arith, inr (0, sym (mul-zero L)))

    pub multiples_suffice : u.recv_room ≤ 63 * L → (k : ℕ) (f : Frame) → slice_get (run (fresh u) ms).snd.frames k ≡ Some f
        → on_delivery (run (fresh u) ms).rcv f ≡ Err TableFull → ⊥
    multiples_suffice = ends_suffice (OnGrid L top) L top (on_grid L top) zero_on ms rule

    pub multiples_unblock : u.recv_room < 64 * L → let y = run (fresh u) ms in (k : ℕ) (f : Frame) → slice_get y.snd.frames k ≡ Some f
        → recv.is_ready (receiver y.rcv).chunks (receiver y.rcv).off ≡ false → Brings f (receiver y.rcv).off → length f.bytes ≤ u.recv_room
        → on_delivery y.rcv f ≡ Ok tt
    multiples_unblock = ends_unblock (OnGrid L top) L top (on_grid L top) zero_on ms rule

  -- frames that end at multiples of 1,041 or more, or of 1,025 or more, do for every arena there is
  pub every_room : (L : ℕ) → 1041 ≤ L → u.recv_room ≤ 63 * L
  every_room L h = omega (arith, p.recv_room_in)

  pub every_room_unblocked : (L : ℕ) → 1025 ≤ L → u.recv_room < 64 * L
  every_room_unblocked L h = omega (arith, p.recv_room_in)

-- ---- the stall is for ever

-- no move changes what a stalled receiver keeps, how far it has handed out, or what the reader has
pub record Stuck (x x' : RecvEnd) : Type 0 where
  pub stalled : Stalled (receiver x')
  pub same_chunks : (receiver x').chunks ≡ (receiver x).chunks
  pub same_off : (receiver x').off ≡ (receiver x).off
  pub same_out : x'.out ≡ x.out

abbrev Kept : RecvEnd → Recv → Type 0
Kept x r = Stalled r × (r.chunks ≡ (receiver x).chunks) × (r.off ≡ (receiver x).off)

module _ (x : RecvEnd) (g : Stalled (receiver x)) where
  stuck : (x' : RecvEnd) → Kept x (receiver x') → x'.out ≡ x.out → Stuck x x'
  stuck x' k e = record { stalled = k.0; same_chunks = k.1; same_off = k.2; same_out = e }

  stuck_takes : (f : Frame) → Stuck x (takes x f)
  unfolding takes
  stuck_takes f = stuck (takes x f)
      (takes_elim (λ (r : Recv) (fs : List Frame). Kept x r) x f
      (λ e. let h = stalled_write (receiver x) (length x.arena) f.from (length f.bytes) f.fin g e in (h.2, h.0, h.1))
      (g, refl, refl))
      refl

  -- what a read answers
  read_none : (out : List ℕ) → bytes_of (recv.emitted (receiver x) (length x.arena) (length out)).answer ≡ 0
  unfolding recv.emitted recv.discarded
  read_none out = cond_elim (λ (o : Outcome (ℕ × Bool) RecvBuf). bytes_of o.answer ≡ 0) (recv.other_arena (receiver x) (length x.arena)) (λ _. refl)
      (λ _. ap (λ (said : Result ⊤ Refusal). bytes_of (with_bytes said (recv.takes (receiver x) (length out)) (is_at (receiver x).fin ((receiver x).off + recv.takes (receiver x) (length out)))))
      (stalled_emit (receiver x) (length out) g).0)

  stuck_reads : (out : List ℕ) → Stuck x (reads x out)
  unfolding reads
  stuck_reads out =
      let h = stalled_emit (receiver x) (length out) g in
      stuck (reads x out)
      (reads_elim (Kept x) x out (λ e. not_both _ NothingReady e h.0) (subst (Kept x) (sym h.1) (g, refl, refl)) (g, refl, refl))
      (ap (λ (k : ℕ). x.out ++ take k (recv.emitted_out (receiver x) x.arena out)) (read_none out) ∙ append-nil x.out)

  kept_flow : (w : FlowControl) → Kept x (recv.with_flow (receiver x) w)
  kept_flow w = (record { full = g.full; lasting = g.lasting; idle = g.idle; unshut = g.unshut }, refl, refl)

  stuck_commits : (now : ℕ) → Stuck x (commits x now)
  unfolding commits recv.commits
  stuck_commits now =
      let w : FlowControl = committed (receiver x).flow now in
      stuck (commits x now) (subst (Kept x) (sym (view_buf (recv.with_flow (receiver x) w))) (kept_flow w)) refl

  stuck_tunes : (now rtt : ℕ) → Stuck x (tunes x now rtt)
  unfolding tunes recv.autotunes
  stuck_tunes now rtt =
      let w : FlowControl = autotuned (receiver x).flow now rtt in
      stuck (tunes x now rtt) (subst (Kept x) (sym (view_buf (recv.with_flow (receiver x) w))) (kept_flow w)) refl

  stuck_same : Stuck x x
  stuck_same = record { stalled = g; same_chunks = refl; same_off = refl; same_out = refl }

stuck_step : (y : System) (m : Move) → Stalled (receiver y.rcv) → Stuck y.rcv (step y m).rcv
stuck_step y (write input fin) g = stuck_same y.rcv g
stuck_step y (emit out) g = stuck_same y.rcv g
stuck_step y (deliver k) g =
    named_elim (λ (z : System). Stuck y.rcv z.rcv) (slice_get y.snd.frames k) (λ f. on_recv y (takes y.rcv f)) y (λ f e. stuck_takes y.rcv g f) (stuck_same y.rcv g)
stuck_step y (read out) g = stuck_reads y.rcv g out
stuck_step y (commit now) g = stuck_commits y.rcv g now
stuck_step y (tune now rtt) g = stuck_tunes y.rcv g now rtt
stuck_step y (raise k) g =
    named_elim (λ (z : System). Stuck y.rcv z.rcv) (slice_get y.rcv.granted k) (λ limit. on_send y (raises y.snd limit)) y (λ f e. stuck_same y.rcv g) (stuck_same y.rcv g)
stuck_step y (block at) g = stuck_same y.rcv g
stuck_step y (ack k) g =
    named_elim (λ (z : System). Stuck y.rcv z.rcv) (slice_get y.rcv.accepted k) (λ f. on_send y (acks y.snd f)) y (λ f e. stuck_same y.rcv g) (stuck_same y.rcv g)
stuck_step y (ack_drop k) g =
    named_elim (λ (z : System). Stuck y.rcv z.rcv) (slice_get y.rcv.accepted k) (λ f. on_send y (ack_drops y.snd f)) y (λ f e. stuck_same y.rcv g) (stuck_same y.rcv g)
stuck_step y (lose k) g =
    named_elim (λ (z : System). Stuck y.rcv z.rcv) (slice_get y.snd.frames k) (λ f. on_send y (loses y.snd f)) y (λ f e. stuck_same y.rcv g) (stuck_same y.rcv g)

-- whatever schedule follows
pub stalled_run : (ms : List Move) (y : System) → Stalled (receiver y.rcv) → Stuck y.rcv (run y ms).rcv
stalled_run [] y g = stuck_same y.rcv g
stalled_run (m ∷ ms) y g =
    let a = stuck_step y m g in
    let b = stalled_run ms (step y m) a.stalled in
    record { stalled = b.stalled; same_chunks = b.same_chunks ∙ a.same_chunks; same_off = b.same_off ∙ a.same_off; same_out = b.same_out ∙ a.same_out }
