-- Schedules in which the receive table is full, all by computation: the stall is real, and the numbers 63 and 64 of NoStall are sharp.
-- Each is a run of the joined system under the premises of demand 3. Assumes nothing.
--
--   stall_real           65 bytes in frames of one, the first lost, A = 65: the lost byte is sent again and refused TableFull
--   stall_for_ever       and whatever schedule follows, the reader never gets a byte
--   fewest_frames        the same of the receiver alone, with 33 frames
--   full_at_63_l          L = 2, A = 63 L + 1: a frame is refused TableFull, though every frame ends at a multiple of L
--   stall_at_64_l         L = 2, A = 64 L: nothing is ready, and the frame that brings the byte at off is refused TableFull, though every frame does
--   stall_at_64_l_for_ever    and whatever schedule follows, the reader never gets a byte
--   long_frames_stall    a least frame length does not help: frames of 10 bytes and more, A = 83
--   short_writes_stall   nor do frames as long as the writes allow: 36 frames of 10 bytes, then 29 writes of one byte, each sent at once
--   held_back_ends       the rule can be kept: writes of 1, 2 and 2 bytes, frames that end at 2, 4 and at the final size 5
use Rattle.std.specs.Prelude.{slice_get, Some, Ok, Err}
use mathlib.Core.Path.{◌≡◌, refl, sym, ap, ◌∙◌}
use mathlib.Core.Logic.{inl, inr}
use mathlib.Core.Bool.{Bool, true, false, not, ◌&&◌, ◌||◌}
use mathlib.Core.List.{List, [], ◌∷◌, ◌++◌}
use Prim.Native.Nat.{ℕ, zero, suc, ◌+◌, ◌*◌, ◌/◌, ◌%◌, ◌≤◌, ◌<◌}
use native.Mathlib.Nat.{div-add-mod', mul_comm}
use native.Mathlib.Omega.{arith}
use lib.Dec.{ltb, leb, eqb}
use lib.ListN.{length, replicate, length-replicate}
use borrow.Author.Tests.{ltb-true, leb-true, eqb-true}
use Rattle.refusal.specs.Rules.{M, after}
use Rattle.refusal.specs.declared.Refusal.TheVariants.{TableFull, Done as NothingReady}
use Rattle.arena.specs.Rules.{kept, held}
use Rattle.range_buf.specs.declared.RangeBuf.{RangeBuf}
use Rattle.range_buf.specs.Rules.{start, end}
use Rattle.send_buf.specs.State.{buf_of as send_buf_of}
use Rattle.send_buf.specs.Rules as send
use Rattle.recv_buf.specs.State.{Recv, buf_of}
use Rattle.recv_buf.specs.Rules as recv
use Rattle.recv_buf.specs.Rfc9000.{Frame, end_of}
use Rattle.channel.specs.System.{System, receiver, Setup, fresh, Premises, Move, write, emit, deliver, read, lose, writes, emits, loses, takes, reads, run}
use Rattle.channel.specs.Demand3.{on_delivery, on_read}
use Rattle.channel.proofs.Lists.{All}
use Rattle.channel.proofs.Cuts.{OnGrid}
use Rattle.channel.proofs.Table.{Lasting, Stalled}
use Rattle.channel.proofs.NoStall.{Ended, stalled_run}
use Rattle.tables.proofs.Tests.{either, and_true, or-true, clash}

-- ---- the schedules' parts, and tests that compute

-- both ends with limit and maximum window n, and arenas of A and B zero bytes
abbrev ends : ℕ → ℕ → ℕ → Setup
ends n A B = record { send_limit = n; send_room = A; send_arena = replicate A 0; recv_limit = n; max_window = n; recv_room = B; recv_arena = replicate B 0 }

premises : (n A B : ℕ) → 0 < A → A ≤ 65536 → 0 < B → B ≤ 65536 → n ≤ M → Premises (ends n A B)
premises n A B a a' b b' m = record {
  send_room_some = a;
  send_room_in = a';
  send_arena_is = length-replicate A 0;
  recv_room_some = b;
  recv_room_in = b';
  recv_arena_is = length-replicate B 0;
  starting = omega arith;
  in_window = omega arith;
  window_in = m;
}

-- n emits of room r; n frames delivered in turn, from the k-th on
abbrev emissions : ℕ → ℕ → List Move
emissions zero r = []
emissions (suc n) r = emit (replicate r 0) ∷ emissions n r

abbrev deliveries : ℕ → ℕ → List Move
deliveries zero k = []
deliveries (suc n) k = deliver k ∷ deliveries n (suc k)

-- n bytes at s, all 7, without a mark
abbrev sevens : ℕ → ℕ → Frame
sevens s n = record { from = s; bytes = replicate n 7; fin = false }

-- the rule of NoStall, as a test
abbrev ends_well : ℕ → ℕ → List Frame → Bool
ends_well L top [] = true
ends_well L top (f ∷ fs) = leb (end_of f) top && (eqb (end_of f) top || eqb (end_of f % L) 0 && not f.fin) && ends_well L top fs

ends_well_lem : (L top : ℕ) (fs : List Frame) → ends_well L top fs ≡ true → All (Ended (OnGrid L top) top) fs
ends_well_lem L top [] h = tt
ends_well_lem L top (f ∷ fs) h = (here, ends_well_lem L top fs both.1)
  where
    both : ((leb (end_of f) top && (eqb (end_of f) top || eqb (end_of f % L) 0 && not f.fin)) ≡ true) × (ends_well L top fs ≡ true)
    both = and_true (leb (end_of f) top && (eqb (end_of f) top || eqb (end_of f % L) 0 && not f.fin)) (ends_well L top fs) h

    here : Ended (OnGrid L top) top f
    here =
        let q = and_true (leb (end_of f) top) (eqb (end_of f) top || eqb (end_of f % L) 0 && not f.fin) both.0 in
        let low = leb-true (end_of f) top q.0 in
        either (or-true (eqb (end_of f) top) (eqb (end_of f % L) 0 && not f.fin) q.1)
        (λ d. let x = eqb-true (end_of f) top d in record { high = (low, inl x); at_top = λ _. x })
        (λ d. let x = and_true (eqb (end_of f % L) 0) (not f.fin) d in
        let m = eqb-true (end_of f % L) 0 x.0 in
        record {
          high = (low, inr (end_of f / L, omega (arith, div-add-mod' (end_of f) L, mul_comm (end_of f / L) L)));
          at_top = λ y. clash (sym x.1 ∙ ap not y);
        })

-- every chunk holds bytes, or ends above hi, as a test
abbrev lasts : ℕ → List RangeBuf → Bool
lasts hi [] = true
lasts hi (c ∷ cs) = (ltb (start c) (end c) || ltb hi (end c)) && lasts hi cs

lasting : (hi : ℕ) (cs : List RangeBuf) → lasts hi cs ≡ true → Lasting hi cs
lasting hi [] h = tt
lasting hi (c ∷ cs) h =
    let p = and_true (ltb (start c) (end c) || ltb hi (end c)) (lasts hi cs) h in (
      either (or-true (ltb (start c) (end c)) (ltb hi (end c)) p.0) (λ x. inl (ltb-true (start c) (end c) x)) (λ x. inr (ltb-true hi (end c) x)),
      lasting hi cs p.1,
    )

-- ---- the stall

-- 65 bytes in frames of one; the first is lost. It is sent again, and refused
abbrev stall : System
stall = run (fresh (ends 65 65 65)) (write (replicate 65 7) false ∷ emissions 65 1 ++ deliveries 64 1 ++ lose 0 ∷ emit (0 ∷ []) ∷ deliver 65 ∷ [])

stall_real : (length (receiver stall.rcv).chunks ≡ 64)
    × (slice_get stall.snd.frames 65 ≡ Some (sevens 0 1))
    × (on_delivery stall.rcv (sevens 0 1) ≡ Err TableFull)
    × (on_delivery stall.rcv (sevens 0 65) ≡ Err TableFull)
    × (on_read stall.rcv (0 ∷ []) ≡ Err NothingReady)
unfolding fresh writes emits loses takes reads send.created send.written send.write_judged send.wrote send.written_arena send.emitted send.emitted_out send.sent send.retransmits send.loss_judged send.lost send_buf_of kept held recv.created recv.written recv.write_judged recv.wrote recv.written_arena recv.emitted recv.emitted_out recv.discarded recv.take_judged recv.took_out buf_of
stall_real = (refl, refl, refl, refl, refl)

stall_stalled : Stalled (receiver stall.rcv)
unfolding fresh writes emits loses takes reads send.created send.written send.write_judged send.wrote send.written_arena send.emitted send.emitted_out send.sent send.retransmits send.loss_judged send.lost send_buf_of kept held recv.created recv.written recv.write_judged recv.wrote recv.written_arena recv.emitted recv.emitted_out recv.discarded recv.take_judged recv.took_out buf_of
stall_stalled = record { full = refl; lasting = lasting 65 (receiver stall.rcv).chunks refl; idle = refl; unshut = refl }

-- so no schedule brings the reader a byte
stall_for_ever : (ms : List Move) → (run stall ms).rcv.out ≡ []
unfolding fresh writes emits loses takes reads send.created send.written send.write_judged send.wrote send.written_arena send.emitted send.emitted_out send.sent send.retransmits send.loss_judged send.lost send_buf_of kept held recv.created recv.written recv.write_judged recv.wrote recv.written_arena recv.emitted recv.emitted_out recv.discarded recv.take_judged recv.took_out buf_of
stall_for_ever ms = (stalled_run ms stall stall_stalled).same_out

-- 33 frames do, and no fewer, since n frames have 2 n ends: 32 runs of one byte at 2, 4, .., 64, and then 1..65 with the 32 bytes between them
abbrev apart : ℕ → ℕ → Recv → Recv
apart zero s r = r
apart (suc n) s r = apart n (2 + s) (after (recv.write_judged r 65 s 1 false) (recv.wrote r s 1 false) r)

abbrev runs : Recv
runs = apart 32 2 (recv.new_recv 65 65 65)

fewest_frames : (recv.write_judged runs 65 1 64 false ≡ Ok tt)
    × (recv.write_judged (recv.wrote runs 1 64 false) 65 0 1 false ≡ Err TableFull)
    × (recv.take_judged (recv.wrote runs 1 64 false) 1 ≡ Err NothingReady)
unfolding recv.write_judged recv.wrote recv.take_judged
fewest_frames = (refl, refl, refl)

-- ---- the bounds are sharp: L = 2, 130 bytes in 65 frames of two, and the end mark in a frame of its own, the 66th

abbrev even : List Move
even = write (replicate 130 7) false ∷ emissions 65 2 ++ write [] true ∷ emit (0 ∷ 0 ∷ []) ∷ []

abbrev mark : Frame
mark = record { from = 130; bytes = []; fin = true }

-- A = 127 = 63 L + 1: one byte of the first frame is read, 63 more frames are kept, and the mark is refused
abbrev sharp63 : System
sharp63 = run (fresh (ends 130 130 127)) (even ++ deliver 0 ∷ read (0 ∷ []) ∷ deliveries 63 1)

full_at_63_l : Premises (ends 130 130 127) × ((ends 130 130 127).recv_room ≡ 63 * 2 + 1) × All (Ended (OnGrid 2 130) 130) sharp63.snd.frames
    × (slice_get sharp63.snd.frames 65 ≡ Some mark)
    × (on_delivery sharp63.rcv mark ≡ Err TableFull)
unfolding fresh writes emits loses takes reads send.created send.written send.write_judged send.wrote send.written_arena send.emitted send.emitted_out send.sent send.retransmits send.loss_judged send.lost send_buf_of kept held recv.created recv.written recv.write_judged recv.wrote recv.written_arena recv.emitted recv.emitted_out recv.discarded recv.take_judged recv.took_out buf_of
full_at_63_l = (
  premises 130 130 127 (omega arith) (omega arith) (omega arith) (omega arith) (omega arith),
  refl,
  ends_well_lem 2 130 sharp63.snd.frames refl,
  refl,
  refl,
)

-- A = 128 = 64 L: 63 frames and the mark are kept, and the first frame, which the reader waits for, is refused
abbrev sharp64 : System
sharp64 = run (fresh (ends 130 130 128)) (even ++ deliveries 63 1 ++ deliver 65 ∷ [])

stall_at_64_l : Premises (ends 130 130 128) × ((ends 130 130 128).recv_room ≡ 64 * 2) × All (Ended (OnGrid 2 130) 130) sharp64.snd.frames
    × (slice_get sharp64.snd.frames 0 ≡ Some (sevens 0 2))
    × ((receiver sharp64.rcv).off ≡ 0)
    × (recv.is_ready (receiver sharp64.rcv).chunks 0 ≡ false)
    × (on_delivery sharp64.rcv (sevens 0 2) ≡ Err TableFull)
    × (on_read sharp64.rcv (0 ∷ []) ≡ Err NothingReady)
unfolding fresh writes emits loses takes reads send.created send.written send.write_judged send.wrote send.written_arena send.emitted send.emitted_out send.sent send.retransmits send.loss_judged send.lost send_buf_of kept held recv.created recv.written recv.write_judged recv.wrote recv.written_arena recv.emitted recv.emitted_out recv.discarded recv.take_judged recv.took_out buf_of
stall_at_64_l = (
  premises 130 130 128 (omega arith) (omega arith) (omega arith) (omega arith) (omega arith),
  refl,
  ends_well_lem 2 130 sharp64.snd.frames refl,
  refl,
  refl,
  refl,
  refl,
  refl,
)

-- and here, too, no schedule brings the reader a byte: the mark lies out of reach of any frame that fits
sharp64_stalled : Stalled (receiver sharp64.rcv)
unfolding fresh writes emits loses takes reads send.created send.written send.write_judged send.wrote send.written_arena send.emitted send.emitted_out send.sent send.retransmits send.loss_judged send.lost send_buf_of kept held recv.created recv.written recv.write_judged recv.wrote recv.written_arena recv.emitted recv.emitted_out recv.discarded recv.take_judged recv.took_out buf_of
sharp64_stalled = record { full = refl; lasting = lasting 128 (receiver sharp64.rcv).chunks refl; idle = refl; unshut = refl }

stall_at_64_l_for_ever : (ms : List Move) → (run sharp64 ms).rcv.out ≡ []
unfolding fresh writes emits loses takes reads send.created send.written send.write_judged send.wrote send.written_arena send.emitted send.emitted_out send.sent send.retransmits send.loss_judged send.lost send_buf_of kept held recv.created recv.written recv.write_judged recv.wrote recv.written_arena recv.emitted recv.emitted_out recv.discarded recv.take_judged recv.took_out buf_of
stall_at_64_l_for_ever ms = (stalled_run ms sharp64 sharp64_stalled).same_out

-- ---- what does not help

-- frames of at least 10 bytes: 0..10 comes late; 10..20 is reported lost and sent again with room for one byte more, 63 times over
abbrev growing : ℕ → ℕ → ℕ → List Move
growing zero k r = []
growing (suc n) k r = lose k ∷ emit (replicate r 0) ∷ deliver (suc k) ∷ growing n (suc k) (suc r)

abbrev long : System
long = run (fresh (ends 83 83 83)) (write (replicate 83 7) false ∷ emissions 2 10 ++ deliver 1 ∷ growing 63 1 11)

-- the shortest frame
abbrev least : ℕ → List Frame → Bool
least n [] = true
least n (f ∷ fs) = leb n (length f.bytes) && least n fs

long_frames_stall : (least 10 long.snd.frames ≡ true)
    × (length (receiver long.rcv).chunks ≡ 64)
    × (slice_get long.snd.frames 0 ≡ Some (sevens 0 10))
    × (on_delivery long.rcv (sevens 0 10) ≡ Err TableFull)
    × (on_read long.rcv (0 ∷ []) ≡ Err NothingReady)
unfolding fresh writes emits loses takes reads send.created send.written send.write_judged send.wrote send.written_arena send.emitted send.emitted_out send.sent send.retransmits send.loss_judged send.lost send_buf_of kept held recv.created recv.written recv.write_judged recv.wrote recv.written_arena recv.emitted recv.emitted_out recv.discarded recv.take_judged recv.took_out buf_of
long_frames_stall = (refl, refl, refl, refl, refl)

-- short writes among long frames, each sent with room for 100
abbrev chatty : ℕ → List Move
chatty zero = []
chatty (suc n) = write (7 ∷ []) false ∷ emit (replicate 100 0) ∷ chatty n

abbrev short : System
short = run (fresh (ends 389 389 389)) (write (replicate 360 7) false ∷ emissions 36 10 ++ chatty 29 ++ deliveries 64 1)

short_writes_stall : (length (receiver short.rcv).chunks ≡ 64)
    × (slice_get short.snd.frames 0 ≡ Some (sevens 0 10))
    × (on_delivery short.rcv (sevens 0 10) ≡ Err TableFull)
    × (on_read short.rcv (0 ∷ []) ≡ Err NothingReady)
unfolding fresh writes emits loses takes reads send.created send.written send.write_judged send.wrote send.written_arena send.emitted send.emitted_out send.sent send.retransmits send.loss_judged send.lost send_buf_of kept held recv.created recv.written recv.write_judged recv.wrote recv.written_arena recv.emitted recv.emitted_out recv.discarded recv.take_judged recv.took_out buf_of
short_writes_stall = (refl, refl, refl, refl)

-- ---- the rule can be kept, with writes of any length: each emit waits for a whole frame of two, or the end. The first frame is lost and sent again

abbrev held_back : System
held_back =
    run (fresh (ends 8 8 8))
    (write (1 ∷ []) false ∷ write (2 ∷ 3 ∷ []) false ∷ emit (0 ∷ 0 ∷ []) ∷ write (4 ∷ 5 ∷ []) true ∷ emissions 2 2
    ++ deliver 1 ∷ deliver 2 ∷ lose 0 ∷ emit (0 ∷ 0 ∷ []) ∷ deliver 3 ∷ read (replicate 9 0) ∷ [])

held_back_ends : All (Ended (OnGrid 2 5) 5) held_back.snd.frames × (held_back.rcv.out ≡ 1 ∷ 2 ∷ 3 ∷ 4 ∷ 5 ∷ [])
unfolding fresh writes emits loses takes reads send.created send.written send.write_judged send.wrote send.written_arena send.emitted send.emitted_out send.sent send.retransmits send.loss_judged send.lost send_buf_of kept held recv.created recv.written recv.write_judged recv.wrote recv.written_arena recv.emitted recv.emitted_out recv.discarded recv.take_judged recv.took_out buf_of
held_back_ends = (ends_well_lem 2 5 held_back.snd.frames refl, refl)
