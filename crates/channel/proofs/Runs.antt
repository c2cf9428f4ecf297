-- Demand 3 is not empty: twelve computed schedules meet its premises (`streams_lawful`), finish, and are whole (`streams_end`), and
-- `completeness` applies to one that waits to be read (`byte_by_byte`). Assumes nothing.
use Rattle.std.specs.Prelude.{Option, None, Some, Result, Ok, Err}
use mathlib.Core.Path.{◌≡◌, refl, sym, ap, ◌∙◌}
use mathlib.Core.Logic.{inl, inr}
use mathlib.Core.Bool.{Bool, true, false, ◌&&◌, ◌||◌}
use mathlib.Core.List.{List, [], ◌∷◌, ◌++◌}
use Prim.Native.Nat.{ℕ, zero, suc, ◌≤◌, ◌<◌}
use native.Mathlib.Omega.{arith}
use lib.Dec.{ltb, leb}
use lib.ListN.{length, take, drop, replicate, length-replicate}
use borrow.Author.Tests.{leb-true, ltb-true}
use Rattle.refusal.specs.Rules.{M}
use Rattle.refusal.specs.declared.Refusal.{Refusal}
use Rattle.refusal.specs.declared.Refusal.TheVariants.{Done as NothingReady}
use Rattle.arena.specs.Rules.{kept, held}
use Rattle.tables.proofs.Tables.{cases}
use Rattle.send_buf.specs.State.{buf_of as send_buf_of}
use Rattle.send_buf.specs.Rules as send
use Rattle.recv_buf.specs.State.{buf_of as recv_buf_of}
use Rattle.recv_buf.specs.Rules as recv
use Rattle.recv_buf.specs.Rfc9000.{Frame, end_of, Brings}
use Rattle.channel.specs.System.{System, sender, receiver, Setup, fresh, Premises, Move, write, emit, deliver, read, commit, tune, raise, block, ack, ack_drop, lose, writes, emits, raises, blocks, acks, ack_drops, loses, takes, reads, commits, tunes, run}
use Rattle.channel.specs.Demand3.{on_read, OneOf, Finished, Whole, drain, SomeRoom, to_drain}
use Rattle.channel.proofs.Lists.{All}
use Rattle.channel.proofs.Demand3.{completeness}
use Rattle.tables.proofs.Tests.{either, clash, and_true, or-true}
use Rattle.refusal.specs.Rules as words
use Rattle.refusal.proofs.Answers.{known_is}

-- ---- what is computed: a test for `Finished`, and what is seen at the end

abbrev brings : List Frame → ℕ → Bool
brings [] o = false
brings (f ∷ fs) o = leb f.from o && ltb o (end_of f) || brings fs o

abbrev brings_all : List Frame → ℕ → Bool
brings_all fs zero = true
brings_all fs (suc n) = brings fs n && brings_all fs n

abbrev ends : List Frame → Bool
ends [] = false
ends (f ∷ fs) = f.fin || ends fs

abbrev pub is_finished : System → Bool
is_finished y = words.known (sender y.snd).fin && (brings_all y.rcv.accepted (length y.snd.written) && ends y.rcv.accepted)

brings_one : (fs : List Frame) (o : ℕ) → brings fs o ≡ true → OneOf (λ f. Brings f o) fs
brings_one [] o e = clash (sym e)
brings_one (f ∷ fs) o e =
    either (or-true (leb f.from o && ltb o (end_of f)) (brings fs o) e)
    (λ h. let p = and_true (leb f.from o) (ltb o (end_of f)) h in inl (leb-true f.from o p.0, ltb-true o (end_of f) p.1))
    (λ h. inr (brings_one fs o h))

brings_all_lem : (fs : List Frame) (n : ℕ) → brings_all fs n ≡ true → (o : ℕ) → o < n → OneOf (λ f. Brings f o) fs
brings_all_lem fs zero e o h = absurd (omega arith)
brings_all_lem fs (suc n) e o h =
    let p = and_true (brings fs n) (brings_all fs n) e in
    cases o n (λ lt. brings_all_lem fs n p.1 o lt)
    (λ le. let z : n ≡ o = omega arith in brings_one fs o (ap (brings fs) (sym z) ∙ p.0))

ends_one : (fs : List Frame) → ends fs ≡ true → OneOf (λ f. f.fin ≡ true) fs
ends_one [] e = clash (sym e)
ends_one (f ∷ fs) e = either (or-true f.fin (ends fs) e) (λ h. inl h) (λ h. inr (ends_one fs h))

-- the test is right
pub finished : (y : System) → is_finished y ≡ true → Finished y
finished y e =
    let p = and_true (words.known (sender y.snd).fin) _ e in
    let q = and_true (brings_all y.rcv.accepted (length y.snd.written)) (ends y.rcv.accepted) p.1 in
    let k = known_is (sender y.snd).fin p.0 in
    record { size = k.0; ended = k.1; bytes = brings_all_lem y.rcv.accepted (length y.snd.written) q.0; mark = ends_one y.rcv.accepted q.1 }

pub record Seen : Type 0 where
  finished : Bool
  written : List ℕ
  out : List ℕ
  sent_size : Option ℕ
  got_size : Option ℕ
  next : Result (ℕ × Bool) Refusal  -- what a read with room for a byte answers

abbrev pub seen : System → Seen
seen y = record {
  finished = is_finished y;
  written = y.snd.written;
  out = y.rcv.out;
  sent_size = (sender y.snd).fin;
  got_size = (receiver y.rcv).fin;
  next = on_read y.rcv (0 ∷ []);
}

-- all is there
abbrev whole : List ℕ → Seen
whole bytes = record { finished = true; written = bytes; out = bytes; sent_size = Some (length bytes); got_size = Some (length bytes); next = Err NothingReady }

-- ---- buffers for arenas of A and B bytes full of rubbish; outputs with room for n bytes

abbrev pub setup : ℕ → ℕ → ℕ → ℕ → ℕ → Setup
setup limit A limit' maximum B =
    record { send_limit = limit; send_room = A; send_arena = replicate A 255; recv_limit = limit'; max_window = maximum; recv_room = B; recv_arena = replicate B 255 }

premises : (limit A limit' maximum B : ℕ) → 0 < A → A ≤ 65536 → limit ≤ limit' → limit' ≤ maximum → maximum ≤ M → 0 < B → B ≤ 65536 → Premises (setup limit A limit' maximum B)
premises limit A limit' maximum B a a' l m m' b b' = record {
  send_room_some = a;
  send_room_in = a';
  send_arena_is = length-replicate A 255;
  recv_room_some = b;
  recv_room_in = b';
  recv_arena_is = length-replicate B 255;
  starting = l;
  in_window = m;
  window_in = m';
}

abbrev pub room : ℕ → List ℕ
room n = replicate n 0

-- ten bytes
abbrev abc : List ℕ
abc = 97 ∷ 98 ∷ 99 ∷ 100 ∷ 101 ∷ 102 ∷ 103 ∷ 104 ∷ 105 ∷ 106 ∷ []

-- ---- streams that end

pub record Stream : Type 0 where
  setup : Setup
  moves : List Move
  bytes : List ℕ  -- all that was written

abbrev plain : Setup
plain = setup 16 16 16 64 16

abbrev one_frame : Stream
one_frame = record { setup = plain; moves = write abc true ∷ emit (room 10) ∷ deliver 0 ∷ read (room 10) ∷ []; bytes = abc }

-- a stream of no bytes, under a limit of none
abbrev zero_length : Stream
zero_length = record { setup = setup 0 1 0 0 1; moves = write [] true ∷ emit [] ∷ deliver 0 ∷ read (room 1) ∷ []; bytes = [] }

-- closed by a write of no bytes, after all bytes were handed out, acked and dropped
abbrev closed_later : Stream
closed_later = record {
  setup = plain;
  moves = write abc false ∷ emit (room 10) ∷ deliver 0 ∷ read (room 10) ∷ ack_drop 0 ∷ write [] true ∷ emit (room 4) ∷ deliver 1 ∷ read (room 1) ∷ [];
  bytes = abc;
}

-- the limit cuts a marked write short and drops its mark; then a write of no bytes closes the stream
abbrev cut_short : Stream
cut_short = record { setup = setup 4 16 4 64 16; moves = write abc true ∷ write [] true ∷ emit (room 9) ∷ deliver 0 ∷ read (room 9) ∷ []; bytes = take 4 abc }

-- the end mark is lost and sent again: in a frame of its own, and with the last bytes
abbrev mark_lost : Stream
mark_lost = record {
  setup = plain;
  moves = write abc false ∷ emit (room 10) ∷ write [] true ∷ emit (room 10) ∷ lose 1 ∷ emit (room 10) ∷ deliver 0 ∷ deliver 2 ∷ read (room 10) ∷ [];
  bytes = abc;
}

abbrev last_bytes_lost : Stream
last_bytes_lost = record {
  setup = plain;
  moves = write abc true ∷ emit (room 6) ∷ emit (room 6) ∷ deliver 0 ∷ lose 1 ∷ emit (room 6) ∷ deliver 2 ∷ read (room 10) ∷ [];
  bytes = abc;
}

-- the end mark comes with bytes that were handed out before: it leaves nothing to read, and the reader finds the final size by asking for it
abbrev late_mark : Stream
late_mark = record {
  setup = plain;
  moves = write abc false ∷ emit (room 10) ∷ deliver 0 ∷ read (room 10) ∷ write [] true ∷ lose 0 ∷ emit (room 10) ∷ deliver 1 ∷ [];
  bytes = abc;
}

-- everything comes backwards; every frame comes twice, and once more after it was read
abbrev backwards : Stream
backwards = record {
  setup = plain;
  moves = write abc true ∷ emit (room 4) ∷ emit (room 4) ∷ emit (room 4) ∷ deliver 2 ∷ deliver 1 ∷ deliver 0 ∷ read (room 3) ∷ read (room 9) ∷ [];
  bytes = abc;
}

abbrev twice : Stream
twice = record {
  setup = plain;
  moves = write abc true ∷ emit (room 4) ∷ emit (room 4) ∷ emit (room 4) ∷ deliver 0 ∷ deliver 0 ∷ read (room 3) ∷ deliver 0 ∷ deliver 1 ∷ deliver 1 ∷ read (room 9) ∷ deliver 1
      ∷ deliver 2 ∷ deliver 2 ∷ read (room 9) ∷ deliver 2 ∷ [];
  bytes = abc;
}

-- ten bytes over arenas of 8 and a limit of 8: frames lost, sent again in other cuts, out of order and twice; dropped, the window tuned and
-- committed, the limit raised, so that the places of the first bytes hold the last
abbrev journey : Stream
journey = record {
  setup = setup 8 8 8 64 8;
  moves = write abc true ∷ emit (room 3) ∷ emit (room 3) ∷ emit (room 9) ∷ deliver 2 ∷ deliver 2 ∷ deliver 0 ∷ read (room 2) ∷ read (room 9) ∷ commit 5 ∷ tune 6 10 ∷ commit 7 ∷ raise 2
      ∷ ack_drop 2 ∷ lose 1 ∷ emit (room 2) ∷ emit (room 9) ∷ deliver 4 ∷ deliver 3 ∷ ack 3 ∷ ack_drop 4 ∷ ack_drop 0 ∷ read (room 9) ∷ write (105 ∷ 106 ∷ []) true
      ∷ emit (room 1) ∷ emit (room 9) ∷ deliver 6 ∷ deliver 5 ∷ read (room 1) ∷ read (room 1) ∷ [];
  bytes = abc;
}

-- ten bytes under a limit of 4. Twice the limit stops the writer, who records it; the receiver reads and commits, the sender's limit is raised,
-- the record is taken back, and the writer goes on
abbrev stopped : List Move
stopped = write abc true ∷ block (Some 4) ∷ []

abbrev blocked : Stream
blocked = record {
  setup = setup 4 16 4 64 16;
  moves = stopped
      ++ emit (room 9) ∷ deliver 0 ∷ read (room 9) ∷ commit 5 ∷ raise 1 ∷ block None ∷ write (drop 4 abc) true ∷ block (Some 8) ∷ emit (room 9) ∷ deliver 1
      ∷ read (room 9) ∷ commit 6 ∷ raise 2 ∷ block None ∷ write (drop 8 abc) true ∷ emit (room 9) ∷ deliver 2 ∷ read (room 9) ∷ [];
  bytes = abc;
}

-- 65 bytes written one by one: the last joins the sender's chunks. Then a frame is lost, and an ack covers a joined chunk only in part
abbrev singles : ℕ → List Move
singles zero = []
singles (suc n) = write (7 ∷ []) false ∷ singles n

abbrev crowd : List Move
crowd = singles 64 ++ emit (room 30) ∷ emit (room 70) ∷ write (7 ∷ []) true ∷ []

abbrev crowded : Stream
crowded = record {
  setup = setup 80 80 80 80 80;
  moves = crowd ++ lose 0 ∷ deliver 1 ∷ ack_drop 1 ∷ emit (room 70) ∷ deliver 2 ∷ ack_drop 2 ∷ emit (room 9) ∷ deliver 3 ∷ read (room 70) ∷ [];
  bytes = replicate 65 7;
}

abbrev streams : List Stream
streams = one_frame ∷ zero_length ∷ closed_later ∷ cut_short ∷ mark_lost ∷ last_bytes_lost ∷ late_mark ∷ backwards ∷ twice ∷ journey ∷ blocked ∷ crowded ∷ []

-- their setups meet the premises
pub streams_lawful : All (λ s. Premises s.setup) streams
streams_lawful = (usual, (none, (usual, (few, (usual, (usual, (usual, (usual, (usual, (small, (few, (wide, tt))))))))))))
  where
    usual : Premises plain
    usual = premises 16 16 16 64 16 (omega arith) (omega arith) (omega arith) (omega arith) (omega arith) (omega arith) (omega arith)

    none : Premises (setup 0 1 0 0 1)
    none = premises 0 1 0 0 1 (omega arith) (omega arith) (omega arith) (omega arith) (omega arith) (omega arith) (omega arith)

    few : Premises (setup 4 16 4 64 16)
    few = premises 4 16 4 64 16 (omega arith) (omega arith) (omega arith) (omega arith) (omega arith) (omega arith) (omega arith)

    wide : Premises (setup 80 80 80 80 80)
    wide = premises 80 80 80 80 80 (omega arith) (omega arith) (omega arith) (omega arith) (omega arith) (omega arith) (omega arith)

    small : Premises (setup 8 8 8 64 8)
    small = premises 8 8 8 64 8 (omega arith) (omega arith) (omega arith) (omega arith) (omega arith) (omega arith) (omega arith)

-- and each of them finishes, and is whole
abbrev seen_all : List Stream → List Seen
seen_all [] = []
seen_all (s ∷ ss) = seen (run (fresh s.setup) s.moves) ∷ seen_all ss

abbrev whole_all : List Stream → List Seen
whole_all [] = []
whole_all (s ∷ ss) = whole s.bytes ∷ whole_all ss

pub streams_end : seen_all streams ≡ whole_all streams
unfolding fresh writes emits raises blocks acks ack_drops loses takes reads commits tunes send_buf_of recv_buf_of kept held send.created send.write_judged send.wrote send.written send.written_arena send.sent send.emitted send.emitted_out send.ack_judged send.acked_more send.acks send.ack_drops send.loss_judged send.lost send.retransmits send.raised send.blocked_with recv.created recv.write_judged recv.wrote recv.written recv.written_arena recv.take_judged recv.took_out recv.discarded recv.emitted recv.emitted_out recv.commits recv.autotunes
streams_end = refl

-- the blocked stream, when it is first stopped: four bytes were accepted, the limit leaves none, and the offset is recorded
pub blocked_is : let x = (run (fresh blocked.setup) stopped).snd in (x.written ≡ take 4 abc) × (send.cap (sender x) ≡ Ok 0) × ((sender x).blocked ≡ Some 4)
unfolding fresh writes blocks send_buf_of kept send.created send.write_judged send.wrote send.written send.blocked_with
blocked_is = (refl, refl, refl)

-- the crowded stream, when its chunks are joined: one is left, of which all but the last byte was sent
pub crowded_is : (sender (run (fresh crowded.setup) crowd).snd).chunks ≡ record { off = 0; len = 65; pos = 64 } ∷ []
unfolding fresh writes emits send_buf_of recv_buf_of kept held send.created send.write_judged send.wrote send.written send.written_arena send.sent send.emitted send.emitted_out recv.created
crowded_is = refl

-- ---- the theorem used: three frames that came backwards, and as many reads of one byte each as there are bytes and chunks kept

abbrev waiting : List Move
waiting = write abc true ∷ emit (room 4) ∷ emit (room 4) ∷ emit (room 4) ∷ deliver 2 ∷ deliver 1 ∷ deliver 0 ∷ []

pub waiting_is : (is_finished (run (fresh plain) waiting) ≡ true) × (to_drain (run (fresh plain) waiting) ≡ 13)
unfolding fresh writes emits raises acks ack_drops loses takes reads commits tunes send_buf_of recv_buf_of kept held send.created send.write_judged send.wrote send.written send.written_arena send.sent send.emitted send.emitted_out send.ack_judged send.acked_more send.acks send.ack_drops send.loss_judged send.lost send.retransmits send.raised recv.created recv.write_judged recv.wrote recv.written recv.written_arena recv.take_judged recv.took_out recv.discarded recv.emitted recv.emitted_out recv.commits recv.autotunes
waiting_is = (refl, refl)

pub byte_by_byte : Whole (run (run (fresh plain) waiting) (drain (replicate 13 (room 1))))
byte_by_byte =
    (completeness plain streams_lawful.0 waiting (finished (run (fresh plain) waiting) waiting_is.0) (replicate 13 (room 1)) (some_room 13) (omega (arith, waiting_is.1))).0
  where
    some_room : (n : ℕ) → SomeRoom (replicate n (room 1))
    some_room zero = tt
    some_room (suc n) = (omega arith, some_room n)
