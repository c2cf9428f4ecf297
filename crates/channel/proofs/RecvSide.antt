-- The receiver's end keeps to the stream W of the bytes accepted for writing, and to the sender's final size sf, whatever honest frame comes and
-- whatever else is called. Assumes nothing.
use Rattle.std.specs.Prelude.{Option, None, Some, Result, Ok, Err, ⊤}
use mathlib.Core.Path.{◌≡◌, refl, sym, ap, subst, ◌∙◌}
use mathlib.Core.Logic.{◌⊎◌, inl, inr}
use mathlib.Core.Bool.{Bool, true, false, cond, not, ◌&&◌, false≢true}
use mathlib.Core.List.{List, [], ◌∷◌, ◌++◌, append-nil}
use Prim.Native.Nat.{ℕ, ◌+◌, ◌≤◌, ◌<◌}
use native.Mathlib.Omega.{arith}
use lib.Dec.{ltb, eqb}
use lib.ListN.{length, get_or, take, drop, length-append, get_or-append}
use lib.Seq.{take-append-le, take_at}
use borrow.Author.Tests.{ne_eqb, eq-eqb, le-ltb, not-true}
use Rattle.refusal.specs.Rules.{M}
use Rattle.refusal.specs.declared.Refusal.{Refusal}
use Rattle.refusal.specs.declared.Outcome.{Outcome}
use Rattle.refusal.specs.declared.Refusal.TheVariants.{Offset, NoRoom, TableFull, Done as NothingReady}
use Rattle.arena.specs.Rules.{byte_at, held}
use Rattle.arena.proofs.Laws.{length_held}
use Rattle.flowcontrol.specs.declared.FlowControl.{FlowControl}
use Rattle.flowcontrol.specs.State.{Good as GoodFlow}
use Rattle.flowcontrol.specs.Rules as flow
use Rattle.tables.proofs.Tables.{cases, by_test, cond_elim}
use Rattle.recv_buf.specs.declared.RecvBuf.{RecvBuf}
use Rattle.recv_buf.specs.State.{Recv, view_of, buf_of, Held, GoodRecv}
use Rattle.recv_buf.specs.Rules as recv
use Rattle.recv_buf.specs.Rfc9000.{Frame, Brings}
use Rattle.recv_buf.proofs.Good.{view_buf}
use Rattle.recv_buf.proofs.Lists as chunk
use Rattle.recv_buf.proofs.Bytes.{kept_length, kept_stays, kept_new_lem}
use Rattle.flowcontrol.proofs.Steady.{Steady, fresh_steady, consumed_steady, committed_steady, autotuned_steady}
use Rattle.flowcontrol.proofs.Kept.{committed_good, autotuned_good}
use Rattle.recv_buf.proofs.Frames.{after_held, wrote_elim, held_wrote}
use Rattle.recv_buf.proofs.Kept.{new_good, Accepted, accepted, fits_room, wrote_good, took_out_good, flow_good}
use Rattle.channel.specs.System.{RecvEnd, receiver, bytes_of, accepted_by, takes, reads, commits, tunes}
use Rattle.channel.specs.Demand3.{on_read}
use Rattle.channel.proofs.Stream.{agrees_at, agrees_held, take_agrees}
use Rattle.channel.proofs.Lists.{All, all_map, all_append}
use Rattle.channel.proofs.SendSide.{Honest}
use Rattle.tables.proofs.Tests.{either, clash, and_true, decided, undecided}
use Rattle.refusal.specs.Rules as words

-- ---- a receive buffer r with the arena ar that follows the stream W

pub record Follows (W : List ℕ) (sf : Option ℕ) (r : Recv) (ar : List ℕ) : Type 0 where
  pub good : GoodRecv r
  pub some_room : 0 < r.room
  pub size : length ar ≡ r.room
  -- the bytes kept are those of the stream
  pub agree : (o : ℕ) → Held r.chunks o → byte_at ar o ≡ get_or W o 0
  pub len_written : r.len ≤ length W
  pub reading : r.drain ≡ false
  pub unreset : r.error ≡ None
  -- the limit does not fall
  pub steady : Steady r.flow
  pub all_consumed : r.flow.consumed ≡ r.off
  pub fin_known : (f : ℕ) → r.fin ≡ Some f → sf ≡ Some f

-- offset o was handed out or is kept
abbrev pub Covers : Recv → ℕ → Type 0
Covers r o = (o < r.off) ⊎ Held r.chunks o

pub new_follows : (A limit maximum : ℕ) (ar : List ℕ) → 0 < A → A ≤ 65536 → length ar ≡ A → limit ≤ maximum → maximum ≤ M → Follows [] None (recv.new_recv A limit maximum) ar
new_follows A limit maximum ar a top e l m = record {
  good = new_good A limit maximum top (omega arith) m;
  some_room = a;
  size = e;
  agree = λ o h. absurd h;
  len_written = omega arith;
  reading = refl;
  unreset = refl;
  steady = fresh_steady limit maximum l;
  all_consumed = refl;
  fin_known = λ f d. d;
}

-- the stream grows
more_follows : (W X : List ℕ) (sf sf' : Option ℕ) (r : Recv) (ar : List ℕ) → ((x : ℕ) → sf ≡ Some x → sf' ≡ Some x) → Follows W sf r ar → Follows (W ++ X) sf' r ar
more_follows W X sf sf' r ar h g = record {
  good = g.good;
  some_room = g.some_room;
  size = g.size;
  agree = λ o k. g.agree o k ∙ sym (get_or-append W X 0 o (omega (arith, chunk.within_held r.len r.chunks o g.good.within k, g.len_written)));
  len_written = omega (arith, length-append W X, g.len_written);
  reading = g.reading;
  unreset = g.unreset;
  steady = g.steady;
  all_consumed = g.all_consumed;
  fin_known = λ f e. h f (g.fin_known f e);
}

arena_fits : (W : List ℕ) (sf : Option ℕ) (r : Recv) (ar : List ℕ) → Follows W sf r ar → recv.other_arena r (length ar) ≡ false
arena_fits W sf r ar g =
    let z : length ar ≡ 0 → ⊥ = λ e. omega (arith, g.size, g.some_room) in
    rw (ne_eqb (length ar) 0 z, eq-eqb (length ar) r.room g.size)

-- ---- an honest frame

fin_after : (sf f : Option ℕ) (e : ℕ) (m : Bool) → (m ≡ true → sf ≡ Some e) → ((x : ℕ) → f ≡ Some x → sf ≡ Some x) → (x : ℕ) → words.fin_with f e m ≡ Some x → sf ≡ Some x
fin_after sf f e true h k x d = h refl ∙ d
fin_after sf f e false h k x d = k x d

module _ (W : List ℕ) (sf : Option ℕ) (r : Recv) (ar : List ℕ) (f : Frame) (g : Follows W sf r ar) (h : Honest W sf f) where
  abbrev n : ℕ
  n = length f.bytes

  abbrev now : List ℕ
  now = recv.kept_new r ar f.from f.bytes

  -- what it leaves alone: the window, how far was handed out, and the arena's length
  pub wrote_same : let y = recv.wrote r f.from n f.fin in (y.flow ≡ r.flow) × (y.off ≡ r.off) × (y.room ≡ r.room)
  wrote_same =
      wrote_elim r f.from n f.fin (λ (x : Recv). (x.flow ≡ r.flow) × (x.off ≡ r.off) × (x.room ≡ r.room)) g.reading
      (λ _. (refl, refl, refl)) (refl, refl, refl)

  pub covers_stay : (o : ℕ) → Covers r o → Covers (recv.wrote r f.from n f.fin) o
  covers_stay o c = either c (λ x. inl (omega (arith, wrote_same.1))) (λ x. inr (held_wrote r f.from n f.fin g.reading o (inl x)))

  pub covers_new : (o : ℕ) → Brings f o → Covers (recv.wrote r f.from n f.fin) o
  covers_new o b = cases o r.off (λ lt. inl (omega (arith, wrote_same.1))) (λ le. inr (held_wrote r f.from n f.fin g.reading o (inr (le, b.0, b.1))))

  pub known_after : (words.known r.fin ≡ true) ⊎ (f.fin ≡ true) → words.known (recv.wrote r f.from n f.fin).fin ≡ true
  known_after k =
      wrote_elim r f.from n f.fin (λ (x : Recv). words.known x.fin ≡ true) g.reading
      (λ e. either k (λ x. x) (λ x. clash (sym x ∙ not-true f.fin (and_true (eqb n 0) (not f.fin) e).1)))
      (go f.fin k)
    where
      go : (b : Bool) → (words.known r.fin ≡ true) ⊎ (b ≡ true) → words.known (words.fin_with r.fin (f.from + n) b) ≡ true
      go true k = refl
      go false (inl k) = k
      go false (inr k) = absurd (false≢true k)

  module _ (said : recv.write_judged r (length ar) f.from n f.fin ≡ Ok tt) where
    ok : Accepted r (length ar) f.from n f.fin
    ok = accepted r (length ar) f.from n f.fin said

    fits : 0 < n → f.from + n ≤ r.off + length ar
    fits k = omega (arith, fits_room r f.from n g.reading ok.room k, ok.size)

    stays : (o : ℕ) → Held r.chunks o → byte_at now o ≡ get_or W o 0
    stays o k =
        kept_stays r ar f.from f.bytes o fits (chunk.chain_held r.off r.chunks o g.good.chain k) (omega (arith, g.good.near o k, g.size)) (λ z _ _. z.1 k)
        ∙ g.agree o k

    -- so all that is kept is the stream's
    kept_agree : (o : ℕ) → Held (recv.chunks_after r f.from n f.fin) o → byte_at now o ≡ get_or W o 0
    kept_agree o k =
        by_test (recv.holds r.chunks o) (λ e. stays o (chunk.holds_held r.chunks o e))
        (λ e. either (after_held r f.from n f.fin o k) (λ x. stays o x)
        (λ p. kept_new_lem r ar f.from f.bytes o ok.some_room (fits (omega arith)) (p.0, chunk.holds_not r.chunks o e) p.1 p.2
        ∙ agrees_at W f.from f.bytes o h.agrees p.1 p.2))

    pub wrote_follows : Follows W sf (recv.wrote r f.from n f.fin) now
    wrote_follows =
        wrote_elim r f.from n f.fin (λ (x : Recv). GoodRecv x → Follows W sf x now) g.reading
        (λ _ w. record {
          good = w;
          some_room = g.some_room;
          size = kept_length r ar f.from f.bytes ∙ g.size;
          agree = stays;
          len_written = g.len_written;
          reading = g.reading;
          unreset = g.unreset;
          steady = g.steady;
          all_consumed = g.all_consumed;
          fin_known = g.fin_known;
        })
        (λ w. record {
          good = w;
          some_room = g.some_room;
          size = kept_length r ar f.from f.bytes ∙ g.size;
          agree = kept_agree;
          len_written = omega (arith, g.len_written, h.inside);
          reading = g.reading;
          unreset = g.unreset;
          steady = g.steady;
          all_consumed = g.all_consumed;
          fin_known = fin_after sf r.fin (f.from + n) f.fin h.marked g.fin_known;
        }) (wrote_good r f.from n f.fin g.good (length ar) said)

  -- within the limit, it is refused only for want of room or of a table entry
  module _ (final : (x : ℕ) → sf ≡ Some x → x ≡ length W) where
    fits_final : recv.passes_final r.fin r.len (f.from + n) f.fin ≡ false
    fits_final = go r.fin g.fin_known f.fin h.marked
      where
        go : (x : Option ℕ) → ((y : ℕ) → x ≡ Some y → sf ≡ Some y) → (b : Bool) → (b ≡ true → sf ≡ Some (f.from + n)) → recv.passes_final x r.len (f.from + n) b ≡ false
        go None k false d = refl
        go None k true d = le-ltb (f.from + n) r.len (omega (arith, final (f.from + n) (d refl), g.len_written))
        go (Some y) k false d = rw (le-ltb y (f.from + n) (omega (arith, final y (k y refl), h.inside)))
        go (Some y) k true d =
            let p = final y (k y refl) in
            let q = final (f.from + n) (d refl) in
            rw (le-ltb y (f.from + n) (omega arith), eq-eqb (f.from + n) y (omega arith), le-ltb (f.from + n) r.len (omega (arith, g.len_written)))

    pub judged : f.from + n ≤ r.flow.max_data → f.from + n ≤ M
        → recv.write_judged r (length ar) f.from n f.fin ≡ cond (recv.no_room r f.from n) (Err NoRoom) (cond (recv.no_entry r f.from n f.fin) (Err TableFull) (Ok tt))
    unfolding recv.write_judged
    judged lim top =
        undecided (arena_fits W sf r ar g) _ _
        ∙ undecided (le-ltb M (f.from + n) top) _ _
        ∙ undecided (le-ltb r.flow.max_data (f.from + n) lim) _ _
        ∙ undecided fits_final _ _

-- ---- a read

module _ (W : List ℕ) (sf : Option ℕ) (r : Recv) (ar : List ℕ) (g : Follows W sf r ar) (n : ℕ) where
  abbrev count : ℕ
  count = recv.takes r n

  in_len : r.off + count ≤ r.len
  in_len = chunk.taken_within r.chunks r.len r.off n g.good.chain g.good.within g.good.off_len

  -- ready, it is accepted: what is consumed is `off`, and that never passes M
  judged_ready : recv.is_ready r.chunks r.off ≡ true → recv.take_judged r n ≡ Ok tt
  unfolding recv.take_judged
  judged_ready e =
      undecided (ap not e) _ _
      ∙ ap (λ (x : Option ℕ). recv.unless_reset x (cond (ltb M (r.flow.consumed + count)) (Err Offset) (Ok tt))) g.unreset
      ∙ undecided (le-ltb M (r.flow.consumed + count) (omega (arith, g.all_consumed, in_len, g.good.len_in))) _ _

  judged_idle : recv.is_ready r.chunks r.off ≡ false → recv.take_judged r n ≡ Err NothingReady
  unfolding recv.take_judged
  judged_idle e = decided (ap not e) _ _

  took_follows : recv.is_ready r.chunks r.off ≡ true → Follows W sf (recv.took_out r n) ar
  unfolding recv.took_out
  took_follows e = record {
    good = took_out_good r g.good n (judged_ready e);
    some_room = g.some_room;
    size = g.size;
    agree = λ o h. g.agree o (chunk.left_held r.chunks r.off n o h);
    len_written = g.len_written;
    reading = g.reading;
    unreset = g.unreset;
    steady = consumed_steady r.flow g.steady (r.flow.consumed + count) (omega arith);
    all_consumed = omega (arith, g.all_consumed);
    fin_known = g.fin_known;
  }

  pub took_covers : (o : ℕ) → Covers r o → Covers (recv.took_out r n) o
  unfolding recv.took_out
  took_covers o (inl h) = inl (omega arith)
  took_covers o (inr h) = chunk.held_left r.chunks r.off n o g.good.chain h

  -- the bytes handed out are the stream's next
  took_prefix : take r.off W ++ held ar r.off count ≡ take (recv.took_out r n).off W
  unfolding recv.took_out
  took_prefix =
      let bs : List ℕ = held ar r.off count in
      let l : length bs ≡ count = length_held ar r.off count in
      take_agrees W r.off bs (omega (arith, l, in_len, g.len_written))
      (agrees_held ar W r.off count (λ q a b. g.agree q (chunk.taken_held r.chunks r.off n q g.good.chain a b)))
      ∙ ap (λ (k : ℕ). take (r.off + k) W) l

-- all is covered and nothing is ready: all was handed out
pub done_all : (W : List ℕ) (sf : Option ℕ) (r : Recv) (ar : List ℕ) → Follows W sf r ar → ((o : ℕ) → o < length W → Covers r o) → recv.is_ready r.chunks r.off ≡ false → r.off ≡ length W
done_all W sf r ar g c e =
    cases r.off (length W)
    (λ h. either (c r.off h) (λ x. absurd (omega arith)) (λ x. clash (sym (chunk.held_ready r.chunks r.off g.good.chain x) ∙ e)))
    (λ h. omega (arith, g.good.off_len, g.len_written))

-- ---- the window

flow_follows : (W : List ℕ) (sf : Option ℕ) (r : Recv) (ar : List ℕ) (w : FlowControl) → GoodFlow w → Steady w → w.consumed ≡ r.flow.consumed
    → Follows W sf r ar → Follows W sf (recv.with_flow r w) ar
flow_follows W sf r ar w h s c g = record {
  good = flow_good r g.good w h;
  some_room = g.some_room;
  size = g.size;
  agree = g.agree;
  len_written = g.len_written;
  reading = g.reading;
  unreset = g.unreset;
  steady = s;
  all_consumed = c ∙ g.all_consumed;
  fin_known = g.fin_known;
}

-- ---- the receiver's end: its buffer r, its arena, the bytes handed out, the frames accepted and the limits granted

pub record Has (W : List ℕ) (sf : Option ℕ) (r : Recv) (ar out : List ℕ) (fs : List Frame) (vs : List ℕ) : Type 0 where
  pub follows : Follows W sf r ar
  pub prefix : out ≡ take r.off W
  pub grants : All (λ (v : ℕ). v ≤ r.flow.max_data) vs
  -- an accepted frame's bytes were handed out or are kept, and its mark has made the final size known
  pub covered : All (λ (f : Frame). (o : ℕ) → Brings f o → Covers r o) fs
  pub marks : All (λ (f : Frame). f.fin ≡ true → words.known r.fin ≡ true) fs

abbrev pub RecvInv : List ℕ → Option ℕ → RecvEnd → Type 0
RecvInv W sf x = Has W sf (receiver x) x.arena x.out x.accepted x.granted

-- and its limit has not fallen below v
abbrev Gets : ℕ → List ℕ → Option ℕ → Recv → List ℕ → List ℕ → List Frame → List ℕ → Type 0
Gets v W sf r ar out fs vs = Has W sf r ar out fs vs × (v ≤ r.flow.max_data)

abbrev pub RecvStep : List ℕ → Option ℕ → RecvEnd → RecvEnd → Type 0
RecvStep W sf x z = Gets (receiver x).flow.max_data W sf (receiver z) z.arena z.out z.accepted z.granted

of_buf : (v : ℕ) (W : List ℕ) (sf : Option ℕ) (r : Recv) (ar out : List ℕ) (fs : List Frame) (vs : List ℕ) → Gets v W sf r ar out fs vs → Gets v W sf (view_of (buf_of r)) ar out fs vs
of_buf v W sf r ar out fs vs = subst (λ (y : Recv). Gets v W sf y ar out fs vs) (sym (view_buf r))

pub more_inv : (W X : List ℕ) (sf sf' : Option ℕ) (x : RecvEnd) → ((f : ℕ) → sf ≡ Some f → sf' ≡ Some f) → RecvInv W sf x → RecvInv (W ++ X) sf' x
more_inv W X sf sf' x h i = record {
  follows = more_follows W X sf sf' (receiver x) x.arena h i.follows;
  prefix = i.prefix ∙ sym (take-append-le (receiver x).off W X (omega (arith, i.follows.good.off_len, i.follows.len_written)));
  grants = i.grants;
  covered = i.covered;
  marks = i.marks;
}

module _ (W : List ℕ) (sf : Option ℕ) (x : RecvEnd) (i : RecvInv W sf x) where
  abbrev r : Recv
  r = receiver x

  same : Gets r.flow.max_data W sf (view_of (buf_of r)) x.arena x.out x.accepted x.granted
  same = of_buf r.flow.max_data W sf r x.arena x.out x.accepted x.granted (i, omega arith)

  pub takes_step : (f : Frame) → Honest W sf f → RecvStep W sf x (takes x f)
  unfolding takes recv.written recv.written_arena
  takes_step f h = go (recv.write_judged r (length x.arena) f.from n f.fin) refl
    where
      n : ℕ
      n = length f.bytes

      t : Recv
      t = recv.wrote r f.from n f.fin

      now : List ℕ
      now = recv.kept_new r x.arena f.from f.bytes

      lim : t.flow.max_data ≡ r.flow.max_data
      lim = ap (λ (w : FlowControl). w.max_data) (wrote_same W sf r x.arena f i.follows h).0

      after_ok : recv.write_judged r (length x.arena) f.from n f.fin ≡ Ok tt → Gets r.flow.max_data W sf t now x.out (x.accepted ++ f ∷ []) x.granted
      after_ok e = (
        record {
          follows = wrote_follows W sf r x.arena f i.follows h e;
          prefix = i.prefix ∙ ap (λ (o : ℕ). take o W) (sym (wrote_same W sf r x.arena f i.follows h).1);
          grants = all_map (λ (y : ℕ). y ≤ r.flow.max_data) (λ (y : ℕ). y ≤ t.flow.max_data) x.granted (λ y k. omega (arith, lim)) i.grants;
          covered = all_append _ x.accepted (f ∷ [])
              (all_map _ _ x.accepted (λ y k o b. covers_stay W sf r x.arena f i.follows h o (k o b)) i.covered)
              (λ o b. covers_new W sf r x.arena f i.follows h o b, tt);
          marks = all_append _ x.accepted (f ∷ [])
              (all_map _ _ x.accepted (λ y k m. known_after W sf r x.arena f i.follows h (inl (k m))) i.marks)
              (λ m. known_after W sf r x.arena f i.follows h (inr m), tt);
        },
        omega (arith, lim),
      )

      go : (said : Result ⊤ Refusal) → recv.write_judged r (length x.arena) f.from n f.fin ≡ said
          → Gets r.flow.max_data W sf (view_of (buf_of (words.after said t r))) (words.after said (cond r.drain x.arena now) x.arena) x.out (x.accepted ++ accepted_by said f) x.granted
      go (Ok done) e =
          subst (λ (d : Bool). Gets r.flow.max_data W sf (view_of (buf_of t)) (cond d x.arena now) x.out (x.accepted ++ f ∷ []) x.granted) (sym i.follows.reading)
          (of_buf r.flow.max_data W sf t now x.out (x.accepted ++ f ∷ []) x.granted (after_ok e))
      go (Err why) e = subst (λ (fs : List Frame). Gets r.flow.max_data W sf (view_of (buf_of r)) x.arena x.out fs x.granted) (sym (append-nil x.accepted)) same

  -- a read of a ready buffer, and of one that is not
  abbrev to : RecvBuf → List ℕ → RecvEnd
  to b out = record x { buf = b; out = out }

  module _ (out : List ℕ) where
    abbrev k : ℕ
    k = recv.takes r (length out)

    abbrev outcome : Result ⊤ Refusal → Outcome (ℕ × Bool) RecvBuf
    outcome said = record { answer = words.with_bytes said k (words.is_at r.fin (r.off + k)); state = buf_of (words.after said (recv.took_out r (length out)) (recv.refused_take r)) }

    abbrev output : Result ⊤ Refusal → List ℕ
    output said = words.after said (held x.arena r.off k ++ drop k out) out

    emitted_is : (said : Result ⊤ Refusal) → recv.take_judged r (length out) ≡ said → recv.emitted r (length x.arena) (length out) ≡ outcome said
    unfolding recv.emitted recv.discarded
    emitted_is said e = undecided (arena_fits W sf r x.arena i.follows) _ _ ∙ ap outcome e

    emitted_out_is : (said : Result ⊤ Refusal) → recv.take_judged r (length out) ≡ said → recv.emitted_out r x.arena out ≡ output said
    unfolding recv.emitted_out
    emitted_out_is said e = undecided (arena_fits W sf r x.arena i.follows) _ _ ∙ ap output e

    reads_is : (said : Result ⊤ Refusal) → recv.take_judged r (length out) ≡ said → reads x out ≡ to (outcome said).state (x.out ++ take (bytes_of (outcome said).answer) (output said))
    unfolding reads
    reads_is said e =
        ap (λ (o : Outcome (ℕ × Bool) RecvBuf). to o.state (x.out ++ take (bytes_of o.answer) (recv.emitted_out r x.arena out))) (emitted_is said e)
        ∙ ap (λ (l : List ℕ). to (outcome said).state (x.out ++ take (bytes_of (outcome said).answer) l)) (emitted_out_is said e)

    pub reads_ready : recv.is_ready r.chunks r.off ≡ true → reads x out ≡ to (buf_of (recv.took_out r (length out))) (x.out ++ held x.arena r.off k)
    reads_ready e =
        reads_is (Ok tt) (judged_ready W sf r x.arena i.follows (length out) e)
        ∙ ap (λ (l : List ℕ). to (buf_of (recv.took_out r (length out))) (x.out ++ l)) (take_at (held x.arena r.off k) (drop k out) k (length_held x.arena r.off k))

    pub reads_idle : recv.is_ready r.chunks r.off ≡ false → reads x out ≡ to (buf_of r) x.out
    reads_idle e =
        reads_is (Err NothingReady) (judged_idle W sf r x.arena i.follows (length out) e)
        ∙ ap (λ (t : Bool). to (buf_of (cond (t && words.known r.error) (recv.with_chunks r []) r)) (x.out ++ [])) e
        ∙ ap (to (buf_of r)) (append-nil x.out)

    pub answer_ready : recv.is_ready r.chunks r.off ≡ true → on_read x out ≡ Ok (k, words.is_at r.fin (r.off + k))
    answer_ready e = ap (λ (o : Outcome (ℕ × Bool) RecvBuf). o.answer) (emitted_is (Ok tt) (judged_ready W sf r x.arena i.follows (length out) e))

    pub answer_idle : recv.is_ready r.chunks r.off ≡ false → on_read x out ≡ Err NothingReady
    answer_idle e = ap (λ (o : Outcome (ℕ × Bool) RecvBuf). o.answer) (emitted_is (Err NothingReady) (judged_idle W sf r x.arena i.follows (length out) e))

    -- what is covered stays covered, and a known final size stays known
    took : recv.is_ready r.chunks r.off ≡ true
        → Gets r.flow.max_data W sf (recv.took_out r (length out)) x.arena (x.out ++ held x.arena r.off k) x.accepted x.granted
    unfolding recv.took_out
    took e = (
      record {
        follows = took_follows W sf r x.arena i.follows (length out) e;
        prefix = ap (λ (l : List ℕ). l ++ held x.arena r.off k) i.prefix ∙ took_prefix W sf r x.arena i.follows (length out);
        grants = i.grants;
        covered = all_map _ _ x.accepted (λ y h o b. took_covers W sf r x.arena i.follows (length out) o (h o b)) i.covered;
        marks = i.marks;
      },
      omega arith,
    )

    pub reads_step : RecvStep W sf x (reads x out)
    reads_step =
        by_test (recv.is_ready r.chunks r.off)
        (λ e. subst (RecvStep W sf x) (sym (reads_ready e)) (of_buf r.flow.max_data W sf (recv.took_out r (length out)) x.arena (x.out ++ held x.arena r.off k) x.accepted x.granted (took e)))
        (λ e. subst (RecvStep W sf x) (sym (reads_idle e)) same)

  pub commits_step : (now : ℕ) → RecvStep W sf x (commits x now)
  unfolding commits recv.commits buf_of
  commits_step now =
      let w : FlowControl = flow.committed r.flow now in
      let up = i.follows.steady.at_most in
      of_buf r.flow.max_data W sf (recv.with_flow r w) x.arena x.out x.accepted (x.granted ++ flow.next r.flow ∷ []) (
        record {
          follows = flow_follows W sf r x.arena w (committed_good r.flow i.follows.good.flow_good now) (committed_steady r.flow i.follows.steady now) refl i.follows;
          prefix = i.prefix;
          grants = all_append (λ (y : ℕ). y ≤ flow.next r.flow) x.granted (flow.next r.flow ∷ [])
              (all_map (λ (y : ℕ). y ≤ r.flow.max_data) (λ (y : ℕ). y ≤ flow.next r.flow) x.granted (λ y h. omega arith) i.grants) (omega arith, tt);
          covered = i.covered;
          marks = i.marks;
        },
        up,
      )

  pub tunes_step : (now rtt : ℕ) → RecvStep W sf x (tunes x now rtt)
  unfolding tunes recv.autotunes
  tunes_step now rtt =
      let w : FlowControl = flow.autotuned r.flow now rtt in
      of_buf r.flow.max_data W sf (recv.with_flow r w) x.arena x.out x.accepted x.granted (
        record {
          follows = flow_follows W sf r x.arena w (autotuned_good r.flow i.follows.good.flow_good now rtt) (autotuned_steady r.flow i.follows.steady now rtt) tuned.0 i.follows;
          prefix = i.prefix;
          grants = all_map (λ (y : ℕ). y ≤ r.flow.max_data) (λ (y : ℕ). y ≤ w.max_data) x.granted (λ y h. omega (arith, tuned.1)) i.grants;
          covered = i.covered;
          marks = i.marks;
        },
        omega (arith, tuned.1),
      )
    where
      tuned : ((flow.autotuned r.flow now rtt).consumed ≡ r.flow.consumed) × ((flow.autotuned r.flow now rtt).max_data ≡ r.flow.max_data)
      tuned = cond_elim (λ (w : FlowControl). (w.consumed ≡ r.flow.consumed) × (w.max_data ≡ r.flow.max_data)) (flow.recent r.flow.last_update now rtt) (λ _. (refl, refl)) (λ _. (refl, refl))
