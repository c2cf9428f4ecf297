-- The sender's end keeps to the stream W of the bytes accepted for writing, whatever move is made. Assumes nothing.
use Rattle.std.specs.Prelude.{Option, None, Some, Result, Ok, Err, ⊤}
use mathlib.Core.Path.{◌≡◌, refl, sym, ap, subst, ◌∙◌}
use mathlib.Core.Bool.{Bool, true, false, cond, ◌&&◌}
use mathlib.Core.List.{List, [], ◌∷◌, ◌++◌, append-nil}
use Prim.Native.Nat.{ℕ, ◌+◌, ◌-◌, ◌≤◌, ◌<◌, max}
use native.Mathlib.Omega.{arith}
use lib.Dec.{ltb, eqb}
use lib.ListN.{length, get_or, take, length-append, length-take, get_or-append}
use borrow.Author.Tests.{ltb-false, eqb-true, ne_eqb, eq-eqb}
use Rattle.refusal.specs.Rules.{M, with_count}
use Rattle.refusal.specs.declared.Refusal.{Refusal}
use Rattle.refusal.specs.declared.Outcome.{Outcome}
use Rattle.refusal.specs.declared.Refusal.TheVariants.{BadSetup}
use Rattle.arena.specs.Rules.{byte_at, kept, held}
use Rattle.arena.proofs.Laws.{length_kept, length_held}
use Rattle.tables.proofs.Tables.{cond_elim}
use Rattle.send_buf.specs.declared.SendBuf.{SendBuf}
use Rattle.send_buf.specs.State.{Send, view_of, buf_of, base, GoodSend}
use Rattle.send_buf.specs.Rules as send
use Rattle.send_buf.proofs.Views.{view_of_lem}
use Rattle.refusal.proofs.Answers.{after_elim}
use Rattle.send_buf.proofs.Judged.{Writes, writes as writes_told}
use Rattle.send_buf.proofs.Chunks.{adj_le, adj_behind, adj_back, base_sent}
use Rattle.send_buf.proofs.Joining.{base_tabled}
use Rattle.send_buf.proofs.Facts.{front_low, reached, emit_gives}
use Rattle.send_buf.proofs.Kept.{new_good, laid, wrote_good, sent_good, acked_good, dropped_good, drop_to_in, lost_good, raised_good, blocked_good}
use Rattle.recv_buf.specs.Rfc9000.{Frame, end_of}
use Rattle.channel.specs.System.{SendEnd, sender, count_of, frame_of, writes, emits, raises, blocks, acks, ack_drops, loses}
use Rattle.channel.proofs.Stream.{Agrees, agrees_more, agrees_seam, agrees_held, agrees_kept}
use Rattle.channel.proofs.Lists.{All, all_map, all_append}
use Rattle.tables.proofs.Tests.{or_false}
use Rattle.refusal.specs.Rules as words

-- ---- a send buffer s with the arena ar that holds the stream W

pub record Carries (W : List ℕ) (s : Send) (ar : List ℕ) : Type 0 where
  pub good : GoodSend s
  pub some_room : 0 < s.room
  pub size : length ar ≡ s.room
  -- the bytes from where the first chunk begins up to the end are those of the stream
  pub agree : (q : ℕ) → base s.chunks s.off ≤ q → q < s.off → byte_at ar q ≡ get_or W q 0
  pub all_written : s.off ≡ length W
  pub running : s.error ≡ None

module _ (W : List ℕ) (s : Send) (ar : List ℕ) (g : Carries W s ar) where
  -- the final size, once known, is the length of the stream
  pub final : (x : ℕ) → s.fin ≡ Some x → x ≡ length W
  final x e = g.good.fin_at_off x e ∙ g.all_written

  arena_fits : send.other_arena s (length ar) ≡ false
  arena_fits =
      let z : length ar ≡ 0 → ⊥ = λ e. omega (arith, g.size, g.some_room) in
      rw (ne_eqb (length ar) 0 z, eq-eqb (length ar) s.room g.size)

pub new_carries : (A limit : ℕ) (ar : List ℕ) → 0 < A → A ≤ 65536 → length ar ≡ A → limit ≤ M → Carries [] (send.new_send A limit) ar
new_carries A limit ar a top e l =
    record { good = new_good A limit top l; some_room = a; size = e; agree = λ q h k. absurd (omega arith); all_written = refl; running = refl }

-- ---- write

-- a known final size stays
fin_stays : (f : Option ℕ) (off n : ℕ) (mk : Bool) → send.passes_final f (off + n) mk ≡ false → ((x : ℕ) → f ≡ Some x → x ≡ off)
    → (x : ℕ) → f ≡ Some x → words.fin_with f (off + n) mk ≡ Some x
fin_stays f off n false b h x e = e
fin_stays None off n true b h x e = let z : ◌≡◌ {A = ℕ} 0 1 = cc in absurd (omega arith)
fin_stays (Some f) off n true b h x e =
    let p = or_false (ltb f (off + n)) (eqb (off + n) f && false) b in
    let w : f ≡ x = cc in
    ap Some (omega (arith, h x e, ltb-false f (off + n) p.0))

module _ (W : List ℕ) (s : Send) (ar : List ℕ) (input : List ℕ) (fin : Bool) (g : Carries W s ar) (said : send.write_judged s (length ar) (length input) fin ≡ Ok tt) where
  abbrev k : ℕ
  k = send.accepted s (length input)

  told : Writes s (length ar) (length input) fin
  told = writes_told s (length ar) (length input) fin said

  abbrev lo : ℕ
  lo = base s.chunks s.off

  low : lo ≤ s.off
  low = adj_le (base s.chunks s.off) s.chunks s.off g.good.adjoin

  same_base : base (send.tabled (send.longer s k)) (s.off + k) ≡ lo
  same_base = base_tabled (base s.chunks s.off) (send.longer s k) (s.off + k) (laid s g.good k)

  long : length (take k input) ≡ k
  long = length-take k input ∙ omega arith

  fits : s.off + length (take k input) ≤ lo + length ar
  fits = omega (arith, long, low, g.size, ltb-false s.room (k + (s.off - base s.chunks s.off)) told.room)

  pub wrote_carries : Carries (W ++ take k input) (send.wrote s (length input) fin) (kept ar s.off (take k input))
  unfolding send.wrote
  wrote_carries = record {
    good = wrote_good s g.good (length ar) (length input) fin said;
    some_room = g.some_room;
    size = length_kept ar s.off (take k input) ∙ g.size;
    agree = λ q h l.
        agrees_kept ar (W ++ take k input) lo s.off (take k input) q low fits (agrees_seam W s.off (take k input) (sym g.all_written))
        (omega (arith, same_base)) (omega (arith, long)) (λ lt. old q (omega (arith, same_base)) lt);
    all_written = omega (arith, g.all_written, length-append W (take k input), long);
    running = g.running;
  }
    where
      old : (q : ℕ) → lo ≤ q → q < s.off → byte_at ar q ≡ get_or (W ++ take k input) q 0
      old q h lt = g.agree q h lt ∙ sym (get_or-append W (take k input) 0 q (omega (arith, g.all_written)))

  pub wrote_fin : (x : ℕ) → s.fin ≡ Some x → (send.wrote s (length input) fin).fin ≡ Some x
  unfolding send.wrote
  wrote_fin = fin_stays s.fin s.off (length input) (send.marked s (length input) fin) told.final g.good.fin_at_off

-- ---- the other calls: they leave the stream as it is

module _ (W : List ℕ) (s : Send) (ar : List ℕ) (g : Carries W s ar) where
  sent_carries : (n : ℕ) → Carries W (send.sent s n) ar
  unfolding send.sent
  sent_carries n = record {
    good = sent_good s g.good n;
    some_room = g.some_room;
    size = g.size;
    agree = λ q h k. g.agree q (omega (arith, base_sent (send.first s) s.chunks s.off (send.front s) n)) k;
    all_written = g.all_written;
    running = g.running;
  }

  acked_carries : (a n : ℕ) → send.ack_judged s a n ≡ Ok tt → Carries W (send.acked_more s a n) ar
  unfolding send.acked_more
  acked_carries a n e = record {
    good = acked_good s g.good a n e;
    some_room = g.some_room;
    size = g.size;
    agree = g.agree;
    all_written = g.all_written;
    running = g.running;
  }

  dropped_carries : (k : ℕ) → k ≤ s.emitted → Carries W (send.dropped s k) ar
  dropped_carries k low = record {
    good = dropped_good s g.good k low;
    some_room = g.some_room;
    size = g.size;
    agree = λ q h l. g.agree q (omega (arith, (adj_behind (base s.chunks s.off) s.chunks s.off k g.good.adjoin).0)) l;
    all_written = g.all_written;
    running = g.running;
  }

  lost_carries : (a n : ℕ) → send.loss_judged s a n ≡ Ok tt → Carries W (send.lost s a n) ar
  unfolding send.lost
  lost_carries a n e =
      cond_elim (λ (t : Send). GoodSend t → Carries W t ar) (send.settled s a n)
      (λ _ h. g)
      (λ _ h. record {
        good = h;
        some_room = g.some_room;
        size = g.size;
        agree = λ q x l.
            g.agree q (omega (arith, base_tabled (base s.chunks s.off) (send.back s.chunks a (a + n)) s.off (adj_back (base s.chunks s.off) s.chunks s.off a (a + n) g.good.adjoin))) l;
        all_written = g.all_written;
        running = g.running;
      }) (lost_good s g.good a n e)

  raised_carries : (limit : ℕ) → limit ≤ M → Carries W (send.with_limit s (max s.limit limit) s.blocked) ar
  raised_carries limit h = record {
    good = raised_good s g.good limit h;
    some_room = g.some_room;
    size = g.size;
    agree = g.agree;
    all_written = g.all_written;
    running = g.running;
  }

  blocked_carries : (at : Option ℕ) → Carries W (send.with_limit s s.limit at) ar
  blocked_carries at = record {
    good = blocked_good s g.good at;
    some_room = g.some_room;
    size = g.size;
    agree = g.agree;
    all_written = g.all_written;
    running = g.running;
  }

lost_same : (s : Send) (a n : ℕ) → ((send.lost s a n).fin ≡ s.fin) × ((send.lost s a n).limit ≡ s.limit)
unfolding send.lost
lost_same s a n = cond_elim (λ (t : Send). (t.fin ≡ s.fin) × (t.limit ≡ s.limit)) (send.settled s a n) (λ _. (refl, refl)) (λ _. (refl, refl))

-- ---- a frame that a sender of W, with final size sf if known, can have emitted: its bytes are the stream's, its mark stands at the final size

pub record Honest (W : List ℕ) (sf : Option ℕ) (f : Frame) : Type 0 where
  pub agrees : Agrees W f.from f.bytes
  pub inside : end_of f ≤ length W
  pub marked : f.fin ≡ true → sf ≡ Some (end_of f)

honest_more : (W X : List ℕ) (sf sf' : Option ℕ) (f : Frame) → ((x : ℕ) → sf ≡ Some x → sf' ≡ Some x) → Honest W sf f → Honest (W ++ X) sf' f
honest_more W X sf sf' f h k = record {
  agrees = agrees_more W X f.from f.bytes k.inside k.agrees;
  inside = omega (arith, length-append W X, k.inside);
  marked = λ e. h (end_of f) (k.marked e);
}

at_end : (f : Option ℕ) (o : ℕ) → words.is_at f o ≡ true → f ≡ Some o
at_end None o e = let z : ◌≡◌ {A = ℕ} 0 1 = cc in absurd (omega arith)
at_end (Some f) o e = ap Some (eqb-true f o e)

-- the frame of an emit
abbrev frame : Send → List ℕ → ℕ → Frame
frame s ar k = record { from = send.front s; bytes = held ar (send.front s) k; fin = words.is_at s.fin (send.front s + k) }

emit_honest : (W : List ℕ) (s : Send) (ar : List ℕ) → Carries W s ar → (n : ℕ) → Honest W s.fin (frame s ar (send.emit_count s n))
emit_honest W s ar g n = record {
  agrees = agrees_held ar W (send.front s) k (λ q x y. g.agree q (omega (arith, front_low s g.good)) (omega (arith, reached s g.good n)));
  inside = omega (arith, l, reached s g.good n, g.all_written);
  marked = λ e. at_end s.fin (send.front s + k) e ∙ ap (λ (x : ℕ). Some (send.front s + x)) (sym l);
}
  where
    k : ℕ
    k = send.emit_count s n

    l : length (held ar (send.front s) k) ≡ k
    l = length_held ar (send.front s) k

-- ---- the sender's end

pub record SendInv (x : SendEnd) : Type 0 where
  pub carries : Carries x.written (sender x) x.arena
  pub honest : All (Honest x.written (sender x).fin) x.frames

-- a move brings it from x to the buffer t, the arena ar, the stream W and the frames fs: the stream only grows, a final size stays, and the
-- limit rises to v at most
pub record Goes (v : ℕ) (x : SendEnd) (t : Send) (ar W : List ℕ) (fs : List Frame) : Type 0 where
  pub carries : Carries W t ar
  pub honest : All (Honest W t.fin) fs
  pub more : List ℕ
  pub grown : W ≡ x.written ++ more
  pub fin_stays : (f : ℕ) → (sender x).fin ≡ Some f → t.fin ≡ Some f
  pub limit : t.limit ≤ max (sender x).limit v

abbrev pub SendStep : ℕ → SendEnd → SendEnd → Type 0
SendStep v x z = Goes v x (sender z) z.arena z.written z.frames

of_buf : (v : ℕ) (x : SendEnd) (t : Send) (ar W : List ℕ) (fs : List Frame) → Goes v x t ar W fs → Goes v x (view_of (buf_of t)) ar W fs
of_buf v x t ar W fs = subst (λ (y : Send). Goes v x y ar W fs) (sym (view_of_lem t))

module _ (x : SendEnd) (i : SendInv x) where
  -- the stream stays, and so does the final size
  still : (v : ℕ) (t : Send) → Carries x.written t x.arena → t.fin ≡ (sender x).fin → t.limit ≤ max (sender x).limit v
      → Goes v x (view_of (buf_of t)) x.arena x.written x.frames
  still v t c f l =
      of_buf v x t x.arena x.written x.frames (record {
        carries = c;
        honest = subst (λ (y : Option ℕ). All (Honest x.written y) x.frames) (sym f) i.honest;
        more = [];
        grown = sym (append-nil x.written);
        fin_stays = λ y e. f ∙ e;
        limit = l;
      })

  same : (v : ℕ) → Goes v x (view_of (buf_of (sender x))) x.arena x.written x.frames
  same v = still v (sender x) i.carries refl (omega arith)

  pub writes_step : (input : List ℕ) (fin : Bool) → SendStep 0 x (writes x input fin)
  unfolding writes send.written send.written_arena send.wrote
  writes_step input fin = go (send.write_judged s (length ar) n fin) refl
    where
      s : Send
      s = sender x

      ar : List ℕ
      ar = x.arena

      W : List ℕ
      W = x.written

      n : ℕ
      n = length input

      k : ℕ
      k = send.accepted s n

      go : (said : Result ⊤ Refusal) → send.write_judged s (length ar) n fin ≡ said
          → Goes 0 x (view_of (buf_of (words.after said (send.wrote s n fin) s))) (words.after said (kept ar s.off (take k input)) ar) (W ++ take (count_of (with_count said k)) input) x.frames
      go (Ok done) e =
          of_buf 0 x (send.wrote s n fin) (kept ar s.off (take k input)) (W ++ take k input) x.frames (record {
            carries = wrote_carries W s ar input fin i.carries e;
            honest = all_map (Honest W s.fin) (Honest (W ++ take k input) (send.wrote s n fin).fin) x.frames (λ f h. honest_more W (take k input) s.fin (send.wrote s n fin).fin f (wrote_fin W s ar input fin i.carries e) h) i.honest;
            more = take k input;
            grown = refl;
            fin_stays = wrote_fin W s ar input fin i.carries e;
            limit = omega arith;
          })
      go (Err why) e = subst (λ (X : List ℕ). Goes 0 x (view_of (buf_of s)) ar X x.frames) (sym (append-nil W)) (same 0)

  emits_is : (out : List ℕ) → let k = send.emit_count (sender x) (length out) in
      emits x out ≡ record x {
        buf = buf_of (send.sent (sender x) (length out));
        frames = x.frames ++ frame (sender x) x.arena k ∷ [];
      }
  unfolding emits send.emitted
  emits_is out =
      let s : Send = sender x in
      let k : ℕ = send.emit_count s (length out) in
      let mark : Bool = words.is_at s.fin (send.front s + k) in
      let a : send.other_arena s (length x.arena) ≡ false = arena_fits x.written s x.arena i.carries in
      ap (λ (t : Bool).
      let e : Outcome (ℕ × Bool) SendBuf = cond t (record { answer = Err BadSetup; state = buf_of s }) (record { answer = Ok (k, mark); state = buf_of (send.sent s (length out)) }) in
      record x { buf = e.state; frames = x.frames ++ frame_of (send.front s) (send.emitted_out s x.arena out) e.answer }) a
      ∙ ap (λ (bs : List ℕ). record x {
        buf = buf_of (send.sent s (length out));
        frames = x.frames ++ record { from = send.front s; bytes = bs; fin = mark } ∷ [];
      }) (emit_gives s x.arena out a)

  pub emits_step : (out : List ℕ) → SendStep 0 x (emits x out)
  unfolding send.sent
  emits_step out =
      subst (SendStep 0 x) (sym (emits_is out))
      (of_buf 0 x (send.sent (sender x) (length out)) x.arena x.written _ (record {
        carries = sent_carries x.written (sender x) x.arena i.carries (length out);
        honest = all_append (Honest x.written (sender x).fin) x.frames _ i.honest (emit_honest x.written (sender x) x.arena i.carries (length out), tt);
        more = [];
        grown = sym (append-nil x.written);
        fin_stays = λ f e. e;
        limit = omega arith;
      }))

  pub raises_step : (limit : ℕ) → SendStep limit x (raises x limit)
  unfolding raises send.raised
  raises_step limit =
      cond_elim (λ (o : Outcome ⊤ SendBuf). Goes limit x (view_of o.state) x.arena x.written x.frames) (ltb M limit)
      (λ _. same limit)
      (λ e. still limit _ (raised_carries x.written (sender x) x.arena i.carries limit (ltb-false M limit e)) refl (omega arith))

  pub blocks_step : (at : Option ℕ) → SendStep 0 x (blocks x at)
  unfolding blocks send.blocked_with
  blocks_step at = still 0 _ (blocked_carries x.written (sender x) x.arena i.carries at) refl (omega arith)

  pub acks_step : (f : Frame) → SendStep 0 x (acks x f)
  unfolding acks send.acks send.acked_more
  acks_step f =
      let n : ℕ = length f.bytes in
      after_elim (λ (t : Send). Goes 0 x (view_of (buf_of t)) x.arena x.written x.frames) (send.ack_judged (sender x) f.from n)
      (λ e. still 0 _ (acked_carries x.written (sender x) x.arena i.carries f.from n e) refl (omega arith))
      (same 0)

  pub ack_drops_step : (f : Frame) → SendStep 0 x (ack_drops x f)
  unfolding ack_drops send.ack_drops send.acked_more
  ack_drops_step f =
      let n : ℕ = length f.bytes in
      let t : Send = send.acked_more (sender x) f.from n in
      after_elim (λ (t : Send). Goes 0 x (view_of (buf_of t)) x.arena x.written x.frames) (send.ack_judged (sender x) f.from n)
      (λ e. let c = acked_carries x.written (sender x) x.arena i.carries f.from n e in
      still 0 _ (dropped_carries x.written t x.arena c (send.drop_to t f.from) (drop_to_in t c.good f.from)) refl (omega arith))
      (same 0)

  pub loses_step : (f : Frame) → SendStep 0 x (loses x f)
  unfolding loses send.retransmits
  loses_step f =
      let n : ℕ = length f.bytes in
      after_elim (λ (t : Send). Goes 0 x (view_of (buf_of t)) x.arena x.written x.frames) (send.loss_judged (sender x) f.from n)
      (λ e. still 0 _ (lost_carries x.written (sender x) x.arena i.carries f.from n e) (lost_fin n) (omega (arith, lost_limit n)))
      (same 0)
    where
      lost_fin : (n : ℕ) → (send.lost (sender x) f.from n).fin ≡ (sender x).fin
      lost_fin n = (lost_same (sender x) f.from n).0

      lost_limit : (n : ℕ) → (send.lost (sender x) f.from n).limit ≡ (sender x).limit
      lost_limit n = (lost_same (sender x) f.from n).1
