-- What an emit or a discard takes are the next bytes of RFC 9000's ordered stream, and it is refused only if there is none: `knows_emit`, `emit_refused`.
-- Assumes nothing.
use Rattle.std.specs.Prelude.{Result, Ok, Err, Option, Some, None, ⊤}
use mathlib.Core.Path.{◌≡◌, refl, sym, ap, subst, ◌∙◌}
use mathlib.Core.Logic.{◌⊎◌, inl, inr}
use mathlib.Core.Bool.{Bool, true, false, cond, not, ◌&&◌}
use mathlib.Core.List.{List, [], ◌∷◌, ◌++◌}
use Prim.Native.Nat.{ℕ, zero, suc, ◌+◌, ◌-◌, ◌≤◌, ◌<◌}
use native.Mathlib.Omega.{arith}
use borrow.Author.Tests.{lt-ltb, le-ltb}
use lib.Dec.{ltb}
use lib.ListN.{length, get_or, get_or-append, length-append}
use lib.Seq.{get_or-append-add}
use Rattle.tables.proofs.Tables.{cases}
use Rattle.tables.proofs.Tests.{either, clash, and_true, decided, undecided}
use Rattle.refusal.specs.declared.Refusal.{Refusal}
use Rattle.refusal.specs.declared.Refusal.TheVariants.{Offset, Done as NothingReady, Reset}
use Rattle.refusal.specs.Rules.{M, known, is_at}
use Rattle.arena.specs.Rules.{byte_at, held}
use Rattle.arena.proofs.Laws.{length_held}
use Rattle.range_buf.specs.declared.RangeBuf.{RangeBuf}
use Rattle.recv_buf.specs.State.{Recv, Held, Chain, GoodRecv}
use Rattle.recv_buf.specs.Rules.{holds, is_ready, left_over, takes, unless_reset, take_judged, took_out, with_chunks, refused_take, readable}
use Rattle.recv_buf.specs.Rfc9000.{more, ordered, available, reading, is_all}
use Rattle.recv_buf.specs.RfcAgreement.{seen, knows}
use Rattle.recv_buf.proofs.Lists.{holds_held, holds_not, held_holds, held_not, left_held, taken_held, held_left, taken_within, held_ready, taken_most, taken_stops, taken_adjoining}
use Rattle.recv_buf.proofs.Kept.{took_out_good, refused_take_good}
use Rattle.recv_buf.proofs.RfcState.{Sound, known_eq, unheld, idle_reset, idle_shut}

-- ---- the ordered stream, read off an arena

-- up to n bytes, or to the first that is not known
ordered_held : (ar : List ℕ) (byte : ℕ → Option ℕ) (o j n : ℕ) → j ≤ n → ((q : ℕ) → o ≤ q → q < o + j → byte q ≡ Some (byte_at ar q))
    → (j ≡ n) ⊎ (byte (o + j) ≡ None) → ordered byte o n ≡ held ar o j
unfolding held
ordered_held ar byte o zero zero l h d = refl
ordered_held ar byte o zero (suc n) l h (inl d) = absurd (omega arith)
ordered_held ar byte o zero (suc n) l h (inr d) = let e : o + 0 ≡ o = omega arith in
    ap (λ (b : Option ℕ). more b (ordered byte (suc o) n)) (ap byte (sym e) ∙ d)
ordered_held ar byte o (suc j) zero l h d = absurd (omega arith)
ordered_held ar byte o (suc j) (suc n) l h d =
    ap (λ (b : Option ℕ). more b (ordered byte (suc o) n)) (h o (omega arith) (omega arith))
    ∙ ap (λ (bs : List ℕ). byte_at ar o ∷ bs) (ordered_held ar byte (suc o) j n (omega arith) (λ q a b. h q (omega arith) (omega arith))
    (either d (λ e. inl (omega arith)) (λ e. let w : suc o + j ≡ o + suc j = omega arith in inr (ap byte w ∙ e))))

get_d_held : (ar : List ℕ) (o k i : ℕ) → i < k → get_or (held ar o k) i 0 ≡ byte_at ar (o + i)
unfolding held
get_d_held ar o zero i h = absurd (omega arith)
get_d_held ar o (suc k) zero h = let e : o ≡ o + 0 = omega arith in ap (byte_at ar) e
get_d_held ar o (suc k) (suc i) h = let e : suc o + i ≡ o + suc i = omega arith in get_d_held ar (suc o) k i (omega arith) ∙ ap (byte_at ar) e

-- nothing is known for the offset up to which all was handed out
stuck : (r : Recv) (ar out : List ℕ) → (Held r.chunks r.flow.consumed → ⊥) → (n : ℕ) → available (knows r ar out) n ≡ []
stuck r ar out h zero = refl
stuck r ar out h (suc n) = let c = r.flow.consumed in
    ap (λ (b : Option ℕ). more b (ordered (seen r ar out) (suc c) n)) (unheld r ar out c h
    ∙ ap (λ (t : Bool). cond t (Some (get_or out c 0)) None) (le-ltb c c (omega arith)))

unready : (cs : List RangeBuf) (off : ℕ) → Chain off cs → is_ready cs off ≡ false → Held cs off → ⊥
unready cs off k e h = clash (sym (held_ready cs off k h) ∙ e)

-- ---- an emit or a discard of up to n bytes

module _ (r : Recv) (ar out : List ℕ) (g : Sound r ar out) (n : ℕ) where
  -- the bytes that go
  abbrev pub went : List ℕ
  went = held ar r.off (takes r n)

  still_read : is_ready r.chunks r.off ≡ true → r.drain ≡ false
  still_read e = go r.drain refl
    where
      go : (d : Bool) → r.drain ≡ d → d ≡ false
      go true x = clash (sym e ∙ ap (λ (cs : List RangeBuf). is_ready cs r.off) (g.good.shut_none x))
      go false x = refl

  abbrev last : Result ⊤ Refusal
  last = cond (ltb M (r.flow.consumed + takes r n)) (Err Offset) (Ok tt)

  judged : take_judged r n ≡ cond (not (is_ready r.chunks r.off)) (Err NothingReady) (unless_reset r.error last)
  unfolding take_judged
  judged = refl

  pub take_live : is_ready r.chunks r.off ≡ true → r.error ≡ None → take_judged r n ≡ Ok tt
  take_live d e =
      judged
      ∙ undecided (ap not d) (Err NothingReady) (unless_reset r.error last)
      ∙ ap (λ (z : Option ℕ). unless_reset z last) e
      ∙ undecided (le-ltb M (r.flow.consumed + takes r n)
      (omega (arith, g.live e (still_read d), g.good.len_in, taken_within r.chunks r.len r.off n g.good.chain g.good.within g.good.off_len))) (Err Offset) (Ok tt)

  pub take_unready : is_ready r.chunks r.off ≡ false → take_judged r n ≡ Err NothingReady
  take_unready e = judged ∙ decided (ap not e) (Err NothingReady) (unless_reset r.error last)

  pub take_reset : is_ready r.chunks r.off ≡ true → (code : ℕ) → r.error ≡ Some code → take_judged r n ≡ Err (Reset code)
  take_reset d code e =
      judged ∙ undecided (ap not d) (Err NothingReady) (unless_reset r.error last) ∙ ap (λ (z : Option ℕ). unless_reset z last) e

  -- of a stream that is open and read
  module _ (d : r.drain ≡ false) (e : r.error ≡ None) where
    -- what goes are the next bytes of the ordered stream
    went_next : went ≡ available (knows r ar out) n
    went_next = subst (λ (c : ℕ). went ≡ ordered (seen r ar out) c n) (sym (g.live e d))
        (sym (ordered_held ar (seen r ar out) r.off (takes r n) n (taken_most r.chunks r.off n) here
        (either (taken_stops r.chunks r.off n g.good.chain) (λ x. inl x) (λ x. inr (unheld r ar out (r.off + takes r n) x
        ∙ ap (λ (t : Bool). cond t (Some (get_or out (r.off + takes r n) 0)) None) (le-ltb (r.off + takes r n) r.flow.consumed (omega (arith, g.live e d))))))))
      where
        here : (q : ℕ) → r.off ≤ q → q < r.off + takes r n → seen r ar out q ≡ Some (byte_at ar q)
        here q a b = rw (le-ltb q r.flow.consumed (omega (arith, g.live e d)), held_holds r.chunks q (taken_held r.chunks r.off n q g.good.chain a b))

    seen_took : (o : ℕ) → seen (took_out r n) ar (out ++ went) o ≡ seen r ar out o
    unfolding took_out
    seen_took o = cases o r.flow.consumed low (λ a. cases o (r.flow.consumed + k) (mid a) high)
      where
        k : ℕ
        k = takes r n

        c : ℕ
        c = r.flow.consumed

        left : List RangeBuf
        left = left_over r.chunks r.off n

        now : Bool → Bool → Option ℕ
        now t u = cond t (Some (get_or (out ++ went) o 0)) (cond u (Some (byte_at ar o)) None)

        was : Bool → Bool → Option ℕ
        was t u = cond t (Some (get_or out o 0)) (cond u (Some (byte_at ar o)) None)

        low : o < c → now (ltb o (c + k)) (holds left o) ≡ was (ltb o c) (holds r.chunks o)
        low h = ap (λ (t : Bool). now t (holds left o)) (lt-ltb o (c + k) (omega arith))
            ∙ ap Some (get_or-append out went 0 o (omega (arith, g.all_out)))
            ∙ sym (ap (λ (t : Bool). was t (holds r.chunks o)) (lt-ltb o c h))

        mid : c ≤ o → o < c + k → now (ltb o (c + k)) (holds left o) ≡ was (ltb o c) (holds r.chunks o)
        mid a b =
            let l = g.live e d in
            let i : o ≡ length out + (o - c) = omega (arith, g.all_out) in
            let j : r.off + (o - c) ≡ o = omega arith in
            ap (λ (t : Bool). now t (holds left o)) (lt-ltb o (c + k) b)
            ∙ ap Some (ap (λ (q : ℕ). get_or (out ++ went) q 0) i ∙ get_or-append-add out went (o - c) 0 ∙ get_d_held ar r.off k (o - c) (omega arith)
            ∙ ap (byte_at ar) j)
            ∙ sym (ap (λ (t : Bool). was t (holds r.chunks o)) (le-ltb o c a)
            ∙ ap (was false) (held_holds r.chunks o (taken_held r.chunks r.off n o g.good.chain (omega arith) (omega arith))))

        same : c + k ≤ o → (t : Bool) → holds r.chunks o ≡ t → holds left o ≡ t
        same a true h = held_holds left o (either (held_left r.chunks r.off n o g.good.chain (holds_held r.chunks o h))
            (λ x. absurd (omega (arith, g.live e d))) (λ x. x))
        same a false h = held_not left o (λ x. holds_not r.chunks o h (left_held r.chunks r.off n o x))

        high : c + k ≤ o → now (ltb o (c + k)) (holds left o) ≡ was (ltb o c) (holds r.chunks o)
        high a = ap (λ (t : Bool). now t (holds left o)) (le-ltb o (c + k) a)
            ∙ ap (λ (u : Bool). cond u (Some (byte_at ar o)) None) (same a (holds r.chunks o) refl)
            ∙ sym (ap (λ (t : Bool). was t (holds r.chunks o)) (le-ltb o c (omega arith)))

    count_next : takes r n ≡ length (available (knows r ar out) n)
    count_next = sym (length_held ar r.off (takes r n)) ∙ ap length went_next

    knows_took : knows (took_out r n) ar (out ++ went) ≡ reading (knows r ar out) n
    unfolding reading took_out
    knows_took = known_eq (knows (took_out r n) ar (out ++ went)) (reading (knows r ar out) n) seen_took refl refl refl
        (ap (λ (x : ℕ). r.flow.consumed + x) count_next) refl refl

    took_ended : is_at r.fin (r.off + takes r n) ≡ is_all r.fin (r.flow.consumed + length (available (knows r ar out) n))
    took_ended = ap (λ (c : ℕ). is_at r.fin (c + takes r n)) (sym (g.live e d)) ∙ go r.fin
        ∙ ap (λ (x : ℕ). is_all r.fin (r.flow.consumed + x)) count_next
      where
        go : (f : Option ℕ) → is_at f (r.flow.consumed + takes r n) ≡ is_all f (r.flow.consumed + takes r n)
        go None = refl
        go (Some x) = refl

    sound_took : take_judged r n ≡ Ok tt → Sound (took_out r n) ar (out ++ went)
    unfolding took_out
    sound_took said = record {
      good = took_out_good r g.good n said;
      some_room = g.some_room;
      size = g.size;
      all_out = length-append out went ∙ omega (arith, g.all_out, length_held ar r.off (takes r n));
      live = λ a b. omega (arith, g.live e d);
      ended = λ code z. let w : ◌≡◌ {A = ℕ} 0 1 = cc in absurd (omega arith);
    }

  -- an accepted one hands out as many bytes of the ordered stream as are known in a row and fit, and tells whether that was all
  pub record Delivered : Type 0 where
    pub bytes : went ≡ available (knows r ar out) n
    pub count : takes r n ≡ length (available (knows r ar out) n)
    pub after : knows (took_out r n) ar (out ++ went) ≡ reading (knows r ar out) n
    pub ended : is_at r.fin (r.off + takes r n) ≡ is_all r.fin (r.flow.consumed + length (available (knows r ar out) n))
    pub sound : Sound (took_out r n) ar (out ++ went)

  pub knows_emit : take_judged r n ≡ Ok tt → Delivered
  knows_emit said = go (is_ready r.chunks r.off) refl r.error refl
    where
      go : (t : Bool) → is_ready r.chunks r.off ≡ t → (z : Option ℕ) → r.error ≡ z → Delivered
      go true d None e = let u = still_read d in
          record { bytes = went_next u e; count = count_next u e; after = knows_took u e; ended = took_ended u e; sound = sound_took u e said }
      go true d (Some code) e = let w : ◌≡◌ {A = ℕ} 0 1 = cc (take_reset d code e, said) in absurd (omega arith)
      go false d z e = let w : ◌≡◌ {A = ℕ} 0 1 = cc (take_unready d, said) in absurd (omega arith)

  -- a refused one had no byte to hand out
  pub emit_refused : (x : Refusal) → take_judged r n ≡ Err x → (i : ℕ) → available (knows r ar out) i ≡ []
  emit_refused x said i = go (is_ready r.chunks r.off) refl r.error refl r.drain refl
    where
      go : (t : Bool) → is_ready r.chunks r.off ≡ t → (z : Option ℕ) → r.error ≡ z → (b : Bool) → r.drain ≡ b
          → available (knows r ar out) i ≡ []
      go t d (Some code) e b y = stuck r ar out (idle_reset r ar out g code e r.flow.consumed) i
      go true d None e b y = let w : ◌≡◌ {A = ℕ} 0 1 = cc (take_live d e, said) in absurd (omega arith)
      go false d None e true y = stuck r ar out (idle_shut r ar out g y r.flow.consumed) i
      go false d None e false y = stuck r ar out
          (subst (λ (q : ℕ). Held r.chunks q → ⊥) (sym (g.live e y)) (unready r.chunks r.off g.good.chain d)) i

-- ---- how much an emit would hand out: `takes`, and so `readable_len`

count_exact : (r : Recv) (ar out : List ℕ) → Sound r ar out → (n : ℕ) → takes r n ≡ length (available (knows r ar out) n)
count_exact r ar out g n = go r.error refl r.drain refl
  where
    none : ((o : ℕ) → Held r.chunks o → ⊥) → takes r n ≡ length (available (knows r ar out) n)
    none h =
        let z : takes r n ≡ 0 = cases 0 (takes r n)
        (λ p. absurd (h r.off (taken_held r.chunks r.off n r.off g.good.chain (omega arith) (omega arith)))) (λ p. omega arith) in
        z ∙ ap length (sym (stuck r ar out (h r.flow.consumed) n))

    go : (z : Option ℕ) → r.error ≡ z → (b : Bool) → r.drain ≡ b → takes r n ≡ length (available (knows r ar out) n)
    go (Some code) e b d = none (idle_reset r ar out g code e)
    go None e true d = none (idle_shut r ar out g d)
    go None e false d = count_next r ar out g n d e

pub readable_exact : (r : Recv) (ar out : List ℕ) → Sound r ar out → (n : ℕ) → readable r n ≡ length (available (knows r ar out) n)
readable_exact r ar out g n = sym (taken_adjoining r.chunks r.off n g.good.chain) ∙ count_exact r ar out g n

-- ---- a refused one leaves what is known: the chunks that refusal 9 clears hold nothing

module _ (r : Recv) (ar out : List ℕ) (g : Sound r ar out) where
  reset_known : known r.error ≡ true → (o : ℕ) → Held r.chunks o → ⊥
  reset_known k = go r.error refl k
    where
      go : (z : Option ℕ) → r.error ≡ z → known z ≡ true → (o : ℕ) → Held r.chunks o → ⊥
      go None e k = clash (sym k)
      go (Some code) e k = idle_reset r ar out g code e

  pub knows_refused : (knows (refused_take r) ar out ≡ knows r ar out) × Sound (refused_take r) ar out
  knows_refused = go (is_ready r.chunks r.off && known r.error) refl (refused_take_good r g.good)
    where
      go : (t : Bool) → (is_ready r.chunks r.off && known r.error) ≡ t → GoodRecv (cond t (with_chunks r []) r)
          → (knows (cond t (with_chunks r []) r) ar out ≡ knows r ar out) × Sound (cond t (with_chunks r []) r) ar out
      go true e w = (
        known_eq (knows (with_chunks r []) ar out) (knows r ar out)
            (λ o. sym (unheld r ar out o (reset_known (and_true (is_ready r.chunks r.off) (known r.error) e).1 o))) refl refl refl refl refl refl,
        record { good = w; some_room = g.some_room; size = g.size; all_out = g.all_out; live = g.live; ended = g.ended },
      )
      go false e w = (refl, g)
