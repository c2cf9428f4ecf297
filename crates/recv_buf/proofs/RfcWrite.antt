-- An accepted frame moves what the buffer knows exactly as RFC 9000's STREAM frame moves it: `knows_write`. Assumes nothing.
use Rattle.std.specs.Prelude.{Ok, Option, Some, None}
use mathlib.Core.Path.{◌≡◌, refl, sym, ap, subst, ◌∙◌}
use mathlib.Core.Logic.{◌⊎◌, inl, inr}
use mathlib.Core.Bool.{Bool, true, false, cond, not, ◌&&◌, ◌||◌}
use mathlib.Core.List.{List}
use Prim.Native.Nat.{ℕ, ◌+◌, ◌≤◌, ◌<◌, max}
use native.Mathlib.Omega.{arith}
use borrow.Author.Tests.{ltb-false, eqb-true, eqb-false, lt-ltb, le-ltb, not-true}
use lib.Dec.{ltb, eqb}
use lib.ListN.{length, get_or}
use Rattle.tables.proofs.Tables.{cond_elim}
use Rattle.tables.proofs.Tests.{either, clash, and_true, or-true, or_false}
use Rattle.refusal.specs.Rules.{fin_with}
use Rattle.arena.specs.Rules.{byte_at}
use Rattle.range_buf.specs.declared.RangeBuf.{RangeBuf}
use Rattle.flowcontrol.specs.declared.FlowControl.{FlowControl}
use Rattle.recv_buf.specs.State.{Recv}
use Rattle.recv_buf.specs.Rules.{with_chunks, with_ends, chunks_after, write_judged, wrote, holds, kept_new, written_arena}
use Rattle.recv_buf.specs.Rfc9000.{data_at, first, is_some, stream}
use Rattle.recv_buf.specs.RfcAgreement.{seen, knows}
use Rattle.recv_buf.proofs.Lists.{holds_held, holds_not, held_holds, held_not}
use Rattle.recv_buf.proofs.Frames.{New, held_wrote, wrote_held}
use Rattle.recv_buf.proofs.Bytes.{kept_length, kept_stays, kept_new_lem}
use Rattle.recv_buf.proofs.Kept.{EndFits, end_fits, Accepted, accepted, fits_room, wrote_good}
use Rattle.recv_buf.proofs.RfcLaws.{data_at_inside, data_at_is, data_at_none, some_is, none_is}
use Rattle.recv_buf.proofs.RfcState.{Sound, known_eq, unheld, idle}

-- ---- the numbers after an accepted frame that ends at e; `tells` is whether it has bytes or a mark

pub record Numbers (r : Recv) (e : ℕ) (fin tells : Bool) (x : Recv) : Type 0 where
  pub len : x.len ≡ cond tells (max r.len e) r.len
  pub final : x.fin ≡ cond fin (Some e) r.fin
  pub flow : x.flow ≡ r.flow
  pub error : x.error ≡ r.error
  pub drain : x.drain ≡ r.drain
  pub room : x.room ≡ r.room
  pub off : r.drain ≡ false → x.off ≡ r.off
  pub flush : r.off ≡ r.len → e ≤ r.len → x.off ≡ x.len

fin_is : (f : Option ℕ) (e : ℕ) (fin : Bool) → fin_with f e fin ≡ cond fin (Some e) f
fin_is f e true = refl
fin_is f e false = refl

tells_not : (n : ℕ) (fin b : Bool) → (eqb n 0 && not fin) ≡ b → (ltb 0 n || fin) ≡ not b
tells_not n fin b h = subst (λ (x : Bool). (ltb 0 n || fin) ≡ not x) h (go (eqb n 0) refl fin)
  where
    go : (z : Bool) → eqb n 0 ≡ z → (fin : Bool) → (ltb 0 n || fin) ≡ not (z && not fin)
    go true e true = rw (le-ltb 0 n (omega (arith, eqb-true n 0 e)))
    go true e false = rw (le-ltb 0 n (omega (arith, eqb-true n 0 e)))
    go false e fin = let k = eqb-false n 0 e in rw (lt-ltb 0 n (omega arith))

module _ (r : Recv) (s n : ℕ) (fin : Bool) where
  pub numbers : Numbers r (s + n) fin (ltb 0 n || fin) (wrote r s n fin)
  unfolding wrote
  numbers = go (eqb n 0 && not fin) refl r.drain refl
    where
      top : ℕ
      top = max r.len (s + n)

      len_is : (b : Bool) → (eqb n 0 && not fin) ≡ b → cond (not b) top r.len ≡ cond (ltb 0 n || fin) top r.len
      len_is b e = sym (ap (λ (t : Bool). cond t top r.len) (tells_not n fin b e))

      fin' : Option ℕ
      fin' = fin_with r.fin (s + n) fin

      go : (b : Bool) → (eqb n 0 && not fin) ≡ b → (d : Bool) → r.drain ≡ d
          → Numbers r (s + n) fin (ltb 0 n || fin) (cond b r (cond d (with_ends r top top fin') (with_ends (with_chunks r (chunks_after r s n fin)) r.off top fin')))
      go true e d x = record {
        len = len_is true e;
        final = sym (ap (λ (b : Bool). cond b (Some (s + n)) r.fin) (not-true fin (and_true (eqb n 0) (not fin) e).1));
        flow = refl;
        error = refl;
        drain = refl;
        room = refl;
        off = λ z. refl;
        flush = λ a b. a;
      }
      go false e true x = record {
        len = len_is false e;
        final = fin_is r.fin (s + n) fin;
        flow = refl;
        error = refl;
        drain = refl;
        room = refl;
        off = λ z. clash (sym x ∙ z);
        flush = λ a b. refl;
      }
      go false e false x = record {
        len = len_is false e;
        final = fin_is r.fin (s + n) fin;
        flow = refl;
        error = refl;
        drain = refl;
        room = refl;
        off = λ z. refl;
        flush = λ a b. omega arith;
      }

-- the arena after an accepted frame
abbrev pub new_arena : Recv → List ℕ → ℕ → List ℕ → List ℕ
new_arena r ar s bytes = cond r.drain ar (kept_new r ar s bytes)

module _ (r : Recv) (ar out : List ℕ) (g : Sound r ar out) (s : ℕ) (bytes : List ℕ) (fin : Bool)
    (said : write_judged r (length ar) s (length bytes) fin ≡ Ok tt) where
  ok : Accepted r (length ar) s (length bytes) fin
  ok = accepted r (length ar) s (length bytes) fin said

  pub arena_is : written_arena r ar s bytes fin ≡ new_arena r ar s bytes
  unfolding written_arena
  arena_is = rw said

  ends : EndFits r.fin r.len (s + length bytes) fin
  ends = end_fits r.fin r.len (s + length bytes) fin ok.final

  t : Numbers r (s + length bytes) fin (ltb 0 (length bytes) || fin) (wrote r s (length bytes) fin)
  t = numbers r s (length bytes) fin

  -- a frame within the final size of a stream that was reset brings nothing above off
  nothing_new : (code : ℕ) → r.error ≡ Some code → s + length bytes ≤ r.off
  nothing_new code e = let p = g.ended code e in omega (arith, p.0, ends.in_final r.len p.1)

  seen_closed : (r.drain || is_some r.error) ≡ true → (o : ℕ) → seen (wrote r s (length bytes) fin) (new_arena r ar s bytes) out o ≡ seen r ar out o
  seen_closed c o =
      unheld (wrote r s (length bytes) fin) (new_arena r ar s bytes) out o
      (λ h. either (wrote_held r s (length bytes) fin o h) (idle r ar out g c o) (still (or-true r.drain (is_some r.error) c)))
      ∙ ap (λ (w : FlowControl). cond (ltb o w.consumed) (Some (get_or out o 0)) None) t.flow
      ∙ sym (unheld r ar out o (idle r ar out g c o))
    where
      still : (r.drain ≡ true) ⊎ (is_some r.error ≡ true) → (r.drain ≡ false) × New r s (length bytes) fin o → ⊥
      still (inl d) h = clash (sym d ∙ h.0)
      still (inr d) h = let p = some_is r.error d in omega (arith, nothing_new p.0 p.1, h.1)

  seen_open : r.drain ≡ false → r.error ≡ None → (o : ℕ)
      → seen (wrote r s (length bytes) fin) (new_arena r ar s bytes) out o ≡ first (seen r ar out o) (data_at s bytes o)
  seen_open d e o =
      ap (λ (w : FlowControl). cond (ltb o w.consumed) (Some (get_or out o 0)) (cond (holds now o) (Some (byte_at (new_arena r ar s bytes) o)) None)) t.flow
      ∙ ap (λ (b : Bool). cond (ltb o r.flow.consumed) (Some (get_or out o 0)) (cond (holds now o) (Some (byte_at (cond b ar stored) o)) None)) d
      ∙ go (ltb o r.flow.consumed) refl
    where
      now : List RangeBuf
      now = (wrote r s (length bytes) fin).chunks

      stored : List ℕ
      stored = kept_new r ar s bytes

      fits : 0 < length bytes → s + length bytes ≤ r.off + length ar
      fits h = omega (arith, fits_room r s (length bytes) d ok.room h, g.size)

      body : r.off ≤ o → (h : Bool) → holds r.chunks o ≡ h → (b : Option ℕ) → data_at s bytes o ≡ b
          → cond (holds now o) (Some (byte_at stored o)) None ≡ first (cond h (Some (byte_at ar o)) None) b
      body k true hh b bb = let y = holds_held r.chunks o hh in
          ap (λ (z : Bool). cond z (Some (byte_at stored o)) None) (held_holds now o (held_wrote r s (length bytes) fin d o (inl y)))
          ∙ ap Some (kept_stays r ar s bytes o fits k (omega (arith, g.good.near o y, g.size)) (λ f _ _. f.1 y))
      body k false hh None bb = ap (λ (z : Bool). cond z (Some (byte_at stored o)) None)
          (held_not now o (λ y. either (wrote_held r s (length bytes) fin o y) (holds_not r.chunks o hh)
          (λ z. data_at_none s bytes o bb z.1.1 z.1.2)))
      body k false hh (Some b) bb = let y = data_at_inside s bytes o b bb in
          ap (λ (z : Bool). cond z (Some (byte_at stored o)) None) (held_holds now o (held_wrote r s (length bytes) fin d o (inr (k, y.0, y.1))))
          ∙ ap Some (kept_new_lem r ar s bytes o (omega (arith, g.some_room, g.size)) (fits (omega arith)) (k, holds_not r.chunks o hh) y.0 y.1
          ∙ data_at_is s bytes o b bb)

      go : (z : Bool) → ltb o r.flow.consumed ≡ z → cond z (Some (get_or out o 0)) (cond (holds now o) (Some (byte_at stored o)) None)
          ≡ first (cond z (Some (get_or out o 0)) (cond (holds r.chunks o) (Some (byte_at ar o)) None)) (data_at s bytes o)
      go true z = refl
      go false z = body (omega (arith, ltb-false o r.flow.consumed z, g.live e d)) (holds r.chunks o) refl (data_at s bytes o) refl

  seen_write : (o : ℕ) → seen (wrote r s (length bytes) fin) (new_arena r ar s bytes) out o
      ≡ cond (r.drain || is_some r.error) (seen r ar out o) (first (seen r ar out o) (data_at s bytes o))
  seen_write o = cond_elim (λ (y : Option ℕ). seen (wrote r s (length bytes) fin) (new_arena r ar s bytes) out o ≡ y) (r.drain || is_some r.error)
      (λ c. seen_closed c o)
      (λ c. let p = or_false r.drain (is_some r.error) c in seen_open p.0 (none_is r.error p.1) o)

  -- what is known moves exactly as the RFC's STREAM frame moves it
  pub knows_write : knows (wrote r s (length bytes) fin) (written_arena r ar s bytes fin) out
      ≡ stream (knows r ar out) (record { from = s; bytes = bytes; fin = fin })
  unfolding stream
  knows_write =
      ap (λ (a : List ℕ). knows (wrote r s (length bytes) fin) a out) arena_is
      ∙ known_eq (knows (wrote r s (length bytes) fin) (new_arena r ar s bytes) out)
      (stream (knows r ar out) (record { from = s; bytes = bytes; fin = fin }))
      seen_write t.len t.final
      (ap (λ (w : FlowControl). w.max_data) t.flow) (ap (λ (w : FlowControl). w.consumed) t.flow)
      t.error t.drain

  pub sound_write : Sound (wrote r s (length bytes) fin) (written_arena r ar s bytes fin) out
  sound_write = record {
    good = wrote_good r s (length bytes) fin g.good (length ar) said;
    some_room = subst (λ (a : ℕ). 0 < a) (sym t.room) g.some_room;
    size = ap length arena_is ∙ lengths ∙ g.size ∙ sym t.room;
    all_out = g.all_out ∙ ap (λ (w : FlowControl). w.consumed) (sym t.flow);
    live = λ a b. ap (λ (w : FlowControl). w.consumed) t.flow ∙ g.live (sym t.error ∙ a) (sym t.drain ∙ b)
        ∙ sym (t.off (sym t.drain ∙ b));
    ended = λ code e. over code (sym t.error ∙ e);
  }
    where
      lengths : length (new_arena r ar s bytes) ≡ length ar
      lengths = cond_elim (λ (y : List ℕ). length y ≡ length ar) r.drain (λ e. refl) (λ e. kept_length r ar s bytes)

      over : (code : ℕ) → r.error ≡ Some code
          → ((wrote r s (length bytes) fin).off ≡ (wrote r s (length bytes) fin).len)
          × ((wrote r s (length bytes) fin).fin ≡ Some (wrote r s (length bytes) fin).len)
      over code e =
          let p = g.ended code e in
          let q = ends.in_final r.len p.1 in
          let l : (wrote r s (length bytes) fin).len ≡ r.len = t.len
          ∙ cond_elim (λ (y : ℕ). y ≡ r.len) (ltb 0 (length bytes) || fin) (λ z. omega arith) (λ z. refl) in (
            t.flush p.0 q,
            t.final ∙ cond_elim (λ (y : Option ℕ). y ≡ Some r.len) fin (λ z. ap Some (ends.mark_same r.len p.1 z)) (λ z. p.1)
                ∙ ap Some (sym l),
          )
