-- Every receive buffer that came from creation or a call is good: what a caller needs to make the next call. Assumes nothing.
--
-- First over numbers and lists, each effect where the call is accepted (`new_good` to `flow_good`); then each contract's buffer, accepted or refused.
use Rattle.std.specs.Prelude.{Ok, Err, Option, Some, None, ⊤}
use mathlib.Core.Path.{◌≡◌, refl, sym, ap, subst, ◌∙◌}
use mathlib.Core.Bool.{Bool, true, false, cond, not, ◌&&◌, ◌||◌, false≢true}
use mathlib.Core.List.{List, []}
use Prim.Native.Nat.{ℕ, ◌+◌, ◌-◌, ◌≤◌, ◌<◌, max}
use native.Mathlib.Nat.{add-zero}
use native.Mathlib.Omega.{arith}
use borrow.Author.Tests.{ltb-false, eqb-true, not-false}
use lib.Dec.{ltb, eqb}
use lib.ListN.{length}
use Rattle.tables.proofs.Tables.{cond_elim}
use Rattle.tables.proofs.Tests.{either, clash, and_true, and-false, or_false}
use Rattle.refusal.specs.declared.Refusal.TheVariants.{Offset, FinalSize, FlowControl as OverLimit, NoRoom, TableFull, Done as NothingReady, BadSetup}
use Rattle.refusal.specs.declared.Outcome.{Outcome}
use Rattle.refusal.specs.Rules.{M, known, fin_with}
use Rattle.refusal.proofs.Chain.{passes}
use Rattle.refusal.proofs.Answers.{after_elim}
use Rattle.arena.proofs.Places.{right_arena}
use Rattle.range_buf.specs.declared.RangeBuf.{RangeBuf}
use Rattle.flowcontrol.specs.declared.FlowControl.{FlowControl}
use Rattle.flowcontrol.specs.State.{Good as GoodFlow}
use Rattle.flowcontrol.proofs.Kept.{fresh_good, consumed_good, committed_good, autotuned_good}
use Rattle.recv_buf.specs.declared.RecvBuf.{RecvBuf}
use Rattle.recv_buf.specs.State.{Recv, Chain, Within, Held, GoodRecv, Good}
use Rattle.recv_buf.specs.Rules.{other_arena, is_ready, with_chunks, with_ends, with_flow, with_closed, new_recv, bad_numbers, created, passes_final, no_room, chunks_after, no_entry, write_judged, wrote, written, takes, left_over, unless_reset, take_judged, took_out, refused_take, discarded, emitted, reset_judged, was_reset, resets, shuts, commits, autotunes, flow_back}
use Rattle.recv_buf.proofs.Lists.{within_weaken, filled_chain, filled_within, marked_chain, marked_within, left_chain, left_within, left_held, left_length, taken_within}
use Rattle.recv_buf.proofs.Frames.{after_held}
use Rattle.recv_buf.proofs.Good.{good_buf as good_of}

-- ---- creation

pub new_good : (A limit maximum : ℕ) → A ≤ 65536 → limit ≤ M → maximum ≤ M → GoodRecv (new_recv A limit maximum)
new_good A limit maximum a l m = record {
  room_in = a;
  chain = tt;
  within = tt;
  near = λ o h. absurd h;
  off_len = omega arith;
  len_in = omega arith;
  few = omega arith;
  fin_len = λ f e. let z : ◌≡◌ {A = ℕ} 0 1 = cc in absurd (omega arith);
  shut_none = λ e. refl;
  shut_off = λ e. refl;
  flow_good = fresh_good limit limit maximum l m;
}

-- ---- write

-- a frame that passes the test on the final size: what it says of len, and of a final size known before
pub record EndFits (fin : Option ℕ) (len e : ℕ) (marked : Bool) : Type 0 where
  pub mark_high : marked ≡ true → len ≤ e
  pub in_final : (f : ℕ) → fin ≡ Some f → e ≤ f
  pub mark_same : (f : ℕ) → fin ≡ Some f → marked ≡ true → e ≡ f

pub end_fits : (fin : Option ℕ) (len e : ℕ) (marked : Bool) → passes_final fin len e marked ≡ false → EndFits fin len e marked
end_fits None len e false h = record {
  mark_high = λ d. absurd (false≢true d);
  in_final = λ f d. let z : ◌≡◌ {A = ℕ} 0 1 = cc in absurd (omega arith);
  mark_same = λ f d b. absurd (false≢true b);
}
end_fits None len e true h = record {
  mark_high = λ d. ltb-false e len h;
  in_final = λ f d. let z : ◌≡◌ {A = ℕ} 0 1 = cc in absurd (omega arith);
  mark_same = λ f d b. let z : ◌≡◌ {A = ℕ} 0 1 = cc in absurd (omega arith);
}
end_fits (Some y) len e false h =
    let p = or_false (ltb y e || false) false h in
    let q = or_false (ltb y e) false p.0 in record {
      mark_high = λ d. absurd (false≢true d);
      in_final = λ f d. let w : y ≡ f = cc in omega (arith, ltb-false y e q.0);
      mark_same = λ f d b. absurd (false≢true b);
    }
end_fits (Some y) len e true h =
    let p = or_false (ltb y e || not (eqb e y)) (ltb e len) h in
    let q = or_false (ltb y e) (not (eqb e y)) p.0 in record {
      mark_high = λ d. ltb-false e len p.1;
      in_final = λ f d. let w : y ≡ f = cc in omega (arith, ltb-false y e q.0);
      mark_same = λ f d b. let w : y ≡ f = cc in eqb-true e y (not-false (eqb e y) q.1) ∙ w;
    }

-- then the final size is still the highest end
fin_is_top : (fin : Option ℕ) (len e : ℕ) (marked : Bool) → EndFits fin len e marked → ((f : ℕ) → fin ≡ Some f → len ≡ f)
    → (f : ℕ) → fin_with fin e marked ≡ Some f → max len e ≡ f
fin_is_top fin len e true h k f d = let w : e ≡ f = cc in omega (arith, h.mark_high refl)
fin_is_top fin len e false h k f d = omega (arith, k f d, h.in_final f d)

-- what an accepted frame passed
pub record Accepted (r : Recv) (a s n : ℕ) (fin : Bool) : Type 0 where
  pub some_room : 0 < a
  pub size : a ≡ r.room
  pub top : s + n ≤ M
  pub credit : s + n ≤ r.flow.max_data
  pub final : passes_final r.fin r.len (s + n) fin ≡ false
  pub room : no_room r s n ≡ false
  pub entry : no_entry r s n fin ≡ false

pub accepted : (r : Recv) (a s n : ℕ) (fin : Bool) → write_judged r a s n fin ≡ Ok tt → Accepted r a s n fin
unfolding write_judged
accepted r a s n fin e =
    let e₁ = passes (other_arena r a) BadSetup _ e in
    let e₂ = passes (ltb M (s + n)) Offset _ e₁.1 in
    let e₃ = passes (ltb r.flow.max_data (s + n)) OverLimit _ e₂.1 in
    let e₄ = passes (passes_final r.fin r.len (s + n) fin) FinalSize _ e₃.1 in
    let e₅ = passes (no_room r s n) NoRoom _ e₄.1 in
    let e₆ = passes (no_entry r s n fin) TableFull _ e₅.1 in record {
      some_room = (right_arena r.room a e₁.0).0;
      size = (right_arena r.room a e₁.0).1;
      top = ltb-false M (s + n) e₂.0;
      credit = ltb-false r.flow.max_data (s + n) e₃.0;
      final = e₄.0;
      room = e₅.0;
      entry = e₆.0;
    }

-- the chunks of a kept frame that ends at e
pub record Placed (r : Recv) (e : ℕ) (cs : List RangeBuf) : Type 0 where
  pub chain : Chain r.off cs
  pub within : Within (max r.len e) cs
  pub near : (o : ℕ) → Held cs o → o < r.off + r.room

-- the frame's bytes lie within a window of A from off on
pub fits_room : (r : Recv) (s n : ℕ) → r.drain ≡ false → no_room r s n ≡ false → 0 < n → s + n ≤ r.off + r.room
fits_room r s n u e h = either (and-false (not r.drain) (ltb 0 n && ltb r.room (s + n - r.off)) e)
    (λ x. clash (sym (not-false r.drain x) ∙ u))
    (λ x. either (and-false (ltb 0 n) (ltb r.room (s + n - r.off)) x)
    (λ y. absurd (omega (arith, ltb-false 0 n y)))
    (λ y. omega (arith, ltb-false r.room (s + n - r.off) y)))

-- and its chunks fit the table
pub fits_table : (r : Recv) (s n : ℕ) (fin : Bool) → r.drain ≡ false → no_entry r s n fin ≡ false → length (chunks_after r s n fin) ≤ 64
fits_table r s n fin u e = either (and-false (not r.drain) (ltb 64 (length (chunks_after r s n fin))) e)
    (λ x. clash (sym (not-false r.drain x) ∙ u))
    (λ x. ltb-false 64 (length (chunks_after r s n fin)) x)

module _ (r : Recv) (s n : ℕ) (fin : Bool) (g : GoodRecv r) where
  wider : Within (max r.len (s + n)) r.chunks
  wider = within_weaken r.len (max r.len (s + n)) r.chunks (omega arith) g.within

  pub placed : (0 < n → s + n ≤ r.off + r.room) → (fin ≡ true → r.len ≤ s + n) → Placed r (s + n) (chunks_after r s n fin)
  placed fits high = record {
    chain = both.0;
    within = both.1;
    near = λ o h. either (after_held r s n fin o h) (g.near o) (λ p. omega (arith, fits (omega arith)));
  }
    where
      top : ℕ
      top = max r.len (s + n)

      both : Chain r.off (chunks_after r s n fin) × Within top (chunks_after r s n fin)
      both = cond_elim (λ (cs : List RangeBuf). Chain r.off cs × Within top cs) (eqb n 0)
          (λ e. cond_elim (λ (cs : List RangeBuf). Chain r.off cs × Within top cs) (not (known r.fin) && fin)
          (λ d. let l = high (and_true (not (known r.fin)) fin d).1 in let z = eqb-true n 0 e in (
            marked_chain r.chunks r.off s (omega (arith, g.off_len)) (within_weaken r.len s r.chunks (omega arith) g.within) g.chain,
            marked_within r.chunks top s (omega arith) wider,
          ))
          (λ d. (g.chain, wider)))
          (λ e. (
            filled_chain r.chunks r.off (max s r.off) (s + n) (omega arith) g.chain,
            filled_within r.chunks top (max s r.off) (s + n) (omega arith) wider,
          ))

  pub wrote_good : (a : ℕ) → write_judged r a s n fin ≡ Ok tt → GoodRecv (wrote r s n fin)
  unfolding wrote
  wrote_good a said = go (eqb n 0 && not fin) r.drain refl
    where
      ok : Accepted r a s n fin
      ok = accepted r a s n fin said

      ends : EndFits r.fin r.len (s + n) fin
      ends = end_fits r.fin r.len (s + n) fin ok.final

      top : ℕ
      top = max r.len (s + n)

      fin' : Option ℕ
      fin' = fin_with r.fin (s + n) fin

      go : (b d : Bool) → r.drain ≡ d
          → GoodRecv (cond b r (cond d (with_ends r top top fin') (with_ends (with_chunks r (chunks_after r s n fin)) r.off top fin')))
      go true d y = g
      go false true y = let e = sym (g.shut_none y) in record {
        room_in = g.room_in;
        chain = subst (Chain top) e tt;
        within = subst (Within top) e tt;
        near = subst (λ (cs : List RangeBuf). (o : ℕ) → Held cs o → o < top + r.room) e (λ o h. absurd h);
        off_len = omega arith;
        len_in = omega (arith, g.len_in, ok.top);
        few = g.few;
        fin_len = fin_is_top r.fin r.len (s + n) fin ends g.fin_len;
        shut_none = g.shut_none;
        shut_off = λ z. refl;
        flow_good = g.flow_good;
      }
      go false false y = let p = placed (fits_room r s n y ok.room) ends.mark_high in record {
        room_in = g.room_in;
        chain = p.chain;
        within = p.within;
        near = p.near;
        off_len = omega (arith, g.off_len);
        len_in = omega (arith, g.len_in, ok.top);
        few = fits_table r s n fin y ok.entry;
        fin_len = fin_is_top r.fin r.len (s + n) fin ends g.fin_len;
        shut_none = λ z. clash (sym z ∙ y);
        shut_off = λ z. clash (sym z ∙ y);
        flow_good = g.flow_good;
      }

-- ---- emit and discard

pub took_in : (r : Recv) (n : ℕ) → take_judged r n ≡ Ok tt → r.flow.consumed + takes r n ≤ M
unfolding take_judged
took_in r n e = go r.error (passes (not (is_ready r.chunks r.off)) NothingReady _ e).1
  where
    go : (f : Option ℕ) → unless_reset f (cond (ltb M (r.flow.consumed + takes r n)) (Err Offset) (Ok tt)) ≡ Ok tt
        → r.flow.consumed + takes r n ≤ M
    go None d = ltb-false M (r.flow.consumed + takes r n) (passes (ltb M (r.flow.consumed + takes r n)) Offset (Ok tt) d).0
    go (Some code) d = let z : ◌≡◌ {A = ℕ} 0 1 = cc in absurd (omega arith)

module _ (r : Recv) (g : GoodRecv r) where
  pub took_out_good : (n : ℕ) → take_judged r n ≡ Ok tt → GoodRecv (took_out r n)
  unfolding took_out
  took_out_good n said = record {
    room_in = g.room_in;
    chain = left_chain r.chunks r.off n g.chain;
    within = left_within r.chunks r.len r.off n g.within;
    near = λ o h. omega (arith, g.near o (left_held r.chunks r.off n o h));
    off_len = taken_within r.chunks r.len r.off n g.chain g.within g.off_len;
    len_in = g.len_in;
    few = omega (arith, g.few, left_length r.chunks r.off n);
    fin_len = g.fin_len;
    shut_none = λ e. ap (λ (cs : List RangeBuf). left_over cs r.off n) (g.shut_none e);
    shut_off = λ e. ap (λ (k : ℕ). r.off + k) (nothing e) ∙ add-zero r.off ∙ g.shut_off e;
    flow_good = consumed_good r.flow g.flow_good _ (omega (arith, took_in r n said));
  }
    where
      nothing : r.drain ≡ true → takes r n ≡ 0
      nothing e = rw (g.shut_none e)

  -- without its chunks
  cleared_good : GoodRecv (with_chunks r [])
  cleared_good = record {
    room_in = g.room_in;
    chain = tt;
    within = tt;
    near = λ o h. absurd h;
    off_len = g.off_len;
    len_in = g.len_in;
    few = omega arith;
    fin_len = g.fin_len;
    shut_none = λ e. refl;
    shut_off = g.shut_off;
    flow_good = g.flow_good;
  }

  pub refused_take_good : GoodRecv (refused_take r)
  refused_take_good = cond_elim GoodRecv (is_ready r.chunks r.off && known r.error) (λ e. cleared_good) (λ e. g)

  -- ---- reset, shutdown, the window

  pub reset_good : (code size : ℕ) → reset_judged r size ≡ Ok tt → GoodRecv (was_reset r code size)
  unfolding reset_judged was_reset
  reset_good code size said =
      let top = ltb-false M size (passes (ltb M size) Offset _ said).0 in
      cond_elim GoodRecv (known r.error) (λ e. g) (λ e. record {
        room_in = g.room_in;
        chain = cond_elim (Chain size) r.drain (λ y. tt) (λ y. (omega arith, omega arith, tt));
        within = cond_elim (Within size) r.drain (λ y. tt) (λ y. (omega arith, tt));
        near = λ o. cond_elim (λ (cs : List RangeBuf). Held cs o → o < size + r.room) r.drain (λ y h. absurd h)
            (λ y h. either h (λ p. omega arith) (λ z. absurd z));
        off_len = omega arith;
        len_in = top;
        few = cond_elim (λ (cs : List RangeBuf). length cs ≤ 64) r.drain (λ y. omega arith) (λ y. omega arith);
        fin_len = λ y z. cc;
        shut_none = λ y. rw y;
        shut_off = λ y. refl;
        flow_good = g.flow_good;
      })

  pub shut_good : GoodRecv (with_closed (with_ends (with_chunks r []) r.len r.len r.fin) r.error true)
  shut_good = record {
    room_in = g.room_in;
    chain = tt;
    within = tt;
    near = λ o h. absurd h;
    off_len = omega arith;
    len_in = g.len_in;
    few = omega arith;
    fin_len = g.fin_len;
    shut_none = λ y. refl;
    shut_off = λ y. refl;
    flow_good = g.flow_good;
  }

  pub flow_good : (w : FlowControl) → GoodFlow w → GoodRecv (with_flow r w)
  flow_good w h = record {
    room_in = g.room_in;
    chain = g.chain;
    within = g.within;
    near = g.near;
    off_len = g.off_len;
    len_in = g.len_in;
    few = g.few;
    fin_len = g.fin_len;
    shut_none = g.shut_none;
    shut_off = g.shut_off;
    flow_good = h;
  }

-- ---- the buffer of each contract

-- a refused creation hands back a dead buffer, and it is good too
pub created_good : (limit maximum A : ℕ) → Good (created limit maximum A).state
unfolding created
created_good limit maximum A = cond_elim (λ (o : Outcome ⊤ RecvBuf). Good o.state) (bad_numbers limit maximum A)
    (λ e. good_of (new_recv 0 0 0) (new_good 0 0 0 (omega arith) (omega arith) (omega arith)))
    (λ e. let p = or_false (eqb A 0 || ltb 65536 A || ltb M limit) (ltb M maximum) e in
    let q = or_false (eqb A 0 || ltb 65536 A) (ltb M limit) p.0 in
    let t = or_false (eqb A 0) (ltb 65536 A) q.0 in
    good_of (new_recv A limit maximum) (new_good A limit maximum (ltb-false 65536 A t.1) (ltb-false M limit q.1) (ltb-false M maximum p.1)))

module _ (r : Recv) (g : GoodRecv r) where
  pub written_good : (a s n : ℕ) (fin : Bool) → Good (written r a s n fin).state
  unfolding written
  written_good a s n fin = good_of _ (after_elim GoodRecv (write_judged r a s n fin) (wrote_good r s n fin g a) g)

  pub discarded_good : (n : ℕ) → Good (discarded r n).state
  unfolding discarded
  discarded_good n = good_of _ (after_elim GoodRecv (take_judged r n) (took_out_good r g n) (refused_take_good r g))

  pub emitted_good : (a n : ℕ) → Good (emitted r a n).state
  unfolding emitted
  emitted_good a n = cond_elim (λ (o : Outcome (ℕ × Bool) RecvBuf). Good o.state) (other_arena r a) (λ e. good_of r g) (λ e. discarded_good n)

  pub resets_good : (code size : ℕ) → Good (resets r code size).state
  unfolding resets
  resets_good code size = good_of _ (after_elim GoodRecv (reset_judged r size) (reset_good r g code size) g)

  pub shuts_good : Good (shuts r).state
  unfolding shuts
  shuts_good = cond_elim (λ (o : Outcome ℕ RecvBuf). Good o.state) r.drain (λ e. good_of r g) (λ e. good_of _ (shut_good r g))

  pub commits_good : (now : ℕ) → Good (commits r now)
  unfolding commits
  commits_good now = good_of _ (flow_good r g _ (committed_good r.flow g.flow_good now))

  pub autotunes_good : (now rtt : ℕ) → Good (autotunes r now rtt)
  unfolding autotunes
  autotunes_good now rtt = good_of _ (flow_good r g _ (autotuned_good r.flow g.flow_good now rtt))

  pub flow_back_good : (w : FlowControl) → GoodFlow w → Good (flow_back r w)
  unfolding flow_back
  flow_back_good w h = good_of _ (flow_good r g w h)
