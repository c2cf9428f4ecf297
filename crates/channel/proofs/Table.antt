-- When a receiver's table of 64 chunks cannot be full, and what a full one means. Assumes nothing.
--
--   Fair                        a frame whose edges are cuts, except below off or in what is kept
--   Tidy                        the chunks' edges are cuts: kept by an accepted fair frame and by an emit             tidy_wrote, tidy_took
--   not_full                    A ≤ 63 L: no fair frame is refused TableFull
--   not_stalled, fits_at_off    A < 64 L: with nothing ready, no fair frame that brings the byte at off is; nor NoRoom, if it has at most A bytes
--   Stalled                     (no condition) 64 chunks, none at off: so it stays, whatever is written or read        stalled_write, stalled_emit
use Rattle.std.specs.Prelude.{Result, Ok, Err, ⊤}
use mathlib.Core.Path.{◌≡◌, refl, sym, ap, subst, ◌∙◌}
use mathlib.Core.Logic.{◌⊎◌, inl, inr}
use mathlib.Core.Bool.{Bool, true, false, cond, not, ◌&&◌, false≢true}
use mathlib.Core.List.{List, [], ◌∷◌}
use Prim.Native.Nat.{ℕ, ◌+◌, ◌-◌, ◌*◌, ◌≤◌, ◌<◌, max}
use native.Mathlib.Omega.{arith}
use lib.Dec.{ltb, eqb}
use lib.ListN.{length}
use borrow.Author.Tests.{ltb-true, eqb-true, eqb-false, le-ltb}
use Rattle.tables.proofs.Tables.{cases, cond_elim}
use Rattle.refusal.specs.Rules.{M, number_of, known}
use Rattle.refusal.specs.declared.Refusal.{Refusal}
use Rattle.refusal.specs.declared.Refusal.TheVariants.{Offset, FinalSize, FlowControl as OverLimit, NoRoom, TableFull, Done as NothingReady, BadSetup}
use Rattle.range_buf.specs.declared.RangeBuf.{RangeBuf}
use Rattle.range_buf.specs.Rules.{start, end}
use Rattle.recv_buf.specs.State.{Recv, Held, GoodRecv}
use Rattle.recv_buf.specs.Rules.{other_arena, passes_final, no_room, filled, marked_at, chunks_after, no_entry, write_judged, wrote, is_ready, take_judged, took_out, refused_take}
use Rattle.recv_buf.proofs.Lists.{filled_elim, held_ready}
use Rattle.recv_buf.proofs.Frames.{held_after, wrote_elim}
use Rattle.recv_buf.proofs.Kept.{end_fits, Accepted, accepted, Placed, placed, fits_room, fits_table}
use Rattle.channel.proofs.Cuts.{Grid, Edges, filled_edges, marked_edges, left_edges, left_stands, filled_ready, marked_ready, few, few_ready}
use Rattle.tables.proofs.Tests.{either, clash, and_true}

-- ---- the calls

-- a frame of n bytes at s whose edges are cuts, except where they lie below off or in what is kept already; a mark is at `top`
pub record Fair (Cut : ℕ → Type 0) (top : ℕ) (r : Recv) (s n : ℕ) (fin : Bool) : Type 0 where
  pub low : 0 < n → r.off < s → (Held r.chunks s → ⊥) → Cut s
  pub high : 0 < n → r.off < s + n → (Held r.chunks (s + n - 1) → ⊥) → Cut (s + n)
  pub inside : 0 < n → s + n ≤ top
  pub marks : fin ≡ true → Cut (s + n) × (s + n ≡ top)

-- what every call keeps
pub record Tidy (Cut : ℕ → Type 0) (top : ℕ) (r : Recv) : Type 0 where
  pub edges : Edges Cut top r.off r.chunks
  pub stands : Cut r.off ⊎ (is_ready r.chunks r.off ≡ true)

pub tidy_took : (Cut : ℕ → Type 0) (top : ℕ) (r : Recv) (n : ℕ) → GoodRecv r → Tidy Cut top r → Tidy Cut top (took_out r n)
unfolding took_out
tidy_took Cut top r n g t = record {
  edges = left_edges Cut top r.chunks r.off n g.chain t.edges;
  stands = left_stands Cut top r.chunks r.off n g.chain t.edges t.stands;
}

module _ (Cut : ℕ → Type 0) (L top : ℕ) (grid : Grid Cut L top) (r : Recv) (s n : ℕ) (fin : Bool) (g : GoodRecv r) (t : Tidy Cut top r) (f : Fair Cut top r s n fin) where
  after_edges : Edges Cut top r.off (chunks_after r s n fin)
  after_edges = cond_elim (Edges Cut top r.off) (eqb n 0)
      (λ e. cond_elim (Edges Cut top r.off) (not (known r.fin) && fin)
      (λ d. let z = eqb-true n 0 e in
      let p = f.marks (and_true (not (known r.fin)) fin d).1 in
      let q : top ≡ s = omega (arith, p.1) in
      subst (λ (x : ℕ). Edges Cut top r.off (marked_at r.chunks x)) q
      (marked_edges Cut top r.off r.chunks grid.below (subst Cut p.1 p.0) t.edges))
      (λ d. t.edges))
      (λ e. let z : (n ≡ 0) → ⊥ = eqb-false n 0 e in
      filled_edges Cut top r.off r.chunks r.off (max s r.off) (s + n) (omega arith) (omega arith) (f.inside (omega arith)) g.chain t.edges
      (λ h k. cases r.off s
      (λ x. inl (subst Cut (omega arith) (f.low (omega arith) x (λ w. k (subst (Held r.chunks) (omega arith) w)))))
      (λ x. inr (omega arith)))
      (λ h k. f.high (omega arith) (omega arith) k))

  after_stands : Cut r.off ⊎ (is_ready (chunks_after r s n fin) r.off ≡ true)
  after_stands = either t.stands (λ x. inl x)
      (λ x. inr (cond_elim (λ (y : List RangeBuf). is_ready y r.off ≡ true) (eqb n 0)
      (λ e. cond_elim (λ (y : List RangeBuf). is_ready y r.off ≡ true) (not (known r.fin) && fin)
      (λ d. marked_ready r.chunks r.off s x) (λ d. x))
      (λ e. filled_ready r.chunks r.off (max s r.off) (s + n) (omega arith) x)))

  -- an accepted frame
  pub tidy_wrote : r.drain ≡ false → Tidy Cut top (wrote r s n fin)
  tidy_wrote u = wrote_elim r s n fin (Tidy Cut top) u (λ _. t) (record { edges = after_edges; stands = after_stands })

  -- the table is not full, where the chunks that the frame would leave are few
  in_table : passes_final r.fin r.len (s + n) fin ≡ false → no_room r s n ≡ false → (Placed r (s + n) (chunks_after r s n fin) → length (chunks_after r s n fin) ≤ 64)
      → no_entry r s n fin ≡ false
  in_table end_in room bound = go r.drain refl
    where
      go : (d : Bool) → r.drain ≡ d → (not d && ltb 64 (length (chunks_after r s n fin))) ≡ false
      go true x = refl
      go false x =
          le-ltb 64 (length (chunks_after r s n fin))
          (bound (placed r s n fin g (fits_room r s n x room) (end_fits r.fin r.len (s + n) fin end_in).mark_high))

  -- A at most 63 L: no fair frame is refused for the table
  never_full : r.room ≤ 63 * L → passes_final r.fin r.len (s + n) fin ≡ false → no_room r s n ≡ false → no_entry r s n fin ≡ false
  never_full a end_in room =
      in_table end_in room (λ p. few Cut L top grid r.off r.room (chunks_after r s n fin) a p.chain after_edges p.near)

  -- A below 64 L: where nothing is ready, no fair frame that brings the byte at off is
  unblocks : r.room < 64 * L → is_ready r.chunks r.off ≡ false → s ≤ r.off → r.off < s + n
      → passes_final r.fin r.len (s + n) fin ≡ false → no_room r s n ≡ false → no_entry r s n fin ≡ false
  unblocks a idle lo hi end_in room =
      in_table end_in room
      (λ p. few_ready Cut L top grid r.off r.room (chunks_after r s n fin) a (either t.stands (λ x. x) (λ x. clash (sym x ∙ idle)))
      (held_ready (chunks_after r s n fin) r.off p.chain brought) after_edges p.near)
    where
      brought : Held (chunks_after r s n fin) r.off
      brought = held_after r s n fin r.off (inr (omega arith, lo, hi))

-- ---- in terms of the answers

-- what a refusal tells: the tests of others before it failed, and its own holds
refused_later : (t : Bool) (why other : Refusal) (rest : Result ⊤ Refusal) → (number_of why ≡ number_of other → ⊥) → cond t (Err why) rest ≡ Err other
    → (t ≡ false) × (rest ≡ Err other)
refused_later true why other rest ne e = let w : why ≡ other = cc in absurd (ne (ap number_of w))
refused_later false why other rest ne e = (refl, e)

refused_here : (t u : Bool) (why other : Refusal) → (number_of other ≡ number_of why → ⊥) → ◌≡◌ {A = Result ⊤ Refusal} (cond t (Err why) (cond u (Err other) (Ok tt))) (Err why) → t ≡ true
refused_here true u why other ne e = refl
refused_here false true why other ne e = let w : other ≡ why = cc in absurd (ne (ap number_of w))
refused_here false false why other ne e = let z : ◌≡◌ {A = ℕ} 0 1 = cc in absurd (omega arith)

module _ (r : Recv) (a s n : ℕ) (fin : Bool) where
  -- a frame is answered NoRoom or TableFull, 5 or 6, only if it passed the tests before
  late : (why : Refusal) → 4 < number_of why → number_of why < 7 → write_judged r a s n fin ≡ Err why
      → (passes_final r.fin r.len (s + n) fin ≡ false) × ◌≡◌ {A = Result ⊤ Refusal} (cond (no_room r s n) (Err NoRoom) (cond (no_entry r s n fin) (Err TableFull) (Ok tt))) (Err why)
  unfolding write_judged
  late why l h e =
      let e₁ = refused_later (other_arena r a) BadSetup why _ (λ p. omega arith) e in
      let e₂ = refused_later (ltb M (s + n)) Offset why _ (λ p. omega arith) e₁.1 in
      let e₃ = refused_later (ltb r.flow.max_data (s + n)) OverLimit why _ (λ p. omega arith) e₂.1 in
      refused_later (passes_final r.fin r.len (s + n) fin) FinalSize why _ (λ p. omega arith) e₃.1

  answered_full : write_judged r a s n fin ≡ Err TableFull
      → (passes_final r.fin r.len (s + n) fin ≡ false) × (no_room r s n ≡ false) × (no_entry r s n fin ≡ true)
  answered_full e =
      let p = late TableFull (omega arith) (omega arith) e in
      let q = refused_later (no_room r s n) NoRoom TableFull _ (λ p. omega arith) p.1 in
      (p.0, q.0, refused_here (no_entry r s n fin) false TableFull NoRoom (λ p. omega arith) q.1)

  answered_room : write_judged r a s n fin ≡ Err NoRoom → no_room r s n ≡ true
  answered_room e = refused_here (no_room r s n) (no_entry r s n fin) NoRoom TableFull (λ p. omega arith) (late NoRoom (omega arith) (omega arith) e).1

  -- a frame at or below off that is no longer than A always fits the arena
  pub fits_at_off : s ≤ r.off → n ≤ r.room → write_judged r a s n fin ≡ Err NoRoom → ⊥
  fits_at_off h k e =
      let p = and_true (not r.drain) (ltb 0 n && ltb r.room (s + n - r.off)) (answered_room e) in
      let q = and_true (ltb 0 n) (ltb r.room (s + n - r.off)) p.1 in
      omega (arith, ltb-true r.room (s + n - r.off) q.1)

  module _ (Cut : ℕ → Type 0) (L top : ℕ) (grid : Grid Cut L top) (g : GoodRecv r) (t : Tidy Cut top r) (f : Fair Cut top r s n fin) where
    -- THE CONDITION: frames whose edges are cuts at least L apart, and A at most 63 L: no frame is ever answered TableFull
    pub not_full : r.room ≤ 63 * L → write_judged r a s n fin ≡ Err TableFull → ⊥
    not_full room e =
        let p = answered_full e in
        false≢true (sym (never_full Cut L top grid r s n fin g t f room p.0 p.1) ∙ p.2)

    -- A below 64 L: with nothing ready, the frame that brings the byte at off is not
    pub not_stalled : r.room < 64 * L → is_ready r.chunks r.off ≡ false → s ≤ r.off → r.off < s + n → write_judged r a s n fin ≡ Err TableFull → ⊥
    not_stalled room idle lo hi e =
        let p = answered_full e in
        false≢true (sym (unblocks Cut L top grid r s n fin g t f room idle lo hi p.0 p.1) ∙ p.2)

-- ---- without any condition

-- every chunk holds bytes, or ends above hi: an end mark out of reach
abbrev pub Lasting : ℕ → List RangeBuf → Type 0
Lasting hi [] = Unit {0}
Lasting hi (c ∷ cs) = ((start c < end c) ⊎ (hi < end c)) × Lasting hi cs

-- a frame that brings a byte needs a chunk more
filled_grows : (cs : List RangeBuf) (lo hi top : ℕ) → hi ≤ top → Lasting top cs → (filled cs lo hi ≡ cs) ⊎ (length cs < length (filled cs lo hi))
filled_grows [] lo hi top h g = cond_elim (λ (x : List RangeBuf). (x ≡ []) ⊎ (0 < length x)) (ltb lo hi) (λ e. inr (omega arith)) (λ e. inl refl)
filled_grows (c ∷ cs) lo hi top h g =
    let ih = filled_grows cs (max lo (end c)) hi top h g.1 in
    filled_elim (λ (x : List RangeBuf). (x ≡ c ∷ cs) ⊎ (length (c ∷ cs) < length x)) c cs lo hi
    (λ x y. inl refl)
    (λ x y z. either g.0 (λ w. absurd (omega arith)) (λ w. absurd (omega arith)))
    (λ x y z. inr (omega arith))
    (λ x y. either ih (λ e. inr (omega (arith, ap length e))) (λ k. inr (omega arith)))
    (λ x y. either ih (λ e. inl (ap (λ (l : List RangeBuf). c ∷ l) e)) (λ k. inr (omega arith)))

marked_grows : (cs : List RangeBuf) (f : ℕ) → (marked_at cs f ≡ cs) ⊎ (length cs < length (marked_at cs f))
marked_grows [] f = inr (omega arith)
marked_grows (c ∷ cs) f = cond_elim (λ (x : List RangeBuf). (x ≡ c ∷ cs) ⊎ (length (c ∷ cs) < length x)) (eqb (end c) f)
    (λ e. inl refl)
    (λ e. either (marked_grows cs f) (λ d. inl (ap (λ (l : List RangeBuf). c ∷ l) d)) (λ h. inr (omega arith)))

-- 64 chunks, each of bytes or an end mark beyond the window, and none at off
pub record Stalled (r : Recv) : Type 0 where
  pub full : length r.chunks ≡ 64
  pub lasting : Lasting (r.off + r.room) r.chunks
  pub idle : is_ready r.chunks r.off ≡ false
  pub unshut : r.drain ≡ false

-- it stays so for ever: no accepted frame changes the chunks or off
pub stalled_write : (r : Recv) (a s n : ℕ) (fin : Bool) → Stalled r → write_judged r a s n fin ≡ Ok tt
    → ((wrote r s n fin).chunks ≡ r.chunks) × ((wrote r s n fin).off ≡ r.off) × Stalled (wrote r s n fin)
stalled_write r a s n fin g said =
    wrote_elim r s n fin (λ (y : Recv). (y.chunks ≡ r.chunks) × (y.off ≡ r.off) × Stalled y) g.unshut (λ _. (refl, refl, g)) (
      same,
      refl,
      record {
        full = ap length same ∙ g.full;
        lasting = subst (Lasting (r.off + r.room)) (sym same) g.lasting;
        idle = ap (λ (y : List RangeBuf). is_ready y r.off) same ∙ g.idle;
        unshut = g.unshut;
      },
    )
  where
    ok : Accepted r a s n fin
    ok = accepted r a s n fin said

    grown : (chunks_after r s n fin ≡ r.chunks) ⊎ (length r.chunks < length (chunks_after r s n fin))
    grown = cond_elim (λ (y : List RangeBuf). (y ≡ r.chunks) ⊎ (length r.chunks < length y)) (eqb n 0)
        (λ _. cond_elim (λ (y : List RangeBuf). (y ≡ r.chunks) ⊎ (length r.chunks < length y)) (not (known r.fin) && fin)
        (λ _. marked_grows r.chunks s) (λ _. inl refl))
        (λ e. let z : (n ≡ 0) → ⊥ = eqb-false n 0 e in
        filled_grows r.chunks (max s r.off) (s + n) (r.off + r.room) (fits_room r s n g.unshut ok.room (omega arith)) g.lasting)

    same : chunks_after r s n fin ≡ r.chunks
    same = either grown (λ d. d) (λ d. absurd (omega (arith, fits_table r s n fin g.unshut ok.entry, g.full)))

-- and nothing can be handed out: an emit or a discard of any room answers Done, and leaves the state
pub stalled_emit : (r : Recv) (n : ℕ) → Stalled r → (take_judged r n ≡ Err NothingReady) × (refused_take r ≡ r)
unfolding take_judged
stalled_emit r n g = (rw g.idle, rw g.idle)
