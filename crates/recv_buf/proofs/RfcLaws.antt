-- Laws of Rfc9000 alone, so that its definitions can be trusted: an event that breaks no rule leaves a known final size as it is, and what is known coherent.
-- Assumes nothing.
use Rattle.std.specs.Prelude.{Option, Some, None}
use mathlib.Core.Path.{◌≡◌, refl, sym, ap, ◌∙◌}
use mathlib.Core.Logic.{inl, inr}
use mathlib.Core.Bool.{Bool, true, false, cond, ◌||◌}
use mathlib.Core.List.{List, [], ◌∷◌}
use Prim.Native.Nat.{ℕ, zero, suc, ◌+◌, ◌-◌, ◌≤◌, ◌<◌, max}
use native.Mathlib.Omega.{arith}
use native.Mathlib.Decide.{ℕ_discrete}
use borrow.Author.Tests.{ltb-true, eqb-true, eqb-false, lt-ltb, ne_eqb}
use lib.Dec.{ltb, eqb}
use lib.ListN.{length, get_or}
use Rattle.tables.proofs.Tables.{cases, cond_elim}
use Rattle.tables.proofs.Tests.{either, clash, or-true, or_false}
use Rattle.recv_buf.specs.Rfc9000.{Known, opened, Frame, end_of, Tells, FlowControlError, data_over, size_over, FinalSizeError, changed, beyond, short, data_at, first, is_some, closed, stream, reset_changed, reset_short, taken_only, reset_stream, more, ordered, reading, abort, advertise, Event, stream_frame, reset_frame, read_up_to, give_up, max_stream_data, effect, history, Breaks, Lawful}
use Rattle.recv_buf.specs.RfcAgreement.{Coherent}

-- a number that may be missing
pub some_is : (o : Option ℕ) → is_some o ≡ true → (x : ℕ) × (o ≡ Some x)
some_is None e = clash (sym e)
some_is (Some x) e = (x, refl)

pub none_is : (o : Option ℕ) → is_some o ≡ false → o ≡ None
none_is None e = refl
none_is (Some x) e = clash e

-- the bytes of a frame
pub data_at_below : (s : ℕ) (bs : List ℕ) (o : ℕ) → o < s → data_at s bs o ≡ None
data_at_below s [] o h = refl
data_at_below s (b ∷ bs) o h = ap (λ (t : Bool). cond t (Some b) (data_at (suc s) bs o)) (ne_eqb s o (λ e. omega arith))
    ∙ data_at_below (suc s) bs o (omega arith)

pub data_at_inside : (s : ℕ) (bs : List ℕ) (o b : ℕ) → data_at s bs o ≡ Some b → (s ≤ o) × (o < s + length bs)
data_at_inside s [] o b = λ e. let z : ◌≡◌ {A = ℕ} 0 1 = cc in absurd (omega arith)
data_at_inside s (c ∷ bs) o b = cond_elim (λ (x : Option ℕ). x ≡ Some b → (s ≤ o) × (o < s + length (c ∷ bs))) (eqb s o)
    (λ t e. omega (arith, eqb-true s o t))
    (λ t e. let p = data_at_inside (suc s) bs o b e in omega arith)

-- byte by byte: offset s + i has the byte at i
pub data_at_is : (s : ℕ) (bs : List ℕ) (o b : ℕ) → data_at s bs o ≡ Some b → get_or bs (o - s) 0 ≡ b
data_at_is s [] o b = λ e. let z : ◌≡◌ {A = ℕ} 0 1 = cc in absurd (omega arith)
data_at_is s (c ∷ bs) o b = cond_elim (λ (x : Option ℕ). x ≡ Some b → get_or (c ∷ bs) (o - s) 0 ≡ b) (eqb s o)
    (λ t e. let w : o - s ≡ 0 = omega (arith, eqb-true s o t) in let z : c ≡ b = cc in ap (λ (i : ℕ). get_or (c ∷ bs) i 0) w ∙ z)
    (λ t e. let p = data_at_inside (suc s) bs o b e in let w : o - s ≡ suc (o - suc s) = omega arith in
    ap (λ (i : ℕ). get_or (c ∷ bs) i 0) w ∙ data_at_is (suc s) bs o b e)

pub data_at_none : (s : ℕ) (bs : List ℕ) (o : ℕ) → data_at s bs o ≡ None → s ≤ o → o < s + length bs → ⊥
data_at_none s [] o = λ e h k. omega arith
data_at_none s (c ∷ bs) o = cond_elim (λ (x : Option ℕ). x ≡ None → s ≤ o → o < s + length (c ∷ bs) → ⊥) (eqb s o)
    (λ t e h k. let z : ◌≡◌ {A = ℕ} 0 1 = cc in omega arith)
    (λ t e h k. let n = eqb-false s o t in data_at_none (suc s) bs o e (omega arith) (omega arith))

-- of a frame that tells something, 4.1 is broken exactly if its end is above the limit
pub over_limit_lem : (k : Known) (f : Frame) → Tells f → k.limit < end_of f → FlowControlError k f
over_limit_lem k f (inl h) l = data_over (max f.from k.limit) (omega arith, omega arith) (omega arith)
over_limit_lem k f (inr h) l = size_over h l

pub limit_over : (k : Known) (f : Frame) → FlowControlError k f → k.limit < end_of f
limit_over k f (data_over o b h) = omega arith
limit_over k f (size_over h l) = l

-- and its end past a known final size is always an error
pub past_final : (k : Known) (f : Frame) → Tells f → (x : ℕ) → k.final ≡ Some x → x < end_of f → FinalSizeError k f
past_final k f (inl h) x e l = beyond x (max f.from x) e (omega arith, omega arith) (omega arith)
past_final k f (inr h) x e l = changed x e h (λ z. omega arith)

-- ---- 4.5: once a final size is known it does not change

pub final_stays : (k : Known) (e : Event) (x : ℕ) → (Breaks k e → ⊥) → k.final ≡ Some x → (effect k e).final ≡ Some x
unfolding stream reset_stream reading abort advertise
final_stays k (stream_frame f) x h e = cond_elim (λ (y : Option ℕ). y ≡ Some x) f.fin
    (λ t. elim (ℕ_discrete (end_of f) x) [ yes w ↦ ap Some w | no n ↦ absurd (h (inr (inr (changed x e t n)))) ])
    (λ t. e)
final_stays k (reset_frame code size) x h e = cond_elim (λ (y : Known). y.final ≡ Some x) (is_some k.reset)
    (λ t. e)
    (λ t. elim (ℕ_discrete size x) [ yes w ↦ ap Some w | no n ↦ absurd (h (inl (reset_changed x e n))) ])
final_stays k (read_up_to n) x h e = e
final_stays k give_up x h e = e
final_stays k (max_stream_data v) x h e = e

-- ---- what is known is coherent

pub coherent_opened : (l : ℕ) → Coherent (opened l)
unfolding opened
coherent_opened l = record {
  inside = λ o b e. let z : ◌≡◌ {A = ℕ} 0 1 = cc in absurd (omega arith);
  credit = omega arith;
  settled = λ x e. let z : ◌≡◌ {A = ℕ} 0 1 = cc in absurd (omega arith);
  whole = λ o h. absurd (omega arith);
}

tells_of : (f : Frame) → (ltb 0 (length f.bytes) || f.fin) ≡ true → Tells f
tells_of f e = either (or-true (ltb 0 (length f.bytes)) f.fin e) (λ x. inl (ltb-true 0 (length f.bytes) x)) (λ x. inr x)

ordered_known : (byte : ℕ → Option ℕ) (o n q : ℕ) → o ≤ q → q < o + length (ordered byte o n) → is_some (byte q) ≡ true
ordered_known byte o zero q a b = absurd (omega arith)
ordered_known byte o (suc n) q a b = go (byte o) refl (ordered_known byte (suc o) n q) b
  where
    go : (z : Option ℕ) → byte o ≡ z → (suc o ≤ q → q < suc o + length (ordered byte (suc o) n) → is_some (byte q) ≡ true)
        → q < o + length (more z (ordered byte (suc o) n)) → is_some (byte q) ≡ true
    go None e ih h = absurd (omega arith)
    go (Some c) e ih h = elim (ℕ_discrete q o) [ yes w ↦ ap (λ (p : ℕ). is_some (byte p)) w ∙ ap is_some e | no w ↦ ih (omega arith) (omega arith) ]

first_some : (z w : Option ℕ) → is_some z ≡ true → is_some (first z w) ≡ true
first_some None w e = clash (sym e)
first_some (Some x) w e = refl

module _ (k : Known) (g : Coherent k) where
  below_highest : (o b : ℕ) → taken_only k o ≡ Some b → o < k.highest
  below_highest o b = cond_elim (λ (y : Option ℕ). y ≡ Some b → o < k.highest) (ltb o k.delivered) (λ t e. g.inside o b e)
      (λ t e. let z : ◌≡◌ {A = ℕ} 0 1 = cc in absurd (omega arith))

  taken_whole : (o : ℕ) → o < k.delivered → is_some (taken_only k o) ≡ true
  taken_whole o h = ap (λ (t : Bool). is_some (cond t (k.byte o) None)) (lt-ltb o k.delivered h) ∙ g.whole o h

  coherent_stream : (f : Frame) → (Breaks k (stream_frame f) → ⊥) → Coherent (stream k f)
  unfolding stream
  coherent_stream f ok = record {
    inside = inside;
    credit = cond_elim (λ (y : ℕ). y ≤ k.limit) (ltb 0 (length f.bytes) || f.fin)
        (λ t. cases k.limit (end_of f) (λ h. absurd (ok (inr (inl (over_limit_lem k f (tells_of f t) h))))) (λ h. omega (arith, g.credit)))
        (λ t. g.credit);
    settled = settled;
    whole = λ o h. cond_elim (λ (y : Option ℕ). is_some y ≡ true) (closed k) (λ t. g.whole o h)
        (λ t. first_some (k.byte o) (data_at f.from f.bytes o) (g.whole o h));
  }
    where
      now : ℕ
      now = cond (ltb 0 (length f.bytes) || f.fin) (max k.highest (end_of f)) k.highest

      grows : k.highest ≤ now
      grows = cond_elim (λ (y : ℕ). k.highest ≤ y) (ltb 0 (length f.bytes) || f.fin) (λ t. omega arith) (λ t. omega arith)

      reaches : (o : ℕ) → f.from ≤ o → o < end_of f → o < now
      reaches o a b = rw (lt-ltb 0 (length f.bytes) (omega arith)) (omega arith)

      inside : (o b : ℕ) → cond (closed k) (k.byte o) (first (k.byte o) (data_at f.from f.bytes o)) ≡ Some b → o < now
      inside o b = cond_elim (λ (y : Option ℕ). y ≡ Some b → o < now) (closed k) (λ t e. omega (arith, grows, g.inside o b e))
          (λ t. go (k.byte o) refl)
        where
          go : (z : Option ℕ) → k.byte o ≡ z → first z (data_at f.from f.bytes o) ≡ Some b → o < now
          go None e h = let p = data_at_inside f.from f.bytes o b h in reaches o p.0 p.1
          go (Some c) e h = omega (arith, grows, g.inside o c e)

      settled : (x : ℕ) → cond f.fin (Some (end_of f)) k.final ≡ Some x → now ≡ x
      settled x = cond_elim (λ (y : Option ℕ). y ≡ Some x → now ≡ x) f.fin
          (λ t e. let w : end_of f ≡ x = cc in cases (end_of f) k.highest (λ h. absurd (ok (inr (inr (short t h)))))
          (λ h. cond_elim (λ (y : ℕ). y ≡ x) (ltb 0 (length f.bytes) || f.fin) (λ s. omega arith)
          (λ s. clash (sym t ∙ (or_false (ltb 0 (length f.bytes)) f.fin s).1))))
          (λ t e. cond_elim (λ (y : ℕ). y ≡ x) (ltb 0 (length f.bytes) || f.fin)
          (λ s. cases x (end_of f) (λ h. absurd (ok (inr (inr (past_final k f (tells_of f s) x e h))))) (λ h. omega (arith, g.settled x e)))
          (λ s. g.settled x e))

  pub coherent : (e : Event) → (Breaks k e → ⊥) → Coherent (effect k e)
  unfolding reset_stream reading abort advertise
  coherent (stream_frame f) ok = coherent_stream f ok
  coherent (reset_frame code size) ok = cond_elim Coherent (is_some k.reset) (λ t. g) (λ t. record {
    inside = λ o b e. cases size k.highest (λ h. absurd (ok (inl (reset_short h)))) (λ h. omega (arith, below_highest o b e));
    credit = cases k.limit size (λ h. absurd (ok (inr (none_is k.reset t, h)))) (λ h. h);
    settled = λ x e. cc;
    whole = taken_whole;
  })
  coherent (read_up_to n) ok = record {
    inside = g.inside;
    credit = g.credit;
    settled = g.settled;
    whole = λ o h. cases o k.delivered (g.whole o) (λ a. ordered_known k.byte k.delivered n o a h);
  }
  coherent give_up ok = record { inside = below_highest; credit = g.credit; settled = g.settled; whole = taken_whole }
  coherent (max_stream_data v) ok = record { inside = g.inside; credit = omega (arith, g.credit); settled = g.settled; whole = g.whole }

-- and so it is after any history that breaks no rule
pub coherent_history : (k : Known) (es : List Event) → Coherent k → Lawful k es → Coherent (history k es)
coherent_history k [] g ok = g
coherent_history k (e ∷ es) g ok = coherent_history (effect k e) es (coherent k g e ok.0) ok.1
