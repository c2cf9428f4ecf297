-- When a retransmit finds the chunk table full: exactly if 64 chunks stand, its range ends inside one, and no boundary of the 65 that it would leave
-- goes. (A write never does: `settled.ExactSender.write_never_full`.) Assumes nothing.
use Rattle.std.specs.Prelude.{Result, Ok, Err, ⊤}
use mathlib.Core.Path.{◌≡◌, refl, sym, ap, ◌∙◌}
use mathlib.Core.Bool.{Bool, true, false, cond, not, ◌&&◌}
use mathlib.Core.List.{List, [], ◌∷◌}
use Prim.Native.Nat.{ℕ, suc, ◌+◌, ◌≤◌, ◌<◌}
use native.Mathlib.Omega.{arith}
use lib.Dec.{ltb, leb}
use lib.ListN.{length}
use borrow.Author.Tests.{ltb-true, ltb-false, le-ltb, lt-ltb, not-true}
use Rattle.refusal.specs.declared.Refusal.{Refusal}
use Rattle.refusal.specs.declared.Refusal.TheVariants.{TableFull, NeverSent}
use Rattle.range_buf.specs.declared.RangeBuf.{RangeBuf}
use Rattle.range_buf.specs.Rules.{end}
use Rattle.tables.proofs.Tables.{cond_elim}
use Rattle.tables.proofs.Tests.{and_true}
use Rattle.send_buf.specs.State.{Send, base, Adjoin, GoodSend}
use Rattle.send_buf.specs.Rules.{never_sent, settled, back, joined, tabled, loss_judged}
use Rattle.send_buf.proofs.Chunks.{adj_back}
use Rattle.send_buf.proofs.Joining.{length_joined}
use Rattle.joining.proofs.Alternates.{Alternates, joined_same, alternates_long, stays_all}

-- the range was sent and is not settled; it splits one of 64 chunks; and the 65 alternate, so they hold at least 128 bytes
pub record Full (s : Send) (a n : ℕ) : Type 0 where
  pub was_sent_lem : never_sent s a n ≡ false
  pub unsettled : settled s a n ≡ false
  pub stood : length s.chunks ≡ 64
  pub splits : length (back s.chunks a (a + n)) ≡ 65
  pub turns : Alternates (back s.chunks a (a + n))

-- joined or not, the table is full exactly if the joined chunks are too many
tabled_full : (cs : List RangeBuf) → ltb 64 (length (tabled cs)) ≡ ltb 64 (length (joined cs))
tabled_full cs =
    cond_elim (λ (x : List RangeBuf). ltb 64 (length x) ≡ ltb 64 (length (joined cs))) (ltb 64 (length cs)) (λ _. refl)
    (λ e. let h = ltb-false 64 (length cs) e in le-ltb 64 (length cs) h ∙ sym (le-ltb 64 (length (joined cs)) (omega (arith, length_joined cs))))

refused_full : (p q : Bool) → ◌≡◌ {A = Result ⊤ Refusal} (cond p (Err NeverSent) (cond q (Err TableFull) (Ok tt))) (Err TableFull) → (p ≡ false) × (q ≡ true)
refused_full true q e = let z : ◌≡◌ {A = ℕ} 0 1 = cc in absurd (omega arith)
refused_full false true e = (refl, refl)
refused_full false false e = let z : ◌≡◌ {A = ℕ} 0 1 = cc in absurd (omega arith)

-- a loss leaves one chunk more at most
back_few : (cs : List RangeBuf) (a e : ℕ) → length (back cs a e) ≤ suc (length cs)
back_few [] a e = omega arith
back_few (c ∷ cs) a e =
    let r = back_few cs a e in
    cond_elim P (leb e c.off) (λ _. omega arith) (λ _. cond_elim P (ltb (end c) a) (λ _. omega arith) (λ _. cond_elim P (ltb e (end c)) (λ _. omega arith) (λ _. omega arith)))
  where
    P : List RangeBuf → Type 0
    P x = length x ≤ suc (suc (length cs))

pub loss_full : (s : Send) → GoodSend s → (a n : ℕ) → loss_judged s a n ≡ Err TableFull → Full s a n
unfolding loss_judged
loss_full s g a n e =
    let cs : List RangeBuf = back s.chunks a (a + n) in
    let r = refused_full (never_sent s a n) (not (settled s a n) && ltb 64 (length (tabled cs))) e in
    let t = and_true (not (settled s a n)) (ltb 64 (length (tabled cs))) r.1 in
    let many : 64 < length (joined cs) = ltb-true 64 (length (joined cs)) (sym (tabled_full cs) ∙ t.1) in
    let l = back_few s.chunks a (a + n) in
    let k = length_joined cs in
    record {
      was_sent_lem = r.0;
      unsettled = not-true (settled s a n) t.0;
      stood = omega (arith, l, k, g.few);
      splits = omega (arith, l, k, g.few);
      turns = stays_all cs (omega (arith, l, k, g.few));
    }

pub full_loss : (s : Send) (a n : ℕ) → Full s a n → loss_judged s a n ≡ Err TableFull
unfolding loss_judged
full_loss s a n f =
    let cs : List RangeBuf = back s.chunks a (a + n) in
    let j : length (joined cs) ≡ 65 = ap length (joined_same cs f.turns) ∙ f.splits in
    let t : ltb 64 (length (tabled cs)) ≡ true = tabled_full cs ∙ lt-ltb 64 (length (joined cs)) (omega arith) in
    rw (f.was_sent_lem, f.unsettled, t)

alternate_bytes : (lo : ℕ) (cs : List RangeBuf) (hi : ℕ) → Adjoin lo cs hi → Alternates cs → length cs ≡ 65 → lo + 128 ≤ hi
alternate_bytes lo [] hi k h l = absurd (omega arith)
alternate_bytes lo (c ∷ cs) hi k h l = omega (arith, alternates_long lo c cs hi k h)

-- so an arena of less than 128 bytes never finds it full
pub small_never_full : (s : Send) → GoodSend s → (a n : ℕ) → s.room < 128 → loss_judged s a n ≡ Err TableFull → ⊥
small_never_full s g a n h e =
    let f = loss_full s g a n e in
    let lo : ℕ = base s.chunks s.off in
    omega (arith, g.fits, alternate_bytes lo (back s.chunks a (a + n)) s.off (adj_back lo s.chunks s.off a (a + n) g.adjoin) f.turns f.splits)
