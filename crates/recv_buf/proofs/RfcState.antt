-- Of a receive buffer read as RFC 9000's knowledge (`knows`): what holds of every one that came from creation or a call, beside being good, `Sound`.
-- Assumes nothing.
use Rattle.std.specs.Prelude.{Some, None}
use mathlib.Core.Path.{◌≡◌, refl, ap, subst}
use mathlib.Core.Bool.{Bool, true, false, cond, ◌||◌}
use mathlib.Core.List.{List, []}
use Prim.Native.Nat.{ℕ, ◌≤◌, ◌<◌}
use native.Mathlib.Omega.{arith}
use borrow.Author.Tests.{le-ltb}
use lib.Dec.{ltb}
use lib.ListN.{length, get_or}
use Rattle.tables.proofs.Tests.{either, or-true}
use Rattle.refusal.specs.Rules.{M}
use Rattle.arena.specs.Rules.{byte_at}
use Rattle.range_buf.specs.declared.RangeBuf.{RangeBuf}
use Rattle.recv_buf.specs.State.{Recv, Held, GoodRecv}
use Rattle.recv_buf.specs.Rules.{new_recv}
use Rattle.recv_buf.specs.Rfc9000.{Known, opened, is_some}
use Rattle.recv_buf.specs.RfcAgreement.{seen, knows}
use Rattle.recv_buf.proofs.Lists.{held_not, chain_held, within_held}
use Rattle.recv_buf.proofs.Kept.{new_good}
use Rattle.recv_buf.proofs.RfcLaws.{some_is}

-- what holds of every state that came from a successful creation or a call, with the arena it was created for
pub record Sound (r : Recv) (ar out : List ℕ) : Type 0 where
  pub good : GoodRecv r
  pub some_room : 0 < r.room
  pub size : length ar ≡ r.room
  pub all_out : length out ≡ r.flow.consumed
  -- consumed is off, until a reset or a shutdown moves off
  pub live : r.error ≡ None → r.drain ≡ false → r.flow.consumed ≡ r.off
  pub ended : (code : ℕ) → r.error ≡ Some code → (r.off ≡ r.len) × (r.fin ≡ Some r.len)

pub known_eq : (j k : Known) → ((o : ℕ) → j.byte o ≡ k.byte o) → j.highest ≡ k.highest → j.final ≡ k.final → j.limit ≡ k.limit
    → j.delivered ≡ k.delivered → j.reset ≡ k.reset → j.aborted ≡ k.aborted → j ≡ k
known_eq j k b h f l d r a = λ i. record { byte = λ o. b o i; highest = h i; final = f i; limit = l i; delivered = d i; reset = r i; aborted = a i }

-- ---- a stream that was reset, or is no longer read, holds nothing

pub unheld : (r : Recv) (ar out : List ℕ) (o : ℕ) → (Held r.chunks o → ⊥)
    → seen r ar out o ≡ cond (ltb o r.flow.consumed) (Some (get_or out o 0)) None
unheld r ar out o h =
    ap (λ (t : Bool). cond (ltb o r.flow.consumed) (Some (get_or out o 0)) (cond t (Some (byte_at ar o)) None)) (held_not r.chunks o h)

module _ (r : Recv) (ar out : List ℕ) (g : Sound r ar out) where
  pub idle_reset : (code : ℕ) → r.error ≡ Some code → (o : ℕ) → Held r.chunks o → ⊥
  idle_reset code e o h =
      omega (arith, chain_held r.off r.chunks o g.good.chain h, within_held r.len r.chunks o g.good.within h, (g.ended code e).0)

  pub idle_shut : r.drain ≡ true → (o : ℕ) → Held r.chunks o → ⊥
  idle_shut e o h = subst (λ (cs : List RangeBuf). Held cs o) (g.good.shut_none e) h

  pub idle : (r.drain || is_some r.error) ≡ true → (o : ℕ) → Held r.chunks o → ⊥
  idle e = either (or-true r.drain (is_some r.error) e) idle_shut (λ x. let p = some_is r.error x in idle_reset p.0 p.1)

-- ---- a new buffer knows what a new stream does

pub knows_new : (A limit maximum : ℕ) (ar : List ℕ) → knows (new_recv A limit maximum) ar [] ≡ opened limit
unfolding opened
knows_new A limit maximum ar = known_eq (knows (new_recv A limit maximum) ar []) (opened limit)
    (λ o. ap (λ (t : Bool). cond t (Some (get_or [] o 0)) None) (le-ltb o 0 (omega arith))) refl refl refl refl refl refl

pub sound_new : (A limit maximum : ℕ) (ar : List ℕ) → 0 < A → A ≤ 65536 → limit ≤ M → maximum ≤ M → length ar ≡ A
    → Sound (new_recv A limit maximum) ar []
sound_new A limit maximum ar a top l m e = record {
  good = new_good A limit maximum top l m;
  some_room = a;
  size = e;
  all_out = refl;
  live = λ x y. refl;
  ended = λ c x. let z : ◌≡◌ {A = ℕ} 0 1 = cc in absurd (omega arith);
}
