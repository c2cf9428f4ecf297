-- What is joined alternates: each chunk but the last has a byte to send, each but the first one that was sent. And what alternates stays as it is.
-- Assumes nothing.
use mathlib.Core.Path.{◌≡◌, refl, ap, ◌∙◌}
use mathlib.Core.List.{List, [], ◌∷◌}
use Prim.Native.Nat.{ℕ, ◌+◌, ◌*◌, ◌≤◌, ◌<◌}
use native.Mathlib.Omega.{arith}
use lib.Dec.{ltb}
use lib.ListN.{length}
use borrow.Author.Tests.{ltb-true, lt-ltb}
use Rattle.range_buf.specs.declared.RangeBuf.{RangeBuf}
use Rattle.range_buf.specs.Rules.{end, avail}
use Rattle.tables.proofs.Tables.{by_test, cond_elim}
use Rattle.tables.proofs.Tests.{and_true, decided, undecided}
use Rattle.send_buf.specs.State.{Adjoin}
use Rattle.send_buf.specs.Rules.{stays, both, joined_to, joined}
use Rattle.send_buf.proofs.Joining.{adj_joined, length_joined_to, length_joined}

abbrev pub Alternates : List RangeBuf → Type 0
Alternates [] = Unit {0}
Alternates (c ∷ []) = Unit {0}
Alternates (c ∷ d ∷ ds) = (0 < avail c) × (0 < d.pos) × Alternates (d ∷ ds)

alternates_head : (c d : RangeBuf) (ds : List RangeBuf) → (0 < avail c → 0 < avail d) → (0 < c.pos → 0 < d.pos) → Alternates (c ∷ ds) → Alternates (d ∷ ds)
alternates_head c d [] f g h = tt
alternates_head c d (x ∷ ds) f g h = (f h.0, h.1, h.2)

alternates_to : (lo : ℕ) (c : RangeBuf) (ds : List RangeBuf) (hi : ℕ) → Adjoin lo (c ∷ ds) hi → Alternates ds → Alternates (joined_to c ds)
alternates_to lo c [] hi k h = tt
alternates_to lo c (d ∷ ds) hi k h =
    cond_elim Alternates (stays c d)
    (λ t. let p = and_true (ltb 0 (avail c)) (ltb 0 d.pos) t in (ltb-true 0 (avail c) p.0, ltb-true 0 d.pos p.1, h))
    (λ t. alternates_head d (both c d) ds (λ x. omega (arith, k.2, k.3.2)) (λ x. omega arith) h)

pub alternates : (lo : ℕ) (cs : List RangeBuf) (hi : ℕ) → Adjoin lo cs hi → Alternates (joined cs)
alternates lo [] hi k = tt
alternates lo (c ∷ cs) hi k = alternates_to lo c (joined cs) hi (k.0, k.1, k.2, adj_joined (end c) cs hi k.3) (alternates (end c) cs hi k.3)

-- chunks that alternate stay as they are
pub joined_same : (cs : List RangeBuf) → Alternates cs → joined cs ≡ cs
joined_same [] h = refl
joined_same (c ∷ []) h = refl
joined_same (c ∷ d ∷ ds) h = ap (joined_to c) (joined_same (d ∷ ds) h.2) ∙ decided {t = stays c d} (rw (lt-ltb 0 (avail c) h.0, lt-ltb 0 d.pos h.1)) (c ∷ d ∷ ds) (both c d ∷ ds)

-- n chunks that alternate hold at least 2 (n - 1) bytes
pub alternates_long : (lo : ℕ) (c : RangeBuf) (cs : List RangeBuf) (hi : ℕ) → Adjoin lo (c ∷ cs) hi → Alternates (c ∷ cs) → 2 * length cs + lo + c.pos ≤ hi
alternates_long lo c [] hi k h = omega (arith, k.0, k.2, k.3)
alternates_long lo c (d ∷ ds) hi k h = omega (arith, k.0, h.0, h.1, alternates_long (end c) d ds hi k.3 h.2)

-- and if joining leaves as many, no boundary went
pub stays_all : (cs : List RangeBuf) → length (joined cs) ≡ length cs → Alternates cs
stays_all [] e = tt
stays_all (c ∷ []) e = tt
stays_all (c ∷ d ∷ ds) e = one (stays_all (d ∷ ds) rest)
  where
    rest : length (joined (d ∷ ds)) ≡ length (d ∷ ds)
    rest = omega (arith, e, length_joined_to c (joined (d ∷ ds)), length_joined (d ∷ ds))

    one : Alternates (d ∷ ds) → Alternates (c ∷ d ∷ ds)
    one h =
        by_test (stays c d)
        (λ t. let p = and_true (ltb 0 (avail c)) (ltb 0 d.pos) t in (ltb-true 0 (avail c) p.0, ltb-true 0 d.pos p.1, h))
        (λ t. let f : joined (c ∷ d ∷ ds) ≡ both c d ∷ ds = ap (joined_to c) (joined_same (d ∷ ds) h) ∙ undecided t (c ∷ d ∷ ds) (both c d ∷ ds) in
        absurd (omega (arith, ap length f, e)))
