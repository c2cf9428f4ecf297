-- The arena after a frame, byte by byte. Assumes nothing.
--
--   only the places of newly kept bytes change     kept_elsewhere; kept_length
--   what was kept stays                            kept_stays
--   what is newly kept is the frame's byte         kept_new_lem
use mathlib.Core.Path.{◌≡◌, refl, sym, ap, subst, ◌∙◌}
use mathlib.Core.Bool.{not, ◌&&◌}
use mathlib.Core.List.{List, [], ◌∷◌}
use Prim.Native.Nat.{ℕ, suc, ◌+◌, ◌-◌, ◌%◌, ◌≤◌, ◌<◌}
use native.Mathlib.Nat.{add-zero, mod-lt}
use native.Mathlib.Omega.{arith}
use native.Mathlib.Decide.{ℕ_discrete}
use borrow.Author.Tests.{leb-true, le-leb, not-true}
use lib.Dec.{leb}
use lib.ListN.{length, get_or, length-set}
use lib.Seq.{get_or-set_same, get_or-set_other}
use Rattle.tables.proofs.Tables.{cond_elim}
use Rattle.tables.proofs.Tests.{and_true}
use Rattle.arena.specs.Rules.{byte_at}
use Rattle.arena.proofs.Places.{window}
use Rattle.recv_buf.specs.State.{Recv, Held}
use Rattle.recv_buf.specs.Rules.{holds, kept_new}
use Rattle.recv_buf.proofs.Lists.{holds_not, held_not}

-- the byte b for offset o is newly kept, or ignored
abbrev one : Recv → List ℕ → ℕ → ℕ → List ℕ
one r ar o b = kept_new r ar o (b ∷ [])

-- offset o has no byte yet, and may get one
abbrev pub Free : Recv → ℕ → Type 0
Free r o = (r.off ≤ o) × (Held r.chunks o → ⊥)

module _ (r : Recv) where
  -- a byte that has its place already does not change it
  one_other : (ar : List ℕ) (o b p : ℕ) → (Free r o → o % length ar ≡ p → ⊥) → get_or (one r ar o b) p 0 ≡ get_or ar p 0
  one_other ar o b p h = cond_elim (λ (x : List ℕ). get_or x p 0 ≡ get_or ar p 0) (leb r.off o && not (holds r.chunks o))
      (λ e. let q = and_true (leb r.off o) (not (holds r.chunks o)) e in
      get_or-set_other ar (o % length ar) p b 0
      (λ z. h (leb-true r.off o q.0, holds_not r.chunks o (not-true (holds r.chunks o) q.1)) (sym z)))
      (λ e. refl)

  one_length : (ar : List ℕ) (o b : ℕ) → length (one r ar o b) ≡ length ar
  one_length ar o b = cond_elim (λ (x : List ℕ). length x ≡ length ar) (leb r.off o && not (holds r.chunks o))
      (λ e. length-set ar (o % length ar) b) (λ e. refl)

  pub kept_length : (ar : List ℕ) (o : ℕ) (bs : List ℕ) → length (kept_new r ar o bs) ≡ length ar
  kept_length ar o [] = refl
  kept_length ar o (b ∷ bs) = kept_length (one r ar o b) (suc o) bs ∙ one_length ar o b

  -- place p changes only if it is that of one of the frame's offsets that had no byte yet
  pub kept_elsewhere : (ar : List ℕ) (o : ℕ) (bs : List ℕ) (p : ℕ) → ((k : ℕ) → k < length bs → Free r (o + k) → (o + k) % length ar ≡ p → ⊥)
      → get_or (kept_new r ar o bs) p 0 ≡ get_or ar p 0
  kept_elsewhere ar o [] p h = refl
  kept_elsewhere ar o (b ∷ bs) p h =
      let z : o + 0 ≡ o = add-zero o in
      kept_elsewhere (one r ar o b) (suc o) bs p
      (λ k lt f e. let w : suc o + k ≡ o + suc k = omega arith in
      h (suc k) (omega arith) (subst (Free r) w f) (ap (λ (n : ℕ). n % length ar) (sym w) ∙ ap (λ (n : ℕ). (suc o + k) % n) (sym (one_length ar o b))
      ∙ e))
      ∙ one_other ar o b p (λ f e. h 0 (omega arith) (subst (Free r) (sym z) f) (ap (λ (n : ℕ). n % length ar) z ∙ e))

  -- within the window from off on: what was kept stays, and so does what the frame does not bring
  pub kept_stays : (ar : List ℕ) (o : ℕ) (bs : List ℕ) (q : ℕ) → (0 < length bs → o + length bs ≤ r.off + length ar) → r.off ≤ q
      → q < r.off + length ar
      → (Free r q → o ≤ q → q < o + length bs → ⊥) → byte_at (kept_new r ar o bs) q ≡ byte_at ar q
  kept_stays ar o bs q fits a b h =
      ap (λ (m : ℕ). get_or (kept_new r ar o bs) (q % m) 0) (kept_length ar o bs)
      ∙ kept_elsewhere ar o bs (q % length ar)
      (λ k lt f e. window (length ar) r.off (o + k) q f.0 (omega (arith, fits (omega arith))) a b
      (λ z. h (subst (Free r) z f) (omega arith) (omega arith)) e)

  -- and a byte that had none has the frame's
  pub kept_new_lem : (ar : List ℕ) (o : ℕ) (bs : List ℕ) (q : ℕ) → 0 < length ar → o + length bs ≤ r.off + length ar → Free r q → o ≤ q
      → q < o + length bs
      → byte_at (kept_new r ar o bs) q ≡ get_or bs (q - o) 0
  kept_new_lem ar o [] q a fits f l h = absurd (omega arith)
  kept_new_lem ar o (b ∷ bs) q a fits f l h = elim (ℕ_discrete q o) [
    | yes e ↦ first e
    | no n ↦ let w : q - o ≡ suc (q - suc o) = omega arith in
        kept_new_lem (one r ar o b) (suc o) bs q (omega (arith, one_length ar o b)) (omega (arith, one_length ar o b)) f (omega arith) (omega arith)
        ∙ ap (λ (k : ℕ). get_or (b ∷ bs) k 0) (sym w)
  ]
    where
      first : q ≡ o → byte_at (kept_new r (one r ar o b) (suc o) bs) q ≡ get_or (b ∷ bs) (q - o) 0
      first e =
          let w : q - o ≡ 0 = omega arith in
          kept_stays (one r ar o b) (suc o) bs q (λ _. omega (arith, one_length ar o b)) f.0 (omega (arith, one_length ar o b))
          (λ _ x y. omega arith)
          ∙ ap (λ (n : ℕ). get_or (one r ar o b) (q % n) 0) (one_length ar o b)
          ∙ subst (λ (x : ℕ). Free r x → get_or (one r ar o b) (x % length ar) 0 ≡ b) (sym e) here f
          ∙ ap (λ (k : ℕ). get_or (b ∷ bs) k 0) (sym w)
        where
          here : Free r o → get_or (one r ar o b) (o % length ar) 0 ≡ b
          here g = rw (le-leb r.off o g.0, held_not r.chunks o g.1) (get_or-set_same ar (o % length ar) b 0 (mod-lt o a))
