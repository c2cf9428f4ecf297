-- Bytes that agree with a stream W: they are those of W from an offset on. Assumes nothing.
--
--   a longer stream; what was appended to it       agrees_more, agrees_seam
--   an arena that agrees, before and after `kept`  agrees_held, agrees_kept
--   one byte; the front of the stream              agrees_at, take_agrees
use mathlib.Core.Path.{◌≡◌, sym, ap, subst, ◌∙◌}
use mathlib.Core.List.{List, [], ◌∷◌, ◌++◌, append-nil}
use Prim.Native.Nat.{ℕ, zero, suc, ◌+◌, ◌-◌, ◌≤◌, ◌<◌}
use native.Mathlib.Nat.{add-zero}
use native.Mathlib.Omega.{arith}
use lib.ListN.{length, get_or, take, length-append, get_or-append}
use lib.Seq.{take-suc, append_snoc, get_or_at}
use Rattle.arena.specs.Rules.{byte_at, kept, held}
use Rattle.arena.proofs.Laws.{byte_other, byte_kept}
use Rattle.tables.proofs.Tables.{cases}

abbrev pub Agrees : List ℕ → ℕ → List ℕ → Type 0
Agrees W o [] = Unit {0}
Agrees W o (b ∷ bs) = (b ≡ get_or W o 0) × Agrees W (suc o) bs

-- a longer stream
pub agrees_more : (W X : List ℕ) (o : ℕ) (bs : List ℕ) → o + length bs ≤ length W → Agrees W o bs → Agrees (W ++ X) o bs
agrees_more W X o [] h a = tt
agrees_more W X o (b ∷ bs) h a = (a.0 ∙ sym (get_or-append W X 0 o (omega arith)), agrees_more W X (suc o) bs (omega arith) a.1)

-- what is appended to a stream of n bytes agrees with it from n on
pub agrees_seam : (W : List ℕ) (n : ℕ) (bs : List ℕ) → length W ≡ n → Agrees (W ++ bs) n bs
agrees_seam W n [] e = tt
agrees_seam W n (b ∷ bs) e = (
  sym (get_or_at W b bs 0 n e),
  subst (λ (X : List ℕ). Agrees X (suc n) bs) (append_snoc W b bs) (agrees_seam (W ++ (b ∷ [])) (suc n) bs (length-append W (b ∷ []) ∙ omega arith)),
)

pub agrees_at : (W : List ℕ) (o : ℕ) (bs : List ℕ) (q : ℕ) → Agrees W o bs → o ≤ q → q < o + length bs → get_or bs (q - o) 0 ≡ get_or W q 0
agrees_at W o [] q a h k = absurd (omega arith)
agrees_at W o (b ∷ bs) q a h k =
    cases o q
    (λ lt. let e : q - o ≡ suc (q - suc o) = omega arith in
    ap (λ (i : ℕ). get_or (b ∷ bs) i 0) e ∙ agrees_at W (suc o) bs q a.1 (omega arith) (omega arith))
    (λ le. let e : q - o ≡ 0 = omega arith in
    let d : o ≡ q = omega arith in
    ap (λ (i : ℕ). get_or (b ∷ bs) i 0) e ∙ a.0 ∙ ap (λ (i : ℕ). get_or W i 0) d)

-- bytes held in an arena that agrees
pub agrees_held : (ar W : List ℕ) (o n : ℕ) → ((q : ℕ) → o ≤ q → q < o + n → byte_at ar q ≡ get_or W q 0) → Agrees W o (held ar o n)
unfolding held
agrees_held ar W o zero f = tt
agrees_held ar W o (suc n) f = (f o (omega arith) (omega arith), agrees_held ar W (suc o) n (λ q a b. f q (omega arith) (omega arith)))

-- bytes kept in an arena, within a window of its length from lo on: what agreed still does, and so do they
pub agrees_kept : (ar W : List ℕ) (lo o : ℕ) (bs : List ℕ) (q : ℕ) → lo ≤ o → o + length bs ≤ lo + length ar → Agrees W o bs → lo ≤ q → q < o + length bs
    → (q < o → byte_at ar q ≡ get_or W q 0) → byte_at (kept ar o bs) q ≡ get_or W q 0
agrees_kept ar W lo o bs q h k a x y old =
    cases q o
    (λ lt. byte_other ar lo o bs q h k x (omega arith) (λ i j. omega arith) ∙ old lt)
    (λ le. let e : q ≡ o + (q - o) = omega arith in
    ap (byte_at (kept ar o bs)) e ∙ byte_kept ar o bs (q - o) (omega arith) (omega arith) ∙ agrees_at W o bs q a le y)

-- the next bytes of the stream behind its first o
pub take_agrees : (W : List ℕ) (o : ℕ) (bs : List ℕ) → o + length bs ≤ length W → Agrees W o bs → take o W ++ bs ≡ take (o + length bs) W
take_agrees W o [] h a = append-nil (take o W) ∙ ap (λ (n : ℕ). take n W) (sym (add-zero o))
take_agrees W o (b ∷ bs) h a =
    let e : suc o + length bs ≡ o + suc (length bs) = omega arith in
    sym (append_snoc (take o W) b bs)
    ∙ ap (λ (x : ℕ). take o W ++ (x ∷ []) ++ bs) a.0
    ∙ ap (λ (X : List ℕ). X ++ bs) (sym (take-suc W o 0 (omega arith)))
    ∙ take_agrees W (suc o) bs (omega arith) a.1
    ∙ ap (λ (n : ℕ). take n W) e
