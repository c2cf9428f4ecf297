-- Each refusal is given exactly if docs/RULES.md, 2.1 says so, in the order of 2.2. Here is the law of a chain of refusals; ExactKinds has it for
-- every kind of answer, and ExactLeaves, ExactSender and ExactReceiver for each call. Assumes nothing.
--
--   Line        one line of a chain: a refusal with its test, or the code of a stop or a reset
--   said        the answer of a chain: the first line that applies
--   When        when a refusal is given: its line's condition, and of each line before it that it does not apply
--   exactly     the answer is Err x exactly when `When x` says
--   only        and x has one of the numbers of the lines
use Rattle.std.specs.Prelude.{Option, None, Some, Result, Ok, Err, ⊤}
use mathlib.Core.Path.{◌≡◌, refl, sym, ap, ◌∙◌}
use mathlib.Core.Logic.Iff
use mathlib.Core.Logic.{◌↔◌, ◌≢◌, inl, inr}
use mathlib.Core.Bool.{Bool, true, false, cond, not, ◌&&◌, ◌||◌}
use mathlib.Core.List.{List, [], ◌∷◌}
use Prim.Native.Nat.{ℕ}
use native.Mathlib.Omega.{arith}
use lib.Dec.{eqb}
use borrow.Author.Tests.{eqb-true, eqb-false, not-true}
use Rattle.tables.proofs.Tables.{by_test}
use Rattle.refusal.proofs.Answers.{known_not}
use Rattle.tables.proofs.Tests.{either, clash, and_true, or_false}
use Rattle.refusal.specs.Rules.{number_of, code_of, known}
use Rattle.refusal.specs.declared.Refusal.{Refusal}
use Rattle.refusal.specs.declared.Refusal.TheVariants.{Offset, Stopped, FinalSize, FlowControl, NoRoom, TableFull, NeverSent, Done as NothingMore, Reset, BadSetup}
use Rattle.settled.specs.Conditions.{◌and◌, OneOf}
use Rattle.settled.proofs.ExactTests.{Test}

-- ---- which refusal

-- a refusal is told by its number and its code
named_by : ℕ → ℕ → Refusal
named_by n c =
    cond (eqb n 1) Offset (
    cond (eqb n 2) (Stopped c) (
    cond (eqb n 3) FinalSize (
    cond (eqb n 4) FlowControl (
    cond (eqb n 5) NoRoom (
    cond (eqb n 6) TableFull (
    cond (eqb n 7) NeverSent (
    cond (eqb n 8) NothingMore (
    cond (eqb n 9) (Reset c) BadSetup))))))))

or_0 : Option ℕ → ℕ
or_0 None = 0
or_0 (Some c) = c

names : (x : Refusal) → named_by (number_of x) (or_0 (code_of x)) ≡ x
unfolding named_by or_0
names Offset = refl
names (Stopped code) = refl
names FinalSize = refl
names FlowControl = refl
names NoRoom = refl
names TableFull = refl
names NeverSent = refl
names NothingMore = refl
names (Reset code) = refl
names BadSetup = refl

same_refusal : (x y : Refusal) → number_of x ≡ number_of y → code_of x ≡ code_of y → x ≡ y
same_refusal x y n c = sym (names x) ∙ ap (λ (m : ℕ). named_by m (or_0 (code_of x))) n ∙ ap (λ (d : Option ℕ). named_by (number_of y) (or_0 d)) c ∙ names y

-- only 2 and 9 have a code
coded : (x : Refusal) → known (code_of x) ≡ (eqb (number_of x) 2 || eqb (number_of x) 9)
coded Offset = refl
coded (Stopped code) = refl
coded FinalSize = refl
coded FlowControl = refl
coded NoRoom = refl
coded TableFull = refl
coded NeverSent = refl
coded NothingMore = refl
coded (Reset code) = refl
coded BadSetup = refl

both_coded : (x y : Refusal) → number_of x ≡ number_of y → known (code_of x) ≡ known (code_of y)
both_coded x y n = coded x ∙ ap (λ (m : ℕ). eqb m 2 || eqb m 9) n ∙ sym (coded y)

pub refused_inj : {T : Type 0} {x y : Refusal} → ◌≡◌ {A = Result T Refusal} (Err x) (Err y) → x ≡ y
refused_inj e = cc

pub not_done : {T A : Type 0} {y : T} {x : Refusal} → ◌≡◌ {A = Result T Refusal} (Ok y) (Err x) → A
not_done e = let z : ◌≡◌ {A = ℕ} 0 1 = cc in absurd (omega arith)

-- ---- a chain of refusals

-- after a stop or a reset, its code
abbrev pub unless : (ℕ → Refusal) → Option ℕ → Result ⊤ Refusal → Result ⊤ Refusal
unless why None rest = rest
unless why (Some c) rest = Err (why c)

pub data Line : Type 1 where
  line : (why : Refusal) {t : Bool} {P Q : Type 0} → Test t P Q → Line
  code : (number : ℕ) (why : ℕ → Refusal) → ((c : ℕ) → (number_of (why c) ≡ number) × (code_of (why c) ≡ Some c)) → Option ℕ → Line

abbrev pub stopped : Option ℕ → Line
stopped f = code 2 Stopped (λ c. (refl, refl)) f

abbrev pub was_reset : Option ℕ → Line
was_reset f = code 9 Reset (λ c. (refl, refl)) f

abbrev pub step : Line → Result ⊤ Refusal → Result ⊤ Refusal
step (line why {t} {P} {Q} x) rest = cond t (Err why) rest
step (code n why w f) rest = unless why f rest

abbrev pub said : List Line → Result ⊤ Refusal
said [] = Ok tt
said (l ∷ ls) = step l (said ls)

abbrev pub number : Line → ℕ
number (line why {t} {P} {Q} x) = number_of why
number (code n why w f) = n

abbrev pub numbers : List Line → List ℕ
numbers [] = []
numbers (l ∷ ls) = number l ∷ numbers ls

-- the condition under which a line refuses x; that under which it lets pass
abbrev pub Applies : Line → Refusal → Type 0
Applies (line why {t} {P} {Q} e) x = P
Applies (code n why w f) x = f ≡ code_of x

abbrev pub Passes : Line → Type 0
Passes (line why {t} {P} {Q} e) = Q
Passes (code n why w f) = f ≡ None

abbrev pub choose : Bool → Type 0 → Type 0 → Type 0
choose true A B = A
choose false A B = B

abbrev pub When : Refusal → List Line → Type 0
When x [] = ⊥
When x (l ∷ ls) = choose (eqb (number_of x) (number l)) (Applies l x) (Passes l and When x ls)

-- no number stands in two lines, and a refusal with a code has a line of that kind
abbrev pub plain : Line → Bool
plain (line why {t} {P} {Q} e) = not (known (code_of why))
plain (code n why w f) = true

abbrev pub listed : ℕ → List Line → Bool
listed n [] = false
listed n (l ∷ ls) = eqb n (number l) || listed n ls

abbrev pub fit : List Line → Bool
fit [] = true
fit (l ∷ ls) = plain l && (not (listed (number l) ls) && fit ls)

-- ---- the law of one line

-- it refuses what has its number exactly if it applies, where the lines behind it do not refuse that
hit : (l : Line) (x : Refusal) (rest : Result ⊤ Refusal) → plain l ≡ true → number_of x ≡ number l → ¬ (rest ≡ Err x)
    → (step l rest ≡ Err x) ↔ Applies l x
hit (line why {t} {P} {Q} e) x rest p n behind =
    (go t refl, λ h. rw (e.yes.1 h) (ap Err (same_refusal why x (sym n) (known_not (code_of why) c ∙ sym (known_not (code_of x) (both_coded x why n ∙ c))))))
  where
    c : known (code_of why) ≡ false
    c = not-true (known (code_of why)) p

    go : (b : Bool) → t ≡ b → cond b (Err why) rest ≡ Err x → P
    go true q r = e.yes.0 q
    go false q r = absurd (behind r)
hit (code n why w None) x rest p m behind =
    (λ e. absurd (behind e), λ e. clash (sym (ap known (w 0).1) ∙ both_coded (why 0) x ((w 0).0 ∙ sym m) ∙ ap known (sym e)))
hit (code n why w (Some c)) x rest p m behind =
    (λ e. sym (w c).1 ∙ ap code_of (refused_inj e), λ e. ap Err (same_refusal (why c) x ((w c).0 ∙ sym m) ((w c).1 ∙ e)))

-- it leaves every other refusal to the lines behind it, if it lets pass
miss : (l : Line) (x : Refusal) (rest : Result ⊤ Refusal) → number_of x ≢ number l → (step l rest ≡ Err x) ↔ (Passes l and (rest ≡ Err x))
miss (line why {t} {P} {Q} e) x rest n = (go t refl, λ h. rw (e.no.1 h.0) h.1)
  where
    go : (b : Bool) → t ≡ b → cond b (Err why) rest ≡ Err x → Q and (rest ≡ Err x)
    go true q r = absurd (n (ap number_of (sym (refused_inj r))))
    go false q r = (e.no.0 q, r)
miss (code n why w None) x rest m = (λ e. (refl, e), λ h. h.1)
miss (code n why w (Some c)) x rest m = (λ e. absurd (m (ap number_of (sym (refused_inj e)) ∙ (w c).0)), λ h. clash (ap known h.0))

-- ---- the law of a chain

pub only : (ls : List Line) (x : Refusal) → said ls ≡ Err x → OneOf (number_of x) (numbers ls)
only [] x e = not_done e
only (l ∷ ls) x e = by_test (eqb (number_of x) (number l)) (λ q. inl (eqb-true (number_of x) (number l) q))
    (λ q. inr (only ls x ((miss l x (said ls) (eqb-false (number_of x) (number l) q)).0 e).1))

unlisted : (n : ℕ) (ls : List Line) → listed n ls ≡ false → ¬ OneOf n (numbers ls)
unlisted n [] e h = h
unlisted n (l ∷ ls) e h = let p = or_false (eqb n (number l)) (listed n ls) e in either h (eqb-false n (number l) p.0) (unlisted n ls p.1)

pub exactly : (ls : List Line) (x : Refusal) → fit ls ≡ true → (said ls ≡ Err x) ↔ When x ls
exactly [] x f = (λ e. not_done e, λ h. absurd h)
exactly (l ∷ ls) x f = go (eqb (number_of x) (number l)) refl (exactly ls x q.1)
  where
    p : (plain l ≡ true) × ((not (listed (number l) ls) && fit ls) ≡ true)
    p = and_true (plain l) (not (listed (number l) ls) && fit ls) f

    q : (not (listed (number l) ls) ≡ true) × (fit ls ≡ true)
    q = and_true (not (listed (number l) ls)) (fit ls) p.1

    go : (b : Bool) → eqb (number_of x) (number l) ≡ b → (said ls ≡ Err x) ↔ When x ls
        → (step l (said ls) ≡ Err x) ↔ choose b (Applies l x) (Passes l and When x ls)
    go true r h = let n = eqb-true (number_of x) (number l) r in
        hit l x (said ls) p.0 n (λ e. unlisted (number l) ls (not-true (listed (number l) ls) q.0) (rw n at (only ls x e)))
    go false r h = Iff.trans (miss l x (said ls) (eqb-false (number_of x) (number l) r)) (Iff.and Iff.rfl h)
