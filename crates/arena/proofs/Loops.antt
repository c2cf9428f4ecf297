-- The stretches of a copy, one after another. A turn: the next n bytes of the input go to their places, or the n bytes from the place of
-- off + i on go to the n indices from i on; neither passes the arena's end. The first stretch lies at the place of off, and each further one
-- at the first place. Assumes nothing.
use mathlib.Core.Path.{◌≡◌, refl, sym, ap, ◌∙◌}
use mathlib.Core.List.{List, [], ◌∷◌, ◌++◌, append_assoc}
use Prim.Native.Nat.{ℕ, suc, ◌+◌, ◌-◌, ◌%◌, ◌≤◌, ◌<◌, min}
use native.Mathlib.Nat.{add-zero, zero-mod}
use native.Mathlib.Omega.{arith}
use lib.ListN.{length, take, drop, length-append, length-drop, take-append-drop}
use lib.Seq.{sets, sets-eq, length-sets, drop-drop, take_at, take_all, drop_at, length-take-le}
use borrow.Rule.Slice.PartMut.{put_mid}
use Rattle.arena.specs.Rules.{kept, held, handed}
use Rattle.arena.proofs.Places.{around}
use Rattle.arena.proofs.Laws.{held_add, held_run, kept_none, kept_append, kept_run, kept_place, handed_held}

-- a part from p on that comes back as ys is a run of stores
put_sets : (p k : ℕ) (xs ys : List ℕ) → k ≡ length ys → p + k ≤ length xs → put_mid p k xs ys ≡ sets xs p ys
put_sets p k xs ys e h =
    let s : p + length ys ≤ length xs = omega arith in
    rw (sets-eq ys xs p s, drop-drop k p xs, e, append_assoc (take p xs) ys (drop (p + length ys) xs))

-- a part of n bytes has n of them
part_length : (src : List ℕ) (i n : ℕ) → i + n ≤ length src → length (take (i + n - i) (drop i src)) ≡ n
part_length src i n h =
    let z : i + n - i ≡ n = omega arith in
    let d : length (drop i src) ≡ length src - i = length-drop i src in
    ap (λ (m : ℕ). length (take m (drop i src))) z ∙ length-take-le n (drop i src) (omega arith)

-- the whole that a part comes back to is as long as before
pub put_length : (p n : ℕ) (xs ys : List ℕ) → p + n ≤ length xs → length ys ≡ n → length (put_mid p (p + n - p) xs ys) ≡ length xs
put_length p n xs ys h e = ap length (put_sets p (p + n - p) xs ys (omega arith) (omega arith)) ∙ length-sets xs p ys

-- every turn leaves less to copy
pub less : (all len i at n : ℕ) → n ≡ min (len - i) (all - at) → i < len → at < all → len - (i + n) < len - i
less all len i at n e h k = omega arith

pub keep_turn : (a : List ℕ) (off i at n : ℕ) (src last : List ℕ) → at ≡ (off + i) % length a → at + n ≤ length a → i + n ≤ length src
    → last ≡ take (i + n - i) (drop i src)
    → kept (put_mid at (at + n - at) a last) (off + (i + n)) (drop (i + n) src) ≡ kept a (off + i) (drop i src)
keep_turn a off i at n src last e h k is =
    let x : List ℕ = take (i + n - i) (drop i src) in
    let y : List ℕ = drop n (drop i src) in
    let z : i + n - i ≡ n = omega arith in
    let lx : length x ≡ n = part_length src i n k in
    let lv : length last ≡ n = ap length is ∙ lx in
    let o : off + (i + n) ≡ off + i + length x = omega arith in
    let run : put_mid at (at + n - at) a last ≡ kept a (off + i) x =
    put_sets at (at + n - at) a last (omega arith) (omega arith)
    ∙ ap (sets a at) is
    ∙ ap (λ (p : ℕ). sets a p x) e
    ∙ sym (kept_run a (off + i) x (omega arith)) in
    ap (λ (l : List ℕ). kept l (off + (i + n)) (drop (i + n) src)) run
    ∙ ap (λ (m : ℕ). kept (kept a (off + i) x) m (drop (i + n) src)) o
    ∙ ap (kept (kept a (off + i) x) (off + i + length x)) (sym (drop-drop n i src))
    ∙ sym (kept_append a (off + i) x y)
    ∙ ap (λ (m : ℕ). kept a (off + i) (take m (drop i src) ++ y)) z
    ∙ ap (kept a (off + i)) (take-append-drop n (drop i src))

-- the stretch `part` at the place of o, and then `rest` from the first place on: what is left lies there, since the stretch ends the arena
pub keep_part : (a : List ℕ) (o at : ℕ) (part rest last : List ℕ) → at ≡ o % length a → at + length part ≤ length a
    → (0 < length rest → at + length part ≡ length a) → last ≡ part
    → kept (put_mid at (at + length part - at) a last) 0 rest ≡ kept a o (part ++ rest)
keep_part a o at part rest last e h full is =
    let n : ℕ = length part in
    let src : List ℕ = part ++ rest in
    let b : List ℕ = put_mid at (at + n - at) a last in
    let lb : length b ≡ length a = put_length at n a last h (ap length is) in
    let ls : length src ≡ n + length rest = length-append part rest in
    let z : 0 + n ≡ n = omega arith in
    let y : 0 + n - 0 ≡ n = omega arith in
    let front : last ≡ take (0 + n - 0) src = is ∙ sym (take_at part rest (0 + n - 0) (sym y)) in
    let back : drop (0 + n) src ≡ rest = drop_at part rest (0 + n) (sym z) in
    let round : 0 < length rest → 0 % length b ≡ (o + (0 + n)) % length b =
    λ r. rw (lb, z) (zero-mod (length a) ∙ around (length a) o at n e (full r)) in
    kept_place b 0 (o + (0 + n)) rest round
    ∙ ap (kept b (o + (0 + n))) (sym back)
    ∙ keep_turn a o 0 at n src last (e ∙ ap (λ (m : ℕ). m % length a) (sym (add-zero o))) h (omega arith) front
    ∙ ap (λ (m : ℕ). kept a m src) (add-zero o)

-- the next of the stretches that start at the first place
pub keep_next : (a part rest more last : List ℕ) → more ≡ part ++ rest → length part ≡ min (length a) (length more) → last ≡ part
    → kept (last ++ drop (length part) a) 0 rest ≡ kept a 0 more
keep_next a part rest more last m n is =
    let l : length more ≡ length part + length rest = ap length m ∙ length-append part rest in
    let z : 0 + length part - 0 ≡ length part = omega arith in
    ap (λ (k : ℕ). kept (put_mid 0 k a last) 0 rest) (sym z)
    ∙ keep_part a 0 0 part rest last (sym (zero-mod (length a))) (omega arith) (λ r. omega arith) is
    ∙ ap (kept a 0) (sym m)

pub hand_turn : (a : List ℕ) (off i at n : ℕ) (out last : List ℕ) → at ≡ (off + i) % length a → at + n ≤ length a → i + n ≤ length out
    → last ≡ take (at + n - at) (drop at a) → take i out ≡ held a off i
    → take (i + n) (put_mid i (i + n - i) out last) ≡ held a off (i + n)
hand_turn a off i at n out last e h k is so =
    let z : at + n - at ≡ n = omega arith in
    let v : last ≡ take n (drop at a) = is ∙ ap (λ (m : ℕ). take m (drop at a)) z in
    let lv : length last ≡ n = ap length is ∙ part_length a at n h in
    let front : List ℕ = take i out ++ last in
    let lf : length front ≡ i + n = length-append (take i out) last ∙ ap (λ (m : ℕ). m + length last) (length-take-le i out (omega arith)) ∙ omega arith in
    let rest : List ℕ = drop (i + n - i) (drop i out) in
    let run : last ≡ held a (off + i) n = v ∙ ap (λ (p : ℕ). take n (drop p a)) e ∙ sym (held_run a (off + i) n (omega arith)) in
    ap (take (i + n)) (sym (append_assoc (take i out) last rest))
    ∙ take_at front rest (i + n) lf
    ∙ ap (λ (l : List ℕ). l ++ last) so
    ∙ ap (λ (l : List ℕ). held a off i ++ l) run
    ∙ sym (held_add a off i n)

-- the first stretch, from the place of off on
pub hand_first : (a : List ℕ) (off at n : ℕ) (out last : List ℕ) → at ≡ off % length a → at + n ≤ length a
    → last ≡ take (at + n - at) (drop at a) → take n (last ++ drop n out) ≡ held a off n
hand_first a off at n out last e h is =
    let z : at + n - at ≡ n = omega arith in
    let l : length last ≡ n = ap length is ∙ part_length a at n h in
    take_at last (drop n out) n l
    ∙ is
    ∙ ap (λ (m : ℕ). take m (drop at a)) z
    ∙ ap (λ (p : ℕ). take n (drop p a)) e
    ∙ sym (held_run a off n (omega arith))

-- the next of the stretches that start at the first place
pub hand_next : (a : List ℕ) (off i n : ℕ) (out last : List ℕ) → 0 ≡ (off + i) % length a → n ≤ length a → i + n ≤ length out
    → last ≡ take n a → take i out ≡ held a off i → take (i + n) (put_mid i (i + n - i) out last) ≡ held a off (i + n)
hand_next a off i n out last e h k is so =
    let z : n ≡ 0 + n - 0 = omega arith in
    hand_turn a off i 0 n out last e (omega arith) k (is ∙ ap (λ (m : ℕ). take m a) z) so

-- behind the last one
pub hand_end : (a : List ℕ) (off m : ℕ) (out old : List ℕ) → 0 < length a → m ≡ length out → length out ≡ length old
    → take m out ≡ held a off m → out ≡ handed a off old
hand_end a off m out old some e l so =
    sym (take_all m out (omega arith)) ∙ so ∙ ap (held a off) (e ∙ l) ∙ sym (handed_held a off old some)

-- an arena of no places
pub no_places_keep : (a : List ℕ) (o : ℕ) (bs : List ℕ) → length a ≡ 0 → a ≡ kept a o bs
unfolding kept
no_places_keep a o [] e = refl
no_places_keep [] o (b ∷ bs) e = no_places_keep [] (suc o) bs e
no_places_keep (x ∷ a) o (b ∷ bs) e = absurd (omega arith)

pub no_places_hand : (a : List ℕ) (o : ℕ) (out : List ℕ) → length a ≡ 0 → out ≡ handed a o out
unfolding handed
no_places_hand [] o out e = refl
no_places_hand (x ∷ a) o out e = absurd (omega arith)

-- no bytes
pub no_bytes_keep : (a : List ℕ) (o : ℕ) (bs : List ℕ) → length bs ≡ 0 → a ≡ kept a o bs
no_bytes_keep a o [] e = sym (kept_none a o)
no_bytes_keep a o (b ∷ bs) e = absurd (omega arith)

pub no_bytes_hand : (a : List ℕ) (o : ℕ) (out : List ℕ) → length out ≡ 0 → out ≡ handed a o out
unfolding handed held
no_bytes_hand [] o out e = refl
no_bytes_hand (x ∷ a) o [] e = refl
no_bytes_hand (x ∷ a) o (b ∷ out) e = absurd (omega arith)
