-- A table's places changed: one stored anew, one more in use, the front written over, one put in between, the first dropped. For entries of
-- any type. Assumes nothing.
use Rattle.std.specs.List.{copy_within}
use Rattle.std.proofs.Math.Seq.{take-set-lt, take-suc-set, take-append-add, set-append_seam}
use Rattle.std.proofs.lemmas.List.{set-append_left, drop-append-le, drop-drop, drop-take, drop-replicate}
use Rattle.std.proofs.lemmas.List.Edits.{drop-paste, take-paste}
use mathlib.Core.Path.{◌≡◌, sym, ap, ap₂, ◌∙◌}
use mathlib.Core.List.{List, [], ◌∷◌, ◌++◌, append_assoc}
use Prim.Native.Nat.{ℕ, suc, ◌+◌, ◌-◌, ◌≤◌, ◌<◌}
use native.Mathlib.Numerals.{add-one}
use native.Mathlib.Omega.{arith}
use lib.ListN.{length, take, drop, get_or, set, replicate, length-append, length-drop, length-set, take-append-drop}
use lib.Seq.{drop-cons, drop_at, set_split, paste}
use Rattle.tables.specs.Lists.{Table, table_of}
use Rattle.tables.proofs.Tables.{slots, view_length}

module _ {A : Type 0} (z : A) (n : ℕ) (xs : List A) (t : Table z n xs) where
  long : length (take n xs) ≡ n
  long = view_length z n xs t

  -- the places behind those in use are zero
  rest_zero : (i : ℕ) → n ≤ i → drop i xs ≡ replicate (64 - i) z
  rest_zero i h =
      let m : n + (i - n) ≡ i = omega arith in
      let k : 64 - length (take n xs) - (i - n) ≡ 64 - i = omega (arith, long) in
      let d : drop n xs ≡ replicate (64 - length (take n xs)) z = ap (drop n) t.clear ∙ drop_at (take n xs) (replicate (64 - length (take n xs)) z) n long in
      sym (drop-drop (i - n) n xs ∙ ap (λ (j : ℕ). drop j xs) m) ∙ ap (drop (i - n)) d ∙ drop-replicate (i - n) (64 - length (take n xs)) z ∙ ap (λ (j : ℕ). replicate j z) k

  -- those in use, from i on, and the zeros
  rest_of : (i : ℕ) → i ≤ n → drop i xs ≡ drop i (take n xs) ++ replicate (64 - n) z
  rest_of i h =
      ap (drop i) t.clear ∙ drop-append-le i (take n xs) (replicate (64 - length (take n xs)) z) (omega (arith, long))
      ∙ ap (λ (k : ℕ). drop i (take n xs) ++ replicate (64 - k) z) long

  -- one place in use stored anew
  pub put : (i : ℕ) (v : A) → i < n → (take n (set xs i v) ≡ set (take n xs) i v) × Table z n (set xs i v)
  put i v h =
      let l : List A = take n xs in
      let e : take n (set xs i v) ≡ set l i v = take-set-lt n xs i v h in
      let c : set xs i v ≡ table_of z (set l i v) =
      ap (λ (y : List A). set y i v) t.clear ∙ set-append_left l (replicate (64 - length l) z) i v (omega (arith, long)) ∙ ap (λ (k : ℕ). set l i v ++ replicate (64 - k) z) (sym (length-set l i v)) in
      (e, record { few = t.few; clear = c ∙ ap (table_of z) (sym e) })

  -- one place more in use
  pub push : (v : A) → n < 64 → (take (n + 1) (set xs n v) ≡ take n xs ++ (v ∷ [])) × Table z (n + 1) (set xs n v)
  push v h =
      let e : take (n + 1) (set xs n v) ≡ take n xs ++ (v ∷ []) = rw (add-one, take-suc-set xs n v (omega (arith, slots z n xs t))) in
      let m : 64 - length (take n xs ++ (v ∷ [])) ≡ 64 - suc n = simp (length-append, long) (omega arith) in
      let c : set xs n v ≡ table_of z (take n xs ++ (v ∷ [])) = rw (set_split xs n v (omega (arith, slots z n xs t)), rest_zero (suc n) (omega arith), m, append_assoc) in
      (e, record { few = omega arith; clear = c ∙ ap (table_of z) (sym e) })

  -- the first i places written over with f
  pub front_changed : (i : ℕ) (f : List A) → i ≤ n → length f ≡ i → f ++ drop i xs ≡ table_of z (f ++ drop i (take n xs))
  front_changed i f h e =
      let m : length (f ++ drop i (take n xs)) ≡ n = simp (length-append, length-drop) (omega (arith, long, e)) in
      ap (λ (y : List A). f ++ y) (rest_of i h) ∙ sym (append_assoc f (drop i (take n xs)) (replicate (64 - n) z)) ∙ ap (λ (k : ℕ). (f ++ drop i (take n xs)) ++ replicate (64 - k) z) (sym m)

  -- the same, and the entries from i on moved up by one, with v before them
  pub put_between : (i : ℕ) (f : List A) (v : A) → i ≤ n → n < 64 → length f ≡ i
      → set (copy_within (f ++ drop i xs) i n (i + 1)) i v ≡ table_of z (f ++ v ∷ drop i (take n xs))
  put_between i f v h k e =
      let ys : List A = f ++ drop i xs in
      let s : length xs ≡ 64 = slots z n xs t in
      let l : List A = drop i (take n xs) in
      let ll : length l ≡ n - i = simp length-drop (omega (arith, long)) in
      let r : List A = replicate (64 - suc n) z in
      let x : A = get_or xs i z in
      let more : drop i xs ≡ x ∷ drop (suc i) xs = drop-cons xs i z (omega (arith, s)) in
      let yl : length ys ≡ 64 = simp (length-append, length-drop) (omega (arith, e, s)) in
      let behind : drop i ys ≡ drop i xs = drop_at f (drop i xs) i e in
      let dl : length (drop i ys) ≡ 64 - i = simp length-drop (omega (arith, yl)) in
      let p : List A = paste ys (i + 1) (drop i ys) (n - i) in
      let front : take (i + 1) ys ≡ f ++ (x ∷ []) =
      ap (λ (j : ℕ). take (j + 1) ys) (sym e) ∙ take-append-add f (drop i xs) 1 ∙ ap (λ (m : List A). f ++ take 1 m) more in
      let moved : take (n - i) (drop i ys) ≡ l =
      ap (take (n - i)) behind ∙ sym (drop-take i (n - i) xs) ∙ ap (λ (j : ℕ). drop i (take j xs)) (omega arith) in
      let q : i + (n + 1 - i) ≡ n + 1 = omega arith in
      let zeros : drop (n + 1) ys ≡ r =
      ap (λ (j : ℕ). drop j ys) (sym q) ∙ sym (drop-drop (n + 1 - i) i ys) ∙ ap (drop (n + 1 - i)) behind ∙ drop-drop (n + 1 - i) i xs
      ∙ ap (λ (j : ℕ). drop j xs) q ∙ rest_zero (n + 1) (omega arith) ∙ ap (λ (j : ℕ). replicate j z) (omega arith) in
      let m : i + 1 + (n - i) ≡ n + 1 = omega arith in
      let whole : p ≡ f ++ x ∷ (l ++ r) =
      sym (take-append-drop (i + 1 + (n - i)) p)
      ∙ ap₂ (λ (y w : List A). y ++ w) (take-paste ys (i + 1) (drop i ys) (n - i) (omega (arith, yl)) (omega (arith, dl))) (drop-paste ys (i + 1) (drop i ys) (n - i) (omega (arith, yl)) (omega (arith, dl)))
      ∙ ap₂ (λ (y w : List A). (y ++ w) ++ drop (i + 1 + (n - i)) ys) front moved ∙ ap (λ (j : ℕ). ((f ++ (x ∷ [])) ++ l) ++ drop j ys) m
      ∙ ap (λ (w : List A). ((f ++ (x ∷ [])) ++ l) ++ w) zeros ∙ append_assoc (f ++ (x ∷ [])) l r ∙ append_assoc f (x ∷ []) (l ++ r) in
      let lv : 64 - length (f ++ v ∷ l) ≡ 64 - suc n = simp length-append (omega (arith, e, ll)) in
      ap (λ (y : List A). set y i v) whole ∙ ap (λ (j : ℕ). set (f ++ x ∷ (l ++ r)) j v) (sym e) ∙ set-append_seam f x (l ++ r) v
      ∙ sym (append_assoc f (v ∷ l) r) ∙ ap (λ (j : ℕ). (f ++ v ∷ l) ++ replicate j z) (sym lv)
