-- What moving the entries of a table leaves: the copy, and the zeros behind it. For entries of any type. Assumes nothing.
use Rattle.std.specs.List.{copy_within}
use Rattle.std.proofs.lemmas.List.{append_assoc, take_at, drop_at, set_at, take_more, drop-drop, drop-replicate, replicate-append-replicate, drop-append-le, take-append-le}
use mathlib.Core.Path.{◌≡◌, refl, sym, ap, ◌∙◌}
use mathlib.Core.List.{List, [], ◌∷◌, ◌++◌}
use Prim.Native.Nat.{ℕ, ◌+◌, ◌-◌, ◌≤◌, ◌<◌, max}
use native.Mathlib.Nat.{zero-add}
use native.Mathlib.Omega.{arith}
use lib.ListN.{length, take, drop, get_or, set, replicate, length-append, length-replicate, length-take, length-drop}
use borrow.Rule.Slice.PartMut.{put_mid}
use Rattle.tables.specs.Lists.{splice_at}

-- a table of w places that holds l
module _ {A : Type 0} (z : A) (w : ℕ) (l : List A) where
  abbrev pub table : List A
  table = l ++ replicate (w - length l) z

  behind : (e : ℕ) → length l ≤ e → drop e table ≡ replicate (w - e) z
  behind e h =
      let k : length l + (e - length l) ≡ e = omega arith in
      let r : w - length l - (e - length l) ≡ w - e = omega arith in
      ap (λ (n : ℕ). drop n table) (sym k) ∙ sym (drop-drop (e - length l) (length l) table)
      ∙ ap (drop (e - length l)) (drop_at l (replicate (w - length l) z) (length l) refl)
      ∙ drop-replicate (e - length l) (w - length l) z ∙ ap (λ (n : ℕ). replicate n z) r

  -- the entries `front` stand in the first m places, and those up to e became zero
  zeroed : (front : List A) (m e : ℕ) → length front ≡ m → m ≤ e → length l ≤ e → e ≤ w
      → put_mid m (e - m) (front ++ drop m table) (replicate (e - m) z) ≡ front ++ replicate (w - length front) z
  zeroed front m e n a b c =
      let k : m + (e - m) ≡ e = omega arith in
      let r : e - m + (w - e) ≡ w - length front = omega arith in
      rw (take_at front (drop m table) m n, drop_at front (drop m table) m n, drop-drop (e - m) m table, k, behind e b, replicate-append-replicate (e - m) (w - e) z, r) refl

  -- the entries from b on
  above : (b : ℕ) → b ≤ length l → take (length l - b) (drop b table) ≡ drop b l
  above b h = rw (drop-append-le b l (replicate (w - length l) z) h) (take_at (drop b l) (replicate (w - length l) z) (length l - b) (length-drop b l))

  -- the table t, of which the first n places hold l, without its lowest k
  pub dropped : (t : List A) (n k : ℕ) → t ≡ table → n ≡ length l → k ≤ n → n ≤ w
      → put_mid (n - k) (n - (n - k)) (copy_within t k n 0) (replicate (n - (n - k)) z) ≡ drop k l ++ replicate (w - length (drop k l)) z
  dropped t n k e f h le =
      let long : length (drop k l) ≡ length l - k = length-drop k l in
      rw (e, f, above k (omega arith), zero-add (length l - k)) (zeroed (drop k l) (length l - k) (length l) long (omega arith) (omega arith) (omega arith))

  -- and with x in the place of the entries from a to before b
  pub spliced : (t : List A) (n a b m e : ℕ) (x : A) → t ≡ table → n ≡ length l → a ≤ b → b ≤ n → m ≡ a + 1 + (n - b) → e ≡ max m n → e ≤ w
      → put_mid m (e - m) (set (copy_within t b n (a + 1)) a x) (replicate (e - m) z) ≡ splice_at a b x l ++ replicate (w - length (splice_at a b x l)) z
  spliced t n a b m e x f g al bl h top le =
      let rest = replicate (w - length l) z in
      let old = get_or table a z in
      let long : a < length table = simp (length-append, length-replicate) (omega arith) in
      let low : take (a + 1) table ≡ take a l ++ old ∷ [] = take_more table a z long ∙ ap (λ (p : List A). p ++ old ∷ []) (take-append-le a l rest (omega arith)) in
      let j : a + 1 + (length l - b) ≡ m = omega arith in
      let here : length (take a l) ≡ a = simp length-take (omega arith) in
      let copied : copy_within t b n (a + 1) ≡ take a l ++ old ∷ (drop b l ++ drop m table) = rw (f, g, above b (omega arith), low, j) (simp append_assoc) in
      let put : set (copy_within t b n (a + 1)) a x ≡ splice_at a b x l ++ drop m table =
      ap (λ (p : List A). set p a x) copied ∙ set_at (take a l) old (drop b l ++ drop m table) x a here ∙ sym (append_assoc (take a l) (x ∷ drop b l) (drop m table)) in
      let k : length (splice_at a b x l) ≡ m = simp (length-append, length-take, length-drop) (omega arith) in
      rw put (zeroed (splice_at a b x l) m e k (omega arith) (omega arith) le)
