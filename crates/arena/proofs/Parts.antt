-- A part of an output that was lent comes back filled: its front, or straight behind the bytes already placed. Assumes nothing.
use mathlib.Core.Path.{◌≡◌, sym, ap, ◌∙◌}
use mathlib.Core.List.{List, ◌++◌, append_assoc, append-nil}
use Prim.Native.Nat.{ℕ, ◌+◌, ◌-◌, ◌≤◌, ◌<◌}
use native.Mathlib.Omega.{arith}
use lib.ListN.{length, take, drop, length-append, length-drop, drop_of_length-le}
use lib.Seq.{take_at, drop_at, drop-drop, take_all, length-take-le}
use borrow.Rule.Slice.PartMut.{put_mid}
use Rattle.arena.specs.Rules.{held, handed}
use Rattle.arena.proofs.Laws.{length_held, held_add, handed_held}

-- the front of an output, filled
pub filled_front : (ar out last : List ℕ) (o k : ℕ) → 0 < length ar → k ≤ length out → last ≡ handed ar o (take (k - 0) out)
    → last ++ drop (k - 0) out ≡ held ar o k ++ drop k out
filled_front ar out last o k h l e =
    let z : k - 0 ≡ k = omega arith in
    rw (e, z, handed_held ar o (take k out) h, length-take-le k out l)

-- the whole rest behind x, filled by y
put_rest : (a k : ℕ) (x rest y : List ℕ) → length x ≡ a → length rest ≤ k → put_mid a k (x ++ rest) y ≡ x ++ y
put_rest a k x rest y e h =
    let p : put_mid a k (x ++ rest) y ≡ (x ++ y) ++ drop k rest = rw (take_at x rest a e, drop_at x rest a e, append_assoc x y (drop k rest)) in
    p ∙ ap (λ (l : List ℕ). (x ++ y) ++ l) (drop_of_length-le rest h) ∙ append-nil (x ++ y)

-- k bytes more, straight behind those already placed
pub placed_more : (ar out₀ out last : List ℕ) (o done k at : ℕ) → at ≡ o + done → done ≤ length out₀
    → out ≡ held ar o done ++ drop done out₀
    → last ≡ held ar at k ++ drop k (take (length out - done) (drop done out))
    → put_mid done (length out - done) out last ≡ held ar o (done + k) ++ drop (done + k) out₀
placed_more ar out₀ out last o done k at e h p q =
    let x : List ℕ = held ar o done in
    let rest : List ℕ = drop done out₀ in
    let y : List ℕ = held ar at k in
    let lx : length x ≡ done = length_held ar o done in
    let lr : length rest ≡ length out₀ - done = length-drop done out₀ in
    let lo : length out ≡ length x + length rest = ap length p ∙ length-append x rest in
    let tail : drop done out ≡ rest = ap (drop done) p ∙ drop_at x rest done lx in
    let full : take (length out - done) (drop done out) ≡ rest = ap (take (length out - done)) tail ∙ take_all (length out - done) rest (omega arith) in
    let filled : last ≡ y ++ drop (done + k) out₀ = q ∙ ap (λ (l : List ℕ). y ++ drop k l) full ∙ ap (λ (l : List ℕ). y ++ l) (drop-drop k done out₀) in
    ap (λ (l : List ℕ). put_mid done (length out - done) l last) p
    ∙ put_rest done (length out - done) x rest last lx (omega arith)
    ∙ ap (λ (l : List ℕ). x ++ l) filled
    ∙ sym (append_assoc x y (drop (done + k) out₀))
    ∙ ap (λ (l : List ℕ). l ++ drop (done + k) out₀) (ap (λ (n : ℕ). x ++ held ar n k) e ∙ sym (held_add ar o done k))

-- the room that is then left of n bytes: a less, if k is a; none, if k is all that there was
pub room_left : (n done k a : ℕ) → k ≡ a → n - done - a ≡ n - (done + k)
room_left n done k a e = omega arith

pub room_used : (n done k : ℕ) → k ≡ n - done → n - (done + k) ≡ 0
room_used n done k e = omega arith
