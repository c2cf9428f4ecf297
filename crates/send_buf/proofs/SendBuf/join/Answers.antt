-- `SendBuf::join` meets its contract. Assumes nothing.
use Prim.Native.Nat.{◌<◌, ◌≤◌}
use Rattle.std.proofs.lemmas.Result.{err_from_is_err_and, MatchResult-weaker}
use Rattle.range_buf.specs.declared.RangeBuf.{RangeBuf}
use Rattle.send_buf.proofs.Pushing.{all_joined, chunks_with, full_front, full_one, tiled_front, tiled_one, tiled_rest, with_again}
use Rattle.send_buf.specs.Check.{chunks_of}
use Rattle.send_buf.specs.Rules.{joined}
use Rattle.send_buf.specs.Steps.{pushed, pushed_all, with_chunks, Tiled}
use lib.ListN.{length}
use mathlib.Core.List.{List, [], ◌∷◌, ◌++◌}
use mathlib.Core.Path.{◌≡◌, ◌∙◌, ap, sym, subst}
use Rattle.send_buf.proofs.SendBuf.join.Goals as goal

pub push_all-requires-clause-tiled : goal.push_all-requires-clause-tiled
push_all-requires-clause-tiled c =
    let b = c.args.self.now in
    subst (λ (x : List RangeBuf). Tiled (x ++ c.args.front.now)) (sym (chunks_with b b [] c.requires.none)) (tiled_front c.args.front.now (c.args.buf ∷ c.args.rest.now) c.requires.tiled)

pub returns-in_err-push_all-clause-full : goal.returns-in_err-push_all-clause-full
returns-in_err-push_all-clause-full c =
    let b = c.args.self.now in
    let l : List RangeBuf = pushed_all [] c.args.front.now in
    let none : chunks_of b ≡ [] = chunks_with b b [] c.requires.none in
    let f = c.in_err-push_all.ensures.full in
    let r = err_from_is_err_and c.from_residual.result c.from_residual.ensures.1 in
    rw (r.1, r.2) (f.0, full_front c.args.front.now c.args.buf c.args.rest.now c.requires.tiled (subst (λ (x : List RangeBuf). 64 < length (pushed_all x c.args.front.now)) none f.1))

pub push-requires-clause-tiled : goal.push-requires-clause-tiled
push-requires-clause-tiled c =
    let b = c.args.self.now in
    let l : List RangeBuf = pushed_all [] c.args.front.now in
    let none : chunks_of b ≡ [] = chunks_with b b [] c.requires.none in
    let s = c.push_all.new.self in
    let p : (s ≡ with_chunks b l) × (length l ≤ 64) = subst (λ (x : List RangeBuf). (s ≡ with_chunks b (pushed_all x c.args.front.now)) × (length (pushed_all x c.args.front.now) ≤ 64)) none c.in_ok-push_all.ensures.ok in
    subst (λ (x : List RangeBuf). Tiled (x ++ (c.args.buf ∷ []))) (sym (chunks_with b s l p.0)) (tiled_one c.args.front.now c.args.buf c.args.rest.now c.requires.tiled)

pub returns-in_err-push-clause-full : goal.returns-in_err-push-clause-full
returns-in_err-push-clause-full c =
    let b = c.args.self.now in
    let l : List RangeBuf = pushed_all [] c.args.front.now in
    let none : chunks_of b ≡ [] = chunks_with b b [] c.requires.none in
    let s = c.push_all.new.self in
    let p : (s ≡ with_chunks b l) × (length l ≤ 64) = subst (λ (x : List RangeBuf). (s ≡ with_chunks b (pushed_all x c.args.front.now)) × (length (pushed_all x c.args.front.now) ≤ 64)) none c.in_ok-push_all.ensures.ok in
    let f = c.in_err-push.ensures.full in
    let r = err_from_is_err_and c.from_residual-in_err-push.result c.from_residual-in_err-push.ensures.1 in
    rw (r.1, r.2) (f.0, full_one c.args.front.now c.args.buf c.args.rest.now c.requires.tiled (subst (λ (x : List RangeBuf). 64 < length (pushed x c.args.buf)) (chunks_with b s l p.0) f.1))

pub push_all-requires-2-clause-tiled : goal.push_all-requires-2-clause-tiled
push_all-requires-2-clause-tiled c =
    let b = c.args.self.now in
    let l : List RangeBuf = pushed_all [] c.args.front.now in
    let none : chunks_of b ≡ [] = chunks_with b b [] c.requires.none in
    let s = c.push_all.new.self in
    let p : (s ≡ with_chunks b l) × (length l ≤ 64) = subst (λ (x : List RangeBuf). (s ≡ with_chunks b (pushed_all x c.args.front.now)) × (length (pushed_all x c.args.front.now) ≤ 64)) none c.in_ok-push_all.ensures.ok in
    let t = c.push.new.self in
    let q : (t ≡ with_chunks b (pushed l c.args.buf)) × (length (pushed l c.args.buf) ≤ 64) =
    subst (λ (x : List RangeBuf). (t ≡ with_chunks b (pushed x c.args.buf)) × (length (pushed x c.args.buf) ≤ 64)) (chunks_with b s l p.0)
    (with_again b s l p.0 t (pushed (chunks_of s) c.args.buf) c.in_ok-push.ensures.ok.0, c.in_ok-push.ensures.ok.1) in
    subst (λ (x : List RangeBuf). Tiled (x ++ c.args.rest.now)) (sym (chunks_with b t (pushed l c.args.buf) q.0)) (tiled_rest c.args.front.now c.args.buf c.args.rest.now c.requires.tiled)

pub returns-clause-ok : goal.returns-clause-ok
returns-clause-ok c =
    let b = c.args.self.now in
    let l : List RangeBuf = pushed_all [] c.args.front.now in
    let none : chunks_of b ≡ [] = chunks_with b b [] c.requires.none in
    let s = c.push_all.new.self in
    let p : (s ≡ with_chunks b l) × (length l ≤ 64) = subst (λ (x : List RangeBuf). (s ≡ with_chunks b (pushed_all x c.args.front.now)) × (length (pushed_all x c.args.front.now) ≤ 64)) none c.in_ok-push_all.ensures.ok in
    let t = c.push.new.self in
    let q : (t ≡ with_chunks b (pushed l c.args.buf)) × (length (pushed l c.args.buf) ≤ 64) =
    subst (λ (x : List RangeBuf). (t ≡ with_chunks b (pushed x c.args.buf)) × (length (pushed x c.args.buf) ≤ 64)) (chunks_with b s l p.0)
    (with_again b s l p.0 t (pushed (chunks_of s) c.args.buf) c.in_ok-push.ensures.ok.0, c.in_ok-push.ensures.ok.1) in
    let u = c.push_all-2.new.self in
    let e : pushed_all (chunks_of t) c.args.rest.now ≡ joined (c.args.front.now ++ c.args.buf ∷ c.args.rest.now) =
    ap (λ (x : List RangeBuf). pushed_all x c.args.rest.now) (chunks_with b t (pushed l c.args.buf) q.0) ∙ all_joined c.args.front.now c.args.buf c.args.rest.now c.requires.tiled in
    MatchResult-weaker c.push_all-2.result c.push_all-2.ensures.ok
    (λ done h. (with_again b t (pushed l c.args.buf) q.0 u (pushed_all (chunks_of t) c.args.rest.now) h.0 ∙ ap (with_chunks b) e, subst (λ (x : List RangeBuf). length x ≤ 64) e h.1)) (λ why h. h)

pub returns-clause-full : goal.returns-clause-full
returns-clause-full c =
    let b = c.args.self.now in
    let l : List RangeBuf = pushed_all [] c.args.front.now in
    let none : chunks_of b ≡ [] = chunks_with b b [] c.requires.none in
    let s = c.push_all.new.self in
    let p : (s ≡ with_chunks b l) × (length l ≤ 64) = subst (λ (x : List RangeBuf). (s ≡ with_chunks b (pushed_all x c.args.front.now)) × (length (pushed_all x c.args.front.now) ≤ 64)) none c.in_ok-push_all.ensures.ok in
    let t = c.push.new.self in
    let q : (t ≡ with_chunks b (pushed l c.args.buf)) × (length (pushed l c.args.buf) ≤ 64) =
    subst (λ (x : List RangeBuf). (t ≡ with_chunks b (pushed x c.args.buf)) × (length (pushed x c.args.buf) ≤ 64)) (chunks_with b s l p.0)
    (with_again b s l p.0 t (pushed (chunks_of s) c.args.buf) c.in_ok-push.ensures.ok.0, c.in_ok-push.ensures.ok.1) in
    let e : pushed_all (chunks_of t) c.args.rest.now ≡ joined (c.args.front.now ++ c.args.buf ∷ c.args.rest.now) =
    ap (λ (x : List RangeBuf). pushed_all x c.args.rest.now) (chunks_with b t (pushed l c.args.buf) q.0) ∙ all_joined c.args.front.now c.args.buf c.args.rest.now c.requires.tiled in
    MatchResult-weaker c.push_all-2.result c.push_all-2.ensures.full (λ done h. h) (λ why h. (h.0, subst (λ (x : List RangeBuf). 64 < length x) e h.1))
