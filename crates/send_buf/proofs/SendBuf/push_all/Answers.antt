-- `SendBuf::push_all` meets its contract. The invariant: the chunks up to here are joined. Assumes nothing.
use Prim.Native.Nat.{◌+◌, ◌<◌, ◌≤◌}
use Rattle.std.proofs.lemmas.Result.{err_from_is_err_and}
use Rattle.range_buf.specs.Rules.{zero_buf}
use Rattle.range_buf.specs.declared.RangeBuf.{RangeBuf}
use Rattle.send_buf.proofs.Pushing.{all_fewer, all_more, chunks_with, tiled_here, with_again}
use Rattle.send_buf.specs.Check.{chunks_of}
use Rattle.send_buf.specs.Steps.{pushed, pushed_all, with_chunks, Tiled}
use lib.ListN.{get_or, length, take}
use mathlib.Core.List.{List, [], ◌∷◌, ◌++◌}
use mathlib.Core.Path.{◌≡◌, ◌∙◌, ap, sym, subst}
use native.Mathlib.Omega.{arith}
use Rattle.send_buf.proofs.SendBuf.push_all.Goals as goal

pub push-requires-clause-tiled : goal.push-requires-clause-tiled
push-requires-clause-tiled c =
    let v = c.loop-buf in
    let b = c.args.self.now in
    let l : List RangeBuf = pushed_all (chunks_of b) (take v.buf-index c.args.chunks.now) in
    subst (λ (x : List RangeBuf). Tiled (x ++ (get_or c.args.chunks.now v.buf-index zero_buf ∷ []))) (sym (chunks_with b v.self l v.invariant.0))
    (tiled_here (chunks_of b) c.args.chunks.now v.buf-index c.loop-buf-test.true c.requires.tiled)

pub returns-in_err-push-clause-full : goal.returns-in_err-push-clause-full
returns-in_err-push-clause-full c =
    let v = c.loop-buf in
    let b = c.args.self.now in
    let l : List RangeBuf = pushed_all (chunks_of b) (take v.buf-index c.args.chunks.now) in
    let p = err_from_is_err_and c.from_residual.result c.from_residual.ensures.1 in
    let f = c.in_err-push.ensures.full in
    let n : 64 < length (pushed l (get_or c.args.chunks.now v.buf-index zero_buf)) = subst (λ (x : List RangeBuf). 64 < length (pushed x (get_or c.args.chunks.now v.buf-index zero_buf))) (chunks_with b v.self l v.invariant.0) f.1 in
    rw (p.1, p.2) (f.0, omega (arith, n, all_fewer (chunks_of b) c.args.chunks.now v.buf-index c.loop-buf-test.true))

pub loop-buf-preserved : goal.loop-buf-preserved
loop-buf-preserved c =
    let v = c.loop-buf in
    let b = c.args.self.now in
    let buf = get_or c.args.chunks.now v.buf-index zero_buf in
    let l : List RangeBuf = pushed_all (chunks_of b) (take v.buf-index c.args.chunks.now) in
    let o = c.in_ok-push.ensures.ok in
    let e : pushed (chunks_of v.self) buf ≡ pushed_all (chunks_of b) (take (v.buf-index + 1) c.args.chunks.now) =
    ap (λ (x : List RangeBuf). pushed x buf) (chunks_with b v.self l v.invariant.0) ∙ sym (all_more (chunks_of b) c.args.chunks.now v.buf-index c.loop-buf-test.true) in
    (with_again b v.self l v.invariant.0 c.push.new.self (pushed (chunks_of v.self) buf) o.0 ∙ ap (with_chunks b) e, subst (λ (x : List RangeBuf). length x ≤ 64) e o.1)
