-- What a frame does, by the judgement of its numbers. Assumes nothing.
use Rattle.std.specs.Prelude.{Result, Ok, Err, Option, ⊤}
use mathlib.Core.Path.{◌≡◌, refl, ◌∙◌}
use mathlib.Core.Bool.{Bool, true, false, cond}
use mathlib.Core.List.{List, [], ◌∷◌}
use Prim.Native.Nat.{ℕ, ◌+◌, ◌≤◌}
use native.Mathlib.Omega.{arith}
use lib.Dec.{ltb}
use lib.ListN.{length}
use Rattle.refusal.specs.declared.Refusal.{Refusal}
use Rattle.refusal.specs.declared.Refusal.TheVariants.{Offset, FinalSize, FlowControl as OverLimit, NoRoom, TableFull, BadSetup}
use Rattle.refusal.specs.Rules.{M, after}
use Rattle.range_buf.specs.declared.RangeBuf.{RangeBuf}
use Rattle.recv_buf.specs.declared.RecvBuf.{RecvBuf}
use Rattle.recv_buf.specs.declared.Entries.{Entries}
use Rattle.recv_buf.specs.State.{Recv, view_of, buf_of}
use Rattle.recv_buf.specs.Rules.{other_arena, passes_final, no_room, no_entry, write_judged, kept_new, with_chunks, with_ends}
use Rattle.recv_buf.specs.Steps.{listed, grown, frame_judged}
use Rattle.recv_buf.proofs.Pushing.{made_of}

-- the last refusal comes behind the others
chain_then : (a b c d e : Bool) (x : Result ⊤ Refusal) → let y = cond a (Err BadSetup) (cond b (Err Offset) (cond c (Err OverLimit) (cond d (Err FinalSize) (cond e (Err NoRoom) (Ok tt))))) in
    cond a (Err BadSetup) (cond b (Err Offset) (cond c (Err OverLimit) (cond d (Err FinalSize) (cond e (Err NoRoom) x)))) ≡ after y x y
chain_then true b c d e x = refl
chain_then false true c d e x = refl
chain_then false false true d e x = refl
chain_then false false false true e x = refl
chain_then false false false false true x = refl
chain_then false false false false false x = refl

module _ (r : Recv) (a s n : ℕ) (fin : Bool) where
  judged_then : write_judged r a s n fin ≡ after (frame_judged r a s n fin) (cond (no_entry r s n fin) (Err TableFull) (Ok tt)) (frame_judged r a s n fin)
  unfolding write_judged frame_judged
  judged_then =
      chain_then (other_arena r a) (ltb M (s + n)) (ltb r.flow.max_data (s + n)) (passes_final r.fin r.len (s + n) fin) (no_room r s n) (cond (no_entry r s n fin) (Err TableFull) (Ok tt))

  pub judged_refused : (why : Refusal) → frame_judged r a s n fin ≡ Err why → write_judged r a s n fin ≡ Err why
  judged_refused why e = judged_then ∙ rw e

  pub judged_passed : frame_judged r a s n fin ≡ Ok tt → write_judged r a s n fin ≡ cond (no_entry r s n fin) (Err TableFull) (Ok tt)
  judged_passed e = judged_then ∙ rw e

-- no bytes change nothing of the arena
kept_none : (r : Recv) (ar : List ℕ) (s : ℕ) (bytes : List ℕ) → length bytes ≡ 0 → kept_new r ar s bytes ≡ ar
kept_none r ar s [] e = refl
kept_none r ar s (x ∷ xs) e = absurd (omega arith)

pub no_bytes : (drain : Bool) (r : Recv) (ar : List ℕ) (s : ℕ) (bytes : List ℕ) → length bytes ≡ 0 → cond drain ar (kept_new r ar s bytes) ≡ ar
no_bytes true r ar s bytes e = refl
no_bytes false r ar s bytes e = kept_none r ar s bytes e

-- the buffer after a frame is that of its numbers and lists
pub grown_lem : (b : RecvBuf) (t : Entries) (l : List RangeBuf) (len : ℕ) (fin : Option ℕ) → t ≡ listed l → length l ≤ 64
    → grown b t len fin ≡ buf_of (with_ends (with_chunks (view_of b) l) b.off len fin)
unfolding grown
grown_lem b t l len fin e h = made_of (with_ends (with_chunks (view_of b) l) b.off len fin) t e h

-- ---- for `write`

pub ruleset writes = (judged_refused, judged_passed, no_bytes, grown_lem)
