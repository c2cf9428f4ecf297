-- The receive buffer, as docs/RULES.md, 7, has it (refusals 1, 3, 4, 5, 6, 8, 9, 10).
--
-- The life of a byte. A frame brings it: it is KEPT, if it lies at or above `off` and no byte is kept there yet, at its place in the arena,
-- in the chunk of its run. Once all before it were handed out, an emit HANDS it OUT: `off` goes past it, and its place is free.
--
--      handed out | kept, with holes between the chunks |
--                off                                   len        off + A
--
-- Each call has its refusals, one named test to a line in the order of RULES 2.2, and apart from them its effect. Sums are whole numbers.
-- `cond t x y` is x if the test t holds, else y.
use Rattle.std.specs.Prelude.{Bool, true, false, cond, not, ◌&&◌, ◌||◌, List, [], ◌∷◌, ◌++◌, ℕ, suc, ◌+◌, ◌-◌, ◌%◌, min, max, ltb, leb, eqb, length, drop, set, Result, Ok, Err, Option, Some, None, ⊤}
use Rattle.refusal.specs.declared.Refusal.TheVariants.{Offset, FinalSize, FlowControl as OverLimit, NoRoom, TableFull, Done as NothingReady, Reset, BadSetup}
use Rattle.refusal.specs.declared.Outcome.{Outcome}
use Rattle.refusal.specs.declared.Refusal.{Refusal}
use Rattle.refusal.specs.Rules.{M, after, known, is_at, is_other, fin_with, with_bytes, with_sizes}
use Rattle.arena.specs.Rules.{held}
use Rattle.range_buf.specs.declared.RangeBuf.{RangeBuf}
use Rattle.range_buf.specs.Rules.{start, end, avail, fresh, used}
use Rattle.flowcontrol.specs.declared.FlowControl.{FlowControl}
use Rattle.flowcontrol.specs.Rules.{fresh as new_flow, with_consumed, due, committed, autotuned}
use Rattle.recv_buf.specs.declared.RecvBuf.{RecvBuf}
use Rattle.recv_buf.specs.State.{Recv, buf_of}

-- ---- what several calls share

-- an arena of another length than at creation; one of no bytes is never right
abbrev pub other_arena : Recv → ℕ → Bool
other_arena r a = eqb a 0 || not (eqb a r.room)

-- other chunks; another end of what was handed out, highest end and final size; another window
abbrev pub with_chunks : Recv → List RangeBuf → Recv
with_chunks r chunks = record r { chunks = chunks }

abbrev pub with_ends : Recv → ℕ → ℕ → Option ℕ → Recv
with_ends r off len fin = record r { off = off; len = len; fin = fin }

abbrev pub with_flow : Recv → FlowControl → Recv
with_flow r flow = record r { flow = flow }

-- the code of a reset, and shut down or not
abbrev pub with_closed : Recv → Option ℕ → Bool → Recv
with_closed r error drain = record r { error = error; drain = drain }

-- ---- creation

-- a buffer that saw nothing, for an arena of A bytes
abbrev pub new_recv : ℕ → ℕ → ℕ → Recv
new_recv A limit maximum =
    record { room = A; chunks = []; off = 0; len = 0; flow = new_flow limit limit maximum; fin = None; error = None; drain = false }

-- A from 1 to 65,536, limit and maximum window at most M
abbrev pub bad_numbers : ℕ → ℕ → ℕ → Bool
bad_numbers limit maximum A = eqb A 0 || ltb 65536 A || ltb M limit || ltb M maximum

-- `new`. With a refusal comes a dead buffer: it is for an arena of no bytes, so every call that takes an arena answers BadSetup
unfoldable pub created : ℕ → ℕ → ℕ → Outcome ⊤ RecvBuf
created limit maximum A =
    cond (bad_numbers limit maximum A) (record { answer = Err BadSetup; state = buf_of (new_recv 0 0 0) })
    (record { answer = Ok tt; state = buf_of (new_recv A limit maximum) })

-- ---- write: a frame of n bytes at s, so that it ends at e = s + n, marked as the end or not

-- F is known and e > F, or F is known and the frame is marked with e ≠ F, or marked with e < len
abbrev pub passes_final : Option ℕ → ℕ → ℕ → Bool → Bool
passes_final None len e fin = fin && ltb e len
passes_final (Some f) len e fin = ltb f e || fin && not (eqb e f) || fin && ltb e len

-- the frame has bytes and e - off > A; not asked after shutdown
abbrev pub no_room : Recv → ℕ → ℕ → Bool
no_room r s n = not r.drain && (ltb 0 n && ltb r.room (s + n - r.off))

-- the bytes from lo to before hi as a chunk, if there are any
abbrev pub run : ℕ → ℕ → List RangeBuf → List RangeBuf
run lo hi cs = cond (ltb lo hi) (fresh lo (hi - lo) ∷ cs) cs

-- an empty chunk that stands at hi goes: the data chunk before it ends there
abbrev pub unmark : ℕ → List RangeBuf → List RangeBuf
unmark hi [] = []
unmark hi (c ∷ cs) = cond (eqb (end c) hi) cs (c ∷ cs)

-- the chunks once the frame's bytes from lo to before hi came: each run that no chunk holds becomes a chunk
abbrev pub filled : List RangeBuf → ℕ → ℕ → List RangeBuf
filled [] lo hi = run lo hi []
filled (c ∷ cs) lo hi =
    cond (leb hi (start c)) (cond (ltb lo hi) (fresh lo (hi - lo) ∷ unmark hi (c ∷ cs)) (c ∷ cs))
    (run lo (start c) (c ∷ filled cs (max lo (end c)) hi))

-- an empty chunk at f, unless a chunk ends there
abbrev pub marked_at : List RangeBuf → ℕ → List RangeBuf
marked_at [] f = fresh f 0 ∷ []
marked_at (c ∷ cs) f = cond (eqb (end c) f) (c ∷ cs) (c ∷ marked_at cs f)

-- the chunks after an accepted frame: a frame without bytes leaves an empty chunk only if it is the first to set F
abbrev pub chunks_after : Recv → ℕ → ℕ → Bool → List RangeBuf
chunks_after r s n fin =
    cond (eqb n 0) (cond (not (known r.fin) && fin) (marked_at r.chunks s) r.chunks)
    (filled r.chunks (max s r.off) (s + n))

-- a 65th chunk would be needed; not asked after shutdown
abbrev pub no_entry : Recv → ℕ → ℕ → Bool → Bool
no_entry r s n fin = not r.drain && ltb 64 (length (chunks_after r s n fin))

-- the refusals, for an arena of a bytes
unfoldable pub write_judged : Recv → ℕ → ℕ → ℕ → Bool → Result ⊤ Refusal
write_judged r a s n fin =
    cond (other_arena r a) (Err BadSetup) (
    cond (ltb M (s + n)) (Err Offset) (
    cond (ltb r.flow.max_data (s + n)) (Err OverLimit) (
    cond (passes_final r.fin r.len (s + n) fin) (Err FinalSize) (
    cond (no_room r s n) (Err NoRoom) (
    cond (no_entry r s n fin) (Err TableFull) (
    Ok tt))))))

-- the effect. A frame without bytes or mark changes nothing. After shutdown nothing is kept, and off becomes len
unfoldable pub wrote : Recv → ℕ → ℕ → Bool → Recv
wrote r s n fin =
    let top = max r.len (s + n) in
    cond (eqb n 0 && not fin) r (
    cond r.drain (with_ends r top top (fin_with r.fin (s + n) fin)) (
    with_ends (with_chunks r (chunks_after r s n fin)) r.off top (fin_with r.fin (s + n) fin)))

-- offset o has a byte in one of the chunks
abbrev pub holds : List RangeBuf → ℕ → Bool
holds [] o = false
holds (c ∷ cs) o = leb (start c) o && ltb o (end c) || holds cs o

-- the arena once the bytes came from offset o on: those below off, or kept already, are ignored; the first arrival stays
abbrev pub kept_new : Recv → List ℕ → ℕ → List ℕ → List ℕ
kept_new r ar o [] = ar
kept_new r ar o (b ∷ bs) = kept_new r (cond (leb r.off o && not (holds r.chunks o)) (set ar (o % length ar) b) ar) (suc o) bs

-- `write`: its answer and state; and the arena after it
unfoldable pub written : Recv → ℕ → ℕ → ℕ → Bool → Outcome ⊤ RecvBuf
written r a s n fin =
    let said = write_judged r a s n fin in
    record { answer = said; state = buf_of (after said (wrote r s n fin) r) }

unfoldable pub written_arena : Recv → List ℕ → ℕ → List ℕ → Bool → List ℕ
written_arena r ar s bytes fin =
    after (write_judged r (length ar) s (length bytes) fin) (cond r.drain ar (kept_new r ar s bytes)) ar

-- ---- emit and discard: up to n bytes

-- the first chunk starts at off
abbrev pub is_ready : List RangeBuf → ℕ → Bool
is_ready [] off = false
is_ready (c ∷ cs) off = eqb (start c) off

-- adjoining bytes from off on; a whole chunk, also an empty one, goes if room was left when it was reached: how many bytes, and the chunks left
abbrev pub taken : List RangeBuf → ℕ → ℕ → ℕ
taken [] off n = 0
taken (c ∷ cs) off n =
    cond (eqb (start c) off && ltb 0 n) (cond (leb (avail c) n) (avail c + taken cs (off + avail c) (n - avail c)) n) 0

abbrev pub left_over : List RangeBuf → ℕ → ℕ → List RangeBuf
left_over [] off n = []
left_over (c ∷ cs) off n =
    cond (eqb (start c) off && ltb 0 n) (cond (leb (avail c) n) (left_over cs (off + avail c) (n - avail c)) (used c n ∷ cs)) (c ∷ cs)

abbrev pub takes : Recv → ℕ → ℕ
takes r n = taken r.chunks r.off n

-- after a reset, its code
abbrev pub unless_reset : Option ℕ → Result ⊤ Refusal → Result ⊤ Refusal
unless_reset None x = x
unless_reset (Some code) x = Err (Reset code)

-- the refusals, the arena's apart
unfoldable pub take_judged : Recv → ℕ → Result ⊤ Refusal
take_judged r n =
    cond (not (is_ready r.chunks r.off)) (Err NothingReady) (
    unless_reset r.error (
    cond (ltb M (r.flow.consumed + takes r n)) (Err Offset) (
    Ok tt)))

-- the effect: the count goes to `off` and to consumed
unfoldable pub took_out : Recv → ℕ → Recv
took_out r n =
    with_flow (with_ends (with_chunks r (left_over r.chunks r.off n)) (r.off + takes r n) r.len r.fin)
    (with_consumed r.flow (r.flow.consumed + takes r n))

-- the state after a refusal: 9 clears the chunks, every other leaves it
abbrev pub refused_take : Recv → Recv
refused_take r = cond (is_ready r.chunks r.off && known r.error) (with_chunks r []) r

-- `discard`: the same as an emit, with no output and no arena. The answer: the count, and whether off = F
unfoldable pub discarded : Recv → ℕ → Outcome (ℕ × Bool) RecvBuf
discarded r n =
    let said = take_judged r n in
    record { answer = with_bytes said (takes r n) (is_at r.fin (r.off + takes r n)); state = buf_of (after said (took_out r n) (refused_take r)) }

-- `emit`: BadSetup comes first
unfoldable pub emitted : Recv → ℕ → ℕ → Outcome (ℕ × Bool) RecvBuf
emitted r a n = cond (other_arena r a) (record { answer = Err BadSetup; state = buf_of r }) (discarded r n)

-- the output after it: the bytes from off on, and the rest as it was
unfoldable pub emitted_out : Recv → List ℕ → List ℕ → List ℕ
emitted_out r ar out =
    let k = takes r (length out) in
    cond (other_arena r (length ar)) out (after (take_judged r (length out)) (held ar r.off k ++ drop k out) out)

-- ---- reset and shutdown

-- F is known and differs, or the size is below len
abbrev pub bad_size : Recv → ℕ → Bool
bad_size r size = is_other r.fin size || ltb size r.len

-- an earlier reset answers (0, 0) and changes nothing; it is not tested against the limit
abbrev pub over_limit : Recv → ℕ → Bool
over_limit r size = not (known r.error) && ltb r.flow.max_data size

-- the refusals
unfoldable pub reset_judged : Recv → ℕ → Result ⊤ Refusal
reset_judged r size =
    cond (ltb M size) (Err Offset) (
    cond (bad_size r size) (Err FinalSize) (
    cond (over_limit r size) (Err OverLimit) (
    Ok tt)))

-- the effect: the chunks go, off, len and F are the size, and an empty chunk there tells the reader, or none after shutdown
unfoldable pub was_reset : Recv → ℕ → ℕ → Recv
was_reset r code size =
    cond (known r.error) r
    (with_closed (with_ends (with_chunks r (cond r.drain [] (fresh size 0 ∷ []))) size size (Some size)) (Some code) r.drain)

-- `reset`: the answer is how far the size is above len, and above off
unfoldable pub resets : Recv → ℕ → ℕ → Outcome (ℕ × ℕ) RecvBuf
resets r code size =
    let said = reset_judged r size in
    record {
      answer = with_sizes said (cond (known r.error) 0 (size - r.len)) (cond (known r.error) 0 (size - r.off));
      state = buf_of (after said (was_reset r code size) r);
    }

-- `shutdown`: once. It drops the chunks, and off becomes len
unfoldable pub shuts : Recv → Outcome ℕ RecvBuf
shuts r =
    cond r.drain (record { answer = Err NothingReady; state = buf_of r })
    (record { answer = Ok (r.len - r.off); state = buf_of (with_closed (with_ends (with_chunks r []) r.len r.len r.fin) r.error true) })

-- ---- the window, and what is asked

-- `update_max_data`, `autotune_window`; the window record taken back
unfoldable pub commits : Recv → ℕ → RecvBuf
commits r now = buf_of (with_flow r (committed r.flow now))

unfoldable pub autotunes : Recv → ℕ → ℕ → RecvBuf
autotunes r now rtt = buf_of (with_flow r (autotuned r.flow now rtt))

unfoldable pub flow_back : Recv → FlowControl → RecvBuf
flow_back r flow = buf_of (with_flow r flow)

-- `almost_full`: an update of the limit is due, and the final size is not known
abbrev pub almost_full : Recv → Bool
almost_full r = not (known r.fin) && due r.flow

-- `readable_len`: the bytes that adjoin from off on, up to most
abbrev pub adjoining : List RangeBuf → ℕ → ℕ
adjoining [] off = 0
adjoining (c ∷ cs) off = cond (eqb (start c) off) (avail c + adjoining cs (end c)) 0

abbrev pub readable : Recv → ℕ → ℕ
readable r most = min (adjoining r.chunks r.off) most
