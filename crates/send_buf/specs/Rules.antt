-- The send buffer (RULES 4; refusals 1, 2, 3, 5, 6, 7, 8, 10).
--
-- The life of a byte. It is WRITTEN: it gets the next offset, its place in the arena and a chunk. It is SENT: an emit copies it out, and the
-- consumed part of its chunk grows over it. It may be LOST: a retransmit moves that consumed part back, and it will be SENT AGAIN. It is
-- ACKED: its offset joins the acked ranges. Once all before it is acked too, its chunk is DROPPED, and its place is free.
--
--      dropped | acked, sent or lost, some of it to be sent again | written, never sent |  free
--              b                                               emitted                 off       b + A
--
-- Each call has its refusals, one named test to a line in the order of RULES 2.2, and apart from them its effect. Sums are whole numbers.
-- `cond t x y` is x if the test t holds, else y.
use Rattle.std.specs.Prelude.{Bool, true, false, cond, not, ◌&&◌, ◌||◌, List, [], ◌∷◌, ◌++◌, ℕ, zero, suc, ◌+◌, ◌-◌, ◌/◌, min, max, ltb, leb, eqb, length, take, drop, Result, Ok, Err, Option, Some, None, ⊤}
use Rattle.refusal.specs.Rules.{M, with_count, after, known, is_at, fin_with}
use Rattle.refusal.specs.declared.Refusal.TheVariants.{Offset, Stopped, FinalSize, NoRoom, TableFull, NeverSent, Done as NothingMore, BadSetup}
use Rattle.arena.specs.Rules.{kept, held}
use Rattle.range_buf.specs.declared.RangeBuf.{RangeBuf}
use Rattle.range_buf.specs.Rules.{start, end, avail, fresh, used, left_part, right_part}
use Rattle.ranges.specs.declared.Range.{Range}
use Rattle.ranges.specs.State.{upto}
use Rattle.ranges.specs.Rules.{placed, needs_room, is_single}
use Rattle.send_buf.specs.declared.SendBuf.{SendBuf}
use Rattle.send_buf.specs.State.{Send, buf_of, base}
use Rattle.refusal.specs.declared.Outcome.{Outcome}
use Rattle.refusal.specs.declared.Refusal.{Refusal}

-- ---- what several calls share

-- an arena of another length than at creation; one of no bytes is never right
abbrev pub other_arena : Send → ℕ → Bool
other_arena s a = eqb a 0 || not (eqb a s.room)

-- contiguous ack: the end of the acked range that starts at 0, else 0
abbrev pub ack_off : List Range → ℕ
ack_off [] = 0
ack_off (r ∷ rs) = cond (eqb r.start 0) r.end 0

-- other chunks, send position and bytes to send
abbrev pub with_queue : Send → List RangeBuf → ℕ → ℕ → Send
with_queue s chunks pos buffered = record s { chunks = chunks; pos = pos; buffered = buffered }

-- another end and final size
abbrev pub with_end : Send → ℕ → Option ℕ → Send
with_end s off fin = record s { off = off; fin = fin }

-- another largest emitted offset
abbrev pub with_emitted : Send → ℕ → Send
with_emitted s emitted = record s { emitted = emitted }

-- another acked set
abbrev pub with_acked : Send → List Range → Send
with_acked s acked = record s { acked = acked }

-- another limit and blocked offset
abbrev pub with_limit : Send → ℕ → Option ℕ → Send
with_limit s limit blocked = record s { limit = limit; blocked = blocked }

-- shut down or not, and the code of a stop
abbrev pub with_closed : Send → Bool → Option ℕ → Send
with_closed s shut error = record s { shut = shut; error = error }

-- ---- joining neighbours, where a write or a retransmit would leave more than 64 chunks (RULES 4.10)

-- the boundary between two neighbours stays exactly where the byte before it is still to be sent and the byte after it has been sent
abbrev pub stays : RangeBuf → RangeBuf → Bool
stays c d = ltb 0 (avail c) && ltb 0 d.pos

-- two neighbours in one, where their boundary does not stay: what of them was sent lies in front of what is to be sent
abbrev pub both : RangeBuf → RangeBuf → RangeBuf
both c d = record c { len = c.len + d.len; pos = c.pos + d.pos }

-- a chunk in front of joined chunks; all chunks joined
abbrev pub joined_to : RangeBuf → List RangeBuf → List RangeBuf
joined_to c [] = c ∷ []
joined_to c (d ∷ ds) = cond (stays c d) (c ∷ d ∷ ds) (both c d ∷ ds)

abbrev pub joined : List RangeBuf → List RangeBuf
joined [] = []
joined (c ∷ cs) = joined_to c (joined cs)

-- what the table is to hold: the chunks as they are, or joined if they are more than 64. The send position is then 0: the front is that of the
-- first chunk from it on that still holds bytes, so it stays where it was
abbrev pub tabled : List RangeBuf → List RangeBuf
tabled cs = cond (ltb 64 (length cs)) (joined cs) cs

abbrev pub tabled_pos : List RangeBuf → ℕ → ℕ
tabled_pos cs pos = cond (ltb 64 (length cs)) 0 pos

-- ---- creation

-- a buffer with nothing written, for an arena of A bytes
abbrev pub new_send : ℕ → ℕ → Send
new_send A limit = record {
  room = A;
  chunks = [];
  pos = 0;
  off = 0;
  emitted = 0;
  buffered = 0;
  limit = limit;
  blocked = None;
  fin = None;
  shut = false;
  acked = [];
  error = None;
}

-- A from 1 to 65,536, the limit at most M
abbrev pub bad_numbers : ℕ → ℕ → Bool
bad_numbers limit A = eqb A 0 || ltb 65536 A || ltb M limit

-- `new`. With a refusal comes a dead buffer: it is for an arena of no bytes, so every call that takes an arena answers BadSetup
unfoldable pub created : ℕ → ℕ → Outcome ⊤ SendBuf
created limit A =
    cond (bad_numbers limit A) (record { answer = Err BadSetup; state = buf_of (new_send 0 0) })
    (record { answer = Ok tt; state = buf_of (new_send A limit) })

-- ---- write: n bytes, marked as the end or not

-- n bytes exceed what the limit leaves
abbrev pub over : Send → ℕ → Bool
over s n = ltb (s.limit - s.off) n

-- the end mark, dropped from a shortened write
abbrev pub marked : Send → ℕ → Bool → Bool
marked s n fin = not (over s n) && fin

-- how many bytes are accepted: n, or what the limit leaves
abbrev pub accepted : Send → ℕ → ℕ
accepted s n = min n (s.limit - s.off)

-- after a stop, its code
abbrev pub unless_stopped : Option ℕ → Result ⊤ Refusal → Result ⊤ Refusal
unless_stopped None x = x
unless_stopped (Some code) x = Err (Stopped code)

-- with known final size F: m > F, or m = F without end mark
abbrev pub passes_final : Option ℕ → ℕ → Bool → Bool
passes_final None m fin = false
passes_final (Some f) m fin = ltb f m || eqb m f && not fin

-- accepted bytes plus off minus b exceed A. A joined chunk is held until all of it is acked, so b may be lower than without joining
abbrev pub no_room : Send → ℕ → Bool
no_room s n = ltb s.room (accepted s n + (s.off - base s.chunks s.off))

-- how many chunks n bytes take, 4,096 in each
abbrev pub pieces : ℕ → ℕ
pieces n = (n + 4095) / 4096

-- n bytes at o, cut from the front into k chunks of 4,096, the last shorter
abbrev pub cut : ℕ → ℕ → ℕ → List RangeBuf
cut zero o n = []
cut (suc k) o n = fresh o (min n 4096) ∷ cut k (o + 4096) (n - 4096)

-- the chunks held and those of k bytes more
abbrev pub longer : Send → ℕ → List RangeBuf
longer s k = s.chunks ++ cut (pieces k) s.off k

-- more than 64 remain after joining (they never do: `never_full` in proofs/Kept.antt)
abbrev pub no_entry : Send → ℕ → Bool
no_entry s n = ltb 64 (length (tabled (longer s (accepted s n))))

-- the refusals, for an arena of a bytes
unfoldable pub write_judged : Send → ℕ → ℕ → Bool → Result ⊤ Refusal
write_judged s a n fin =
    cond (other_arena s a) (Err BadSetup) (
    unless_stopped s.error (
    cond (passes_final s.fin (s.off + n) (marked s n fin)) (Err FinalSize) (
    cond (no_room s n) (Err NoRoom) (
    cond (no_entry s n) (Err TableFull) (
    Ok tt)))))

-- the effect
unfoldable pub wrote : Send → ℕ → Bool → Send
wrote s n fin =
    let k = accepted s n in
    with_end (with_queue s (tabled (longer s k)) (tabled_pos (longer s k) s.pos) (s.buffered + k))
    (s.off + k)
    (fin_with s.fin (s.off + n) (marked s n fin))

-- `write`, with the arena ar: its answer and state; and the arena after it, in which the accepted bytes are kept from `off` on
unfoldable pub written : Send → ℕ → ℕ → Bool → Outcome ℕ SendBuf
written s a n fin =
    let said = write_judged s a n fin in
    record { answer = with_count said (accepted s n); state = buf_of (after said (wrote s n fin) s) }

unfoldable pub written_arena : Send → List ℕ → List ℕ → Bool → List ℕ
written_arena s ar input fin =
    let n = length input in
    after (write_judged s (length ar) n fin) (kept ar s.off (take (accepted s n) input)) ar

-- ---- emit, with room for n bytes

-- of the chunks from the send position on: how many there are before the first that still holds bytes
abbrev pub skipped : List RangeBuf → ℕ
skipped [] = 0
skipped (c ∷ cs) = cond (ltb 0 (avail c)) 0 (suc (skipped cs))

-- the offset of the first chunk that still holds bytes, else `off`
abbrev pub front_of : List RangeBuf → ℕ → ℕ
front_of [] off = off
front_of (c ∷ cs) off = cond (ltb 0 (avail c)) (start c) (front_of cs off)

abbrev pub front : Send → ℕ
front s = front_of (drop s.pos s.chunks) s.off

-- copying from the offset `next` on, while chunks adjoin and room is left: how many bytes, how many chunks are used up, the chunks after it
abbrev pub copied : List RangeBuf → ℕ → ℕ → ℕ
copied [] next n = 0
copied (c ∷ cs) next n = cond (ltb 0 n && eqb (start c) next) (min n (avail c) + copied cs (end c) (n - avail c)) 0

abbrev pub finished : List RangeBuf → ℕ → ℕ → ℕ
finished [] next n = 0
finished (c ∷ cs) next n = cond (ltb 0 n && eqb (start c) next && leb (avail c) n) (suc (finished cs (end c) (n - avail c))) 0

abbrev pub advanced : List RangeBuf → ℕ → ℕ → List RangeBuf
advanced [] next n = []
advanced (c ∷ cs) next n = cond (ltb 0 n && eqb (start c) next) (used c (min n (avail c)) ∷ advanced cs (end c) (n - avail c)) (c ∷ cs)

-- the index of the chunk that an emit begins with; how many bytes it copies
abbrev pub first : Send → ℕ
first s = s.pos + skipped (drop s.pos s.chunks)

abbrev pub emit_count : Send → ℕ → ℕ
emit_count s n = copied (drop (first s) s.chunks) (front s) n

-- the send position after it: that of the last chunk copied from, or the next index if that one is used up; as it was if nothing is copied
abbrev pub emit_pos : Send → ℕ → ℕ
emit_pos s n = cond (eqb (emit_count s n) 0) s.pos (first s + finished (drop (first s) s.chunks) (front s) n)

-- the effect
unfoldable pub sent : Send → ℕ → Send
sent s n =
    with_emitted
    (with_queue s (take (first s) s.chunks ++ advanced (drop (first s) s.chunks) (front s) n) (emit_pos s n) (s.buffered - emit_count s n))
    (max s.emitted (front s + emit_count s n))

-- `emit`: its answer has the count, and the end mark exactly if the offset reached is F
unfoldable pub emitted : Send → ℕ → ℕ → Outcome (ℕ × Bool) SendBuf
emitted s a n =
    cond (other_arena s a) (record { answer = Err BadSetup; state = buf_of s })
    (record { answer = Ok (emit_count s n, is_at s.fin (front s + emit_count s n)); state = buf_of (sent s n) })

-- the output after it: the bytes from the front offset on, straight behind one another, and the rest as it was
unfoldable pub emitted_out : Send → List ℕ → List ℕ → List ℕ
emitted_out s ar out =
    let k = emit_count s (length out) in
    cond (other_arena s (length ar)) out (held ar (front s) k ++ drop k out)

-- ---- ack, and ack and drop: n bytes at a

abbrev pub never_sent : Send → ℕ → ℕ → Bool
never_sent s a n = ltb s.emitted (a + n)

-- the refusals; a send buffer refuses TableFull in place of losing an acked range
unfoldable pub ack_judged : Send → ℕ → ℕ → Result ⊤ Refusal
ack_judged s a n =
    cond (never_sent s a n) (Err NeverSent) (
    cond (needs_room 64 (upto a (a + n)) s.acked) (Err TableFull) (
    Ok tt))

-- the range joins the acked set
unfoldable pub acked_more : Send → ℕ → ℕ → Send
acked_more s a n = with_acked s (placed (upto a (a + n)) s.acked)

-- `ack`
unfoldable pub acks : Send → ℕ → ℕ → Outcome ⊤ SendBuf
acks s a n =
    let said = ack_judged s a n in
    record { answer = said; state = buf_of (after said (acked_more s a n) s) }

-- leading chunks that end at or below k: the chunks behind them, how many they are, and their bytes still to be sent
abbrev pub behind : List RangeBuf → ℕ → List RangeBuf
behind [] k = []
behind (c ∷ cs) k = cond (leb (end c) k) (behind cs k) (c ∷ cs)

abbrev pub drop_count : List RangeBuf → ℕ → ℕ
drop_count [] k = 0
drop_count (c ∷ cs) k = cond (leb (end c) k) (suc (drop_count cs k)) 0

abbrev pub drop_bytes : List RangeBuf → ℕ → ℕ
drop_bytes [] k = 0
drop_bytes (c ∷ cs) k = cond (leb (end c) k) (avail c + drop_bytes cs k) 0

-- how far chunks go: up to contiguous ack if the range starts at or below it, else not at all
abbrev pub drop_to : Send → ℕ → ℕ
drop_to s a = cond (leb a (ack_off s.acked)) (ack_off s.acked) 0

abbrev pub dropped : Send → ℕ → Send
dropped s k = with_queue s (behind s.chunks k) (s.pos - drop_count s.chunks k) (s.buffered - drop_bytes s.chunks k)

-- `ack_and_drop`: the answer is how many of the dropped bytes were still to be sent
unfoldable pub ack_drops : Send → ℕ → ℕ → Outcome ℕ SendBuf
ack_drops s a n =
    let said = ack_judged s a n in
    let t = acked_more s a n in
    record { answer = with_count said (drop_bytes s.chunks (drop_to t a)); state = buf_of (after said (dropped t (drop_to t a)) s) }

-- ---- retransmit: the n bytes at a are lost

-- a chunk moved back over a range from a on
abbrev pub moved_back : RangeBuf → ℕ → RangeBuf
moved_back c a = record c { pos = min c.pos (a - c.off) }

-- the chunks from the first one that reaches a to the last one that begins below e, moved back; one that holds e strictly inside is split there
abbrev pub back : List RangeBuf → ℕ → ℕ → List RangeBuf
back [] a e = []
back (c ∷ cs) a e =
    cond (leb e c.off) (c ∷ cs) (
    cond (ltb (end c) a) (c ∷ back cs a e) (
    cond (ltb e (end c)) (moved_back (left_part c (e - c.off)) a ∷ right_part c (e - c.off) ∷ cs) (
    moved_back c a ∷ back cs a e)))

-- the sum of the amounts moved back
abbrev pub back_bytes : List RangeBuf → ℕ → ℕ → ℕ
back_bytes [] a e = 0
back_bytes (c ∷ cs) a e =
    cond (leb e c.off) 0 (
    cond (ltb (end c) a) (back_bytes cs a e) (
    cond (ltb e (end c)) ((left_part c (e - c.off)).pos - (moved_back (left_part c (e - c.off)) a).pos) (
    c.pos - (moved_back c a).pos + back_bytes cs a e)))

-- the send position p, or the index of the first chunk that the range meets or touches, if that is less; i is the index of the first chunk here
abbrev pub back_pos : List RangeBuf → ℕ → ℕ → ℕ → ℕ → ℕ
back_pos [] i p a e = p
back_pos (c ∷ cs) i p a e = cond (leb e c.off) p (cond (ltb (end c) a) (back_pos cs (suc i) p a e) (min p i))

-- nothing if there are no chunks or the range ends at or below contiguous ack
abbrev pub settled : Send → ℕ → ℕ → Bool
settled s a n = eqb (length s.chunks) 0 || leb (a + n) (ack_off s.acked)

-- the refusals
unfoldable pub loss_judged : Send → ℕ → ℕ → Result ⊤ Refusal
loss_judged s a n =
    cond (never_sent s a n) (Err NeverSent) (
    cond (not (settled s a n) && ltb 64 (length (tabled (back s.chunks a (a + n))))) (Err TableFull) (
    Ok tt))

-- the effect, and the answer
unfoldable pub lost : Send → ℕ → ℕ → Send
lost s a n =
    let moved = back s.chunks a (a + n) in
    cond (settled s a n) s
    (with_queue s (tabled moved) (tabled_pos moved (back_pos s.chunks 0 s.pos a (a + n))) (s.buffered + back_bytes s.chunks a (a + n)))

abbrev pub lost_bytes : Send → ℕ → ℕ → ℕ
lost_bytes s a n = cond (settled s a n) 0 (back_bytes s.chunks a (a + n))

-- `retransmit`
unfoldable pub retransmits : Send → ℕ → ℕ → Outcome ℕ SendBuf
retransmits s a n =
    let said = loss_judged s a n in
    record { answer = with_count said (lost_bytes s a n); state = buf_of (after said (lost s a n) s) }

-- ---- reset, stop, shutdown

-- where the stream ends by a reset: the larger of front and largest emitted offset
abbrev pub cut_off : Send → ℕ
cut_off s = max (front s) s.emitted

-- F and off become that, chunks go, and 0..F counts as acked
unfoldable pub was_reset : Send → Send
was_reset s =
    with_acked (with_end (with_queue s [] 0 0) (cut_off s) (Some (cut_off s)))
    (placed (upto 0 (cut_off s)) s.acked)

-- the answer: the largest emitted offset, the bytes never sent
abbrev pub unsent : Send → ℕ
unsent s = s.off - cut_off s

-- `reset`
unfoldable pub resets : Send → Outcome (ℕ × ℕ) SendBuf
resets s = record { answer = Ok (s.emitted, unsent s); state = buf_of (was_reset s) }

-- `stop` and `shutdown` do this once each
unfoldable pub stops : Send → ℕ → Outcome (ℕ × ℕ) SendBuf
stops s code =
    cond (known s.error) (record { answer = Err NothingMore; state = buf_of s })
    (record { answer = Ok (s.emitted, unsent s); state = buf_of (with_closed (was_reset s) s.shut (Some code)) })

unfoldable pub shuts : Send → Outcome (ℕ × ℕ) SendBuf
shuts s =
    cond s.shut (record { answer = Err NothingMore; state = buf_of s })
    (record { answer = Ok (s.emitted, unsent s); state = buf_of (with_closed (was_reset s) true s.error) })

-- ---- the limit, and what is asked

-- `update_max_data`: Offset exactly if the limit is above M; a smaller one has no effect
unfoldable pub raised : Send → ℕ → Outcome ⊤ SendBuf
raised s limit =
    cond (ltb M limit) (record { answer = Err Offset; state = buf_of s })
    (record { answer = Ok tt; state = buf_of (with_limit s (max s.limit limit) s.blocked) })

-- `update_blocked_at`
unfoldable pub blocked_with : Send → Option ℕ → SendBuf
blocked_with s blocked = buf_of (with_limit s s.limit blocked)

-- `cap`: what the limit leaves, or the code of a stop
abbrev pub cap : Send → Result ℕ Refusal
cap s = with_count (unless_stopped s.error (Ok tt)) (s.limit - s.off)

-- `is_complete`: F is known and the acked set is the single range 0..F. An empty set is not 0..0
abbrev pub complete_at : Option ℕ → List Range → Bool
complete_at None acked = false
complete_at (Some f) acked = is_single (upto 0 f) acked

abbrev pub is_complete : Send → Bool
is_complete s = complete_at s.fin s.acked
