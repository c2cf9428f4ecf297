-- Two wrong answers for each public function of `send_buf`: none meets its contract. A line is CASE never WRONG; the comment above a function's
-- lines names it and says what is wrong. Each buffer below came from creation and calls. By computing. Assumes nothing.
use Rattle.std.specs.Prelude.{Bool, Some, ⊤}
use mathlib.Core.Path.{refl}
use mathlib.Core.Bool.{true, false}
use mathlib.Core.List.{List, [], ◌∷◌, ◌++◌}
use Prim.Native.Nat.{ℕ, zero, suc, ◌+◌}
use lib.Dec.{eqb}
use lib.ListN.{length, replicate}
use Rattle.refusal.specs.Rules.{M, told, told_count, told_emit, told_sizes, known, is_at}
use Rattle.refusal.specs.declared.Outcome.{Outcome}
use Rattle.arena.specs.Rules.{kept, held}
use Rattle.send_buf.specs.declared.SendBuf.{SendBuf}
use Rattle.send_buf.specs.State.{Send, view_of, buf_of}
use Rattle.send_buf.specs.Check.{good_by}
use Rattle.send_buf.specs.Rules.{with_queue, created, write_judged, wrote, written, written_arena, front, sent, emitted, emitted_out, ack_judged, acked_more, acks, ack_drops, loss_judged, lost, retransmits, was_reset, resets, stops, shuts, raised, blocked_with, cap, is_complete, ack_off}
use Rattle.settled.specs.Wrong.{Case, ◌never◌, RuledOut, bit, numbers, maybe, chunk_list, range_list}
use Rattle.settled.proofs.Ruled.{by_computing}

-- ---- the buffers: limit 20, an arena of 16 bytes; one with limit 10

abbrev new : Send
new = view_of (created 20 16).state

abbrev short : Send
short = view_of (created 10 16).state

-- ten bytes written, four of them sent, 0..2 acked
abbrev ten : Send
ten = view_of (written new 16 10 false).state

abbrev four : Send
four = view_of (emitted ten 16 4).state

abbrev acked : Send
acked = view_of (acks four 0 2).state

-- all ten sent and acked
abbrev through : Send
through = view_of (ack_drops (view_of (emitted ten 16 10).state) 0 10).state

-- closed by a write of no bytes; and that of a new buffer
abbrev closed : Send
closed = view_of (written four 16 0 true).state

abbrev empty : Send
empty = view_of (written new 16 0 true).state

-- stopped with code 7
abbrev stopped : Send
stopped = view_of (stops four 7).state

-- n bytes written one by one, of an arena of 200
abbrev single : ℕ → Send
single zero = view_of (created 200 200).state
single (suc n) = view_of (written (single n) 200 1 false).state

-- 63 of them and two bytes more, all sent
abbrev full : Send
full = view_of (emitted (view_of (written (single 63) 200 2 false).state) 200 65).state

-- ---- how they are read off

-- end of what was written, largest emitted offset, bytes to send, send position, final size, chunks
abbrev state : Send → List ℕ
state s = s.off ∷ s.emitted ∷ s.buffered ∷ s.pos ∷ maybe s.fin ++ chunk_list s.chunks

abbrev plain : Outcome ⊤ SendBuf → List ℕ
plain o = numbers (told o.answer)

abbrev count : Outcome ℕ SendBuf → List ℕ
count o = numbers (told_count o.answer)

abbrev bytes : Outcome (ℕ × Bool) SendBuf → List ℕ
bytes o = numbers (told_emit o.answer)

abbrev sizes : Outcome (ℕ × ℕ) SendBuf → List ℕ
sizes o = numbers (told_sizes o.answer)

abbrev calls : List Case
calls =
    -- new: any arena refused; an arena of no bytes let through
    (plain (created 20 16) never (10 ∷ []))
    ∷ (plain (created 20 0) never (0 ∷ []))
    -- write: everything refused; the mark of a shortened write kept, which would set F
    ∷ (count (written new 16 10 false) never (6 ∷ []))
    ∷ (state (view_of (written short 16 15 true).state) never (10 ∷ 0 ∷ 10 ∷ 0 ∷ 15 ∷ 0 ∷ 10 ∷ 0 ∷ []))
    -- write, the closing one of no bytes: F not set; refused
    ∷ (state (view_of (written four 16 0 true).state) never (state four))
    ∷ (count (written four 16 0 true) never (3 ∷ []))
    -- write, where all before it is acked: its bytes taken for acked too; the closing one of no bytes, with F not set
    ∷ (count (written through 16 3 false) never (0 ∷ 0 ∷ []))
    ∷ (state (view_of (written through 16 0 true).state) never (state through))
    -- write, its arena: nothing kept; kept at the front in place of `off`
    ∷ (written_arena four (replicate 16 0) (5 ∷ 6 ∷ []) false never replicate 16 0)
    ∷ (written_arena four (replicate 16 0) (5 ∷ 6 ∷ []) false never (5 ∷ 6 ∷ replicate 14 0))
    -- write, the 65th chunk: refused; left unjoined; taken for sent; and the 64th, joined without need
    ∷ (count (written (single 64) 200 1 false) never (6 ∷ []))
    ∷ ((length (view_of (written (single 64) 200 1 false).state).chunks ∷ []) never (65 ∷ []))
    ∷ (chunk_list (view_of (written (single 64) 200 1 false).state).chunks never (0 ∷ 65 ∷ 64 ∷ []))
    ∷ (chunk_list (view_of (written (single 63) 200 1 false).state).chunks never (0 ∷ 64 ∷ 0 ∷ []))
    -- emit: always "0, not ended"; ended before the end is reached
    ∷ (bytes (emitted ten 16 4) never (0 ∷ 0 ∷ 0 ∷ []))
    ∷ (bytes (emitted closed 16 4) never (0 ∷ 4 ∷ 1 ∷ []))
    -- emit, of 4 bytes and 6 written apart: it stops at the first chunk's end
    ∷ (bytes (emitted (view_of (written (view_of (written new 16 4 false).state) 16 6 false).state) 16 10) never (0 ∷ 4 ∷ 0 ∷ []))
    -- emit, its output: nothing copied; copied from the front of the stream
    ∷ (emitted_out four (1 ∷ 2 ∷ 3 ∷ 4 ∷ 5 ∷ 6 ∷ 7 ∷ 8 ∷ 9 ∷ 10 ∷ replicate 6 0) (0 ∷ 0 ∷ []) never (0 ∷ 0 ∷ []))
    ∷ (emitted_out four (1 ∷ 2 ∷ 3 ∷ 4 ∷ 5 ∷ 6 ∷ 7 ∷ 8 ∷ 9 ∷ 10 ∷ replicate 6 0) (0 ∷ 0 ∷ []) never (1 ∷ 2 ∷ []))
    -- update_max_data: the limit lowered; one above M let through
    ∷ (((view_of (raised new 10).state).limit ∷ []) never (10 ∷ []))
    ∷ (plain (raised new (M + 1)) never (0 ∷ []))
    -- update_blocked_at: nothing recorded; the limit changed
    ∷ (maybe (view_of (blocked_with new (Some 9))).blocked never [])
    ∷ (((view_of (blocked_with new (Some 9))).limit ∷ []) never (9 ∷ []))
    -- blocked_at: the limit; 0 for none
    ∷ (maybe (view_of (blocked_with new (Some 9))).blocked never (20 ∷ []))
    ∷ (maybe new.blocked never (0 ∷ []))
    -- ack: nothing acked; bytes never sent let through
    ∷ (range_list (view_of (acks four 0 2).state).acked never [])
    ∷ (plain (acks four 0 5) never (0 ∷ []))
    -- ack_and_drop: nothing dropped; bytes still to be sent not counted
    ∷ (chunk_list (view_of (ack_drops (view_of (emitted ten 16 10).state) 0 10).state).chunks never (0 ∷ 10 ∷ 10 ∷ []))
    ∷ (count (ack_drops (view_of (retransmits (view_of (emitted ten 16 10).state) 8 2).state) 0 10) never (0 ∷ 0 ∷ []))
    -- retransmit: the range's length, where less was sent back; an invented count
    ∷ (count (retransmits (view_of (retransmits four 2 1).state) 1 3) never (0 ∷ 3 ∷ []))
    ∷ (count (retransmits four 2 1) never (0 ∷ 2 ∷ []))
    -- retransmit, that splits one of 64: refused; joined over the boundary that stays; what was sent to be sent again
    ∷ (count (retransmits full 63 1) never (6 ∷ []))
    ∷ (chunk_list (view_of (retransmits full 63 1).state).chunks never (0 ∷ 65 ∷ 64 ∷ []))
    ∷ (chunk_list (view_of (retransmits full 63 1).state).chunks never (0 ∷ 65 ∷ 0 ∷ []))
    -- reset: the bytes never sent not counted; the stream left open
    ∷ (sizes (resets four) never (0 ∷ 4 ∷ 0 ∷ []))
    ∷ (state (view_of (resets four).state) never (state four))
    -- stop: a second one let through; the code lost
    ∷ (sizes (stops stopped 7) never (0 ∷ 4 ∷ 0 ∷ []))
    ∷ (maybe stopped.error never (0 ∷ []))
    -- shutdown: one after a stop refused; a second one let through
    ∷ (sizes (shuts stopped) never (8 ∷ []))
    ∷ (sizes (shuts (view_of (shuts four).state)) never (0 ∷ 4 ∷ 0 ∷ []))
    ∷ []

abbrev questions : List Case
questions =
    -- off_back: what was sent; what is left to send
    ((four.off ∷ []) never (4 ∷ []))
    ∷ ((four.off ∷ []) never (6 ∷ []))
    -- off_front: the front of the stream; the end of what was written
    ∷ ((front four ∷ []) never (0 ∷ []))
    ∷ ((front four ∷ []) never (10 ∷ []))
    -- max_off: the end of what was written; what was sent
    ∷ ((four.limit ∷ []) never (10 ∷ []))
    ∷ ((four.limit ∷ []) never (4 ∷ []))
    -- is_fin: an open stream; a closed one taken for open
    ∷ (bit (is_at four.fin four.off) never (1 ∷ []))
    ∷ (bit (is_at closed.fin closed.off) never (0 ∷ []))
    -- is_complete: F = 0 with nothing acked; F = 0 with 0..0 acked taken for incomplete
    ∷ (bit (is_complete empty) never (1 ∷ []))
    ∷ (bit (is_complete (view_of (acks empty 0 0).state)) never (0 ∷ []))
    -- is_stopped: what was shut down; what was stopped taken for running
    ∷ (bit (known (view_of (shuts four).state).error) never (1 ∷ []))
    ∷ (bit (known stopped.error) never (0 ∷ []))
    -- is_shutdown: what was stopped; what was shut down taken for running
    ∷ (bit stopped.shut never (1 ∷ []))
    ∷ (bit (view_of (shuts four).state).shut never (0 ∷ []))
    -- is_empty: chunks whose bytes were all sent; a new buffer taken for full
    ∷ (bit (eqb (length (view_of (emitted ten 16 10).state).chunks) 0) never (1 ∷ []))
    ∷ (bit (eqb (length new.chunks) 0) never (0 ∷ []))
    -- ack_off: what was sent; a range that does not start at 0
    ∷ ((ack_off acked.acked ∷ []) never (4 ∷ []))
    ∷ ((ack_off (view_of (acks four 1 2).state).acked ∷ []) never (3 ∷ []))
    -- cap: the limit; a count after a stop
    ∷ (numbers (told_count (cap four)) never (0 ∷ 20 ∷ []))
    ∷ (numbers (told_count (cap stopped)) never (0 ∷ 16 ∷ []))
    -- bufs_count: the bytes; the chunks that still hold bytes
    ∷ ((length ten.chunks ∷ []) never (10 ∷ []))
    ∷ ((length (view_of (emitted ten 16 10).state).chunks ∷ []) never (0 ∷ []))
    -- buffered_bytes: all that is held; what was sent
    ∷ ((four.buffered ∷ []) never (10 ∷ []))
    ∷ ((four.buffered ∷ []) never (4 ∷ []))
    -- is_good: a good buffer refused; one whose bytes to send are one too many let through
    ∷ (bit (good_by (buf_of four)) never (0 ∷ []))
    ∷ (bit (good_by (buf_of (with_queue four four.chunks four.pos (four.buffered + 1)))) never (1 ∷ []))
    ∷ []

pub calls_settled : RuledOut calls
unfolding kept held buf_of created write_judged wrote written written_arena sent emitted emitted_out ack_judged acked_more acks ack_drops loss_judged lost retransmits was_reset resets stops shuts raised blocked_with
calls_settled = by_computing calls refl

pub questions_settled : RuledOut questions
unfolding buf_of created write_judged wrote written sent emitted ack_judged acked_more acks was_reset resets stops shuts
questions_settled = by_computing questions refl
