-- Two wrong answers for each public function of `recv_buf`: none meets its contract. A line is CASE never WRONG; the comment above a function's
-- lines names it and says what is wrong. Each buffer below came from creation and calls. By computing. Assumes nothing.
use Rattle.std.specs.Prelude.{Bool, ⊤}
use mathlib.Core.Path.{refl}
use mathlib.Core.Bool.{true, false}
use mathlib.Core.List.{List, [], ◌∷◌, ◌++◌}
use Prim.Native.Nat.{ℕ, ◌+◌}
use lib.ListN.{replicate}
use Rattle.refusal.specs.Rules.{M, told, told_count, told_emit, told_sizes, is_at}
use Rattle.refusal.specs.declared.Outcome.{Outcome}
use Rattle.arena.specs.Rules.{held}
use Rattle.flowcontrol.specs.Rules.{next, fresh}
use Rattle.recv_buf.specs.declared.RecvBuf.{RecvBuf}
use Rattle.recv_buf.specs.State.{Recv, view_of, buf_of}
use Rattle.recv_buf.specs.Check.{good_by}
use Rattle.recv_buf.specs.Rules.{with_ends, created, write_judged, wrote, written, written_arena, is_ready, take_judged, took_out, discarded, emitted, emitted_out, reset_judged, was_reset, resets, shuts, commits, autotunes, flow_back, almost_full, readable}
use Rattle.settled.specs.Wrong.{Case, ◌never◌, RuledOut, bit, numbers, maybe, chunk_list}
use Rattle.settled.proofs.Ruled.{by_computing}

-- ---- the buffers: limit 12, maximum window 24, an arena of 16 bytes

abbrev new : Recv
new = view_of (created 12 24 16).state

-- the same with limits of 40 and an arena of 8 bytes
abbrev eight : Recv
eight = view_of (created 40 40 8).state

-- 5..10 came; then 0..7, so that 0..5 and 5..10 are kept; then four bytes were handed out
abbrev later : Recv
later = view_of (written new 16 5 5 false).state

abbrev both : Recv
both = view_of (written later 16 0 7 false).state

abbrev four : Recv
four = view_of (emitted both 16 4).state

-- the mark came at 10 by a frame of no bytes, and all was handed out
abbrev ended : Recv
ended = view_of (written four 16 10 0 true).state

abbrev drained : Recv
drained = view_of (emitted ended 16 9).state

-- an empty mark alone; shut down; reset to 12 with code 7
abbrev marked : Recv
marked = view_of (written new 16 10 0 true).state

abbrev shut : Recv
shut = view_of (shuts four).state

abbrev was_told : Recv
was_told = view_of (resets four 7 12).state

-- ---- how they are read off

-- how far was handed out, highest end, consumed, final size, chunks
abbrev state : Recv → List ℕ
state r = r.off ∷ r.len ∷ r.flow.consumed ∷ maybe r.fin ++ chunk_list r.chunks

abbrev plain : Outcome ⊤ RecvBuf → List ℕ
plain o = numbers (told o.answer)

abbrev count : Outcome ℕ RecvBuf → List ℕ
count o = numbers (told_count o.answer)

abbrev bytes : Outcome (ℕ × Bool) RecvBuf → List ℕ
bytes o = numbers (told_emit o.answer)

abbrev sizes : Outcome (ℕ × ℕ) RecvBuf → List ℕ
sizes o = numbers (told_sizes o.answer)

abbrev calls : List Case
calls =
    -- new: everything refused; a maximum window above M let through
    (plain (created 12 24 16) never (10 ∷ []))
    ∷ (plain (created 12 (M + 1) 16) never (0 ∷ []))
    -- write: a mark below what came let through; a frame above the limit let through
    ∷ (plain (written later 16 0 7 true) never (0 ∷ []))
    ∷ (plain (written new 16 5 8 false) never (0 ∷ []))
    -- write, into an arena of 8 bytes: the last place refused; one byte too many let through
    ∷ (plain (written eight 8 0 8 false) never (5 ∷ []))
    ∷ (plain (written eight 8 0 9 false) never (0 ∷ []))
    -- write, of a frame of no bytes with the mark: F not set; the reader not told, no empty chunk being left
    ∷ (state marked never (0 ∷ 10 ∷ 0 ∷ 10 ∷ 0 ∷ 0 ∷ []))
    ∷ (state marked never (0 ∷ 10 ∷ 0 ∷ 10 ∷ []))
    -- write, later frames: everything refused; kept only in pretence
    ∷ (plain (written later 16 0 7 false) never (6 ∷ []))
    ∷ (state both never (state later))
    -- write, its arena: the last arrival wins; nothing kept
    ∷ (written_arena later (replicate 16 9) 4 (1 ∷ 2 ∷ []) false never (9 ∷ 9 ∷ 9 ∷ 9 ∷ 1 ∷ 2 ∷ replicate 10 9))
    ∷ (written_arena later (replicate 16 9) 4 (1 ∷ 2 ∷ []) false never replicate 16 9)
    -- emit: always "0, not ended"; past a hole
    ∷ (bytes (emitted both 16 4) never (0 ∷ 0 ∷ 0 ∷ []))
    ∷ (bytes (emitted later 16 4) never (0 ∷ 4 ∷ 0 ∷ []))
    -- emit: the end not told; what was handed out not counted as consumed
    ∷ (bytes (emitted ended 16 9) never (0 ∷ 6 ∷ 0 ∷ []))
    ∷ ((four.flow.consumed ∷ []) never (0 ∷ []))
    -- emit, its output: nothing copied; from the front of the arena
    ∷ (emitted_out four (1 ∷ 2 ∷ 3 ∷ 4 ∷ 5 ∷ 6 ∷ 7 ∷ 8 ∷ 9 ∷ 10 ∷ replicate 6 0) (0 ∷ 0 ∷ []) never (0 ∷ 0 ∷ []))
    ∷ (emitted_out four (1 ∷ 2 ∷ 3 ∷ 4 ∷ 5 ∷ 6 ∷ 7 ∷ 8 ∷ 9 ∷ 10 ∷ replicate 6 0) (0 ∷ 0 ∷ []) never (1 ∷ 2 ∷ []))
    -- discard: nothing consumed; a success with nothing ready
    ∷ (((view_of (discarded both 4).state).flow.consumed ∷ []) never (0 ∷ []))
    ∷ (bytes (discarded later 4) never (0 ∷ 0 ∷ 0 ∷ []))
    -- reset: a size below what came let through; the sizes turned round
    ∷ (sizes (resets four 7 8) never (0 ∷ 0 ∷ 4 ∷ []))
    ∷ (sizes (resets four 7 12) never (0 ∷ 8 ∷ 2 ∷ []))
    -- reset: a final size that moves; a reader who is never told
    ∷ (sizes (resets ended 7 12) never (0 ∷ 2 ∷ 8 ∷ []))
    ∷ (bytes (emitted was_told 16 4) never (8 ∷ []))
    -- shutdown: nothing answered; the chunks kept
    ∷ (count (shuts four) never (0 ∷ 0 ∷ []))
    ∷ (state shut never (state four))
    -- update_max_data: no limit committed; the maximum committed
    ∷ (((view_of (commits four 100)).flow.max_data ∷ []) never (12 ∷ []))
    ∷ (((view_of (commits four 100)).flow.max_data ∷ []) never (28 ∷ []))
    -- autotune_window: the window left; doubled past its maximum
    ∷ (((view_of (autotunes (view_of (commits four 100)) 110 10)).flow.window ∷ []) never (12 ∷ []))
    ∷ (((view_of (autotunes (view_of (autotunes (view_of (commits four 100)) 110 10)) 110 10)).flow.window ∷ []) never (48 ∷ []))
    -- set_flow_control: the window not taken back; what was handed out forgotten
    ∷ (((view_of (flow_back four (fresh 90 90 90))).flow.max_data ∷ []) never (12 ∷ []))
    ∷ (((view_of (flow_back four (fresh 90 90 90))).off ∷ []) never (0 ∷ []))
    ∷ []

abbrev questions : List Case
questions =
    -- flow_control, and its max_data, window, max_data_next: one number in place of another
    ((four.flow.consumed ∷ four.flow.max_data ∷ []) never (12 ∷ 4 ∷ []))
    ∷ ((four.flow.consumed ∷ four.flow.max_data ∷ []) never (4 ∷ 16 ∷ []))
    ∷ ((four.flow.max_data ∷ []) never (16 ∷ []))
    ∷ ((four.flow.max_data ∷ []) never (24 ∷ []))
    ∷ ((four.flow.window ∷ []) never (16 ∷ []))
    ∷ ((four.flow.window ∷ []) never (24 ∷ []))
    ∷ ((next four.flow ∷ []) never (12 ∷ []))
    ∷ ((next four.flow ∷ []) never (24 ∷ []))
    -- off_front: the highest end; the front of the stream
    ∷ ((four.off ∷ []) never (10 ∷ []))
    ∷ ((four.off ∷ []) never (0 ∷ []))
    -- max_off: the limit; how far was handed out
    ∷ ((four.len ∷ []) never (12 ∷ []))
    ∷ ((four.len ∷ []) never (4 ∷ []))
    -- is_fin: the end known and not handed out; all handed out taken for open
    ∷ (bit (is_at ended.fin ended.off) never (1 ∷ []))
    ∷ (bit (is_at drained.fin drained.off) never (0 ∷ []))
    -- is_draining: what was reset; what was shut down taken for open
    ∷ (bit was_told.drain never (1 ∷ []))
    ∷ (bit shut.drain never (0 ∷ []))
    -- almost_full: with more than half a window left; with less, and F not known, taken for not
    ∷ (bit (almost_full four) never (1 ∷ []))
    ∷ (bit (almost_full (view_of (emitted both 16 9).state)) never (0 ∷ []))
    -- ready: a chunk behind a hole; an empty chunk at off taken for nothing
    ∷ (bit (is_ready later.chunks later.off) never (1 ∷ []))
    ∷ (bit (is_ready was_told.chunks was_told.off) never (0 ∷ []))
    -- readable_len: what lies behind a hole; more than was asked for
    ∷ ((readable later 9 ∷ []) never (5 ∷ []))
    ∷ ((readable four 3 ∷ []) never (6 ∷ []))
    -- is_good: a good buffer refused; one whose highest end is below what was handed out let through
    ∷ (bit (good_by (buf_of four)) never (0 ∷ []))
    ∷ (bit (good_by (buf_of (with_ends drained 11 10 drained.fin))) never (1 ∷ []))
    ∷ []

pub calls_settled : RuledOut calls
unfolding held buf_of created write_judged wrote written written_arena take_judged took_out discarded emitted emitted_out reset_judged was_reset resets shuts commits autotunes flow_back
calls_settled = by_computing calls refl

pub questions_settled : RuledOut questions
unfolding buf_of created write_judged wrote written take_judged took_out discarded emitted reset_judged was_reset resets shuts
questions_settled = by_computing questions refl
