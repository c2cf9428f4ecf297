-- Two wrong answers for each public function of `refusal`, `arena`, `range_buf`, `flowcontrol` and `ranges`: none meets its contract. And for the
-- small words that many contracts cite.
-- A line is CASE never WRONG; the comment above a function's or a word's lines names it and says what is wrong. By computing. Assumes nothing.
use Rattle.std.specs.Prelude.{Option, None, Some, Ok, Err, ⊤}
use mathlib.Core.Path.{refl}
use mathlib.Core.Bool.{true}
use mathlib.Core.List.{List, [], ◌∷◌, ◌++◌}
use Prim.Native.Nat.{ℕ, ◌+◌, ◌-◌, min, max}
use lib.Dec.{ltb}
use lib.ListN.{drop, length, replicate, take}
use Rattle.tables.specs.Checks.{table_by}
use Rattle.tables.specs.Lists.{table_of}
use Rattle.refusal.specs.Rules.{M, number_of, code_of, no_values, count_values, bytes_values, sizes_values, told, told_count, told_emit, told_sizes, first_two, with_count, with_bytes, with_sizes, known, is_at, is_other}
use Rattle.refusal.specs.declared.Outcome.{Outcome}
use Rattle.refusal.specs.declared.Refusal.TheVariants.{Stopped, NoRoom, TableFull, Reset}
use Rattle.arena.specs.Rules.{kept, held, handed}
use Rattle.range_buf.specs.declared.RangeBuf.{RangeBuf}
use Rattle.range_buf.specs.Rules as chunk
use Rattle.range_buf.specs.Check.{is_zero, good_by as good_chunk}
use Rattle.flowcontrol.specs.declared.FlowControl.{FlowControl}
use Rattle.flowcontrol.specs.Rules as window
use Rattle.flowcontrol.specs.Check.{good_by as good_window}
use Rattle.ranges.specs.declared.Range.{Range}
use Rattle.ranges.specs.declared.RangeSet.{RangeSet}
use Rattle.ranges.specs.State.{upto, set_of, ranges}
use Rattle.ranges.specs.Rules as set
use Rattle.ranges.specs.Check.{good_by as good_set}
use Rattle.settled.specs.Wrong.{Case, ◌never◌, RuledOut, bit, numbers, maybe, chunk_list, range_list}
use Rattle.settled.proofs.Ruled.{by_computing}

-- ---- refusal

abbrev pair : (ℕ × ℕ) → List ℕ
pair (a, b) = a ∷ b ∷ []

abbrev refusals : List Case
refusals =
    -- Refusal::number: another refusal's; a success's
    ((number_of NoRoom ∷ []) never (6 ∷ []))
    ∷ ((number_of NoRoom ∷ []) never (0 ∷ []))
    -- Refusal::code: a code lost; a code that the refusal does not have
    ∷ (maybe (code_of (Reset 7)) never [])
    ∷ (maybe (code_of NoRoom) never (0 ∷ []))
    -- number, of each kind of answer: a success that looks refused; a refusal that looks like success
    ∷ (numbers (told (Ok tt)) never (8 ∷ []))
    ∷ (numbers (told (Err NoRoom)) never (0 ∷ []))
    ∷ (numbers (told_count (Ok 3)) never (1 ∷ 3 ∷ []))
    ∷ (numbers (told_count (with_count (Err (Stopped 7)) 3)) never (0 ∷ 3 ∷ []))
    ∷ (numbers (told_emit (Ok (3, true))) never (1 ∷ 3 ∷ 1 ∷ []))
    ∷ (numbers (told_emit (with_bytes (Err (Reset 7)) 3 true)) never (0 ∷ 3 ∷ 1 ∷ []))
    ∷ (numbers (told_sizes (Ok (3, 4))) never (1 ∷ 3 ∷ 4 ∷ []))
    ∷ (numbers (told_sizes (with_sizes (Err TableFull) 3 4)) never (0 ∷ 3 ∷ 4 ∷ []))
    -- Values::first_two, of each kind of success: a value where there is none; the two turned round; one forgotten
    ∷ (pair (first_two (no_values tt)) never (1 ∷ 0 ∷ []))
    ∷ (pair (first_two (count_values 3)) never (0 ∷ 3 ∷ []))
    ∷ (pair (first_two (bytes_values (3, true))) never (3 ∷ 0 ∷ []))
    ∷ (pair (first_two (sizes_values (3, 4))) never (4 ∷ 3 ∷ []))
    ∷ (pair (first_two (sizes_values (3, 4))) never (3 ∷ 3 ∷ []))
    -- with_count: the count forgotten; a refusal under another number
    ∷ (numbers (told_count (with_count (Ok tt) 3)) never (0 ∷ 0 ∷ []))
    ∷ (numbers (told_count (with_count (Err TableFull) 3)) never (5 ∷ []))
    -- with_bytes: the mark forgotten; the count forgotten
    ∷ (numbers (told_emit (with_bytes (Ok tt) 3 true)) never (0 ∷ 3 ∷ 0 ∷ []))
    ∷ (numbers (told_emit (with_bytes (Ok tt) 3 true)) never (0 ∷ 0 ∷ 1 ∷ []))
    -- with_sizes: the two turned round; the second forgotten
    ∷ (numbers (told_sizes (with_sizes (Ok tt) 3 4)) never (0 ∷ 4 ∷ 3 ∷ []))
    ∷ (numbers (told_sizes (with_sizes (Ok tt) 3 4)) never (0 ∷ 3 ∷ 0 ∷ []))
    -- known: 0 taken for nothing; nothing taken for a number
    ∷ (bit (known (Some 0)) never (0 ∷ []))
    ∷ (bit (known None) never (1 ∷ []))
    -- is_at: any number; nothing taken for 0
    ∷ (bit (is_at (Some 5) 4) never (1 ∷ []))
    ∷ (bit (is_at None 0) never (1 ∷ []))
    -- is_other: the same number; nothing taken for another
    ∷ (bit (is_other (Some 5) 5) never (1 ∷ []))
    ∷ (bit (is_other None 5) never (1 ∷ []))
    -- min, max, and a difference: the other of the two; a difference that wraps, or is lost
    ∷ ((min 3 4 ∷ []) never (4 ∷ []))
    ∷ ((min 4 3 ∷ []) never (4 ∷ []))
    ∷ ((max 3 4 ∷ []) never (3 ∷ []))
    ∷ ((max 4 3 ∷ []) never (3 ∷ []))
    ∷ (((3 - 4) ∷ []) never (0xffff_ffff_ffff_ffff ∷ []))
    ∷ (((4 - 3) ∷ []) never (0 ∷ []))
    -- above_m: M itself; a sum that wraps
    ∷ (bit (ltb M (M + 0)) never (1 ∷ []))
    ∷ (bit (ltb M (M + 0xffff_ffff_ffff_ffff)) never (0 ∷ []))
    -- passes: the second number forgotten; a sum that wraps
    ∷ (bit (ltb 3 (2 + 2)) never (0 ∷ []))
    ∷ (bit (ltb 3 (2 + 0xffff_ffff_ffff_ffff)) never (0 ∷ []))
    ∷ []

-- ---- arena: an arena of 3 places

abbrev places : List ℕ
places = 9 ∷ 8 ∷ 7 ∷ []

abbrev arenas : List Case
arenas =
    -- keep: one place off; nothing kept
    (kept places 5 (1 ∷ 2 ∷ []) never (1 ∷ 2 ∷ 7 ∷ []))
    ∷ (kept places 5 (1 ∷ 2 ∷ []) never places)
    -- its second stretch one place off, or from the wrong part of the bytes; more bytes than places, and the first one stays
    ∷ (kept places 5 (1 ∷ 2 ∷ []) never (9 ∷ 2 ∷ 1 ∷ []))
    ∷ (kept places 5 (1 ∷ 2 ∷ []) never (1 ∷ 8 ∷ 1 ∷ []))
    ∷ (kept places 5 (1 ∷ 2 ∷ 3 ∷ 4 ∷ []) never (2 ∷ 3 ∷ 1 ∷ []))
    -- hand: from the front in place of the offset; the output left
    ∷ (handed places 5 (0 ∷ 0 ∷ []) never (9 ∷ 8 ∷ []))
    ∷ (handed places 5 (0 ∷ 0 ∷ []) never (0 ∷ 0 ∷ []))
    -- its second stretch one place off, or the first part again
    ∷ (handed places 5 (0 ∷ 0 ∷ []) never (7 ∷ 8 ∷ []))
    ∷ (handed places 5 (0 ∷ 0 ∷ []) never (7 ∷ 7 ∷ []))
    ∷ []

-- ---- range_buf: a chunk of 6 bytes at 10, 2 of them consumed

abbrev six : RangeBuf
six = record { off = 10; len = 6; pos = 2 }

abbrev chunk_said : Outcome ⊤ RangeBuf → List ℕ
chunk_said o = numbers (told o.answer) ++ chunk_list (o.state ∷ [])

abbrev chunks : List Case
chunks =
    -- from: consumed from the start; an end above M let through
    (chunk_said (chunk.created 10 6) never (0 ∷ 10 ∷ 6 ∷ 6 ∷ []))
    ∷ ((chunk_said (chunk.created M 1)) never (0 ∷ M ∷ 1 ∷ 0 ∷ []))
    -- off: where the chunk begins; its end
    ∷ ((chunk.start six ∷ []) never (10 ∷ []))
    ∷ ((chunk.start six ∷ []) never (16 ∷ []))
    -- max_off: the end of the consumed part; without it
    ∷ ((chunk.end six ∷ []) never (12 ∷ []))
    ∷ ((chunk.end six ∷ []) never (14 ∷ []))
    -- len: the whole length; the consumed part
    ∷ ((chunk.avail six ∷ []) never (6 ∷ []))
    ∷ ((chunk.avail six ∷ []) never (2 ∷ []))
    -- is_empty: what still has bytes; what was used up
    ∷ (bit (chunk.is_empty six) never (1 ∷ []))
    ∷ (bit (chunk.is_empty (chunk.used six 4)) never (0 ∷ []))
    -- consume: the last byte refused; more than remains let through
    ∷ (chunk_said (chunk.consumed six 4) never (1 ∷ 10 ∷ 6 ∷ 2 ∷ []))
    ∷ (chunk_said (chunk.consumed six 5) never (0 ∷ 10 ∷ 6 ∷ 7 ∷ []))
    -- split_off: the right part forgets what was consumed; the left part keeps more than it has
    ∷ (numbers (chunk.told_split (chunk.split six 1).answer) never (0 ∷ 11 ∷ 5 ∷ 0 ∷ []))
    ∷ (chunk_list ((chunk.split six 1).state ∷ []) never (10 ∷ 1 ∷ 2 ∷ []))
    -- is_good: a good chunk refused; one consumed past its end let through
    ∷ (bit (good_chunk six) never (0 ∷ []))
    ∷ (bit (good_chunk (record { off = 10; len = 1; pos = 2 })) never (1 ∷ []))
    -- is_table: an empty table refused; a count of 65 let through; an unused entry that is not zero let through
    ∷ (bit (table_by is_zero 0 (replicate 64 chunk.zero_buf)) never (0 ∷ []))
    ∷ (bit (table_by is_zero 65 (replicate 64 chunk.zero_buf)) never (1 ∷ []))
    ∷ (bit (table_by is_zero 0 (replicate 63 chunk.zero_buf ++ six ∷ [])) never (1 ∷ []))
    -- table_of, its last entry: the 64th chunk left out; an unused entry that is not zero
    ∷ (chunk_list (drop 63 (table_of chunk.zero_buf (take 64 (replicate 64 six)))) never (0 ∷ 0 ∷ 0 ∷ []))
    ∷ (chunk_list (drop 63 (table_of chunk.zero_buf (take 64 (six ∷ [])))) never (10 ∷ 6 ∷ 2 ∷ []))
    ∷ []

-- ---- flowcontrol: limit 16, window 16, maximum 24, 9 consumed

abbrev nine : FlowControl
nine = window.with_consumed (window.fresh 16 16 24) 9

-- consumed, limit, window, maximum, and the last update if there was one
abbrev flow : FlowControl → List ℕ
flow f = f.consumed ∷ f.max_data ∷ f.window ∷ f.max_window ∷ maybe f.last_update

abbrev window_said : Outcome ⊤ FlowControl → List ℕ
window_said o = numbers (told o.answer) ++ flow o.state

abbrev windows : List Case
windows =
    -- new: a window above its maximum; a limit above M let through
    (window_said (window.created 16 99 24) never (0 ∷ 0 ∷ 16 ∷ 99 ∷ 24 ∷ []))
    ∷ (window_said (window.created (M + 1) 16 24) never (0 ∷ 0 ∷ (M + 1) ∷ 16 ∷ 24 ∷ []))
    -- window, max_data: one of the others
    ∷ (((window.committed nine 0).window ∷ []) never (25 ∷ []))
    ∷ (((window.committed nine 0).window ∷ []) never (24 ∷ []))
    ∷ (((window.committed nine 0).max_data ∷ []) never (16 ∷ []))
    ∷ (((window.committed nine 0).max_data ∷ []) never (9 ∷ []))
    -- add_consumed: counted twice; a total above M let through
    ∷ (window_said (window.consumed_more nine 2) never (0 ∷ 13 ∷ 16 ∷ 16 ∷ 24 ∷ []))
    ∷ (window_said (window.consumed_more nine M) never (0 ∷ (M + 9) ∷ 16 ∷ 16 ∷ 24 ∷ []))
    -- should_update_max_data: not due with 7 of 16 left; due with 8 left
    ∷ (bit (window.due nine) never (0 ∷ []))
    ∷ (bit (window.due (window.with_consumed nine 8)) never (1 ∷ []))
    -- max_data_next: from the limit on; the limit
    ∷ ((window.next nine ∷ []) never (32 ∷ []))
    ∷ ((window.next nine ∷ []) never (16 ∷ []))
    -- update_max_data: nothing committed; the moment not remembered
    ∷ (flow (window.committed nine 100) never (9 ∷ 16 ∷ 16 ∷ 24 ∷ 100 ∷ []))
    ∷ (flow (window.committed nine 100) never (9 ∷ 25 ∷ 16 ∷ 24 ∷ []))
    -- autotune_window: doubled past the maximum; grown after two round trips
    ∷ (flow (window.autotuned (window.committed nine 100) 119 10) never (9 ∷ 25 ∷ 32 ∷ 24 ∷ 100 ∷ []))
    ∷ (flow (window.autotuned (window.committed nine 100) 120 10) never (9 ∷ 25 ∷ 24 ∷ 24 ∷ 100 ∷ []))
    -- ensure_window_lower_bound: the window lowered; a bound above M let through
    ∷ (window_said (window.at_least nine 8) never (0 ∷ 9 ∷ 16 ∷ 8 ∷ 24 ∷ []))
    ∷ (window_said (window.at_least nine (M + 1)) never (0 ∷ 9 ∷ 16 ∷ 24 ∷ 24 ∷ []))
    -- lent::consume: nothing stored; refused, and counted all the same
    ∷ (window_said (window.consumed_more nine 2) never (0 ∷ 9 ∷ 16 ∷ 16 ∷ 24 ∷ []))
    ∷ (window_said (window.consumed_more nine M) never (1 ∷ (M + 9) ∷ 16 ∷ 16 ∷ 24 ∷ []))
    -- lent::commit, the answer first: the old limit answered; the new one answered and not stored
    ∷ (((window.committed nine 100).max_data ∷ flow (window.committed nine 100)) never (16 ∷ 9 ∷ 25 ∷ 16 ∷ 24 ∷ 100 ∷ []))
    ∷ (((window.committed nine 100).max_data ∷ flow (window.committed nine 100)) never (25 ∷ 9 ∷ 16 ∷ 16 ∷ 24 ∷ []))
    -- lent::autotune, the answer first: the window before it answered; the new one answered and not stored
    ∷ (((window.autotuned (window.committed nine 100) 119 10).window ∷ flow (window.autotuned (window.committed nine 100) 119 10)) never (16 ∷ 9 ∷ 25 ∷ 24 ∷ 24 ∷ 100 ∷ []))
    ∷ (((window.autotuned (window.committed nine 100) 119 10).window ∷ flow (window.autotuned (window.committed nine 100) 119 10)) never (24 ∷ 9 ∷ 25 ∷ 16 ∷ 24 ∷ 100 ∷ []))
    -- is_good: a good window refused; one above its maximum let through
    ∷ (bit (good_window nine) never (0 ∷ []))
    ∷ (bit (good_window (record { consumed = 9; max_data = 16; window = 25; max_window = 24; last_update = None })) never (1 ∷ []))
    ∷ []

-- ---- ranges: 10..12 and 20..22, capacity 2

abbrev two : RangeSet
two = set_of 2 (upto 10 12 ∷ upto 20 22 ∷ [])

abbrev range_said : Option Range → List ℕ
range_said None = []
range_said (Some r) = r.start ∷ r.end ∷ []

abbrev set_said : Outcome ⊤ RangeSet → List ℕ
set_said o = numbers (told o.answer) ++ range_list (ranges o.state)

abbrev sets : List Case
sets =
    -- new: a capacity of 0, and one of 65, let through
    ((numbers (told (set.created 0).answer)) never (0 ∷ []))
    ∷ ((numbers (told (set.created 65).answer)) never (0 ∷ []))
    -- len: the numbers in the ranges; none
    ∷ ((length (ranges two) ∷ []) never (4 ∷ []))
    ∷ ((length (ranges two) ∷ []) never (0 ∷ []))
    -- len: the capacity
    ∷ ((length (ranges (set_of 3 (upto 10 12 ∷ []))) ∷ []) never (3 ∷ []))
    -- contains: an end; not a start
    ∷ (bit (set.member_of 12 (ranges two)) never (1 ∷ []))
    ∷ (bit (set.member_of 20 (ranges two)) never (0 ∷ []))
    -- get: the range before; one past the last
    ∷ (range_said (set.range_at 1 (ranges two)) never (10 ∷ 12 ∷ []))
    ∷ (range_said (set.range_at 2 (ranges two)) never (0 ∷ 0 ∷ []))
    -- last: the end itself; of 0..0 a number
    ∷ (maybe (set.last_of (ranges two)) never (22 ∷ []))
    ∷ (maybe (set.last_of (upto 0 0 ∷ [])) never (0 ∷ []))
    -- eq: equal by its first range; an empty set taken for 0..0
    ∷ (bit (set.is_single (upto 10 12) (ranges two)) never (1 ∷ []))
    ∷ (bit (set.is_single (upto 0 0) []) never (1 ∷ []))
    -- eq: equal by one end
    ∷ (bit (set.is_single (upto 10 12) (upto 10 13 ∷ [])) never (1 ∷ []))
    ∷ (bit (set.is_single (upto 10 12) (upto 9 12 ∷ [])) never (1 ∷ []))
    -- insert: what touches is not joined; the new range goes in place of the lowest
    ∷ (set_said (set.inserted two (upto 12 20)) never (0 ∷ 12 ∷ 20 ∷ 20 ∷ 22 ∷ []))
    ∷ (set_said (set.inserted two (upto 0 1)) never (0 ∷ 10 ∷ 12 ∷ 20 ∷ 22 ∷ []))
    -- try_insert: a range lost in place of TableFull; what joins refused
    ∷ (set_said (set.tried two (upto 0 1)) never (0 ∷ 0 ∷ 1 ∷ 20 ∷ 22 ∷ []))
    ∷ (set_said (set.tried two (upto 12 20)) never (6 ∷ 10 ∷ 12 ∷ 20 ∷ 22 ∷ []))
    -- push_item: an empty range; the last number of all let through
    ∷ (set_said (set.pushed two 12) never (0 ∷ 10 ∷ 12 ∷ 20 ∷ 22 ∷ []))
    ∷ ((numbers (told (set.pushed two 0xffff_ffff_ffff_ffff).answer)) never (0 ∷ []))
    -- remove_until: the number itself stays; the whole range goes
    ∷ (range_list (ranges (set.removed two 10)) never (10 ∷ 12 ∷ 20 ∷ 22 ∷ []))
    ∷ (range_list (ranges (set.removed two 10)) never (20 ∷ 22 ∷ []))
    -- is_good: a good set refused; one whose ranges touch let through; one of capacity 0 let through
    ∷ (bit (good_set two) never (0 ∷ []))
    ∷ (bit (good_set (set_of 2 (upto 10 12 ∷ upto 12 22 ∷ []))) never (1 ∷ []))
    ∷ (bit (good_set (set_of 0 [])) never (1 ∷ []))
    ∷ []

pub refusals_settled : RuledOut refusals
refusals_settled = by_computing refusals refl

pub arenas_settled : RuledOut arenas
unfolding kept held handed
arenas_settled = by_computing arenas refl

pub chunks_settled : RuledOut chunks
chunks_settled = by_computing chunks refl

pub windows_settled : RuledOut windows
windows_settled = by_computing windows refl

pub sets_settled : RuledOut sets
sets_settled = by_computing sets refl
