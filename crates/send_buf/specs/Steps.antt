-- The steps that the code takes: what the contracts of the private functions cite. `proofs/` shows that they come to what `Rules` says.
use Rattle.std.specs.Prelude.{◌≡◌, Bool, false, cond, List, [], ◌∷◌, ◌++◌, ℕ, ◌+◌, ◌-◌, ◌≤◌, ◌<◌, max, ltb, leb, eqb, length, take, drop, get_or, Result, Ok, Err, ⊤}
use Rattle.refusal.specs.declared.Refusal.TheVariants.{FinalSize, NoRoom, TableFull}
use Rattle.range_buf.specs.declared.RangeBuf.{RangeBuf}
use Rattle.range_buf.specs.Rules.{end, zero_buf}
use Rattle.tables.specs.Lists.{table_of}
use Rattle.send_buf.specs.declared.SendBuf.{SendBuf}
use Rattle.arena.specs.Rules.{held}
use Rattle.refusal.specs.Rules.{M}
use Rattle.send_buf.specs.State.{Send, Adjoin, buf_of, base}
use Rattle.send_buf.specs.Rules.{front, finished, advanced, first, emit_count, never_sent, moved_back, stays, both, settled, drop_count, with_queue, with_end, pieces, cut, longer, joined, tabled, tabled_pos, passes_final, marked, no_room, no_entry}
use Rattle.refusal.specs.declared.Outcome.{Outcome}
use Rattle.refusal.specs.declared.Refusal.{Refusal}

-- the refusals of a write that its bytes and its mark decide
unfoldable pub bytes_judged : Send → ℕ → Bool → Result ⊤ Refusal
bytes_judged s n fin =
    cond (passes_final s.fin (s.off + n) (marked s n fin)) (Err FinalSize) (
    cond (no_room s n) (Err NoRoom) (
    cond (no_entry s n) (Err TableFull) (
    Ok tt)))

-- k bytes fit: the limit and the table have them
pub record Fits (s : Send) (k : ℕ) : Type 0 where
  pub limit_in : s.off + k ≤ s.limit
  pub entries : length s.chunks + pieces k ≤ 64

-- k bytes are let in: the limit and the arena have them
pub record Admits (s : Send) (k : ℕ) : Type 0 where
  pub limit_in : s.off + k ≤ s.limit
  pub room_in : k + (s.off - base s.chunks s.off) ≤ s.room

-- k bytes more are written, cut into chunks
unfoldable pub grown : Send → ℕ → Send
grown s k = with_end (with_queue s (s.chunks ++ cut (pieces k) s.off k) s.pos (s.buffered + k)) (s.off + k) s.fin

unfoldable pub appended : Send → ℕ → Outcome ℕ SendBuf
appended s k = record { answer = Ok k; state = buf_of (grown s k) }

-- k bytes more are written: as chunks of their own, or, if these would be more than 64, joined to the others
unfoldable pub taking : Send → ℕ → Send
taking s k = with_end (with_queue s (tabled (longer s k)) (tabled_pos (longer s k) s.pos) (s.buffered + k)) (s.off + k) s.fin

unfoldable pub took : Send → ℕ → Outcome ℕ SendBuf
took s k = record { answer = Ok k; state = buf_of (taking s k) }

-- chunks adjoin, and end at or below M
pub record Tiled (l : List RangeBuf) : Type 0 where
  pub low : ℕ
  pub top : ℕ
  pub top_in : top ≤ M
  pub adjoin : Adjoin low l top

-- the chunks l, which are joined, and one more, or several: each joins the last, unless their boundary stays
abbrev pub pushed : List RangeBuf → RangeBuf → List RangeBuf
pushed [] d = d ∷ []
pushed (c ∷ []) d = cond (stays c d) (c ∷ d ∷ []) (both c d ∷ [])
pushed (c ∷ x ∷ xs) d = c ∷ pushed (x ∷ xs) d

abbrev pub pushed_all : List RangeBuf → List RangeBuf → List RangeBuf
pushed_all l [] = l
pushed_all l (d ∷ ds) = pushed_all (pushed l d) ds

-- a buffer with other chunks
abbrev pub with_chunks : SendBuf → List RangeBuf → SendBuf
with_chunks b l = record b { «data» = table_of zero_buf l; count = length l }

-- the chunks l, joined, are those of a buffer with m bytes more to be sent; or they are too many
unfoldable pub relists : Send → List RangeBuf → ℕ → Outcome ℕ SendBuf
relists s l m =
    cond (ltb 64 (length (joined l))) (record { answer = Err TableFull; state = buf_of s })
    (record { answer = Ok m; state = buf_of (with_queue s (joined l) 0 (s.buffered + m)) })

-- the first n chunks are gone, of which m bytes were still to be sent
unfoldable pub without : Send → ℕ → ℕ → Send
without s n m = with_queue s (drop n s.chunks) (s.pos - n) (s.buffered - m)

-- a chunk ends at or below k
abbrev pub gone_by : ℕ → RangeBuf → Bool
gone_by k c = leb (end c) k

-- a chunk moved back over a range from a on, and by how much
abbrev pub back_to : ℕ → RangeBuf → RangeBuf
back_to a c = moved_back c a

abbrev pub back_by : ℕ → RangeBuf → ℕ
back_by a c = c.pos - (moved_back c a).pos

-- n bytes at a are lost, and their end lies in the chunk at index `at`, behind its beginning
pub record Inside (s : Send) (at a n : ℕ) : Type 0 where
  pub was_sent_lem : never_sent s a n ≡ false
  pub unsettled : settled s a n ≡ false
  pub index : at ≡ drop_count s.chunks (a + n)
  pub there : at < length s.chunks
  pub begins : (get_or s.chunks at zero_buf).off < a + n

-- what an emit with room for n bytes copies: the chunks after it; all that the loop gives; the output after it
abbrev pub chunks_after : Send → ℕ → List RangeBuf
chunks_after s n = take (first s) s.chunks ++ advanced (drop (first s) s.chunks) (front s) n

unfoldable pub copied_out : Send → ℕ → Outcome (ℕ × ℕ) SendBuf
copied_out s n = record {
  answer = Ok (emit_count s n, first s + finished (drop (first s) s.chunks) (front s) n);
  state = buf_of (with_queue s (chunks_after s n) s.pos s.buffered);
}

abbrev pub out_after : Send → List ℕ → List ℕ → List ℕ
out_after s ar out = held ar (front s) (emit_count s (length out)) ++ drop (emit_count s (length out)) out

-- n bytes from o on are out, and `at` is the chunk to send next
abbrev pub sent_to : SendBuf → ℕ → ℕ → ℕ → SendBuf
sent_to b at o n = record b { pos = cond (eqb n 0) b.pos at; emit_off = max b.emit_off (o + n); buffered_bytes = b.buffered_bytes - n }
