-- Joining at the edge of the table, one statement over a table of calls: a buffer with these chunks, given this call, answers as the table says, and
-- leaves these chunks. By computing what the contracts promise. Assumes nothing.
use Rattle.std.specs.Prelude.{None}
use mathlib.Core.Path.{◌≡◌, refl}
use mathlib.Core.Bool.{false}
use mathlib.Core.List.{List, [], ◌∷◌, ◌++◌}
use Prim.Native.Nat.{ℕ, zero, suc, ◌+◌, ◌*◌}
use lib.ListN.{length}
use Rattle.refusal.specs.Rules.{M, Told, success, refusal, told_count}
use Rattle.refusal.specs.declared.Outcome.{Outcome}
use Rattle.refusal.specs.declared.Refusal.TheVariants.{TableFull}
use Rattle.range_buf.specs.declared.RangeBuf.{RangeBuf}
use Rattle.send_buf.specs.State.{Send, view_of, buf_of, total}
use Rattle.send_buf.specs.Rules.{written, write_judged, wrote, ack_drops, ack_judged, acked_more, retransmits, loss_judged, lost}
use Rattle.send_buf.specs.declared.SendBuf.{SendBuf}

abbrev chunk : ℕ → ℕ → ℕ → RangeBuf
chunk off len pos = record { off = off; len = len; pos = pos }

-- n chunks of `len` bytes from o on, of each the first `pos` sent
abbrev many : ℕ → ℕ → ℕ → ℕ → List RangeBuf
many zero o len pos = []
many (suc n) o len pos = chunk o len pos ∷ many n (o + len) len pos

-- a buffer that holds them, up to `off`
abbrev holding : List RangeBuf → ℕ → Send
holding cs off = record {
  room = 65536;
  chunks = cs;
  pos = 0;
  off = off;
  emitted = off;
  buffered = total cs;
  limit = M;
  blocked = None;
  fin = None;
  shut = false;
  acked = [];
  error = None;
}

-- write n bytes; the n bytes at a are lost; they are acked
abbrev write : ℕ → Send → Outcome ℕ SendBuf
write n s = written s 65536 n false

abbrev retransmit : ℕ → ℕ → Send → Outcome ℕ SendBuf
retransmit a n s = retransmits s a n

abbrev ack_and_drop : ℕ → ℕ → Send → Outcome ℕ SendBuf
ack_and_drop a n s = ack_drops s a n

-- chunks and the end of them, a call, its answer, the chunks after it
pub record Line : Type 0 where
  held : List RangeBuf
  off : ℕ
  call : Send → Outcome ℕ SendBuf
  answer : Told
  after : List RangeBuf

abbrev line : List RangeBuf → ℕ → (Send → Outcome ℕ SendBuf) → Told → List RangeBuf → Line
line held off call answer after = record { held = held; off = off; call = call; answer = answer; after = after }

abbrev pub table : List Line
table =
    -- 63 chunks and one byte: nothing is joined
    line (many 63 0 1 0) 63 (write 1) (success (1 ∷ [])) (many 64 0 1 0)
    -- 64 and one byte: none sent and all sent (E14), and alternating
    ∷ line (many 64 0 1 0) 64 (write 1) (success (1 ∷ [])) (chunk 0 65 0 ∷ [])
    ∷ line (many 64 0 1 1) 64 (write 1) (success (1 ∷ [])) (chunk 0 65 64 ∷ [])
    ∷ line (many 64 0 3 1) 192 (write 1) (success (1 ∷ [])) (many 63 0 3 1 ++ chunk 189 4 1 ∷ [])
    -- 60 alternating, and bytes for 5 chunks: they join the last
    ∷ line (many 60 0 3 1) 180 (write 20000) (success (20000 ∷ [])) (many 59 0 3 1 ++ chunk 177 20003 1 ∷ [])
    -- 64 sent, and a byte among them lost; the last but one of them (E15)
    ∷ line (many 64 0 3 3) 192 (retransmit 1 1) (success (1 ∷ [])) (chunk 0 2 1 ∷ chunk 2 190 190 ∷ [])
    ∷ line (many 63 0 1 1 ++ chunk 63 2 2 ∷ []) 65 (retransmit 63 1) (success (1 ∷ [])) (chunk 0 64 63 ∷ chunk 64 1 1 ∷ [])
    -- 64 alternating: one more turn is too many, ..
    ∷ line (many 64 0 4 2) 256 (retransmit 0 1) (refusal TableFull) (many 64 0 4 2)
    -- .. but not where the loss reaches to what is to be sent, nor where nothing is lost
    ∷ line (many 64 0 4 2) 256 (retransmit 1 1) (success (1 ∷ [])) (chunk 0 4 1 ∷ many 63 4 4 2)
    ∷ line (many 64 0 4 2) 256 (retransmit 0 2) (success (2 ∷ [])) (chunk 0 4 0 ∷ many 63 4 4 2)
    ∷ line (many 64 0 4 2) 256 (retransmit 1 0) (success (0 ∷ [])) (many 64 0 4 2)
    -- an ack that covers a joined chunk in part drops nothing; of the chunks that it was joined from, ten
    ∷ line (chunk 0 65 64 ∷ []) 65 (ack_and_drop 0 10) (success (0 ∷ [])) (chunk 0 65 64 ∷ [])
    ∷ line (many 64 0 1 1) 64 (ack_and_drop 0 10) (success (0 ∷ [])) (many 54 10 1 1)
    -- and where the byte acked was lost before, it stays to be sent again; of chunks that were not joined it goes, and is counted
    ∷ line (chunk 0 2 0 ∷ chunk 2 63 0 ∷ []) 65 (ack_and_drop 0 1) (success (0 ∷ [])) (chunk 0 2 0 ∷ chunk 2 63 0 ∷ [])
    ∷ line (many 65 0 1 0) 65 (ack_and_drop 0 1) (success (1 ∷ [])) (many 64 1 1 0)
    ∷ []

-- what each line's call gives, and what the line says that it gives; the send position is 0 in all
pub record Seen : Type 0 where
  answer : Told
  chunks : List RangeBuf
  pos : ℕ

abbrev pub results : List Line → List Seen
results [] = []
results (l ∷ ls) =
    let o = l.call (holding l.held l.off) in
    record { answer = told_count o.answer; chunks = (view_of o.state).chunks; pos = (view_of o.state).pos } ∷ results ls

abbrev pub expected : List Line → List Seen
expected [] = []
expected (l ∷ ls) = record { answer = l.answer; chunks = l.after; pos = 0 } ∷ expected ls

pub join_examples : results table ≡ expected table
unfolding buf_of write_judged wrote written ack_judged acked_more ack_drops loss_judged lost retransmits
join_examples = refl

-- E16: 128 bytes in one chunk, all sent; then the bytes at 0, 2, 4 and so on are lost, n of them
abbrev losses : ℕ → Send
losses zero = holding (chunk 0 128 128 ∷ []) 128
losses (suc n) = lost (losses n) (2 * n) 1

pub e16 : (length (losses 63).chunks ≡ 64) × (told_count (retransmits (losses 62) 124 1).answer ≡ success (1 ∷ [])) × (told_count (retransmits (losses 63) 126 1).answer ≡ refusal TableFull)
unfolding loss_judged lost retransmits
e16 = (refl, refl, refl)
