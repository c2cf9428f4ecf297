-- A send buffer as numbers and lists, the struct that holds them, and what every buffer is that came from creation or a call.
use Rattle.std.specs.Prelude.{◌≡◌, Bool, List, [], ◌∷◌, ℕ, ◌+◌, ◌-◌, ◌≤◌, ◌<◌, length, take, Option, Some}
use Rattle.tables.specs.Lists.{table_of}
use Rattle.refusal.specs.Rules.{M}
use Rattle.range_buf.specs.declared.RangeBuf.{RangeBuf}
use Rattle.range_buf.specs.Rules.{start, end, avail, zero_buf}
use Rattle.ranges.specs.declared.Range.{Range}
use Rattle.ranges.specs.State.{ranges, set_of, Sorted}
use Rattle.send_buf.specs.declared.SendBuf.{SendBuf}

pub record Send : Type 0 where
  pub room : ℕ  -- A, the arena's length
  pub chunks : List RangeBuf  -- what is held, in order
  pub pos : ℕ  -- the send position: an index into the chunks
  pub off : ℕ  -- the end of what was written
  pub emitted : ℕ  -- the largest offset that was sent
  pub buffered : ℕ  -- the bytes still to be sent
  pub limit : ℕ  -- how far the peer lets us send
  pub blocked : Option ℕ  -- the last offset at which the stream was blocked
  pub fin : Option ℕ  -- the final size F, once known
  pub shut : Bool
  pub acked : List Range
  pub error : Option ℕ  -- the code of a stop

-- what a buffer holds
abbrev pub view_of : SendBuf → Send
view_of b = record {
  room = b.arena_len;
  chunks = take b.count b.«data»;
  pos = b.pos;
  off = b.off;
  emitted = b.emit_off;
  buffered = b.buffered_bytes;
  limit = b.max_data;
  blocked = b.blocked_at;
  fin = b.fin_off;
  shut = b.shutdown;
  acked = ranges b.acked;
  error = b.error;
}

-- the buffer that holds s: unused places are zero, and the acked set has a capacity of 64
unfoldable pub buf_of : Send → SendBuf
buf_of s = record {
  «data» = table_of zero_buf s.chunks;
  count = length s.chunks;
  pos = s.pos;
  off = s.off;
  emit_off = s.emitted;
  buffered_bytes = s.buffered;
  max_data = s.limit;
  blocked_at = s.blocked;
  fin_off = s.fin;
  shutdown = s.shut;
  acked = set_of 64 s.acked;
  error = s.error;
  arena_len = s.room;
}

-- where the first chunk held begins, its consumed part included, or `off` with no chunks
abbrev pub base : List RangeBuf → ℕ → ℕ
base [] off = off
base (c ∷ cs) off = c.off

-- chunks that adjoin from lo up to hi, none empty, none consumed past its end
abbrev pub Adjoin : ℕ → List RangeBuf → ℕ → Type 0
Adjoin lo [] hi = lo ≡ hi
Adjoin lo (c ∷ cs) hi = (c.off ≡ lo) × (0 < c.len) × (c.pos ≤ c.len) × Adjoin (end c) cs hi

-- the first n chunks hold no byte still to be sent
abbrev pub Spent : ℕ → List RangeBuf → Type 0
Spent n [] = Unit {0}
Spent n (c ∷ cs) = (0 < n → c.pos ≡ c.len) × Spent (n - 1) cs

-- what is consumed was emitted: it ends at or below e
abbrev pub Used : ℕ → List RangeBuf → Type 0
Used e [] = Unit {0}
Used e (c ∷ cs) = (0 < c.pos → start c ≤ e) × Used e cs

-- the bytes that chunks still hold
abbrev pub total : List RangeBuf → ℕ
total [] = 0
total (c ∷ cs) = avail c + total cs

-- each range ends at or below h
abbrev pub Upto : ℕ → List Range → Type 0
Upto h [] = Unit {0}
Upto h (r ∷ rs) = (r.end ≤ h) × Upto h rs

-- what holds of the numbers and lists
pub record GoodSend (s : Send) : Type 0 where
  pub room_in : s.room ≤ 65536
  -- chunks adjoin and tile b..off, and off - b ≤ A
  pub adjoin : Adjoin (base s.chunks s.off) s.chunks s.off
  pub fits : s.off ≤ base s.chunks s.off + s.room
  pub few : length s.chunks ≤ 64
  -- emitted ≤ off ≤ limit ≤ M
  pub emitted_in : s.emitted ≤ s.off
  pub limited : s.off ≤ s.limit
  pub limit_in : s.limit ≤ M
  -- F known implies off = F
  pub fin_at_off : (f : ℕ) → s.fin ≡ Some f → f ≡ s.off
  -- the acked ranges: sorted, apart, at most 64, of bytes that were emitted
  pub acked_order : Sorted 0 s.acked
  pub acked_few : length s.acked ≤ 64
  pub acked_in : Upto s.emitted s.acked
  -- the chunks before the send position hold no bytes left to send; what is consumed was emitted, and so was all before the first chunk
  pub pos_in : s.pos ≤ length s.chunks
  pub spent : Spent s.pos s.chunks
  pub used : Used s.emitted s.chunks
  pub base_in : base s.chunks s.off ≤ s.emitted
  -- the bytes still to be sent are what the chunks still hold
  pub all_buffered : s.buffered ≡ total s.chunks

-- and of the struct: it holds them, with every unused place zero
pub record Good (b : SendBuf) : Type 0 where
  pub whole : b ≡ buf_of (view_of b)
  pub facts : GoodSend (view_of b)
