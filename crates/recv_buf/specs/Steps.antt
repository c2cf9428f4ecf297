-- What the private functions of the receive buffer do: the laws in proofs/ join it to `Rules`.
use Rattle.std.specs.Prelude.{◌≡◌, Bool, false, cond, List, [], ◌∷◌, ℕ, ◌+◌, ◌≤◌, ltb, length, take, drop, get_or, set, Result, Ok, Err, Option, None, ⊤}
use Rattle.tables.specs.Lists.{table_of}
use Rattle.refusal.specs.declared.Refusal.{Refusal}
use Rattle.refusal.specs.declared.Refusal.TheVariants.{Offset, FinalSize, FlowControl as OverLimit, NoRoom, BadSetup}
use Rattle.refusal.specs.Rules.{M}
use Rattle.range_buf.specs.declared.RangeBuf.{RangeBuf}
use Rattle.range_buf.specs.Rules.{used, avail, zero_buf}
use Rattle.flowcontrol.specs.declared.FlowControl.{FlowControl}
use Rattle.recv_buf.specs.declared.RecvBuf.{RecvBuf}
use Rattle.recv_buf.specs.declared.Entries.{Entries}
use Rattle.recv_buf.specs.declared.Reach.{Reach}
use Rattle.recv_buf.specs.State.{Recv, Chain, Within}
use Rattle.recv_buf.specs.Rules.{other_arena, passes_final, no_room, taken, left_over}

-- ---- a table in the making

-- the entries of l: the first 64 are stored, and past them only the count grows
abbrev pub listed : List RangeBuf → Entries
listed l = record { «data» = take 64 (table_of zero_buf l); count = length l }

-- one entry more, and a list of them
abbrev pub pushed : Entries → RangeBuf → Entries
pushed t c = record { «data» = cond (ltb t.count 64) (set t.«data» t.count c) t.«data»; count = t.count + 1 }

abbrev pub pushed_all : Entries → List RangeBuf → Entries
pushed_all t [] = t
pushed_all t (c ∷ cs) = pushed_all (pushed t c) cs

-- the buffer with another table, highest end and final size
unfoldable pub grown : RecvBuf → Entries → ℕ → Option ℕ → RecvBuf
grown b t len fin = record b { «data» = t.«data»; count = t.count; len = len; fin_off = fin }

-- ---- creation

-- a buffer that saw nothing, with its window
abbrev pub empty_recv : ℕ → FlowControl → Recv
empty_recv A flow = record { room = A; chunks = []; off = 0; len = 0; flow = flow; fin = None; error = None; drain = false }

-- ---- write

-- the refusals but for the last, TableFull
unfoldable pub frame_judged : Recv → ℕ → ℕ → ℕ → Bool → Result ⊤ Refusal
frame_judged r a s n fin =
    cond (other_arena r a) (Err BadSetup) (
    cond (ltb M (s + n)) (Err Offset) (
    cond (ltb r.flow.max_data (s + n)) (Err OverLimit) (
    cond (passes_final r.fin r.len (s + n) fin) (Err FinalSize) (
    cond (no_room r s n) (Err NoRoom) (
    Ok tt)))))

-- ---- a list of chunks

-- sorted and apart, from lo on, and none ends above M
pub record Apart (lo : ℕ) (cs : List RangeBuf) : Type 0 where
  pub chain : Chain lo cs
  pub within : Within M cs

-- another first chunk
abbrev pub put_front : RangeBuf → List RangeBuf → List RangeBuf
put_front x [] = []
put_front x (c ∷ cs) = x ∷ cs

-- the chunks left where some went whole and a part of the next
abbrev pub left_at : List RangeBuf → Reach → List RangeBuf
left_at cs at = put_front (used (get_or cs at.whole zero_buf) at.part) (drop at.whole cs)

-- what a reach may be of a list of chunks
pub record Fits (cs : List RangeBuf) (at : Reach) : Type 0 where
  pub whole_in : at.whole ≤ length cs
  pub part_in : at.part ≤ avail (get_or cs at.whole zero_buf)

-- the reach of an emit of up to n bytes from off on
pub record Reached (cs : List RangeBuf) (off n : ℕ) (at : Reach) : Type 0 where
  pub fits : Fits cs at
  pub bytes_are : at.bytes ≡ taken cs off n
  pub left_are : left_at cs at ≡ left_over cs off n
