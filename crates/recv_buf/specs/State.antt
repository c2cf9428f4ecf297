-- A receive buffer as numbers and lists, the struct that holds them, and what every buffer is that came from creation or a call.
use Rattle.std.specs.Prelude.{◌≡◌, ◌⊎◌, Bool, true, List, [], ◌∷◌, ℕ, ◌+◌, ◌≤◌, ◌<◌, length, take, Option, Some}
use Rattle.tables.specs.Lists.{table_of}
use Rattle.refusal.specs.Rules.{M}
use Rattle.range_buf.specs.declared.RangeBuf.{RangeBuf}
use Rattle.range_buf.specs.Rules.{start, end, zero_buf}
use Rattle.flowcontrol.specs.declared.FlowControl.{FlowControl}
use Rattle.flowcontrol.specs.State.{Good as GoodFlow}
use Rattle.recv_buf.specs.declared.RecvBuf.{RecvBuf}

pub record Recv : Type 0 where
  pub room : ℕ  -- A, the arena's length
  pub chunks : List RangeBuf  -- what is kept and not yet handed out, in order
  pub off : ℕ  -- how far was handed out
  pub len : ℕ  -- the highest end seen
  pub flow : FlowControl
  pub fin : Option ℕ  -- the final size F, once known
  pub error : Option ℕ  -- the code of a reset
  pub drain : Bool  -- shut down

-- what a buffer holds
abbrev pub view_of : RecvBuf → Recv
view_of b = record {
  room = b.arena_len;
  chunks = take b.count b.«data»;
  off = b.off;
  len = b.len;
  flow = b.flow_control;
  fin = b.fin_off;
  error = b.error;
  drain = b.drain;
}

-- the buffer that holds r: unused places are zero
unfoldable pub buf_of : Recv → RecvBuf
buf_of r = record {
  «data» = table_of zero_buf r.chunks;
  count = length r.chunks;
  off = r.off;
  len = r.len;
  flow_control = r.flow;
  fin_off = r.fin;
  error = r.error;
  drain = r.drain;
  arena_len = r.room;
}

-- sorted, apart, none below lo, none consumed past its end
abbrev pub Chain : ℕ → List RangeBuf → Type 0
Chain lo [] = Unit {0}
Chain lo (c ∷ cs) = (lo ≤ start c) × (c.pos ≤ c.len) × Chain (end c) cs

-- none ends above hi
abbrev pub Within : ℕ → List RangeBuf → Type 0
Within hi [] = Unit {0}
Within hi (c ∷ cs) = (end c ≤ hi) × Within hi cs

-- offset o has a byte in one of the chunks
abbrev pub Held : List RangeBuf → ℕ → Type 0
Held [] o = ⊥
Held (c ∷ cs) o = ((start c ≤ o) × (o < end c)) ⊎ Held cs o

-- what holds of the numbers and lists
pub record GoodRecv (r : Recv) : Type 0 where
  pub room_in : r.room ≤ 65536
  pub chain : Chain r.off r.chunks
  pub within : Within r.len r.chunks
  -- the bytes kept lie within a window of A
  pub near : (o : ℕ) → Held r.chunks o → o < r.off + r.room
  pub off_len : r.off ≤ r.len
  pub len_in : r.len ≤ M
  pub few : length r.chunks ≤ 64
  pub fin_len : (f : ℕ) → r.fin ≡ Some f → r.len ≡ f
  -- after shutdown nothing is kept
  pub shut_none : r.drain ≡ true → r.chunks ≡ []
  pub shut_off : r.drain ≡ true → r.off ≡ r.len
  pub flow_good : GoodFlow r.flow

-- and of the struct: it holds them, with every unused place zero
pub record Good (b : RecvBuf) : Type 0 where
  pub whole : b ≡ buf_of (view_of b)
  pub facts : GoodRecv (view_of b)
