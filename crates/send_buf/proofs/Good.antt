-- What a good buffer is: the laws by which the code goes from the struct to the numbers and lists, and back. Assumes nothing.
use mathlib.Core.Path.{◌≡◌, sym, ap}
use mathlib.Core.List.{List, [], ◌∷◌}
use Prim.Native.Nat.{ℕ, zero, suc, ◌+◌, ◌≤◌, ◌<◌}
use native.Mathlib.Omega.{arith}
use Rattle.std.specs.List.{All}
use lib.ListN.{length, take, drop, get_or}
use Rattle.tables.specs.Lists.{Table, table_of}
use Rattle.tables.proofs.Tables as tables
use Rattle.range_buf.specs.declared.RangeBuf.{RangeBuf}
use Rattle.range_buf.specs.State.{Good as GoodChunk}
use Rattle.range_buf.specs.Rules.{end, zero_buf}
use Rattle.ranges.specs.declared.RangeSet.{RangeSet}
use Rattle.ranges.specs.State.{Good as GoodSet, ranges, set_of}
use Rattle.ranges.proofs.Good.{good_of}
use Rattle.send_buf.specs.declared.SendBuf.{SendBuf}
use Rattle.send_buf.proofs.Chunks.{adj_le}
use Rattle.send_buf.specs.State.{Send, buf_of, Good, Adjoin, base}

-- a buffer with another chunk table
abbrev pub set_table : SendBuf → List RangeBuf → ℕ → SendBuf
set_table b xs n = record b { «data» = xs; count = n }

-- a struct whose chunk table and acked set are those of s, with the numbers of s, is the buffer that holds s
pub made : (s : Send) (d : List RangeBuf) (n : ℕ) (a : RangeSet) → d ≡ table_of zero_buf s.chunks → n ≡ length s.chunks → a ≡ set_of 64 s.acked
    → ◌≡◌ {A = SendBuf}
    (record {
      «data» = d;
      count = n;
      pos = s.pos;
      off = s.off;
      emit_off = s.emitted;
      buffered_bytes = s.buffered;
      max_data = s.limit;
      blocked_at = s.blocked;
      fin_off = s.fin;
      shutdown = s.shut;
      acked = a;
      error = s.error;
      arena_len = s.room;
    })
    (buf_of s)
unfolding buf_of
made s d n a p q r = rw (p, q, r)

-- a chunk that lies within lo..hi, has bytes, and is not consumed past its end
pub record Within (lo hi : ℕ) (c : RangeBuf) : Type 0 where
  pub low : lo ≤ c.off
  pub high : end c ≤ hi
  pub some : 0 < c.len
  pub eats : c.pos ≤ c.len

-- so does each of chunks that adjoin from lo up to hi
pub each_chunk : (l : List RangeBuf) (lo hi i : ℕ) (d : RangeBuf) → Adjoin lo l hi → i < length l → Within lo hi (get_or l i d)
each_chunk [] lo hi i d a h = absurd (omega arith)
each_chunk (c ∷ l) lo hi zero d a h =
    record { low = omega (arith, a.0); high = adj_le (end c) l hi a.3; some = a.1; eats = a.2 }
each_chunk (c ∷ l) lo hi (suc i) d a h =
    let r = each_chunk l (end c) hi i d a.3 (omega arith) in
    record { low = omega (arith, a.0, r.low); high = r.high; some = r.some; eats = r.eats }

module _ (b : SendBuf) (g : Good b) where
  pub count_is : b.count ≡ length (take b.count b.«data»)
  unfolding buf_of
  count_is = ap (λ (x : SendBuf). x.count) g.whole

  pub table : Table zero_buf b.count b.«data»
  unfolding buf_of
  table = record { few = omega (arith, g.facts.few, count_is); clear = ap (λ (x : SendBuf). x.«data») g.whole }

  pub slots : length b.«data» ≡ 64
  slots = tables.slots zero_buf b.count b.«data» table

  pub chunks_length : length (take b.count b.«data») ≡ b.count
  chunks_length = tables.view_length zero_buf b.count b.«data» table

  pub few : b.count ≤ 64
  few = table.few

  pub pos_in : b.pos ≤ b.count
  pos_in = omega (arith, g.facts.pos_in, chunks_length)

  -- what is left of the chunks at i: the entry at i, and what is left at i + 1; nothing, at their end
  pub next : (i : ℕ) → i < b.count → drop i (take b.count b.«data») ≡ get_or b.«data» i zero_buf ∷ drop (i + 1) (take b.count b.«data»)
  next = tables.next zero_buf b.count b.«data» table

  pub done : (i : ℕ) → b.count ≤ i → drop i (take b.count b.«data») ≡ []
  done = tables.done zero_buf b.count b.«data» table

  -- the chunk at i; behind the chunks, both are zero
  pub entry : (i : ℕ) → get_or (take b.count b.«data») i zero_buf ≡ get_or b.«data» i zero_buf
  entry = tables.entry_any zero_buf b.count b.«data» table

  pub chunk_in : (i : ℕ) → i < b.count → Within (base (take b.count b.«data») b.off) b.off (get_or b.«data» i zero_buf)
  chunk_in i h =
      rw (sym (entry i))
      (each_chunk (take b.count b.«data») (base (take b.count b.«data») b.off) b.off i zero_buf g.facts.adjoin (omega (arith, chunks_length)))

  pub chunk_good : (i : ℕ) → i < b.count → GoodChunk (get_or b.«data» i zero_buf)
  chunk_good i h =
      let w = chunk_in i h in
      record { used_in = w.eats; end_in = omega (arith, w.high, g.facts.limited, g.facts.limit_in) }

  pub all_good : All GoodChunk (take b.count b.«data»)
  all_good i d h =
      let w = each_chunk (take b.count b.«data») (base (take b.count b.«data») b.off) b.off i d g.facts.adjoin h in
      record { used_in = w.eats; end_in = omega (arith, w.high, g.facts.limited, g.facts.limit_in) }

  -- the acked set
  pub acked_is : b.acked ≡ set_of 64 (ranges b.acked)
  unfolding buf_of
  acked_is = ap (λ (x : SendBuf). x.acked) g.whole

  pub acked_good : GoodSet b.acked
  acked_good = rw acked_is (good_of 64 (ranges b.acked) (omega arith) (omega arith) g.facts.acked_few g.facts.acked_order)
