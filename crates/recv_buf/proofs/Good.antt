-- What a good receive buffer's struct is: the laws by which the code and its callers go. Assumes nothing.
use Rattle.std.specs.List.{All}
use Rattle.std.proofs.lemmas.List.{drop_more, get_or_default}
use mathlib.Core.Path.{◌≡◌, sym, ap, ◌∙◌}
use mathlib.Core.List.{List, ◌∷◌}
use Prim.Native.Nat.{ℕ, ◌+◌, ◌≤◌, ◌<◌}
use native.Mathlib.Omega.{arith}
use lib.ListN.{length, drop, get_or}
use Rattle.tables.specs.Lists.{Table, table_of}
use Rattle.tables.proofs.Tables as tables
use Rattle.refusal.specs.Rules.{M}
use Rattle.range_buf.specs.declared.RangeBuf.{RangeBuf}
use Rattle.range_buf.specs.State.{Good as GoodChunk}
use Rattle.range_buf.specs.Rules.{zero_buf}
use Rattle.flowcontrol.specs.State.{Good as GoodFlow}
use Rattle.recv_buf.specs.declared.RecvBuf.{RecvBuf}
use Rattle.recv_buf.specs.State.{Recv, view_of, buf_of, Chain, Within, GoodRecv, Good}
use Rattle.recv_buf.specs.Steps.{Apart}
use Rattle.recv_buf.proofs.Lists.{chain_drop, within_drop, within_weaken}

-- ---- a list of chunks, sorted and apart

module _ (lo : ℕ) (cs : List RangeBuf) (a : Apart lo cs) where
  -- the chunks from i on: one, and the others lie behind it
  module _ (i : ℕ) (lt : i < length cs) where
    pub chain_at : Chain lo (get_or cs i zero_buf ∷ drop (i + 1) cs)
    chain_at = rw (drop_more cs i zero_buf lt) at (chain_drop i lo cs a.chain)

    pub within_at : Within M (get_or cs i zero_buf ∷ drop (i + 1) cs)
    within_at = rw (drop_more cs i zero_buf lt) at (within_drop i M cs a.within)

    pub chunk_good : GoodChunk (get_or cs i zero_buf)
    chunk_good = record { used_in = chain_at.1; end_in = within_at.0 }

  pub all_good : All GoodChunk cs
  all_good i d lt = rw (get_or_default cs i d zero_buf lt) (chunk_good i lt)

-- ---- the struct of numbers and lists, and back

pub view_buf : (r : Recv) → view_of (buf_of r) ≡ r
unfolding buf_of
view_buf r = λ j. record {
  room = r.room;
  chunks = tables.view_of_lem zero_buf r.chunks j;
  off = r.off;
  len = r.len;
  flow = r.flow;
  fin = r.fin;
  error = r.error;
  drain = r.drain;
}

-- the struct of good numbers and lists is good
pub good_buf : (r : Recv) → GoodRecv r → Good (buf_of r)
good_buf r g = record { whole = rw (view_buf r); facts = rw (view_buf r) g }

-- a struct whose table holds the chunks is the struct of its numbers and lists
pub made : (r : Recv) (d : List RangeBuf) (n : ℕ) → d ≡ table_of zero_buf r.chunks → n ≡ length r.chunks
    → ◌≡◌ {A = RecvBuf} (record { «data» = d; count = n; off = r.off; len = r.len; flow_control = r.flow; fin_off = r.fin; error = r.error; drain = r.drain; arena_len = r.room }) (buf_of r)
unfolding buf_of
made r d n e m = λ j. record {
  «data» = e j;
  count = m j;
  off = r.off;
  len = r.len;
  flow_control = r.flow;
  fin_off = r.fin;
  error = r.error;
  drain = r.drain;
  arena_len = r.room;
}

module _ (b : RecvBuf) (g : Good b) where
  -- how many chunks there are
  pub chunks_length : length (view_of b).chunks ≡ b.count
  unfolding buf_of
  chunks_length = sym (ap (λ (x : RecvBuf). x.count) g.whole)

  pub few : b.count ≤ 64
  few = omega (arith, chunks_length, g.facts.few)

  pub table : Table zero_buf b.count b.«data»
  unfolding buf_of
  table = record { few = few; clear = ap (λ (x : RecvBuf). x.«data») g.whole }

  -- the chunks are sorted and apart, from off on, and end at or below M
  pub apart : Apart b.off (view_of b).chunks
  apart = record { chain = g.facts.chain; within = within_weaken b.len M (view_of b).chunks g.facts.len_in g.facts.within }

  pub flow_good : GoodFlow b.flow_control
  flow_good = g.facts.flow_good

  -- other numbers beside the same table
  pub same_table : (r : Recv) → r.chunks ≡ (view_of b).chunks
      → ◌≡◌ {A = RecvBuf} (record { «data» = b.«data»; count = b.count; off = r.off; len = r.len; flow_control = r.flow; fin_off = r.fin; error = r.error; drain = r.drain; arena_len = r.room }) (buf_of r)
  same_table r e =
      made r b.«data» b.count (table.clear ∙ ap (table_of zero_buf) (sym e)) (sym chunks_length ∙ ap length (sym e))

-- ---- what `chunks` says of a buffer's chunks

pub ruleset chunks = (few, chunks_length, apart, all_good)
