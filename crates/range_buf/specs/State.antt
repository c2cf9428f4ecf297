-- What every chunk is that came from creation or a call.
use Rattle.std.specs.Prelude.{◌+◌, ◌≤◌}
use Rattle.refusal.specs.Rules.{M}
use Rattle.range_buf.specs.declared.RangeBuf.{RangeBuf}

pub record Good (b : RangeBuf) : Type 0 where
  -- no more is consumed than there is
  pub used_in : b.pos ≤ b.len
  -- it ends at or below the largest offset
  pub end_in : b.off + b.len ≤ M
