-- The contracts of the exported calls of a chunk determine what C is handed: nothing else satisfies them. Assumes nothing.
use mathlib.Core.Path.{◌≡◌}
use mathlib.Core.Bool.{Bool}
use Prim.Native.Nat.{ℕ}
use Rattle.range_buf.specs.Rules.{start, end, avail, is_empty, created, consumed, split}
use Rattle.stream_c.specs.Rules.{chunk_out, split_out}
use Rattle.tables.proofs.Tables.{no_second}
use Rattle.range_buf.specs.declared.RangeBuf.{RangeBuf}
use Rattle.stream_c.specs.declared.chunk.VkRangeBufOut.{VkRangeBufOut}
use Rattle.stream_c.specs.declared.chunk.VkSplitOut.{VkSplitOut}

pub vk-range-buf-from-one : (off : ℕ) (len : ℕ) (p q : VkRangeBufOut) → p ≡ chunk_out (created off len) → q ≡ chunk_out (created off len) → p ≡ q
vk-range-buf-from-one off len = no_second

pub vk-range-buf-off-one : (buf : RangeBuf) (p q : ℕ) → p ≡ start buf → q ≡ start buf → p ≡ q
vk-range-buf-off-one buf = no_second

pub vk-range-buf-max-off-one : (buf : RangeBuf) (p q : ℕ) → p ≡ end buf → q ≡ end buf → p ≡ q
vk-range-buf-max-off-one buf = no_second

pub vk-range-buf-len-one : (buf : RangeBuf) (p q : ℕ) → p ≡ avail buf → q ≡ avail buf → p ≡ q
vk-range-buf-len-one buf = no_second

pub vk-range-buf-is-empty-one : (buf : RangeBuf) (p q : Bool) → p ≡ is_empty buf → q ≡ is_empty buf → p ≡ q
vk-range-buf-is-empty-one buf = no_second

pub vk-range-buf-consume-one : (buf : RangeBuf) (count : ℕ) (p q : VkRangeBufOut) → p ≡ chunk_out (consumed buf count) → q ≡ chunk_out (consumed buf count) → p ≡ q
vk-range-buf-consume-one buf count = no_second

pub vk-range-buf-split-off-one : (buf : RangeBuf) (at : ℕ) (p q : VkSplitOut) → p ≡ split_out (split buf at) → q ≡ split_out (split buf at) → p ≡ q
vk-range-buf-split-off-one buf at = no_second
