-- The contracts of the exported calls of the range set determine what C is handed: nothing else satisfies them. Assumes nothing.
use mathlib.Core.Path.{◌≡◌}
use mathlib.Core.Bool.{Bool}
use Prim.Native.Nat.{ℕ}
use lib.ListN.{length}
use Rattle.ranges.specs.State.{ranges, upto}
use Rattle.ranges.specs.Rules.{created, member_of, range_at, last_of, is_single, inserted, tried, pushed, removed}
use Rattle.stream_c.specs.State.{vk_number}
use Rattle.stream_c.specs.Rules.{set_out, range_out}
use Rattle.tables.proofs.Tables.{no_second}
use Rattle.ranges.specs.declared.RangeSet.{RangeSet}
use Rattle.stream_c.specs.declared.VkNumber.{VkNumber}
use Rattle.stream_c.specs.declared.set.VkRangeOut.{VkRangeOut}
use Rattle.stream_c.specs.declared.set.VkRangeSetOut.{VkRangeSetOut}

pub vk-range-set-new-one : (capacity : ℕ) (p q : VkRangeSetOut) → p ≡ set_out (created capacity) → q ≡ set_out (created capacity) → p ≡ q
vk-range-set-new-one capacity = no_second

pub vk-range-set-len-one : (set : RangeSet) (p q : ℕ) → p ≡ length (ranges set) → q ≡ length (ranges set) → p ≡ q
vk-range-set-len-one set = no_second

pub vk-range-set-contains-one : (set : RangeSet) (item : ℕ) (p q : Bool) → p ≡ member_of item (ranges set) → q ≡ member_of item (ranges set) → p ≡ q
vk-range-set-contains-one set item = no_second

pub vk-range-set-get-one : (set : RangeSet) (i : ℕ) (p q : VkRangeOut) → p ≡ range_out (range_at i (ranges set)) → q ≡ range_out (range_at i (ranges set)) → p ≡ q
vk-range-set-get-one set i = no_second

pub vk-range-set-last-one : (set : RangeSet) (p q : VkNumber) → p ≡ vk_number (last_of (ranges set)) → q ≡ vk_number (last_of (ranges set)) → p ≡ q
vk-range-set-last-one set = no_second

pub vk-range-set-eq-one : (set : RangeSet) (start : ℕ) (end : ℕ) (p q : Bool) → p ≡ is_single (upto start end) (ranges set) → q ≡ is_single (upto start end) (ranges set) → p ≡ q
vk-range-set-eq-one set start end = no_second

pub vk-range-set-insert-one : (set : RangeSet) (start : ℕ) (end : ℕ) (p q : VkRangeSetOut) → p ≡ set_out (inserted set (upto start end)) → q ≡ set_out (inserted set (upto start end)) → p ≡ q
vk-range-set-insert-one set start end = no_second

pub vk-range-set-try-insert-one : (set : RangeSet) (start : ℕ) (end : ℕ) (p q : VkRangeSetOut) → p ≡ set_out (tried set (upto start end)) → q ≡ set_out (tried set (upto start end)) → p ≡ q
vk-range-set-try-insert-one set start end = no_second

pub vk-range-set-push-item-one : (set : RangeSet) (item : ℕ) (p q : VkRangeSetOut) → p ≡ set_out (pushed set item) → q ≡ set_out (pushed set item) → p ≡ q
vk-range-set-push-item-one set item = no_second

pub vk-range-set-remove-until-one : (set : RangeSet) (largest : ℕ) (p q : RangeSet) → p ≡ removed set largest → q ≡ removed set largest → p ≡ q
vk-range-set-remove-until-one set largest = no_second
