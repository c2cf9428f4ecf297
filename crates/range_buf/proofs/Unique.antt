-- The contracts determine the answer and the chunk: no second one satisfies them. Assumes nothing.
use Rattle.std.specs.Prelude.{⊤}
use mathlib.Core.Path.{◌≡◌}
use mathlib.Core.Bool.{Bool}
use mathlib.Core.List.{List}
use Prim.Native.Nat.{ℕ}
use Rattle.tables.proofs.Tables.{no_second}
use Rattle.range_buf.specs.declared.RangeBuf.{RangeBuf}
use Rattle.tables.specs.Checks.{table_by}
use Rattle.range_buf.specs.Check.{good_by, is_zero}
use Rattle.range_buf.specs.Rules.{start, end, avail, is_empty, created, consumed, split, zero_buf}
use Rattle.tables.specs.Lists.{table_of}
use lib.ListN.{take}
use Rattle.refusal.specs.declared.Outcome.{Outcome}

pub from_unique : (o n : ℕ) (p q : Outcome ⊤ RangeBuf) → p ≡ created o n → q ≡ created o n → p ≡ q
from_unique o n = no_second

pub consume_unique : (b : RangeBuf) (n : ℕ) (p q : Outcome ⊤ RangeBuf) → p ≡ consumed b n → q ≡ consumed b n → p ≡ q
consume_unique b n = no_second

pub split_off_unique : (b : RangeBuf) (n : ℕ) (p q : Outcome RangeBuf RangeBuf) → p ≡ split b n → q ≡ split b n → p ≡ q
split_off_unique b n = no_second

pub off_unique : (b : RangeBuf) (p q : ℕ) → p ≡ start b → q ≡ start b → p ≡ q
off_unique b = no_second

pub max_off_unique : (b : RangeBuf) (p q : ℕ) → p ≡ end b → q ≡ end b → p ≡ q
max_off_unique b = no_second

pub len_unique : (b : RangeBuf) (p q : ℕ) → p ≡ avail b → q ≡ avail b → p ≡ q
len_unique b = no_second

pub is_empty_unique : (b : RangeBuf) (p q : Bool) → p ≡ is_empty b → q ≡ is_empty b → p ≡ q
is_empty_unique b = no_second

pub is_good_unique : (b : RangeBuf) (p q : Bool) → p ≡ good_by b → q ≡ good_by b → p ≡ q
is_good_unique b = no_second

pub is_table_unique : (l : List RangeBuf) (n : ℕ) (p q : Bool) → p ≡ table_by is_zero n l → q ≡ table_by is_zero n l → p ≡ q
is_table_unique l n = no_second

pub table_of_unique : (l p q : List RangeBuf) → p ≡ table_of zero_buf (take 64 l) → q ≡ table_of zero_buf (take 64 l) → p ≡ q
table_of_unique l = no_second
