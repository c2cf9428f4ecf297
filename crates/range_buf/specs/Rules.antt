-- One chunk (RULES 3): off is where it begins, len its whole length, pos the consumed part.
-- Sums are whole numbers. `cond t x y` is x if the test t holds, else y.
use Rattle.std.specs.Prelude.{Bool, cond, [], ◌∷◌, ℕ, ◌+◌, ◌-◌, min, ltb, eqb, Result, Ok, Err, ⊤}
use Rattle.refusal.specs.Rules.{M, Told, success, refusal}
use Rattle.refusal.specs.declared.Refusal.TheVariants.{Offset}
use Rattle.range_buf.specs.declared.RangeBuf.{RangeBuf}
use Rattle.refusal.specs.declared.Outcome.{Outcome}
use Rattle.refusal.specs.declared.Refusal.{Refusal}

-- `off`: the offset of the first byte not consumed. `max_off`: the offset behind the last. `len`: how many are not consumed
abbrev pub start : RangeBuf → ℕ
start b = b.off + b.pos

abbrev pub end : RangeBuf → ℕ
end b = b.off + b.len

abbrev pub avail : RangeBuf → ℕ
avail b = b.len - b.pos

abbrev pub is_empty : RangeBuf → Bool
is_empty b = eqb (avail b) 0

-- a chunk of n bytes at o, none consumed
abbrev pub fresh : ℕ → ℕ → RangeBuf
fresh o n = record { off = o; len = n; pos = 0 }

-- the entry of an unused place
abbrev pub zero_buf : RangeBuf
zero_buf = fresh 0 0

-- n bytes more consumed
abbrev pub used : RangeBuf → ℕ → RangeBuf
used b n = record { off = b.off; len = b.len; pos = b.pos + n }

-- the first n bytes of b, and the others: each keeps its share of the consumed part
abbrev pub left_part : RangeBuf → ℕ → RangeBuf
left_part b n = record { off = b.off; len = n; pos = min b.pos n }

abbrev pub right_part : RangeBuf → ℕ → RangeBuf
right_part b n = record { off = b.off + n; len = b.len - n; pos = b.pos - n }

-- creation: Offset exactly if the end is above M
abbrev pub created : ℕ → ℕ → Outcome ⊤ RangeBuf
created o n =
    cond (ltb M (o + n)) (record { answer = Err Offset; state = zero_buf })
    (record { answer = Ok tt; state = fresh o n })

-- `consume`: Offset exactly if it is above what remains
abbrev pub consumed : RangeBuf → ℕ → Outcome ⊤ RangeBuf
consumed b n =
    cond (ltb (avail b) n) (record { answer = Err Offset; state = b })
    (record { answer = Ok tt; state = used b n })

-- `split_off`: Offset exactly if it is above the whole length, consumed part included
abbrev pub split : RangeBuf → ℕ → Outcome RangeBuf RangeBuf
split b n =
    cond (ltb b.len n) (record { answer = Err Offset; state = b })
    (record { answer = Ok (right_part b n); state = left_part b n })

-- what a split says, as every kind of answer does: a refusal's number, or 0 with the right part's offset, length and consumed part
abbrev pub told_split : Result RangeBuf Refusal → Told
told_split (Ok b) = success (b.off ∷ b.len ∷ b.pos ∷ [])
told_split (Err why) = refusal why
