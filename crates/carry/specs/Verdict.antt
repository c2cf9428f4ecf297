-- When a run is called whole, and when equal.
use Rattle.std.specs.Prelude.{Bool, true, false, not, ◌&&◌, eqb, Option, ℕ, is_none}
use Rattle.std.specs.List.{list_all}
use Rattle.refusal.specs.Rules.{is_at}
use Rattle.carry.specs.declared.run.Slot.{Slot}
use Rattle.carry.specs.declared.run.Run.{Run}
use Rattle.carry.specs.declared.tally.Tally.{Tally}
use Rattle.carry.specs.declared.tally.Verdict.{Verdict}
use Rattle.carry.specs.declared.tally.Verdict.TheVariants.{NotWhole, NotEqual, WholeAndEqual}

abbrev pub is_free : Slot → Bool
is_free s = is_none s.frame

-- the stream came to its end: neither input nor output failed, the receiver has handed out all up to the final size, and nothing is in flight
abbrev pub finished : Run → Bool
finished r = not r.ends.broken && (is_at r.ends.recv.fin_off r.ends.recv.off && list_all is_free r.slots)

-- each final size is known, and is the number of bytes on its side; the two are the same
abbrev pub sizes_agree : Tally → Option ℕ → Option ℕ → Bool
sizes_agree t s r = is_at s t.taken.count && (is_at r t.given.count && eqb t.taken.count t.given.count)

abbrev pub sums_agree : Tally → Bool
sums_agree t = eqb t.taken.sum t.given.sum

abbrev pub equal : Tally → Option ℕ → Option ℕ → Bool
equal t s r = sizes_agree t s r && sums_agree t

-- the verdict on a run that is finished, or not, and equal, or not
abbrev pub verdict_of : Bool → Bool → Verdict
verdict_of false e = NotWhole
verdict_of true false = NotEqual
verdict_of true true = WholeAndEqual
