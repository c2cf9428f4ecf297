-- The bytes of an emit, chunk by chunk: as long as some are left, the next chunk adjoins, and gives what it has, as far as there is room. Assumes nothing.
use mathlib.Core.Path.{◌≡◌}
use mathlib.Core.List.{List, ◌++◌}
use Prim.Native.Nat.{ℕ, ◌+◌, ◌-◌, ◌≤◌, ◌<◌, min}
use native.Mathlib.Omega.{arith}
use lib.ListN.{length, take, drop, get_or}
use lib.Seq.{length-take-le}
use Rattle.tables.proofs.Tables.{cases}
use Rattle.arena.specs.Rules.{held, handed}
use Rattle.arena.proofs.Laws.{handed_held, held_none}
use Rattle.arena.proofs.Parts.{placed_more}
use Rattle.range_buf.specs.declared.RangeBuf.{RangeBuf}
use Rattle.range_buf.specs.Rules.{start, avail, zero_buf}
use Rattle.recv_buf.specs.Rules.{taken}
use Rattle.recv_buf.proofs.Good.{chunk_good}
use Rattle.recv_buf.proofs.Taking.{taken_zero, taken_end, taken_apart, taken_full, taken_part, taken_whole}

module _ (cs : List RangeBuf) (i off n : ℕ) (lt : i < length cs) (more : 0 < taken (drop i cs) off n) where
  pub gives_next : start (get_or cs i zero_buf) ≡ off
  gives_next =
      let no : (start (get_or cs i zero_buf) ≡ off → ⊥) → ⊥ = λ h. omega (arith, more, taken_apart cs i off n lt h) in
      cases (start (get_or cs i zero_buf)) off (λ l. absurd (no (λ e. omega arith)))
      (λ l. cases off (start (get_or cs i zero_buf)) (λ m. absurd (no (λ e. omega arith))) (λ m. omega arith))

  has_room : 0 < n
  has_room = cases 0 n (λ l. l) (λ l. absurd (omega (arith, more, taken_full cs i off n (omega arith))))

  pub gives_more : taken (drop i cs) off n
      ≡ min (avail (get_or cs i zero_buf)) n + taken (drop (i + 1) cs) (off + min (avail (get_or cs i zero_buf)) n) (n - min (avail (get_or cs i zero_buf)) n)
  gives_more =
      let c = get_or cs i zero_buf in
      cases n (avail c)
      (λ l.
      let m : min (avail c) n ≡ n = omega arith in
      let z : n - n ≡ 0 = omega arith in
      rw (m, z, taken_zero (drop (i + 1) cs) (off + n)) (omega (arith, taken_part cs i off n lt gives_next has_room l)))
      (λ l.
      let m : min (avail c) n ≡ avail c = omega arith in
      rw m (taken_whole cs i off n lt gives_next has_room l))

-- the front of an output, filled by `hand`
pub handed_front : (ar out last : List ℕ) (o k : ℕ) → 0 < length ar → k ≤ length out → last ≡ handed ar o (take k out) → last ++ drop k out ≡ held ar o k ++ drop k out
handed_front ar out last o k h l e = rw (e, handed_held ar o (take k out) h, length-take-le k out l)

-- ---- for `copy_out`

pub ruleset copies = (chunk_good, gives_next, gives_more, taken_end, held_none, placed_more)
