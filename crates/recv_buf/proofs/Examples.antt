-- E8, E9 and E10 of docs/RULES.md, 10, as one statement over a table, about the definitions that the contracts cite: by computing them.
-- A second table, `further`, has what the rules say of marks, holes, room and shutdown.
use mathlib.Core.Path.{◌≡◌, refl}
use mathlib.Core.Bool.{true, false}
use mathlib.Core.List.{List, [], ◌∷◌}
use Prim.Native.Nat.{ℕ}
use lib.ListN.{replicate}
use Rattle.refusal.specs.Rules.{Told, success}
use Rattle.arena.specs.Rules.{held}
use Rattle.range_buf.specs.declared.RangeBuf.{RangeBuf}
use Rattle.range_buf.specs.Rules.{start, end}
use Rattle.recv_buf.specs.State.{buf_of}
use Rattle.recv_buf.specs.Rules.{created, write_judged, wrote, written, written_arena, take_judged, took_out, discarded, emitted, emitted_out, reset_judged, was_reset, resets, shuts}
use Rattle.recv_buf.specs.RfcAgreement.{Call, write, emit, reset, shutdown, view, begin, run}
use Rattle.recv_buf.proofs.Runs.{answers}

-- a new buffer; the calls on it, each with what it has to answer; and then all bytes handed out, and where each chunk left starts and ends
pub record Case : Type 0 where
  pub limit : ℕ
  pub maximum : ℕ
  pub room : ℕ  -- A
  pub script : List (Call × Told)
  pub handed : List ℕ
  pub chunks : List (ℕ × ℕ)

abbrev ok : Told
ok = success []

-- a refusal's number, and its code if it has one
abbrev refused : ℕ → List ℕ → Told
refused number values = record { number = number; values = values }

-- a lent output of n bytes, or n bytes of any kind
abbrev place : ℕ → List ℕ
place n = replicate n 0

-- ---- the examples of RULES 10

abbrev pub table : List Case
table =
    -- E8: 5..10, and then 0..7, whose bytes at 5 and 6 differ: two chunks ..
    record {
      limit = 100;
      maximum = 100;
      room = 16;
      script =
          (write 5 (15 ∷ 16 ∷ 17 ∷ 18 ∷ 19 ∷ []) false, ok)
          ∷ (write 0 (20 ∷ 21 ∷ 22 ∷ 23 ∷ 24 ∷ 25 ∷ 26 ∷ []) false, ok)
          ∷ [];
      handed = [];
      chunks = (0, 5) ∷ (5, 10) ∷ [];
    }
    -- .. and bytes 5 and 6 are the first frame's
    ∷ record {
      limit = 100;
      maximum = 100;
      room = 16;
      script =
          (write 5 (15 ∷ 16 ∷ 17 ∷ 18 ∷ 19 ∷ []) false, ok)
          ∷ (write 0 (20 ∷ 21 ∷ 22 ∷ 23 ∷ 24 ∷ 25 ∷ 26 ∷ []) false, ok)
          ∷ (emit (place 12), success (10 ∷ 0 ∷ []))
          ∷ [];
      handed = 20 ∷ 21 ∷ 22 ∷ 23 ∷ 24 ∷ 15 ∷ 16 ∷ 17 ∷ 18 ∷ 19 ∷ [];
      chunks = [];
    }
    -- E9: an empty mark at 10, then 9..11 within the limit: FinalSize
    ∷ record {
      limit = 100;
      maximum = 100;
      room = 16;
      script =
          (write 10 [] true, ok)
          ∷ (write 9 (1 ∷ 2 ∷ []) false, refused 3 [])
          ∷ [];
      handed = [];
      chunks = (10, 10) ∷ [];
    }
    -- E10: len 10, off 4, limit 12: reset 8 FinalSize; reset 12 gives (2, 8); again (0, 0). Emit: Reset, then Done
    ∷ record {
      limit = 12;
      maximum = 12;
      room = 16;
      script =
          (write 0 (0 ∷ 1 ∷ 2 ∷ 3 ∷ 4 ∷ 5 ∷ 6 ∷ 7 ∷ 8 ∷ 9 ∷ []) false, ok)
          ∷ (emit (place 4), success (4 ∷ 0 ∷ []))
          ∷ (reset 77 8, refused 3 [])
          ∷ (reset 77 12, success (2 ∷ 8 ∷ []))
          ∷ (reset 77 12, success (0 ∷ 0 ∷ []))
          ∷ (emit (place 5), refused 9 (77 ∷ []))
          ∷ (emit (place 5), refused 8 [])
          ∷ [];
      handed = 0 ∷ 1 ∷ 2 ∷ 3 ∷ [];
      chunks = [];
    }
    ∷ []

-- ---- further cases, with A = 8

abbrev small : List (Call × Told) → List ℕ → List (ℕ × ℕ) → Case
small script handed chunks = record { limit = 100; maximum = 100; room = 8; script = script; handed = handed; chunks = chunks }

abbrev pub further : List Case
further =
    -- E13: with off 0, frame 0..8 is kept and 0..9 is NoRoom
    small (
    (write 0 (place 8) false, ok)
    ∷ (write 0 (place 9) false, refused 5 [])
    ∷ []) [] ((0, 8) ∷ [])
    -- an emit stops at a hole, though there is room; then nothing is ready
    ∷ small (
    (write 0 (1 ∷ 2 ∷ []) false, ok)
    ∷ (write 4 (5 ∷ 6 ∷ []) false, ok)
    ∷ (emit (place 10), success (2 ∷ 0 ∷ []))
    ∷ (emit (place 10), refused 8 [])
    ∷ []) (1 ∷ 2 ∷ []) ((4, 6) ∷ [])
    -- a mark below len is FinalSize, and so is data beyond a known F, and another F
    ∷ small (
    (write 0 (place 5) false, ok)
    ∷ (write 0 (place 3) true, refused 3 [])
    ∷ (write 5 [] true, ok)
    ∷ (write 5 (place 1) false, refused 3 [])
    ∷ (write 6 [] true, refused 3 [])
    ∷ (reset 7 6, refused 3 [])
    ∷ []) [] ((0, 5) ∷ [])
    -- a data chunk that ends at F replaces the empty one
    ∷ small (
    (write 8 [] true, ok)
    ∷ (write 6 (7 ∷ 8 ∷ []) false, ok)
    ∷ []) [] ((6, 8) ∷ [])
    -- an empty mark behind all that was read leaves an empty chunk. An emit without room leaves it and answers "ended"; one with room takes it
    ∷ small (
    (write 0 (1 ∷ []) false, ok)
    ∷ (emit (place 1), success (1 ∷ 0 ∷ []))
    ∷ (write 1 [] true, ok)
    ∷ (emit [], success (0 ∷ 1 ∷ []))
    ∷ (emit (place 1), success (0 ∷ 1 ∷ []))
    ∷ (emit (place 1), refused 8 [])
    ∷ []) (1 ∷ []) []
    -- a mark on bytes that were read already leaves none
    ∷ small (
    (write 0 (1 ∷ []) false, ok)
    ∷ (emit (place 1), success (1 ∷ 0 ∷ []))
    ∷ (write 0 (1 ∷ []) true, ok)
    ∷ (emit (place 1), refused 8 [])
    ∷ []) (1 ∷ []) []
    -- after shutdown nothing is kept and nothing is NoRoom, and the final size is still held to
    ∷ small (
    (write 0 (1 ∷ 2 ∷ 3 ∷ []) false, ok)
    ∷ (shutdown, success (3 ∷ []))
    ∷ (shutdown, refused 8 [])
    ∷ (write 3 (place 20) true, ok)
    ∷ (emit (place 9), refused 8 [])
    ∷ (write 23 (place 1) false, refused 3 [])
    ∷ []) [] []
    ∷ []

-- ---- the statement

-- what comes of a run: its answers in turn, all bytes handed out, and the bounds of the chunks left
pub record Result : Type 0 where
  pub answers : List Told
  pub handed : List ℕ
  pub chunks : List (ℕ × ℕ)

abbrev calls : List (Call × Told) → List Call
calls [] = []
calls (l ∷ ls) = l.0 ∷ calls ls

abbrev says : List (Call × Told) → List Told
says [] = []
says (l ∷ ls) = l.1 ∷ says ls

abbrev bounds : List RangeBuf → List (ℕ × ℕ)
bounds [] = []
bounds (c ∷ cs) = (start c, end c) ∷ bounds cs

-- what a case asks for, and what comes of its calls by the definitions
abbrev pub asked : Case → Result
asked c = record { answers = says c.script; handed = c.handed; chunks = c.chunks }

abbrev pub comes : Case → Result
comes c =
    let new = begin c.limit c.maximum (replicate c.room 0) in
    let after = run new (calls c.script) in
    record { answers = answers new (calls c.script); handed = after.out; chunks = bounds (view after).chunks }

abbrev each : (Case → Result) → List Case → List Result
each f [] = []
each f (c ∷ cs) = f c ∷ each f cs

pub examples : each comes table ≡ each asked table
unfolding buf_of created write_judged wrote written written_arena take_judged took_out discarded emitted emitted_out reset_judged was_reset resets held
examples = refl

pub further_cases : each comes further ≡ each asked further
unfolding buf_of created write_judged wrote written written_arena take_judged took_out discarded emitted emitted_out reset_judged was_reset resets shuts held
further_cases = refl
