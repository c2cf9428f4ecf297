-- The definitions of Rfc9000 at work, by computing them: E8, E9 and E10 of docs/RULES.md, 10, as the RFC has them; that each rule can be broken;
-- and the places where our rules and the RFC part.
use Rattle.std.specs.Prelude.{Some, None}
use mathlib.Core.Path.{◌≡◌, refl}
use mathlib.Core.Bool.{Bool, true, false}
use mathlib.Core.List.{List, [], ◌∷◌}
use Prim.Native.Nat.{ℕ}
use native.Mathlib.Omega.{arith}
use lib.ListN.{replicate}
use Rattle.refusal.specs.Rules.{success}
use Rattle.arena.specs.Rules.{held}
use Rattle.recv_buf.specs.State.{buf_of}
use Rattle.recv_buf.specs.Rules.{created, write_judged, wrote, written, written_arena, take_judged, took_out, discarded, emitted, emitted_out, reset_judged, was_reset, resets, commits}
use Rattle.recv_buf.specs.Rfc9000.{Known, opened, Frame, FlowControlError, data_over, size_over, FinalSizeError, changed, beyond, short, stream, ResetSizeError, reset_changed, reset_short, reset_stream, available, reading, advertise, max_stream_data, history}
use Rattle.recv_buf.specs.RfcAgreement.{Call, write, emit, reset, commit, Side, view, begin, run, events}
use Rattle.recv_buf.proofs.Runs.{answers}

abbrev frame : ℕ → List ℕ → Bool → Frame
frame s bytes fin = record { from = s; bytes = bytes; fin = fin }

-- ---- the examples of RULES 10

-- E8: 5..10, then 0..7: bytes 5 and 6 are the first frame's
abbrev K₈ : Known
K₈ = stream (stream (opened 100) (frame 5 (15 ∷ 16 ∷ 17 ∷ 18 ∷ 19 ∷ []) false)) (frame 0 (20 ∷ 21 ∷ 22 ∷ 23 ∷ 24 ∷ 25 ∷ 26 ∷ []) false)

e8 : (K₈.byte 4 ≡ Some 24) × (K₈.byte 5 ≡ Some 15) × (K₈.byte 6 ≡ Some 16) × (K₈.byte 10 ≡ None) × (K₈.highest ≡ 10)
    × (available K₈ 7 ≡ 20 ∷ 21 ∷ 22 ∷ 23 ∷ 24 ∷ 15 ∷ 16 ∷ []) × (available (reading K₈ 7) 7 ≡ 17 ∷ 18 ∷ 19 ∷ [])
unfolding opened stream reading
e8 = (refl, refl, refl, refl, refl, refl, refl)

-- E9: an empty FIN at 10, then 9..11: the byte at 10 lies at the final size
abbrev K₉ : Known
K₉ = stream (opened 100) (frame 10 [] true)

e9 : (K₉.final ≡ Some 10) × FinalSizeError K₉ (frame 9 (1 ∷ 2 ∷ []) false)
unfolding opened stream
e9 = (refl, beyond 10 10 refl (omega arith, omega arith) (omega arith))

-- E10: highest 10, 4 taken, limit 12: a reset to 8 is an error, one to 12 is none; then nothing more is handed out, and another one tells nothing new
abbrev K₁₀ : Known
K₁₀ = reading (stream (opened 12) (frame 0 (0 ∷ 1 ∷ 2 ∷ 3 ∷ 4 ∷ 5 ∷ 6 ∷ 7 ∷ 8 ∷ 9 ∷ []) false)) 4

abbrev R₁₀ : Known
R₁₀ = reset_stream K₁₀ 77 12

e10 : (K₁₀.delivered ≡ 4) × ResetSizeError K₁₀ 8 × (ResetSizeError K₁₀ 12 → ⊥) × (available K₁₀ 2 ≡ 4 ∷ 5 ∷ [])
unfolding opened stream reading
e10 = (refl, reset_short (omega arith), no, refl)
  where
    no : ResetSizeError K₁₀ 12 → ⊥
    no (reset_changed x e n) = let z : ◌≡◌ {A = ℕ} 0 1 = cc in omega arith
    no (reset_short h) = omega arith

e10_after : (R₁₀.highest ≡ 12) × (R₁₀.final ≡ Some 12) × (R₁₀.delivered ≡ 4) × (R₁₀.byte 3 ≡ Some 3) × (R₁₀.byte 4 ≡ None)
    × (available R₁₀ 5 ≡ []) × (reset_stream R₁₀ 78 12 ≡ R₁₀)
unfolding opened stream reading reset_stream
e10_after = (refl, refl, refl, refl, refl, refl, refl)

-- ---- each rule can be broken

flow_broken : FlowControlError (opened 4) (frame 2 (1 ∷ 2 ∷ 3 ∷ []) false) × FlowControlError (opened 4) (frame 5 [] true)
unfolding opened
flow_broken = (data_over 4 (omega arith, omega arith) (omega arith), size_over refl (omega arith))

final_broken : FinalSizeError K₉ (frame 9 [] true) × FinalSizeError K₈ (frame 9 [] true)
unfolding opened stream
final_broken = (changed 10 refl refl (omega arith), short refl (omega arith))

-- ---- where our rules and the RFC part

abbrev new : ℕ → ℕ → ℕ → Side
new limit maximum room = begin limit maximum (replicate room 0)

-- a frame with neither data nor FIN, above the limit, or above the final size: refused 4 and 3, where the RFC names no error (`silent` of RfcErrors)
empty_refused : (answers (new 8 8 16) (write 9 [] false ∷ []) ≡ record { number = 4; values = [] } ∷ [])
    × (answers (new 100 100 16) (write 10 [] true ∷ write 11 [] false ∷ []) ≡ success [] ∷ record { number = 3; values = [] } ∷ [])
unfolding buf_of created write_judged wrote written written_arena
empty_refused = (refl, refl)

-- a RESET_STREAM after all was read: 3.2 calls "Data Read" terminal; it is accepted, and told to the reader once
late_reset : answers (new 64 64 8) (write 0 (1 ∷ 2 ∷ 3 ∷ []) true ∷ emit (replicate 9 0) ∷ emit (replicate 9 0) ∷ reset 7 3 ∷ emit (replicate 9 0) ∷ emit (replicate 9 0) ∷ [])
    ≡ success [] ∷ success (3 ∷ 1 ∷ []) ∷ record { number = 8; values = [] } ∷ success (0 ∷ 0 ∷ []) ∷ record { number = 9; values = 7 ∷ [] } ∷ record { number = 8; values = [] } ∷ []
unfolding buf_of created write_judged wrote written written_arena take_judged took_out discarded emitted emitted_out reset_judged was_reset resets held
late_reset = refl

-- a starting limit above the maximum window: a commit takes the limit from 100 to 10, and 20 bytes that the RFC allows are refused 4
-- (4.1: to advertise less has no effect)
abbrev falls : List Call
falls = commit 0 ∷ write 0 (replicate 20 7) false ∷ []

limit_falls : (events (new 100 10 32) falls ≡ max_stream_data 10 ∷ []) × ((history (opened 100) (max_stream_data 10 ∷ [])).limit ≡ 100)
    × ((view (run (new 100 10 32) falls)).flow.max_data ≡ 10)
    × (answers (new 100 10 32) falls ≡ success [] ∷ record { number = 4; values = [] } ∷ [])
unfolding buf_of created write_judged wrote written written_arena commits opened advertise
limit_falls = (refl, refl, refl, refl)
