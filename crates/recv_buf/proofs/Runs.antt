-- The answers of a run of calls on one receive buffer: what the worked examples are held to.
use mathlib.Core.List.{List, [], ◌∷◌}
use Rattle.refusal.specs.Rules.{Told}
use Rattle.recv_buf.specs.RfcAgreement.{Call, Side, answer, step}

-- the answers of a whole run, in turn
abbrev pub answers : Side → List Call → List Told
answers x [] = []
answers x (c ∷ cs) = answer x c ∷ answers (step x c) cs
