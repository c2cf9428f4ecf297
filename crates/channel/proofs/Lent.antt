-- The window lent in place is the receive buffer's own call (RULES 6.6, 8). Assumes nothing.
--
-- A site's loop takes the window out of the receive buffer (`RecvBuf::flow_control`), lends it to `flowcontrol::lent::commit` or
-- `lent::autotune`, which change it in place, and hands it back (`RecvBuf::set_flow_control`), with no other call of that buffer in between.
-- The buffer is then what its own call would have left (`update_max_data`, `autotune_window`), so the loop makes the move `commit` or `tune`,
-- and every theorem over schedules covers it.
--
--   lent_commit, lent_tune             of any buffer: the window lent and handed back is the buffer's own commit, or autotune
--   lent_limit, lent_window            and what the lent call answers is the limit, or the window, that this leaves in the buffer
--   commit_calls, tune_calls           the same, from the contracts of the three calls as they read
--   lent_commit_move, lent_tune_move   in the joined system: one loan is one move
--   lent_loop                          and any number of them in turn, before the window is handed back, are as many moves
--   lent_schedule, lent_safe           so a schedule with such loops anywhere in it is a schedule of moves, and safe
--   lent_callable                      in every schedule the window is good before the first loan and after each, as the contracts require
use mathlib.Core.Path.{◌≡◌, refl, sym, ap, subst, ◌∙◌}
use mathlib.Core.List.{List, [], ◌∷◌, ◌++◌, append-nil, append_assoc}
use Prim.Native.Nat.{ℕ}
use Rattle.flowcontrol.specs.declared.FlowControl.{FlowControl}
use Rattle.flowcontrol.specs.State.{Good as GoodFlow}
use Rattle.flowcontrol.specs.Rules.{committed, autotuned}
use Rattle.flowcontrol.proofs.Kept.{committed_good, autotuned_good}
use Rattle.recv_buf.specs.declared.RecvBuf.{RecvBuf}
use Rattle.recv_buf.specs.State.{Recv, view_of, buf_of, Good as GoodRecvBuf}
use Rattle.recv_buf.specs.Rules as recv
use Rattle.recv_buf.proofs.Good.{view_buf}
use Rattle.recv_buf.proofs.Kept.{flow_back_good}
use Rattle.channel.specs.System.{RecvEnd, System, receiver, Setup, fresh, Premises, Move, commit, tune, commits, tunes, step, run, on_recv}
use Rattle.channel.specs.Demand3.{Safe}
use Rattle.channel.proofs.Callable.{callable}
use Rattle.channel.proofs.Demand3.{safety}

-- ---- one loan, of any buffer

pub lent_commit : (r : Recv) (now : ℕ) → recv.flow_back r (committed r.flow now) ≡ recv.commits r now
unfolding recv.flow_back recv.commits
lent_commit r now = refl

pub lent_tune : (r : Recv) (now rtt : ℕ) → recv.flow_back r (autotuned r.flow now rtt) ≡ recv.autotunes r now rtt
unfolding recv.flow_back recv.autotunes
lent_tune r now rtt = refl

pub lent_limit : (r : Recv) (now : ℕ) → (committed r.flow now).max_data ≡ (recv.commits r now).flow_control.max_data
unfolding recv.commits buf_of
lent_limit r now = refl

pub lent_window : (r : Recv) (now rtt : ℕ) → (autotuned r.flow now rtt).window ≡ (recv.autotunes r now rtt).flow_control.window
unfolding recv.autotunes buf_of
lent_window r now rtt = refl

-- the contracts: b has the window w, the loan leaves w' and answers n, and b' is the buffer handed back
module _ (b : RecvBuf) (w w' : FlowControl) (n : ℕ) (b' : RecvBuf) (out : w ≡ b.flow_control) (back : b' ≡ recv.flow_back (view_of b) w') where
  pub commit_calls : (now : ℕ) → (w' ≡ committed w now) × (n ≡ (committed w now).max_data) → (b' ≡ recv.commits (view_of b) now) × (n ≡ b'.flow_control.max_data)
  commit_calls now said =
      let same : b' ≡ recv.commits (view_of b) now =
      back ∙ ap (recv.flow_back (view_of b)) (said.0 ∙ ap (λ (f : FlowControl). committed f now) out) ∙ lent_commit (view_of b) now in (
        same,
        said.1 ∙ ap (λ (f : FlowControl). (committed f now).max_data) out ∙ lent_limit (view_of b) now ∙ sym (ap (λ (x : RecvBuf). x.flow_control.max_data) same),
      )

  pub tune_calls : (now rtt : ℕ) → (w' ≡ autotuned w now rtt) × (n ≡ (autotuned w now rtt).window) → (b' ≡ recv.autotunes (view_of b) now rtt) × (n ≡ b'.flow_control.window)
  tune_calls now rtt said =
      let same : b' ≡ recv.autotunes (view_of b) now rtt =
      back ∙ ap (recv.flow_back (view_of b)) (said.0 ∙ ap (λ (f : FlowControl). autotuned f now rtt) out) ∙ lent_tune (view_of b) now rtt in (
        same,
        said.1 ∙ ap (λ (f : FlowControl). (autotuned f now rtt).window) out ∙ lent_window (view_of b) now rtt ∙ sym (ap (λ (x : RecvBuf). x.flow_control.window) same),
      )

-- ---- a loop over the lent window

pub data Loan : Type 0 where
  committing : (now : ℕ) → Loan  -- `lent::commit`
  tuning : (now rtt : ℕ) → Loan  -- `lent::autotune`

-- what a loan leaves of the window, and the limit that a commit answers
abbrev pub leaves : FlowControl → Loan → FlowControl
leaves w (committing now) = committed w now
leaves w (tuning now rtt) = autotuned w now rtt

abbrev pub answers : FlowControl → Loan → List ℕ
answers w (committing now) = (committed w now).max_data ∷ []
answers w (tuning now rtt) = []

-- loans in turn
abbrev pub leaves_all : FlowControl → List Loan → FlowControl
leaves_all w [] = w
leaves_all w (l ∷ ls) = leaves_all (leaves w l) ls

abbrev pub answers_all : FlowControl → List Loan → List ℕ
answers_all w [] = []
answers_all w (l ∷ ls) = answers w l ++ answers_all (leaves w l) ls

-- the receiver's end with the window w handed back, and these limits granted
abbrev pub hands_back : RecvEnd → FlowControl → List ℕ → RecvEnd
hands_back x w limits = record x { buf = recv.flow_back (receiver x) w; granted = x.granted ++ limits }

-- the window is taken out, lent in turn, and handed back; the limits that commits answered are granted
abbrev pub lends : RecvEnd → List Loan → RecvEnd
lends x ls = hands_back x (leaves_all x.buf.flow_control ls) (answers_all x.buf.flow_control ls)

-- ---- in the joined system

abbrev pub move_of : Loan → Move
move_of (committing now) = commit now
move_of (tuning now rtt) = tune now rtt

abbrev pub moves_of : List Loan → List Move
moves_of [] = []
moves_of (l ∷ ls) = move_of l ∷ moves_of ls

pub lent_commit_move : (y : System) (now : ℕ) → on_recv y (lends y.rcv (committing now ∷ [])) ≡ step y (commit now)
unfolding commits recv.flow_back recv.commits buf_of
lent_commit_move y now = refl

pub lent_tune_move : (y : System) (now rtt : ℕ) → on_recv y (lends y.rcv (tuning now rtt ∷ [])) ≡ step y (tune now rtt)
unfolding tunes recv.flow_back recv.autotunes buf_of
lent_tune_move y now rtt =
    ap (λ (limits : List ℕ). on_recv y (record y.rcv { buf = recv.autotunes (receiver y.rcv) now rtt; granted = limits })) (append-nil y.rcv.granted)

-- a window handed back twice is the second
back_again : (r : Recv) (w w' : FlowControl) → recv.flow_back (view_of (recv.flow_back r w)) w' ≡ recv.flow_back r w'
unfolding recv.flow_back
back_again r w w' = ap (λ (t : Recv). buf_of (recv.with_flow t w')) (view_buf (recv.with_flow r w))

-- a loan and then a loop is the loop that starts with it
lends_on : (x : RecvEnd) (l : Loan) (ls : List Loan) → lends (lends x (l ∷ [])) ls ≡ lends x (l ∷ ls)
unfolding recv.flow_back buf_of
lends_on x l ls =
    let w : FlowControl = x.buf.flow_control in
    let next : FlowControl = leaves w l in
    let later : List ℕ = answers_all next ls in
    let a : (x.granted ++ (answers w l ++ [])) ++ later ≡ x.granted ++ (answers w l ++ later) =
    ap (λ (g : List ℕ). (x.granted ++ g) ++ later) (append-nil (answers w l)) ∙ append_assoc x.granted (answers w l) later in
    ap (λ (b : RecvBuf). record x { buf = b; granted = (x.granted ++ (answers w l ++ [])) ++ later })
    (back_again (receiver x) next (leaves_all next ls))
    ∙ ap (λ (g : List ℕ). record x { buf = recv.flow_back (receiver x) (leaves_all next ls); granted = g }) a

lent_move : (y : System) (l : Loan) → on_recv y (lends y.rcv (l ∷ [])) ≡ step y (move_of l)
lent_move y (committing now) = lent_commit_move y now
lent_move y (tuning now rtt) = lent_tune_move y now rtt

leaves_good : (w : FlowControl) (l : Loan) → GoodFlow w → GoodFlow (leaves w l)
leaves_good w (committing now) g = committed_good w g now
leaves_good w (tuning now rtt) g = autotuned_good w g now rtt

-- no loan at all: the buffer is as it was
lends_none : (x : RecvEnd) → GoodRecvBuf x.buf → lends x [] ≡ x
unfolding recv.flow_back
lends_none x g =
    ap (λ (b : RecvBuf). record x { buf = b; granted = x.granted ++ [] }) (sym g.whole)
    ∙ ap (λ (l : List ℕ). record x { granted = l }) (append-nil x.granted)

-- the buffer is good, as `set_flow_control` requires
pub lent_loop : (y : System) → GoodRecvBuf y.rcv.buf → (ls : List Loan) → on_recv y (lends y.rcv ls) ≡ run y (moves_of ls)
lent_loop y g [] = ap (on_recv y) (lends_none y.rcv g)
lent_loop y g (l ∷ ls) =
    let w : FlowControl = y.rcv.buf.flow_control in
    let z : System = on_recv y (lends y.rcv (l ∷ [])) in
    let good : GoodRecvBuf z.rcv.buf = flow_back_good (receiver y.rcv) g.facts (leaves w l) (leaves_good w l g.facts.flow_good) in
    ap (on_recv y) (sym (lends_on y.rcv l ls)) ∙ lent_loop z good ls ∙ ap (λ (z : System). run z (moves_of ls)) (lent_move y l)

-- ---- schedules with such loops in them

pub data Turn : Type 0 where
  move : (m : Move) → Turn
  loop : (ls : List Loan) → Turn

abbrev pub turn : System → Turn → System
turn y (move m) = step y m
turn y (loop ls) = on_recv y (lends y.rcv ls)

abbrev pub turns : System → List Turn → System
turns y [] = y
turns y (t ∷ ts) = turns (turn y t) ts

abbrev pub as_moves : List Turn → List Move
as_moves [] = []
as_moves (move m ∷ ts) = m ∷ as_moves ts
as_moves (loop ls ∷ ts) = moves_of ls ++ as_moves ts

run_append : (y : System) (ms ns : List Move) → run y (ms ++ ns) ≡ run (run y ms) ns
run_append y [] ns = refl
run_append y (m ∷ ms) ns = run_append (step y m) ms ns

module _ (u : Setup) where
  turns_from : (ms : List Move) (ts : List Turn) → turns (run (fresh u) ms) ts ≡ run (fresh u) (ms ++ as_moves ts)
  turns_from ms [] = ap (run (fresh u)) (sym (append-nil ms))
  turns_from ms (move m ∷ ts) =
      ap (λ (y : System). turns y ts) (sym (run_append (fresh u) ms (m ∷ [])))
      ∙ turns_from (ms ++ m ∷ []) ts
      ∙ ap (run (fresh u)) (append_assoc ms (m ∷ []) (as_moves ts))
  turns_from ms (loop ls ∷ ts) =
      ap (λ (y : System). turns y ts) (lent_loop (run (fresh u) ms) (callable u ms).1 ls ∙ sym (run_append (fresh u) ms (moves_of ls)))
      ∙ turns_from (ms ++ moves_of ls) ts
      ∙ ap (run (fresh u)) (append_assoc ms (moves_of ls) (as_moves ts))

  pub lent_schedule : (ts : List Turn) → turns (fresh u) ts ≡ run (fresh u) (as_moves ts)
  lent_schedule ts = turns_from [] ts

  -- one of the theorems, so read
  pub lent_safe : Premises u → (ts : List Turn) → Safe (turns (fresh u) ts)
  lent_safe p ts = subst Safe (sym (lent_schedule ts)) (safety u p (as_moves ts))

  -- what the loop holds is good before the first loan and after each
  pub lent_callable : (ms : List Move) (ls : List Loan) → GoodFlow (leaves_all (run (fresh u) ms).rcv.buf.flow_control ls)
  lent_callable ms ls = go (run (fresh u) ms).rcv.buf.flow_control ls (callable u ms).1.facts.flow_good
    where
      go : (w : FlowControl) (ls : List Loan) → GoodFlow w → GoodFlow (leaves_all w ls)
      go w [] g = g
      go w (l ∷ ls) g = go (leaves w l) ls (leaves_good w l g)
