-- Demand 3 is proved: `safety`, `at_done`, `completeness`. Assumes nothing.
use Rattle.std.specs.Prelude.{Option, Some, Result, Ok, Err, ⊤}
use mathlib.Core.Path.{◌≡◌, refl, sym, ap, subst, ◌∙◌}
use mathlib.Core.Logic.{◌⊎◌, inl, inr}
use mathlib.Core.Bool.{Bool, true, false, cond}
use mathlib.Core.List.{List, [], ◌∷◌, ◌++◌}
use Prim.Native.Nat.{ℕ, ◌+◌, ◌≤◌, ◌<◌}
use native.Mathlib.Omega.{arith}
use lib.ListN.{length, take, drop, take-append-drop}
use lib.Seq.{take-length}
use Rattle.refusal.specs.declared.Refusal.{Refusal}
use Rattle.refusal.specs.declared.Refusal.TheVariants.{NoRoom, TableFull, Done as NothingReady}
use Rattle.range_buf.specs.declared.RangeBuf.{RangeBuf}
use Rattle.tables.proofs.Tables.{by_test}
use Rattle.recv_buf.specs.State.{Recv}
use Rattle.recv_buf.specs.Rules as recv
use Rattle.recv_buf.specs.Rfc9000.{Brings}
use Rattle.recv_buf.proofs.Good.{view_buf}
use Rattle.recv_buf.proofs.Lists.{weight, weight_falls}
use Rattle.channel.specs.System.{RecvEnd, System, sender, receiver, fresh, read, reads, step, run}
use Rattle.channel.specs.Demand3.{on_read, Safe, Safety, Finished, Whole, AtDone, drain, SomeRoom, bytes_kept, Completeness}
use Rattle.channel.proofs.Lists.{all_at, all_one}
use Rattle.channel.proofs.SendSide.{Honest, final}
use Rattle.channel.proofs.RecvSide.{Covers, RecvInv, done_all, judged, took_covers, reads_ready, reads_idle, answer_ready, answer_idle, reads_step}
use Rattle.channel.proofs.Joined.{Inv, inv_fresh, inv_step, inv_run}
use Rattle.refusal.proofs.Answers.{known_is}
use Rattle.refusal.specs.Rules as words

-- ---- safety

last_two : (a b : Bool) (x : Result ⊤ Refusal) → x ≡ cond a (Err NoRoom) (cond b (Err TableFull) (Ok tt)) → (x ≡ Ok tt) ⊎ ((x ≡ Err NoRoom) ⊎ (x ≡ Err TableFull))
last_two true b x e = inr (inl e)
last_two false true x e = inr (inr e)
last_two false false x e = inl e

inv_safe : (y : System) → Inv y → Safe y
unfolding recv.written
inv_safe y i = record {
  rest = drop (receiver y.rcv).off W;
  prefix = ap (λ (l : List ℕ). l ++ drop (receiver y.rcv).off W) i.recv_inv.prefix ∙ take-append-drop (receiver y.rcv).off W;
  welcome = λ k f e.
      let h : Honest W sf f = all_at (Honest W sf) y.snd.frames k f e i.send_inv.honest in
      last_two (recv.no_room (receiver y.rcv) f.from (length f.bytes)) (recv.no_entry (receiver y.rcv) f.from (length f.bytes) f.fin) _
      (judged W sf (receiver y.rcv) y.rcv.arena f i.recv_inv.follows h size
      (omega (arith, h.inside, i.send_inv.carries.all_written, i.send_inv.carries.good.limited, i.credit))
      (omega (arith, h.inside, i.send_inv.carries.all_written, i.send_inv.carries.good.limited, i.send_inv.carries.good.limit_in)));
  readable = λ out.
      by_test (recv.is_ready (receiver y.rcv).chunks (receiver y.rcv).off)
      (λ e. inr (_, _, answer_ready W sf y.rcv i.recv_inv out e))
      (λ e. inl (answer_idle W sf y.rcv i.recv_inv out e));
  final = λ x e. let s = i.recv_inv.follows.fin_known x e in (s, size x s);
}
  where
    W : List ℕ
    W = y.snd.written

    sf : Option ℕ
    sf = (sender y.snd).fin

    size : (x : ℕ) → sf ≡ Some x → x ≡ length W
    size = final W (sender y.snd) y.snd.arena i.send_inv.carries

-- ---- draining

-- what holds while the reader drains: the sender does nothing
record Draining (W : List ℕ) (sf : Option ℕ) (x : RecvEnd) : Type 0 where
  pub inv : RecvInv W sf x
  pub covers : (o : ℕ) → o < length W → Covers (receiver x) o
  pub end_known : words.known (receiver x).fin ≡ true

begins : (y : System) → Inv y → Finished y → Draining y.snd.written (sender y.snd).fin y.rcv
begins y i f = record {
  inv = i.recv_inv;
  covers = λ o h. all_one (λ g. Brings g o) _ y.rcv.accepted i.recv_inv.covered (f.bytes o h) (λ g b k. k o b);
  end_known = all_one (λ g. g.fin ≡ true) _ y.rcv.accepted i.recv_inv.marks f.mark (λ g m k. k m);
}

-- nothing is ready: the reader has it all
ends : (y : System) → Inv y → Draining y.snd.written (sender y.snd).fin y.rcv → recv.is_ready (receiver y.rcv).chunks (receiver y.rcv).off ≡ false → Whole y
ends y i d e =
    let W : List ℕ = y.snd.written in
    let k = known_is (receiver y.rcv).fin d.end_known in
    let s = i.recv_inv.follows.fin_known k.0 k.1 in
    let l = final W (sender y.snd) y.snd.arena i.send_inv.carries k.0 s in
    let all = done_all W (sender y.snd).fin (receiver y.rcv) y.rcv.arena d.inv.follows d.covers e in record {
      done = λ out. answer_idle W (sender y.snd).fin y.rcv d.inv out e;
      all_out = d.inv.prefix ∙ ap (λ (o : ℕ). take o W) all ∙ take-length W;
      sent_size = s ∙ ap Some l;
      got_size = k.1 ∙ ap Some l;
    }

module _ (W : List ℕ) (sf : Option ℕ) (x : RecvEnd) (d : Draining W sf x) (out : List ℕ) where
  abbrev r : Recv
  r = receiver x

  ready_view : recv.is_ready r.chunks r.off ≡ true → receiver (reads x out) ≡ recv.took_out r (length out)
  ready_view e = ap receiver (reads_ready W sf x d.inv out e) ∙ view_buf (recv.took_out r (length out))

  idle_view : recv.is_ready r.chunks r.off ≡ false → receiver (reads x out) ≡ r
  idle_view e = ap receiver (reads_idle W sf x d.inv out e) ∙ view_buf r

  drains_ready : recv.is_ready r.chunks r.off ≡ true → 0 < length out → Draining W sf (reads x out) × (weight (receiver (reads x out)).chunks < weight r.chunks)
  unfolding recv.took_out
  drains_ready e h =
      let v = ready_view e in (
        record {
          inv = (reads_step W sf x d.inv out).0;
          covers = λ o k. subst (λ (t : Recv). Covers t o) (sym v) (took_covers W sf r x.arena d.inv.follows (length out) o (d.covers o k));
          end_known = ap (λ (t : Recv). words.known t.fin) v ∙ d.end_known;
        },
        subst (λ (t : Recv). weight t.chunks < weight r.chunks) (sym v) (weight_falls r.chunks r.off (length out) e h),
      )

  drains_idle : recv.is_ready r.chunks r.off ≡ false → Draining W sf (reads x out) × (recv.is_ready (receiver (reads x out)).chunks (receiver (reads x out)).off ≡ false)
  drains_idle e =
      let v = idle_view e in (
        record {
          inv = (reads_step W sf x d.inv out).0;
          covers = λ o k. subst (λ (t : Recv). Covers t o) (sym v) (d.covers o k);
          end_known = ap (λ (t : Recv). words.known t.fin) v ∙ d.end_known;
        },
        ap (λ (t : Recv). recv.is_ready t.chunks t.off) v ∙ e,
      )

-- once nothing is ready, more reads do no harm
rests : (outs : List (List ℕ)) (y : System) → Inv y → Draining y.snd.written (sender y.snd).fin y.rcv
    → recv.is_ready (receiver y.rcv).chunks (receiver y.rcv).off ≡ false → Whole (run y (drain outs))
rests [] y i d e = ends y i d e
rests (out ∷ outs) y i d e =
    let n = drains_idle y.snd.written (sender y.snd).fin y.rcv d out e in
    rests outs (step y (read out)) (inv_step y (read out) i) n.0 n.1

none_ready : (cs : List RangeBuf) (off : ℕ) → weight cs ≤ 0 → recv.is_ready cs off ≡ false
none_ready [] off h = refl
none_ready (c ∷ cs) off h = absurd (omega arith)

-- each read with room takes a byte or a chunk, until nothing is ready
drains : (outs : List (List ℕ)) (y : System) → Inv y → Draining y.snd.written (sender y.snd).fin y.rcv
    → SomeRoom outs → weight (receiver y.rcv).chunks ≤ length outs → Whole (run y (drain outs))
drains [] y i d h w = ends y i d (none_ready (receiver y.rcv).chunks (receiver y.rcv).off w)
drains (out ∷ outs) y i d h w =
    by_test (recv.is_ready (receiver y.rcv).chunks (receiver y.rcv).off)
    (λ e. let n = drains_ready y.snd.written (sender y.snd).fin y.rcv d out e h.0 in
    drains outs (step y (read out)) (inv_step y (read out) i) n.0 h.1 (omega (arith, n.1)))
    (λ e. rests (out ∷ outs) y i d e)

drain_sender : (outs : List (List ℕ)) (y : System) → (run y (drain outs)).snd ≡ y.snd
drain_sender [] y = refl
drain_sender (out ∷ outs) y = drain_sender outs (step y (read out))

weight_is : (cs : List RangeBuf) → weight cs ≡ bytes_kept cs + length cs
weight_is [] = refl
weight_is (c ∷ cs) = omega (arith, weight_is cs)

idle : (t : Bool) (n : ℕ) (m : Bool) (x : Result (ℕ × Bool) Refusal) → (t ≡ true → x ≡ Ok (n, m)) → x ≡ Err NothingReady → t ≡ false
idle true n m x f e = let z : ◌≡◌ {A = ℕ} 0 1 = cc (f refl, e) in absurd (omega arith)
idle false n m x f e = refl

-- ---- demand 3

pub safety : Safety
safety u p ms = inv_safe (run (fresh u) ms) (inv_run (fresh u) ms (inv_fresh u p))

pub at_done : AtDone
at_done u p ms f out e =
    let y : System = run (fresh u) ms in
    let i : Inv y = inv_run (fresh u) ms (inv_fresh u p) in
    ends y i (begins y i f)
    (idle (recv.is_ready (receiver y.rcv).chunks (receiver y.rcv).off) _ _ (on_read y.rcv out) (answer_ready y.snd.written (sender y.snd).fin y.rcv i.recv_inv out) e)

pub completeness : Completeness
completeness u p ms f outs h w =
    let y : System = run (fresh u) ms in
    let i : Inv y = inv_run (fresh u) ms (inv_fresh u p) in
    (drains outs y i (begins y i f) h (omega (arith, weight_is (receiver y.rcv).chunks)), drain_sender outs y)
