-- FlowControl and FinalSize are refused exactly where a rule of RFC 9000, 4.1 or 4.5, is broken, in the order of RULES 2.2. Assumes nothing.
--
--   write    BadSetup, Offset (19.8), FlowControl (4.1), FinalSize (4.5), and then our own sizes     setup_exact to ours_only, table_only
--   reset    Offset, FinalSize (4.5), FlowControl (4.1)                                               reset_offset_exact to reset_flow_exact
--   what is accepted breaks no rule                                                                   lawful_write, lawful_reset
use Rattle.std.specs.Prelude.{Result, Ok, Err, Option, Some, None, ⊤}
use mathlib.Core.Path.{◌≡◌, refl, sym, ap, ◌∙◌}
use mathlib.Core.Logic.{◌⊎◌, inl, inr, ◌↔◌}
use mathlib.Core.Bool.{Bool, true, false, cond, not, ◌&&◌, ◌||◌, and-false}
use mathlib.Core.List.{List}
use Prim.Native.Nat.{ℕ, ◌+◌, ◌-◌, ◌≤◌, ◌<◌}
use native.Mathlib.Omega.{arith}
use borrow.Author.Tests.{ltb-true, ltb-false, eqb-true, eqb-false, lt-ltb, le-ltb, not-true, not-false}
use lib.Dec.{ltb, eqb}
use lib.ListN.{length}
use Rattle.tables.proofs.Tables.{cases}
use Rattle.tables.proofs.Tests.{either, clash, and_true, or-true, or_false, decided, undecided}
use Rattle.refusal.specs.declared.Refusal.{Refusal}
use Rattle.refusal.specs.declared.Refusal.TheVariants.{Offset, FinalSize, FlowControl as OverLimit, NoRoom, TableFull, BadSetup}
use Rattle.refusal.specs.Rules.{M, known, is_other, with_sizes}
use Rattle.refusal.proofs.Chain.{passes}
use Rattle.refusal.proofs.Answers.{known_not}
use Rattle.flowcontrol.proofs.Steady.{Steady}
use Rattle.recv_buf.specs.State.{Recv}
use Rattle.recv_buf.specs.Rules.{other_arena, passes_final, no_room, no_entry, write_judged, bad_size, over_limit, reset_judged, resets}
use Rattle.recv_buf.specs.Rfc9000.{Frame, Tells, TooLarge, FlowControlError, data_over, size_over, FinalSizeError, changed, beyond, short, ResetSizeError, reset_changed, reset_short, ResetOver, stream_frame, reset_frame, Breaks}
use Rattle.recv_buf.specs.RfcAgreement.{knows}
use Rattle.recv_buf.proofs.Kept.{end_fits, accepted}
use Rattle.recv_buf.proofs.RfcLaws.{over_limit_lem, limit_over, past_final}
use Rattle.recv_buf.proofs.RfcState.{Sound}

refused_inj : {x y : Refusal} → ◌≡◌ {A = Result ⊤ Refusal} (Err x) (Err y) → x ≡ y
refused_inj e = cc

-- why a frame that passes BadSetup and Offset is refused: a and b are the tests on the limit and on the final size
data Why (a b : Bool) (n : Refusal) : Type 0 where
  by_limit : a ≡ true → n ≡ OverLimit → Why a b n
  by_final : a ≡ false → b ≡ true → n ≡ FinalSize → Why a b n
  by_size : a ≡ false → b ≡ false → (n ≡ NoRoom) ⊎ (n ≡ TableFull) → Why a b n

abbrev chain : Bool → Bool → Bool → Bool → Result ⊤ Refusal
chain a b c d = cond a (Err OverLimit) (cond b (Err FinalSize) (cond c (Err NoRoom) (cond d (Err TableFull) (Ok tt))))

why : (a b c d : Bool) (n : Refusal) → chain a b c d ≡ Err n → Why a b n
why true b c d n e = by_limit refl (sym (refused_inj e))
why false true c d n e = by_final refl refl (sym (refused_inj e))
why false false true d n e = by_size refl refl (inl (sym (refused_inj e)))
why false false false true n e = by_size refl refl (inr (sym (refused_inj e)))
why false false false false n e = let z : ◌≡◌ {A = ℕ} 0 1 = cc in absurd (omega arith)

-- our sizes' refusals are none of the others
data Others : Refusal → Type 0 where
  offset : Others Offset
  limit : Others OverLimit
  final : Others FinalSize
  setup : Others BadSetup

other : {A : Type 0} {n : Refusal} → Others n → (n ≡ NoRoom) ⊎ (n ≡ TableFull) → A
other offset (inl a) = let z : ◌≡◌ {A = ℕ} 0 1 = cc in absurd (omega arith)
other offset (inr a) = let z : ◌≡◌ {A = ℕ} 0 1 = cc in absurd (omega arith)
other limit (inl a) = let z : ◌≡◌ {A = ℕ} 0 1 = cc in absurd (omega arith)
other limit (inr a) = let z : ◌≡◌ {A = ℕ} 0 1 = cc in absurd (omega arith)
other final (inl a) = let z : ◌≡◌ {A = ℕ} 0 1 = cc in absurd (omega arith)
other final (inr a) = let z : ◌≡◌ {A = ℕ} 0 1 = cc in absurd (omega arith)
other setup (inl a) = let z : ◌≡◌ {A = ℕ} 0 1 = cc in absurd (omega arith)
other setup (inr a) = let z : ◌≡◌ {A = ℕ} 0 1 = cc in absurd (omega arith)

-- ---- a frame, against what the state r knows

module _ (r : Recv) (ar out : List ℕ) (s : ℕ) (bytes : List ℕ) (fin : Bool) where
  abbrev pub frame : Frame
  frame = record { from = s; bytes = bytes; fin = fin }

  abbrev bad : Bool
  bad = passes_final r.fin r.len (s + length bytes) fin

  -- 4.5 is broken exactly if the test on the final size finds so
  bad_final : Tells frame → bad ≡ true → FinalSizeError (knows r ar out) frame
  bad_final h k = go r.fin refl k
    where
      early : (fin && ltb (s + length bytes) r.len) ≡ true → FinalSizeError (knows r ar out) frame
      early k = let p = and_true fin (ltb (s + length bytes) r.len) k in short p.0 (ltb-true (s + length bytes) r.len p.1)

      go : (f : Option ℕ) → r.fin ≡ f → passes_final f r.len (s + length bytes) fin ≡ true → FinalSizeError (knows r ar out) frame
      go None e k = early k
      go (Some x) e k = either (or-true (ltb x (s + length bytes) || fin && not (eqb (s + length bytes) x)) (fin && ltb (s + length bytes) r.len) k)
          (λ a. either (or-true (ltb x (s + length bytes)) (fin && not (eqb (s + length bytes) x)) a)
          (λ b. past_final (knows r ar out) frame h x e (ltb-true x (s + length bytes) b))
          (λ b. let p = and_true fin (not (eqb (s + length bytes) x)) b in
          changed x e p.0 (eqb-false (s + length bytes) x (not-true (eqb (s + length bytes) x) p.1))))
          early

  final_good : bad ≡ false → FinalSizeError (knows r ar out) frame → ⊥
  final_good k (changed x e h n) = n ((end_fits r.fin r.len (s + length bytes) fin k).mark_same x e h)
  final_good k (beyond x o e b h) = omega (arith, (end_fits r.fin r.len (s + length bytes) fin k).in_final x e)
  final_good k (short h l) = omega (arith, (end_fits r.fin r.len (s + length bytes) fin k).mark_high h)

  final_bad : FinalSizeError (knows r ar out) frame → bad ≡ true
  final_bad f = go bad refl
    where
      go : (t : Bool) → bad ≡ t → t ≡ true
      go true e = refl
      go false e = absurd (final_good e f)

  -- what is accepted breaks no rule
  pub lawful_write : (a : ℕ) → write_judged r a s (length bytes) fin ≡ Ok tt → Breaks (knows r ar out) (stream_frame frame) → ⊥
  lawful_write a e (inl h) = omega (arith, (accepted r a s (length bytes) fin e).top)
  lawful_write a e (inr (inl h)) = omega (arith, limit_over (knows r ar out) frame h, (accepted r a s (length bytes) fin e).credit)
  lawful_write a e (inr (inr h)) = final_good (accepted r a s (length bytes) fin e).final h

  -- a frame with neither bytes nor mark breaks no rule of 4.1 or 4.5 (RULES 7.2 may still refuse it for its offset: flow_test, final_test)
  pub silent : length bytes ≡ 0 → fin ≡ false → FlowControlError (knows r ar out) frame ⊎ FinalSizeError (knows r ar out) frame → ⊥
  silent n f (inl (data_over o b h)) = omega arith
  silent n f (inl (size_over h k)) = clash (sym h ∙ f)
  silent n f (inr (changed x e h k)) = clash (sym h ∙ f)
  silent n f (inr (beyond x o e b h)) = omega arith
  silent n f (inr (short h k)) = clash (sym h ∙ f)

  abbrev over : Bool
  over = ltb r.flow.max_data (s + length bytes)

  abbrev tests : Result ⊤ Refusal
  tests = chain over bad (no_room r s (length bytes)) (no_entry r s (length bytes) fin)

  -- with an arena of a bytes
  module _ (a : ℕ) where
    whole : write_judged r a s (length bytes) fin ≡ cond (other_arena r a) (Err BadSetup) (cond (ltb M (s + length bytes)) (Err Offset) tests)
    unfolding write_judged
    whole = refl

    -- BadSetup exactly if it is not the arena of creation
    pub setup_exact : (write_judged r a s (length bytes) fin ≡ Err BadSetup) ↔ (other_arena r a ≡ true)
    setup_exact = (
      λ e. go (other_arena r a) (ltb M (s + length bytes)) (sym whole ∙ e),
      λ h. whole
          ∙ decided h (Err BadSetup) (cond (ltb M (s + length bytes)) (Err Offset) tests),
    )
      where
        no : Why over bad BadSetup → false ≡ true
        no (by_limit x y) = let z : ◌≡◌ {A = ℕ} 0 1 = cc in absurd (omega arith)
        no (by_final x y w) = let z : ◌≡◌ {A = ℕ} 0 1 = cc in absurd (omega arith)
        no (by_size x y w) = other setup w

        go : (t u : Bool) → cond t (Err BadSetup) (cond u (Err Offset) tests) ≡ Err BadSetup → t ≡ true
        go true u e = refl
        go false true e = let z : ◌≡◌ {A = ℕ} 0 1 = cc in absurd (omega arith)
        go false false e = no (why over bad (no_room r s (length bytes)) (no_entry r s (length bytes) fin) BadSetup e)

    module _ (right : other_arena r a ≡ false) where
      answer : write_judged r a s (length bytes) fin ≡ cond (ltb M (s + length bytes)) (Err Offset) tests
      answer = whole ∙ undecided right (Err BadSetup) (cond (ltb M (s + length bytes)) (Err Offset) tests)

      answer_in : s + length bytes ≤ M → write_judged r a s (length bytes) fin ≡ tests
      answer_in top = answer ∙ undecided (le-ltb M (s + length bytes) top) (Err Offset) tests

      because : s + length bytes ≤ M → (n : Refusal) → write_judged r a s (length bytes) fin ≡ Err n → Why over bad n
      because top n e = why over bad (no_room r s (length bytes)) (no_entry r s (length bytes) fin) n (sym (answer_in top) ∙ e)

      -- Offset exactly if 19.8's bound is broken
      pub offset_exact : (write_judged r a s (length bytes) fin ≡ Err Offset) ↔ TooLarge frame
      offset_exact = (
        λ e. cases M (s + length bytes) (λ h. h) (λ h. go (because h Offset e)),
        λ h. answer
            ∙ decided (lt-ltb M (s + length bytes) h) (Err Offset) tests,
      )
        where
          go : Why over bad Offset → M < s + length bytes
          go (by_limit x y) = let z : ◌≡◌ {A = ℕ} 0 1 = cc in absurd (omega arith)
          go (by_final x y w) = let z : ◌≡◌ {A = ℕ} 0 1 = cc in absurd (omega arith)
          go (by_size x y w) = other offset w

      module _ (top : s + length bytes ≤ M) where
        -- of any frame: FlowControl exactly if its end is above the limit, FinalSize exactly if it is not and the test of RULES 7.2 holds
        pub flow_test : (write_judged r a s (length bytes) fin ≡ Err OverLimit) ↔ (r.flow.max_data < s + length bytes)
        flow_test = (
          λ e. go (because top OverLimit e),
          λ h. answer_in top
              ∙ decided (lt-ltb r.flow.max_data (s + length bytes) h) (Err OverLimit) _,
        )
          where
            go : Why over bad OverLimit → r.flow.max_data < s + length bytes
            go (by_limit x y) = ltb-true r.flow.max_data (s + length bytes) x
            go (by_final x y w) = let z : ◌≡◌ {A = ℕ} 0 1 = cc in absurd (omega arith)
            go (by_size x y w) = other limit w

        pub final_test : (write_judged r a s (length bytes) fin ≡ Err FinalSize) ↔ ((s + length bytes ≤ r.flow.max_data) × (bad ≡ true))
        final_test = (
          λ e. go (because top FinalSize e),
          λ h. answer_in top ∙ undecided (le-ltb r.flow.max_data (s + length bytes) h.0) (Err OverLimit) _
              ∙ decided h.1 (Err FinalSize) _,
        )
          where
            go : Why over bad FinalSize → (s + length bytes ≤ r.flow.max_data) × (bad ≡ true)
            go (by_limit x y) = let z : ◌≡◌ {A = ℕ} 0 1 = cc in absurd (omega arith)
            go (by_final x y w) = (ltb-false r.flow.max_data (s + length bytes) x, y)
            go (by_size x y w) = other final w

        -- of a frame with bytes or mark: FlowControl exactly if 4.1 is broken, FinalSize exactly if 4.1 is not and 4.5 is
        pub flow_exact : Tells frame → (write_judged r a s (length bytes) fin ≡ Err OverLimit) ↔ FlowControlError (knows r ar out) frame
        flow_exact t = (λ e. over_limit_lem (knows r ar out) frame t (flow_test.0 e), λ f. flow_test.1 (limit_over (knows r ar out) frame f))

        pub final_exact : Tells frame
            → (write_judged r a s (length bytes) fin ≡ Err FinalSize) ↔ ((FlowControlError (knows r ar out) frame → ⊥)
            × FinalSizeError (knows r ar out) frame)
        final_exact t = (
          λ e. let p = final_test.0 e in (λ f. omega (arith, limit_over (knows r ar out) frame f), bad_final t p.1),
          λ h. final_test.1 (
            cases r.flow.max_data (s + length bytes) (λ l. absurd (h.0 (over_limit_lem (knows r ar out) frame t l)))
                (λ l. l),
            final_bad h.1,
          ),
        )

        -- one that breaks no rule is refused for our sizes only
        pub ours_only : Tells frame → (Breaks (knows r ar out) (stream_frame frame) → ⊥) → (n : Refusal)
            → write_judged r a s (length bytes) fin ≡ Err n
            → (n ≡ NoRoom) ⊎ (n ≡ TableFull)
        ours_only t lawful n e = go (because top n e)
          where
            go : Why over bad n → (n ≡ NoRoom) ⊎ (n ≡ TableFull)
            go (by_limit x y) = absurd (lawful (inr (inl (over_limit_lem (knows r ar out) frame t (ltb-true r.flow.max_data (s + length bytes) x)))))
            go (by_final x y w) = absurd (lawful (inr (inr (bad_final t y))))
            go (by_size x y w) = w

-- ---- 2.2: data is buffered up to the advertised limit. An arena as long as the maximum window has room for all of it

abbrev pub Wide : Recv → Type 0
Wide r = r.flow.max_window ≤ r.room

module _ (r : Recv) (ar out : List ℕ) (g : Sound r ar out) (st : Steady r.flow) (wide : Wide r) (s : ℕ) (bytes : List ℕ) (fin : Bool) where
  roomy : s + length bytes ≤ r.flow.max_data → passes_final r.fin r.len (s + length bytes) fin ≡ false → no_room r s (length bytes) ≡ false
  roomy l b = go r.drain refl r.error refl
    where
      fits : s + length bytes ≤ r.off + r.room → (d : Bool) → (not d && (ltb 0 (length bytes) && ltb r.room (s + length bytes - r.off))) ≡ false
      fits h d = rw (le-ltb r.room (s + length bytes - r.off) (omega arith)) (rw (and-false (ltb 0 (length bytes)), and-false (not d)))

      go : (d : Bool) → r.drain ≡ d → (z : Option ℕ) → r.error ≡ z → no_room r s (length bytes) ≡ false
      go true e z y = rw e
      go false e None y = fits (omega (arith, g.live y e, st.in_max, st.at_most)) r.drain
      go false e (Some c) y = let p = g.ended c y in
          fits (omega (arith, p.0, (end_fits r.fin r.len (s + length bytes) fin b).in_final r.len p.1)) r.drain

  -- then a frame that breaks no rule is refused only if it needs a 65th chunk
  pub table_only : (a : ℕ) → other_arena r a ≡ false → Tells (frame r ar out s bytes fin)
      → (Breaks (knows r ar out) (stream_frame (frame r ar out s bytes fin)) → ⊥)
      → (n : Refusal) → write_judged r a s (length bytes) fin ≡ Err n → n ≡ TableFull
  table_only a right t lawful n e =
      cases M (s + length bytes) (λ h. absurd (lawful (inl h))) (λ top. go top (because r ar out s bytes fin a right top n e))
    where
      last : (b : Bool) → ◌≡◌ {A = Result ⊤ Refusal} (cond b (Err TableFull) (Ok tt)) (Err n) → n ≡ TableFull
      last true e = sym (refused_inj e)
      last false e = let z : ◌≡◌ {A = ℕ} 0 1 = cc in absurd (omega arith)

      go : s + length bytes ≤ M → Why (ltb r.flow.max_data (s + length bytes)) (passes_final r.fin r.len (s + length bytes) fin) n
          → n ≡ TableFull
      go top (by_limit x y) = absurd (lawful (inr (inl (over_limit_lem (knows r ar out) (frame r ar out s bytes fin) t (ltb-true r.flow.max_data (s + length bytes) x)))))
      go top (by_final x y w) = absurd (lawful (inr (inr (bad_final r ar out s bytes fin t y))))
      go top (by_size x y w) = last (no_entry r s (length bytes) fin) (sym (answer_in r ar out s bytes fin a right top
          ∙ undecided x (Err OverLimit) _ ∙ undecided y (Err FinalSize) _
          ∙ undecided (roomy (ltb-false r.flow.max_data (s + length bytes) x) y) (Err NoRoom) _) ∙ e)

-- ---- a reset, in the order of RULES 2.2: final size, "already reset", limit

module _ (r : Recv) (ar out : List ℕ) (size : ℕ) where
  size_good : bad_size r size ≡ false → ResetSizeError (knows r ar out) size → ⊥
  size_good h (reset_changed x e n) = let p = (or_false (is_other r.fin size) (ltb size r.len) h).0 in
      n (sym (eqb-true x size (not-false (eqb x size) (sym (ap (λ (f : Option ℕ). is_other f size) e) ∙ p))))
  size_good h (reset_short k) = omega (arith, ltb-false size r.len (or_false (is_other r.fin size) (ltb size r.len) h).1)

  size_bad : bad_size r size ≡ true → ResetSizeError (knows r ar out) size
  size_bad h = either (or-true (is_other r.fin size) (ltb size r.len) h) (go r.fin refl) (λ k. reset_short (ltb-true size r.len k))
    where
      go : (f : Option ℕ) → r.fin ≡ f → is_other f size ≡ true → ResetSizeError (knows r ar out) size
      go None e k = clash (sym k)
      go (Some x) e k = reset_changed x e (λ z. eqb-false x size (not-true (eqb x size) k) (sym z))

  over_true : over_limit r size ≡ true → (r.error ≡ None) × ResetOver (knows r ar out) size
  over_true h = let p = and_true (not (known r.error)) (ltb r.flow.max_data size) h in
      (known_not r.error (not-true (known r.error) p.0), ltb-true r.flow.max_data size p.1)

  true_over : (r.error ≡ None) × ResetOver (knows r ar out) size → over_limit r size ≡ true
  true_over h = rw (h.0, lt-ltb r.flow.max_data size h.1)

  abbrev two : Bool → Bool → Result ⊤ Refusal
  two a b = cond a (Err FinalSize) (cond b (Err OverLimit) (Ok tt))

  total : reset_judged r size ≡ cond (ltb M size) (Err Offset) (two (bad_size r size) (over_limit r size))
  unfolding reset_judged
  total = refl

  pub reset_offset_exact : (reset_judged r size ≡ Err Offset) ↔ (M < size)
  reset_offset_exact = (
    λ e. go (ltb M size) refl (bad_size r size) (over_limit r size) (sym total ∙ e),
    λ h. total ∙ decided (lt-ltb M size h) (Err Offset) _,
  )
    where
      go : (t : Bool) → ltb M size ≡ t → (a b : Bool) → cond t (Err Offset) (two a b) ≡ Err Offset → M < size
      go true x a b e = ltb-true M size x
      go false x true b e = let z : ◌≡◌ {A = ℕ} 0 1 = cc in absurd (omega arith)
      go false x false true e = let z : ◌≡◌ {A = ℕ} 0 1 = cc in absurd (omega arith)
      go false x false false e = let z : ◌≡◌ {A = ℕ} 0 1 = cc in absurd (omega arith)

  module _ (top : size ≤ M) where
    reset_answer : reset_judged r size ≡ two (bad_size r size) (over_limit r size)
    reset_answer = total ∙ undecided (le-ltb M size top) (Err Offset) _

    -- FinalSize exactly if 4.5 is broken
    pub reset_final_exact : (reset_judged r size ≡ Err FinalSize) ↔ ResetSizeError (knows r ar out) size
    reset_final_exact = (λ e. go (bad_size r size) refl (over_limit r size) (sym reset_answer ∙ e), λ h. back h (bad_size r size) refl)
      where
        go : (a : Bool) → bad_size r size ≡ a → (b : Bool) → two a b ≡ Err FinalSize → ResetSizeError (knows r ar out) size
        go true x b e = size_bad x
        go false x true e = let z : ◌≡◌ {A = ℕ} 0 1 = cc in absurd (omega arith)
        go false x false e = let z : ◌≡◌ {A = ℕ} 0 1 = cc in absurd (omega arith)

        back : ResetSizeError (knows r ar out) size → (a : Bool) → bad_size r size ≡ a → reset_judged r size ≡ Err FinalSize
        back h true x = reset_answer ∙ decided x (Err FinalSize) _
        back h false x = absurd (size_good x h)

    -- FlowControl exactly if 4.5 is not, this is the first reset, and 4.1 is
    pub reset_flow_exact : (reset_judged r size ≡ Err OverLimit) ↔ ((ResetSizeError (knows r ar out) size → ⊥) × (r.error ≡ None)
        × ResetOver (knows r ar out) size)
    reset_flow_exact = (λ e. go (bad_size r size) refl (over_limit r size) refl (sym reset_answer ∙ e), λ h. back h (bad_size r size) refl)
      where
        go : (a : Bool) → bad_size r size ≡ a → (b : Bool) → over_limit r size ≡ b → two a b ≡ Err OverLimit
            → (ResetSizeError (knows r ar out) size → ⊥) × (r.error ≡ None) × ResetOver (knows r ar out) size
        go true x b y e = let z : ◌≡◌ {A = ℕ} 0 1 = cc in absurd (omega arith)
        go false x true y e = let p = over_true y in (size_good x, p.0, p.1)
        go false x false y e = let z : ◌≡◌ {A = ℕ} 0 1 = cc in absurd (omega arith)

        back : (ResetSizeError (knows r ar out) size → ⊥) × (r.error ≡ None) × ResetOver (knows r ar out) size → (a : Bool) → bad_size r size ≡ a
            → reset_judged r size ≡ Err OverLimit
        back h true x = absurd (h.0 (size_bad x))
        back h false x = reset_answer ∙ undecided x (Err FinalSize) _ ∙ decided (true_over (h.1, h.2)) (Err OverLimit) _

  -- what is accepted breaks no rule
  pub lawful_reset : (code : ℕ) → reset_judged r size ≡ Ok tt → Breaks (knows r ar out) (reset_frame code size) → ⊥
  lawful_reset code said b =
      let p = passes (ltb M size) Offset _ (sym total ∙ said) in
      let q = passes (bad_size r size) FinalSize _ p.1 in
      let o = passes (over_limit r size) OverLimit _ q.1 in
      either b (size_good q.0) (λ h. clash (sym (true_over h) ∙ o.0))

  -- the answer, for the connection's accounts (4.5): of the first reset, the credit newly used up and the bytes that will not be read
  pub reset_answers : (code : ℕ) → Sound r ar out → reset_judged r size ≡ Ok tt → r.error ≡ None → r.drain ≡ false
      → (resets r code size).answer ≡ Ok (size - (knows r ar out).highest, size - (knows r ar out).delivered)
  unfolding resets
  reset_answers code g said first reads =
      ap (λ (x : Result ⊤ Refusal). with_sizes x (cond (known r.error) 0 (size - r.len)) (cond (known r.error) 0 (size - r.off))) said
      ∙ ap (λ (x : Option ℕ). Ok (cond (known x) 0 (size - r.len), cond (known x) 0 (size - r.off))) first
      ∙ ap (λ (x : ℕ). Ok (size - r.len, size - x)) (sym (g.live first reads))
