-- Chunks joined one by one, from the front: that comes to the same as joining them from the back. Assumes nothing.
use Rattle.std.specs.Prelude.{Ok, Err}
use Rattle.refusal.specs.declared.Outcome.{Outcome}
use Rattle.send_buf.specs.declared.SendBuf.{SendBuf}
use Rattle.send_buf.proofs.Good.{acked_is, made}
use Rattle.std.proofs.lemmas.List.{take_more}
use Rattle.refusal.specs.declared.Refusal.TheVariants.{TableFull}
use lib.Seq.{drop-cons}
use mathlib.Core.Path.{◌≡◌, refl, sym, ap, ap₂, subst, ◌∙◌}
use mathlib.Core.Bool.{true, false}
use mathlib.Core.List.{List, [], ◌∷◌, ◌++◌, append_assoc}
use Prim.Native.Nat.{ℕ, suc, ◌+◌, ◌-◌, ◌≤◌, ◌<◌}
use native.Mathlib.Nat.{add_assoc}
use native.Mathlib.Omega.{arith}
use lib.Dec.{ltb}
use lib.ListN.{length, take, drop, get_or, set, length-append, take-append-drop}
use borrow.Author.Tests.{ltb-true, le-ltb, lt-ltb}
use Rattle.refusal.specs.Rules.{M}
use Rattle.range_buf.specs.declared.RangeBuf.{RangeBuf}
use Rattle.range_buf.specs.Rules.{end, avail, fresh, zero_buf}
use Rattle.tables.specs.Lists.{Table, table_of}
use Rattle.tables.proofs.Tables.{by_test, cond_elim, view_length, view_of_lem, entry as table_entry}
use Rattle.tables.proofs.Tests.{and_true, either, decided, undecided}
use Rattle.send_buf.specs.State.{base, buf_of, view_of, Adjoin, Good}
use Rattle.send_buf.specs.Rules.{stays, both, cut, joined_to, joined, longer, pieces, with_queue}
use Rattle.send_buf.specs.Check.{chunks_of}
use Rattle.send_buf.specs.Steps.{Admits, Tiled, pushed, pushed_all, relists, took, taking, with_chunks}
use Rattle.send_buf.proofs.Chunks.{adj_append, adj_at, adj_base, adj_le, length_cut, total_le}
use Rattle.send_buf.proofs.Joining.{goes, joined_cut, joined_few}
use Rattle.send_buf.proofs.Placing.{put, push}

-- ---- chunks in front of joined ones

-- a chunk that joins the next, and with that what joins that
to_goes : (c d : RangeBuf) (js : List RangeBuf) → c.pos ≤ c.len → 0 < d.len → d.pos ≤ d.len → stays c d ≡ false → joined_to c (joined_to d js) ≡ joined_to (both c d) js
to_goes c d [] k h l e = undecided e (c ∷ d ∷ []) (both c d ∷ [])
to_goes c d (x ∷ xs) k h l e =
    by_test (stays d x)
    (λ t. let p = and_true (ltb 0 (avail d)) (ltb 0 x.pos) t in
    let q : stays (both c d) x ≡ true = rw (lt-ltb 0 (avail (both c d)) (omega (arith, ltb-true 0 (avail d) p.0)), p.1) in
    ap (joined_to c) (decided t (d ∷ x ∷ xs) (both d x ∷ xs)) ∙ undecided e (c ∷ d ∷ x ∷ xs) (both c d ∷ x ∷ xs) ∙ sym (decided q (both c d ∷ x ∷ xs) (both (both c d) x ∷ xs)))
    (λ t. let r : stays c (both d x) ≡ false = either (goes c d k e)
    (λ y. rw (le-ltb 0 (avail c) (omega arith)))
    (λ y. either (goes d x l t) (λ z. absurd (omega arith)) (λ z. by_test (ltb 0 (avail c)) (λ w. rw (w, le-ltb 0 (d.pos + x.pos) (omega arith))) (λ w. rw w))) in
    let q : stays (both c d) x ≡ false = either (goes d x l t)
    (λ y. either (goes c d k e) (λ z. rw (le-ltb 0 (avail (both c d)) (omega arith))) (λ z. absurd (omega arith)))
    (λ y. by_test (ltb 0 (avail (both c d))) (λ w. rw (w, le-ltb 0 x.pos (omega arith))) (λ w. rw w)) in
    ap (joined_to c) (undecided t (d ∷ x ∷ xs) (both d x ∷ xs)) ∙ undecided r (c ∷ both d x ∷ xs) (both c (both d x) ∷ xs)
    ∙ (λ j. record { off = c.off; len = sym (add_assoc c.len d.len x.len) j; pos = sym (add_assoc c.pos d.pos x.pos) j } ∷ xs)
    ∙ sym (undecided q (both c d ∷ x ∷ xs) (both (both c d) x ∷ xs)))

-- chunks, joined to those behind them
abbrev onto : List RangeBuf → List RangeBuf → List RangeBuf
onto [] js = js
onto (c ∷ cs) js = joined_to c (onto cs js)

onto_none : (l : List RangeBuf) → onto l [] ≡ joined l
onto_none [] = refl
onto_none (c ∷ cs) = ap (joined_to c) (onto_none cs)

pub onto_append : (l m : List RangeBuf) → joined (l ++ m) ≡ onto l (joined m)
onto_append [] m = refl
onto_append (c ∷ cs) m = ap (joined_to c) (onto_append cs m)

-- ---- one chunk more

pub adj_pushed : (lo : ℕ) (l : List RangeBuf) (d : RangeBuf) (m : List RangeBuf) (hi : ℕ) → Adjoin lo (l ++ d ∷ m) hi → Adjoin lo (pushed l d ++ m) hi
adj_pushed lo [] d m hi a = a
adj_pushed lo (c ∷ []) d m hi a =
    let r = a.3 in
    cond_elim (λ (x : List RangeBuf). Adjoin lo (x ++ m) hi) (stays c d) (λ _. a)
    (λ _. (a.0, omega (arith, a.1), omega (arith, a.2, r.2), adj_at (end d) (end (both c d)) m hi hi (omega (arith, r.0)) refl r.3))
adj_pushed lo (c ∷ x ∷ xs) d m hi a = (a.0, a.1, a.2, adj_pushed (end c) (x ∷ xs) d m hi a.3)

onto_pushed : (lo : ℕ) (l : List RangeBuf) (d : RangeBuf) (m : List RangeBuf) (hi : ℕ) (js : List RangeBuf) → Adjoin lo (l ++ d ∷ m) hi → onto (pushed l d) js ≡ onto l (joined_to d js)
onto_pushed lo [] d m hi js a = refl
onto_pushed lo (c ∷ []) d m hi js a =
    by_test (stays c d)
    (λ e. ap (λ (x : List RangeBuf). onto x js) (decided e (c ∷ d ∷ []) (both c d ∷ [])))
    (λ e. ap (λ (x : List RangeBuf). onto x js) (undecided e (c ∷ d ∷ []) (both c d ∷ [])) ∙ sym (to_goes c d js a.2 a.3.1 a.3.2 e))
onto_pushed lo (c ∷ x ∷ xs) d m hi js a = ap (joined_to c) (onto_pushed (end c) (x ∷ xs) d m hi js a.3)

-- each boundary stays
abbrev Apart : List RangeBuf → Type 0
Apart [] = Unit {0}
Apart (c ∷ []) = Unit {0}
Apart (c ∷ d ∷ ds) = (stays c d ≡ true) × Apart (d ∷ ds)

stays_on : (c d x : RangeBuf) → stays c d ≡ true → stays c (both d x) ≡ true
stays_on c d x e =
    let p = and_true (ltb 0 (avail c)) (ltb 0 d.pos) e in
    rw (p.0, lt-ltb 0 (d.pos + x.pos) (omega (arith, ltb-true 0 d.pos p.1)))

apart_pushed : (l : List RangeBuf) (d : RangeBuf) → Apart l → Apart (pushed l d)
apart_pushed [] d h = tt
apart_pushed (c ∷ []) d h = cond_elim Apart (stays c d) (λ e. (e, tt)) (λ _. tt)
apart_pushed (c ∷ x ∷ []) d h = cond_elim (λ (l : List RangeBuf). Apart (c ∷ l)) (stays x d) (λ e. (h.0, (e, tt))) (λ _. (stays_on c x d h.0, tt))
apart_pushed (c ∷ x ∷ y ∷ ys) d h = (h.0, apart_pushed (x ∷ y ∷ ys) d h.1)

joined_apart : (l : List RangeBuf) → Apart l → joined l ≡ l
joined_apart [] h = refl
joined_apart (c ∷ []) h = refl
joined_apart (c ∷ d ∷ ds) h = ap (joined_to c) (joined_apart (d ∷ ds) h.1) ∙ decided h.0 (c ∷ d ∷ ds) (both c d ∷ ds)

length_pushed : (l : List RangeBuf) (d : RangeBuf) → length l ≤ length (pushed l d)
length_pushed [] d = omega arith
length_pushed (c ∷ []) d = cond_elim (λ (x : List RangeBuf). 1 ≤ length x) (stays c d) (λ _. omega arith) (λ _. omega arith)
length_pushed (c ∷ x ∷ xs) d = omega (arith, length_pushed (x ∷ xs) d)

-- ---- several

adj_all : (lo : ℕ) (l ds m : List RangeBuf) (hi : ℕ) → Adjoin lo (l ++ (ds ++ m)) hi → Adjoin lo (pushed_all l ds ++ m) hi
adj_all lo l [] m hi a = a
adj_all lo l (d ∷ ds) m hi a = adj_all lo (pushed l d) ds m hi (adj_pushed lo l d (ds ++ m) hi a)

onto_all : (lo : ℕ) (l ds : List RangeBuf) (hi : ℕ) → Adjoin lo (l ++ ds) hi → onto (pushed_all l ds) [] ≡ onto l (joined ds)
onto_all lo l [] hi a = refl
onto_all lo l (d ∷ ds) hi a = onto_all lo (pushed l d) ds hi (adj_pushed lo l d ds hi a) ∙ onto_pushed lo l d ds hi (joined ds) a

apart_all : (l ds : List RangeBuf) → Apart l → Apart (pushed_all l ds)
apart_all l [] h = h
apart_all l (d ∷ ds) h = apart_all (pushed l d) ds (apart_pushed l d h)

pub length_all : (l ds : List RangeBuf) → length l ≤ length (pushed_all l ds)
length_all l [] = omega arith
length_all l (d ∷ ds) = omega (arith, length_pushed l d, length_all (pushed l d) ds)

pub all_append : (l ds es : List RangeBuf) → pushed_all l (ds ++ es) ≡ pushed_all (pushed_all l ds) es
all_append l [] es = refl
all_append l (d ∷ ds) es = all_append (pushed l d) ds es

-- all chunks, one by one, are the joined chunks
pub pushed_joined : (l : List RangeBuf) → Tiled l → pushed_all [] l ≡ joined l
pushed_joined l t =
    sym (joined_apart (pushed_all [] l) (apart_all [] l tt)) ∙ sym (onto_none (pushed_all [] l)) ∙ onto_all t.low [] l t.top t.adjoin

-- ---- what adjoins stays so

adj_front : (lo : ℕ) (l m : List RangeBuf) (hi : ℕ) → Adjoin lo (l ++ m) hi → Adjoin lo l (base m hi) × (base m hi ≤ hi)
adj_front lo [] m hi a = (sym (adj_base lo m hi a), omega (arith, adj_base lo m hi a, adj_le lo m hi a))
adj_front lo (c ∷ cs) m hi a = let r = adj_front (end c) cs m hi a.3 in ((a.0, a.1, a.2, r.0), r.1)

pub tiled_front : (l m : List RangeBuf) → Tiled (l ++ m) → Tiled l
tiled_front l m t =
    let r = adj_front t.low l m t.top t.adjoin in
    record { low = t.low; top = base m t.top; top_in = omega (arith, r.1, t.top_in); adjoin = r.0 }

pub tiled_all : (l ds m : List RangeBuf) → Tiled (l ++ (ds ++ m)) → Tiled (pushed_all l ds ++ m)
tiled_all l ds m t = record { low = t.low; top = t.top; top_in = t.top_in; adjoin = adj_all t.low l ds m t.top t.adjoin }

-- the last chunk and one more fit in one
last_fits : (lo : ℕ) (l : List RangeBuf) (d : RangeBuf) (hi : ℕ) → Adjoin lo (l ++ d ∷ []) hi → 0 < length l
    → ((get_or l (length l - 1) zero_buf).len + d.len ≤ hi) × ((get_or l (length l - 1) zero_buf).pos + d.pos ≤ hi)
last_fits lo [] d hi a h = absurd (omega arith)
last_fits lo (c ∷ []) d hi a h = (omega (arith, a.0, a.3.0, a.3.3), omega (arith, a.0, a.2, a.3.0, a.3.2, a.3.3))
last_fits lo (c ∷ x ∷ xs) d hi a h =
    let e : suc (suc (length xs)) - 1 ≡ suc (suc (length xs) - 1) = omega arith in
    rw e (last_fits (end c) (x ∷ xs) d hi a.3 (omega arith))

-- ---- in a table

pushed_behind : (l : List RangeBuf) (d : RangeBuf) → (0 < length l → stays (get_or l (length l - 1) zero_buf) d ≡ true) → pushed l d ≡ l ++ (d ∷ [])
pushed_behind [] d e = refl
pushed_behind (c ∷ []) d e = decided (e (omega arith)) (c ∷ d ∷ []) (both c d ∷ [])
pushed_behind (c ∷ x ∷ xs) d e =
    let n : suc (suc (length xs)) - 1 ≡ suc (suc (length xs) - 1) = omega arith in
    let f : stays (get_or (c ∷ x ∷ xs) (suc (suc (length xs)) - 1) zero_buf) d ≡ true = e (omega arith) in
    ap (λ (m : List RangeBuf). c ∷ m) (pushed_behind (x ∷ xs) d (λ h. rw n at f))

pushed_to : (l : List RangeBuf) (d : RangeBuf) → 0 < length l → stays (get_or l (length l - 1) zero_buf) d ≡ false
    → pushed l d ≡ set l (length l - 1) (both (get_or l (length l - 1) zero_buf) d)
pushed_to [] d h e = absurd (omega arith)
pushed_to (c ∷ []) d h e = undecided e (c ∷ d ∷ []) (both c d ∷ [])
pushed_to (c ∷ x ∷ xs) d h e =
    let n : suc (suc (length xs)) - 1 ≡ suc (suc (length xs) - 1) = omega arith in
    rw n (ap (λ (m : List RangeBuf). c ∷ m) (pushed_to (x ∷ xs) d (omega arith) (rw n at e)))

-- one chunk more, at each way out of `push`
module _ (n : ℕ) (xs : List RangeBuf) (t : Table zero_buf n xs) (d : RangeBuf) where
  long : length (take n xs) ≡ n
  long = view_length zero_buf n xs t

  last_is : 0 < n → get_or (take n xs) (length (take n xs) - 1) zero_buf ≡ get_or xs (n - 1) zero_buf
  last_is h = ap (λ (k : ℕ). get_or (take n xs) (k - 1) zero_buf) long ∙ table_entry zero_buf n xs t (n - 1) (omega arith)

  pub both_fit : Tiled (take n xs ++ (d ∷ [])) → 0 < n → ((get_or xs (n - 1) zero_buf).len + d.len ≤ M) × ((get_or xs (n - 1) zero_buf).pos + d.pos ≤ M)
  both_fit g h =
      let f : ((get_or xs (n - 1) zero_buf).len + d.len ≤ g.top) × ((get_or xs (n - 1) zero_buf).pos + d.pos ≤ g.top) =
      rw (← last_is h) (last_fits g.low (take n xs) d g.top g.adjoin (omega (arith, long))) in
      (omega (arith, f.0, g.top_in), omega (arith, f.1, g.top_in))

  pub joins_last : 0 < n → stays (get_or xs (n - 1) zero_buf) d ≡ false → (v : RangeBuf) → v ≡ both (get_or xs (n - 1) zero_buf) d
      → (take n (set xs (n - 1) v) ≡ pushed (take n xs) d) × Table zero_buf n (set xs (n - 1) v)
  joins_last h e v q =
      let p = put zero_buf n xs t (n - 1) v (omega arith) in
      let f : pushed (take n xs) d ≡ set (take n xs) (length (take n xs) - 1) (both (get_or (take n xs) (length (take n xs) - 1) zero_buf) d) =
      pushed_to (take n xs) d (omega (arith, long)) (rw (last_is h) e) in
      (p.0 ∙ ap₂ (λ (k : ℕ) (c : RangeBuf). set (take n xs) (k - 1) c) (sym long) (q ∙ ap (λ (c : RangeBuf). both c d) (sym (last_is h))) ∙ sym f, p.1)

  module _ (k : 0 < n → stays (get_or xs (n - 1) zero_buf) d ≡ true) where
    behind : pushed (take n xs) d ≡ take n xs ++ (d ∷ [])
    behind = pushed_behind (take n xs) d (λ h. let m : 0 < n = omega (arith, long) in rw (last_is m) (k m))

    pub goes_behind : n < 64 → (take (n + 1) (set xs n d) ≡ pushed (take n xs) d) × Table zero_buf (n + 1) (set xs n d)
    goes_behind h = let p = push zero_buf n xs t d h in (p.0 ∙ sym behind, p.1)

    pub is_full : n ≡ 64 → 64 < length (pushed (take n xs) d)
    is_full e = omega (arith, ap length behind, length-append (take n xs) (d ∷ []), long)

-- each of some chunks, at the one with index i
module _ (l ds : List RangeBuf) (i : ℕ) (h : i < length ds) where
  parts : ds ≡ take i ds ++ get_or ds i zero_buf ∷ drop (suc i) ds
  parts = sym (take-append-drop i ds) ∙ ap (λ (m : List RangeBuf). take i ds ++ m) (drop-cons ds i zero_buf h)

  pub tiled_here : Tiled (l ++ ds) → Tiled (pushed_all l (take i ds) ++ (get_or ds i zero_buf ∷ []))
  tiled_here t =
      let s : Tiled (l ++ (take i ds ++ get_or ds i zero_buf ∷ drop (suc i) ds)) = subst (λ (m : List RangeBuf). Tiled (l ++ m)) parts t in
      tiled_front (pushed_all l (take i ds) ++ (get_or ds i zero_buf ∷ [])) (drop (suc i) ds)
      (rw append_assoc (tiled_all l (take i ds) (get_or ds i zero_buf ∷ drop (suc i) ds) s))

  pub all_more : pushed_all l (take (i + 1) ds) ≡ pushed (pushed_all l (take i ds)) (get_or ds i zero_buf)
  all_more = ap (pushed_all l) (take_more ds i zero_buf h) ∙ all_append l (take i ds) (get_or ds i zero_buf ∷ [])

  pub all_fewer : length (pushed (pushed_all l (take i ds)) (get_or ds i zero_buf)) ≤ length (pushed_all l ds)
  all_fewer =
      let e : pushed_all l ds ≡ pushed_all (pushed (pushed_all l (take i ds)) (get_or ds i zero_buf)) (drop (suc i) ds) =
      ap (pushed_all l) parts ∙ all_append l (take i ds) (get_or ds i zero_buf ∷ drop (suc i) ds) in
      omega (arith, ap length e, length_all (pushed (pushed_all l (take i ds)) (get_or ds i zero_buf)) (drop (suc i) ds))

-- the three parts that `join` takes
module _ (front : List RangeBuf) (buf : RangeBuf) (rest : List RangeBuf) (t : Tiled (front ++ buf ∷ rest)) where
  pub tiled_one : Tiled (pushed_all [] front ++ (buf ∷ []))
  tiled_one = tiled_front (pushed_all [] front ++ (buf ∷ [])) rest (rw append_assoc (tiled_all [] front (buf ∷ rest) t))

  pub tiled_rest : Tiled (pushed (pushed_all [] front) buf ++ rest)
  tiled_rest = tiled_all (pushed_all [] front) (buf ∷ []) rest (tiled_all [] front (buf ∷ rest) t)

  pub all_joined : pushed_all (pushed (pushed_all [] front) buf) rest ≡ joined (front ++ buf ∷ rest)
  all_joined = sym (all_append [] front (buf ∷ rest)) ∙ pushed_joined (front ++ buf ∷ rest) t

  -- too many: at any of them
  pub full_front : 64 < length (pushed_all [] front) → 64 < length (joined (front ++ buf ∷ rest))
  full_front h = omega (arith, ap length all_joined, length_all (pushed (pushed_all [] front) buf) rest, length_pushed (pushed_all [] front) buf)

  pub full_one : 64 < length (pushed (pushed_all [] front) buf) → 64 < length (joined (front ++ buf ∷ rest))
  full_one h = omega (arith, ap length all_joined, length_all (pushed (pushed_all [] front) buf) rest)

-- ---- a buffer with other chunks

-- a table that holds the chunks l
pub placed : (b : SendBuf) (n : ℕ) (xs l : List RangeBuf) → (take n xs ≡ l) × Table zero_buf n xs → (record b { «data» = xs; count = n } ≡ with_chunks b l) × (length l ≤ 64)
placed b n xs l p =
    let d : xs ≡ table_of zero_buf l = p.1.clear ∙ ap (table_of zero_buf) p.0 in
    let m : n ≡ length l = sym (view_length zero_buf n xs p.1) ∙ ap length p.0 in
    ((λ j. record b { «data» = d j; count = m j }), omega (arith, m, p.1.few))

module _ (b s : SendBuf) (l : List RangeBuf) (e : s ≡ with_chunks b l) where
  pub chunks_with : chunks_of s ≡ l
  chunks_with = ap chunks_of e ∙ view_of_lem zero_buf l

  -- and others again
  pub with_again : (t : SendBuf) (m : List RangeBuf) → t ≡ with_chunks s m → t ≡ with_chunks b m
  with_again t m f = f ∙ ap (λ (x : SendBuf). with_chunks x m) e

module _ (b : SendBuf) (g : Good b) (l : List RangeBuf) (m : ℕ) where
  pub relist_refused : 64 < length (joined l) → ◌≡◌ {A = Outcome ℕ SendBuf} (record { answer = Err TableFull; state = b }) (relists (view_of b) l m)
  unfolding relists
  relist_refused h =
      (λ j. record { answer = Err TableFull; state = g.whole j })
      ∙ sym (decided (lt-ltb 64 (length (joined l)) h) (record { answer = Err TableFull; state = buf_of (view_of b) }) (record { answer = Ok m; state = buf_of (with_queue (view_of b) (joined l) 0 (b.buffered_bytes + m)) }))

  pub relist_taken : length (joined l) ≤ 64 → (s : SendBuf) → s ≡ record b { «data» = table_of zero_buf (joined l); count = length (joined l); pos = 0; buffered_bytes = b.buffered_bytes + m }
      → ◌≡◌ {A = Outcome ℕ SendBuf} (record { answer = Ok m; state = s }) (relists (view_of b) l m)
  unfolding relists
  relist_taken h s e =
      let r = e ∙ made (with_queue (view_of b) (joined l) 0 (b.buffered_bytes + m)) (table_of zero_buf (joined l)) (length (joined l)) b.acked refl refl (acked_is b g) in
      (λ j. record { answer = Ok m; state = r j })
      ∙ sym (undecided (le-ltb 64 (length (joined l)) h) (record { answer = Err TableFull; state = buf_of (view_of b) }) (record { answer = Ok m; state = buf_of (with_queue (view_of b) (joined l) 0 (b.buffered_bytes + m)) }))

-- ---- a write that joins

module _ (b : SendBuf) (g : Good b) (k : ℕ) (a : Admits (view_of b) k) (h : 64 < length (view_of b).chunks + pieces k) where
  -- the new bytes in one chunk: joined to the others, they come to the same as in chunks of their own
  longer_joined : joined ((view_of b).chunks ++ (fresh b.off k ∷ [])) ≡ joined (longer (view_of b) k)
  longer_joined =
      onto_append (view_of b).chunks (fresh b.off k ∷ []) ∙ ap (onto (view_of b).chunks) (sym (joined_cut (pieces k) b.off k (omega (arith, g.facts.few)) (omega arith) (omega arith)))
      ∙ sym (onto_append (view_of b).chunks (cut (pieces k) b.off k))

  pub tiled_longer : Tiled ((view_of b).chunks ++ (fresh b.off k ∷ []))
  tiled_longer = record {
    low = base (view_of b).chunks b.off;
    top = b.off + k;
    top_in = omega (arith, a.limit_in, g.facts.limit_in);
    adjoin = adj_append (base (view_of b).chunks b.off) (view_of b).chunks b.off (fresh b.off k ∷ []) (b.off + k) g.facts.adjoin (refl, omega (arith, g.facts.few), omega arith, refl);
  }

  pub bytes_fit : b.buffered_bytes + k ≤ M
  bytes_fit = omega (arith, a.limit_in, g.facts.limit_in, g.facts.all_buffered, total_le (base (view_of b).chunks b.off) (view_of b).chunks b.off g.facts.adjoin)

  long_now : ltb 64 (length (longer (view_of b) k)) ≡ true
  long_now = lt-ltb 64 (length (longer (view_of b) k)) (omega (arith, length-append (view_of b).chunks (cut (pieces k) b.off k), length_cut (pieces k) b.off k))

  few_joined : ltb 64 (length (joined (longer (view_of b) k))) ≡ false
  few_joined = le-ltb 64 (length (joined (longer (view_of b) k))) (omega (arith, joined_few (view_of b).chunks b.off k, g.facts.few))

  pub extended : (o : Outcome ℕ SendBuf) → o ≡ relists (view_of b) ((view_of b).chunks ++ (fresh b.off k ∷ [])) k
      → ◌≡◌ {A = Outcome ℕ SendBuf} (record { answer = o.answer; state = record o.state { off = b.off + k } }) (took (view_of b) k)
  unfolding relists took taking buf_of
  extended o e = rw (e, longer_joined, few_joined, long_now, acked_is b g)
