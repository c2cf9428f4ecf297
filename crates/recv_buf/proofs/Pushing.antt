-- A table in the making: entry by entry it becomes the table of its list. Assumes nothing.
use mathlib.Core.Path.{◌≡◌, refl, sym, ap, ◌∙◌}
use mathlib.Core.Bool.{cond}
use mathlib.Core.List.{List, [], ◌∷◌, ◌++◌, append_assoc, append-nil}
use Prim.Native.Nat.{ℕ, suc, ◌+◌, ◌-◌, ◌≤◌}
use native.Mathlib.Omega.{arith}
use borrow.Author.Tests.{lt-ltb, le-ltb}
use lib.Dec.{ltb}
use lib.ListN.{length, take, set, replicate, length-append, length-replicate}
use lib.Seq.{take_all, take-append-le}
use Rattle.tables.specs.Lists.{table_of}
use Rattle.tables.proofs.Tables.{cases, by_test}
use Rattle.range_buf.specs.declared.RangeBuf.{RangeBuf}
use Rattle.range_buf.specs.Rules.{zero_buf}
use Rattle.recv_buf.specs.declared.RecvBuf.{RecvBuf}
use Rattle.recv_buf.specs.declared.Entries.{Entries}
use Rattle.recv_buf.specs.State.{Recv, buf_of}
use Rattle.recv_buf.specs.Rules.{run}
use Rattle.recv_buf.specs.Steps.{listed, pushed, pushed_all}
use Rattle.recv_buf.proofs.Good.{made}

-- a list with 64 entries or less is stored whole
pub stored : (l : List RangeBuf) → length l ≤ 64 → take 64 (table_of zero_buf l) ≡ table_of zero_buf l
stored l h = take_all 64 (table_of zero_buf l) (simp (length-append, length-replicate) (omega arith))

-- the table of a list that fits it
pub copied : (l m : List RangeBuf) → length l ≤ 64 → m ≡ table_of zero_buf (take 64 l)
    → ◌≡◌ {A = Entries} (record { «data» = m; count = length l }) (listed l)
copied l m h e = rw (e, take_all 64 l h, stored l h) refl

-- one entry more where there is a place for it: it takes the place of the first zero
store_more : (l : List RangeBuf) (c : RangeBuf) (n : ℕ) → 64 - length l ≡ suc n
    → set (l ++ replicate (64 - length l) zero_buf) (length l) c ≡ (l ++ (c ∷ [])) ++ replicate n zero_buf
store_more l c n e = rw e (go l)
  where
    go : (xs : List RangeBuf) → set (xs ++ (zero_buf ∷ replicate n zero_buf)) (length xs) c ≡ (xs ++ (c ∷ [])) ++ replicate n zero_buf
    go [] = refl
    go (x ∷ xs) = ap (λ (t : List RangeBuf). x ∷ t) (go xs)

snoc_length : (l : List RangeBuf) (c : RangeBuf) → length (l ++ (c ∷ [])) ≡ length l + 1
snoc_length l c = length-append l (c ∷ [])

-- one entry more
pub push_listed : (l : List RangeBuf) (c : RangeBuf) → pushed (listed l) c ≡ listed (l ++ (c ∷ []))
push_listed l c =
    let m : length l + 1 ≡ length (l ++ (c ∷ [])) = sym (snoc_length l c) in
    cases (length l) 64
    (λ lt.
    let k : 64 - length l ≡ suc (64 - length (l ++ (c ∷ []))) = omega (arith, m) in
    let z : cond (ltb (length l) 64) (set (take 64 (table_of zero_buf l)) (length l) c) (take 64 (table_of zero_buf l)) ≡ take 64 (table_of zero_buf (l ++ (c ∷ []))) =
    rw (lt-ltb (length l) 64 lt, stored l (omega arith), stored (l ++ (c ∷ [])) (omega (arith, m))) (store_more l c (64 - length (l ++ (c ∷ []))) k) in
    λ j. record { «data» = z j; count = m j })
    (λ le.
    let z : cond (ltb (length l) 64) (set (take 64 (table_of zero_buf l)) (length l) c) (take 64 (table_of zero_buf l)) ≡ take 64 (table_of zero_buf (l ++ (c ∷ []))) =
    rw (
      le-ltb (length l) 64 le,
      take-append-le 64 l (replicate (64 - length l) zero_buf) le,
      append_assoc l (c ∷ []) (replicate (64 - length (l ++ (c ∷ []))) zero_buf),
      take-append-le 64 l ((c ∷ []) ++ replicate (64 - length (l ++ (c ∷ []))) zero_buf) le,
    ) in
    λ j. record { «data» = z j; count = m j })

-- a list of them
pub push_all : (l cs : List RangeBuf) → pushed_all (listed l) cs ≡ listed (l ++ cs)
push_all l [] = ap listed (sym (append-nil l))
push_all l (c ∷ cs) =
    ap (λ (t : Entries). pushed_all t cs) (push_listed l c) ∙ push_all (l ++ (c ∷ [])) cs ∙ ap listed (append_assoc l (c ∷ []) cs)

pub push_none : (t : Entries) (cs : List RangeBuf) → t ≡ listed [] → pushed_all t cs ≡ listed cs
push_none t cs e = rw e (push_all [] cs)

-- a run, if there are bytes, and others behind it
pub push_run : (t : Entries) (lo hi : ℕ) (cs : List RangeBuf) → pushed_all t (run lo hi cs) ≡ pushed_all (pushed_all t (run lo hi [])) cs
push_run t lo hi cs = by_test (ltb lo hi) (λ y. rw y) (λ n. rw n)

-- the buffer whose table is made of its chunks
pub made_of : (r : Recv) (t : Entries) → t ≡ listed r.chunks → length r.chunks ≤ 64
    → ◌≡◌ {A = RecvBuf} (record { «data» = t.«data»; count = t.count; off = r.off; len = r.len; flow_control = r.flow; fin_off = r.fin; error = r.error; drain = r.drain; arena_len = r.room }) (buf_of r)
made_of r t e h =
    made r t.«data» t.count (ap (λ (x : Entries). x.«data») e ∙ stored r.chunks h) (ap (λ (x : Entries). x.count) e)
