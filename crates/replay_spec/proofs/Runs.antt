-- Runs of records, one more record at a time: their nodes, steps and peak, what is held after them, and runs whose every record is
-- proper after those before it.
use mathlib.Core.Path.{◌≡◌, refl, ap, ◌∙◌}
use mathlib.Core.Bool.{Bool, true, false, cond}
use mathlib.Core.List.{List, [], ◌∷◌, ◌++◌, append-nil}
use Prim.Native.Nat.{ℕ, zero, suc, ◌-◌, ◌≤◌, ◌<◌, max}
use native.Mathlib.Nat.{not-suc-le-zero, le_of_suc-le-suc, zero-lt-suc}
use native.Mathlib.Decide.{dec_lt}
use native.Mathlib.Omega.{arith}
use lib.Dec.{ltb}
use lib.ListN.{length, get_or, take, length-append, get_or-append}
use lib.Seq.{append_snoc, get_or_at}
use borrow.Author.Tests.{ltb-true, ltb-false}
use Rattle.clause.specs.Clauses.{none}
use Rattle.sheet.specs.declared.edition.Edition.{Edition}
use Rattle.sheet.specs.Records.{Node, given, Record, node, drop, clause, node_at}
use Rattle.sheet.specs.Counts.{nodes_of, held_from, peak_from, first_over}
use Rattle.sheet.specs.Proper.{record_in, clause_in, Held, ProperAfter}
use Rattle.sheet.proofs.Counts.{nodes-append}

-- ---- nodes, steps, the number held, peak

pub nodes-node : (rs : List Record) (x : Node) → nodes_of (rs ++ (node x ∷ [])) ≡ nodes_of rs ++ (x ∷ [])
unfolding nodes_of
nodes-node rs x = nodes-append rs (node x ∷ [])

pub nodes-drop : (rs : List Record) (n : ℕ) → nodes_of (rs ++ (drop n ∷ [])) ≡ nodes_of rs
unfolding nodes_of
nodes-drop rs n = nodes-append rs (drop n ∷ []) ∙ append-nil (nodes_of rs)

pub count-node : (rs : List Record) (x : Node) → length (nodes_of (rs ++ (node x ∷ []))) ≡ suc (length (nodes_of rs))
count-node rs x = ap length (nodes-node rs x) ∙ length-append (nodes_of rs) (x ∷ []) ∙ omega arith

pub count-grows : (rs : List Record) (r : Record) → length (nodes_of rs) ≤ length (nodes_of (rs ++ (r ∷ [])))
count-grows rs (node x) = omega (arith, count-node rs x)
count-grows rs (drop n) = omega (arith, ap length (nodes-drop rs n))

pub peak_from-append : (h : ℕ) (xs ys : List Record) → peak_from h (xs ++ ys) ≡ max (peak_from h xs) (peak_from (held_from h xs) ys)
unfolding held_from peak_from
peak_from-append h [] ys = omega arith
peak_from-append h (node n ∷ xs) ys = omega (arith, peak_from-append (suc h) xs ys)
peak_from-append h (drop n ∷ xs) ys = omega (arith, peak_from-append (h - 1) xs ys)

-- ---- the first record with too many held

pub record Over (most h : ℕ) (rs : List Record) (k : ℕ) : Type 0 where
  pub inside : k < length rs
  pub before : peak_from h (take k rs) ≤ most
  pub full : most ≤ held_from h (take k rs)
  pub new : (x : Node) × (record_in rs k ≡ node x)

pub first-over : (most h : ℕ) (rs : List Record) → h ≤ most → most < peak_from h rs → Over most h rs (first_over most h rs)
unfolding peak_from first_over held_from
first-over most h [] low high = absurd (not-suc-le-zero high)
first-over most h (node x ∷ rs) low high = go (ltb h most) refl (first-over most (suc h) rs)
  where
    go : (b : Bool) → ltb h most ≡ b
        → (suc h ≤ most → most < peak_from (suc h) rs → Over most (suc h) rs (first_over most (suc h) rs))
        → Over most h (node x ∷ rs) (cond b (suc (first_over most (suc h) rs)) 0)
    go true q rest =
        let fewer = ltb-true h most q in
        let o = rest fewer (omega arith) in
        record { inside = omega (arith, o.inside); before = omega (arith, o.before); full = o.full; new = o.new }
    go false q rest = record { inside = zero-lt-suc (length rs); before = omega arith; full = ltb-false h most q; new = (x, refl) }
first-over most h (drop n ∷ rs) low high =
    let o = first-over most (h - 1) rs (omega arith) (omega arith) in
    record { inside = omega (arith, o.inside); before = omega (arith, o.before); full = o.full; new = o.new }

-- ---- clauses

pub clause-before : (rs : List Record) (r : Record) (n : ℕ) → n < length (nodes_of rs) → clause_in (rs ++ (r ∷ [])) n ≡ clause_in rs n
unfolding node_at
clause-before rs (node x) n h =
    ap (λ (l : List Node). clause (get_or l n (given 0 none))) (nodes-node rs x) ∙ ap clause (get_or-append (nodes_of rs) (x ∷ []) (given 0 none) n h)
clause-before rs (drop m) n h = ap (λ (l : List Node). clause (get_or l n (given 0 none))) (nodes-drop rs m)

pub clause-new : (rs : List Record) (x : Node) → clause_in (rs ++ (node x ∷ [])) (length (nodes_of rs)) ≡ clause x
unfolding node_at
clause-new rs x =
    ap (λ (l : List Node). clause (get_or l (length (nodes_of rs)) (given 0 none))) (nodes-node rs x)
    ∙ ap clause (get_or_at (nodes_of rs) x [] (given 0 none) (length (nodes_of rs)) refl)

-- ---- what is held

module _ (rs : List Record) (r : Record) where
  pub record-before : (k : ℕ) → k < length rs → record_in (rs ++ (r ∷ [])) k ≡ record_in rs k
  record-before k h = get_or-append rs (r ∷ []) (node (given 0 none)) k h

  pub record-last : (k : ℕ) → length rs ≡ k → record_in (rs ++ (r ∷ [])) k ≡ r
  record-last k e = get_or_at rs r [] (node (given 0 none)) k e

  length_more : length (rs ++ (r ∷ [])) ≡ suc (length rs)
  length_more = length-append rs (r ∷ []) ∙ omega arith

  -- what is true of each record of a run and of one more is true of each of the longer run
  pub each_more : (P : Record → Type 0)
      → ((k : ℕ) → k < length rs → P (record_in rs k)) → P r → (k : ℕ) → k < length (rs ++ (r ∷ [])) → P (record_in (rs ++ (r ∷ [])) k)
  each_more P all last k h = elim (dec_lt k (length rs)) [
    | yes l ↦ rw (record-before k l) (all k l)
    | no l ↦ rw (record-last k (omega (arith, length_more))) last
  ]

  pub held-still : (n : ℕ) → Held rs n → (r ≡ drop n → ⊥) → Held (rs ++ (r ∷ [])) n
  held-still n h d = (omega (arith, count-grows rs r, h.0), each_more (λ (x : Record). x ≡ drop n → ⊥) h.1 d)

  pub held-before : (n : ℕ) → Held (rs ++ (r ∷ [])) n → n < length (nodes_of rs) → Held rs n
  held-before n h l = (l, λ k i e. h.1 k (omega (arith, length_more)) (record-before k i ∙ e))

  pub last-dropped : (n : ℕ) → Held (rs ++ (r ∷ [])) n → r ≡ drop n → ⊥
  last-dropped n h e = h.1 (length rs) (omega (arith, length_more)) (record-last (length rs) refl ∙ e)

-- drops name nodes of the run
abbrev pub DropsEarlier : List Record → Type 0
DropsEarlier rs = (k : ℕ) → k < length rs → (n : ℕ) → record_in rs k ≡ drop n → n < length (nodes_of rs)

pub drops-more : (rs : List Record) (r : Record) → DropsEarlier rs → ((n : ℕ) → r ≡ drop n → n < length (nodes_of rs)) → DropsEarlier (rs ++ (r ∷ []))
drops-more rs r all last =
    each_more rs r (λ (x : Record). (n : ℕ) → x ≡ drop n → n < length (nodes_of (rs ++ (r ∷ []))))
    (λ k h n e. omega (arith, all k h n e, count-grows rs r)) (λ n e. omega (arith, last n e, count-grows rs r))

pub held_new : (rs : List Record) (x : Node) → DropsEarlier rs → Held (rs ++ (node x ∷ [])) (length (nodes_of rs))
held_new rs x all = (
  omega (arith, count-node rs x),
  each_more rs (node x) (λ (y : Record). y ≡ drop (length (nodes_of rs)) → ⊥)
      (λ k h e. omega (arith, all k h (length (nodes_of rs)) e))
      (λ e. let z : ◌≡◌ {A = ℕ} 0 1 = cc in omega arith),
)

-- ---- proper one after another

abbrev pub Follows : Edition → List ℕ → List Record → List Record → Type 0
Follows e rules done [] = Unit {0}
Follows e rules done (r ∷ rest) = ProperAfter e rules done r × Follows e rules (done ++ (r ∷ [])) rest

module _ (e : Edition) (rules : List ℕ) where
  pub follows-each : (rest done : List Record) → Follows e rules done rest
      → (k : ℕ) → k < length rest → ProperAfter e rules (done ++ take k rest) (record_in rest k)
  follows-each [] done f k h = absurd (not-suc-le-zero h)
  follows-each (r ∷ rest) done f zero h = rw (append-nil done) f.0
  follows-each (r ∷ rest) done f (suc k) h =
      rw (append_snoc done r (take k rest)) at (follows-each rest (done ++ (r ∷ [])) f.1 k (le_of_suc-le-suc h))

  pub each-follows : (rest done : List Record)
      → ((k : ℕ) → k < length rest → ProperAfter e rules (done ++ take k rest) (record_in rest k)) → Follows e rules done rest
  each-follows [] done all = tt
  each-follows (r ∷ rest) done all = (
    rw (append-nil done) at (all 0 (zero-lt-suc (length rest))),
    each-follows rest (done ++ (r ∷ [])) (λ k h. rw (append_snoc done r (take k rest)) (all (suc k) (omega arith))),
  )
