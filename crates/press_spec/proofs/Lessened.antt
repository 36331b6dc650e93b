-- Lowering lessens: of each step with a lowered parent nothing is left, a lowered node has two or more such steps of its own, and comes back
-- with at most one step. So with k nodes lowered there are at least k steps, and k nodes, fewer than before.
use Prim.Native.Nat.{ℕ, zero, suc, ◌+◌, ◌≤◌}
use mathlib.Core.Bool.{Bool, true, false, cond}
use mathlib.Core.Path.{◌≡◌, refl, ◌∙◌}
use mathlib.Core.Logic.{◌≢◌}
use mathlib.Core.List.{List, [], ◌∷◌}
use native.Mathlib.Omega.{arith}
use native.Mathlib.Decide.{ℕ_discrete}
use lib.Dec.{eqb}
use lib.ListN.{length, get_or}
use borrow.Author.Tests.{eq-eqb, ne_eqb}
use Rattle.press_spec.specs.Links.{Link, leaf, join, link_at}
use Rattle.press_spec.specs.Trim.{trimmed, naming, uses_in, uses}
use Rattle.press_spec.specs.Order.{InOrder}
use Rattle.press_spec.specs.Lower.{Lowered, staying, lowered}
use Rattle.press_spec.proofs.Trimmed.{Marked}
use Rattle.press_spec.proofs.Counted.{sum_over, sum_below, sum_below-le, sum_below-none, sum_below-add, sum_below-first}
use Rattle.press_spec.proofs.Returned.{one, lowered_below}

-- ---- sums

pub sum-beyond : (f : ℕ → ℕ) (k j : ℕ) → k ≤ j → ((n : ℕ) → f n ≤ 1) → sum_below f j + k ≤ sum_below f k + j
unfolding sum_below
sum-beyond f k zero h one = let q : k ≡ 0 = omega arith in rw q (omega arith)
sum-beyond f k (suc j) h small = elim (ℕ_discrete k (suc j)) [
  | yes q ↦ rw q (omega arith)
  | no q ↦ omega (arith, small j, sum-beyond f k j (omega arith) small)
]

pub over-up : (s : List Link) (Q : ℕ → Type 0) (f g : ℕ → ℕ) → ((n : ℕ) → Q n → f n ≤ g n) → (order : List ℕ) → InOrder s Q order
    → sum_over f order ≤ sum_over g order
unfolding sum_over
over-up s Q f g h [] o = omega arith
over-up s Q f g h (n ∷ order) o = omega (arith, h n o.0, over-up s Q f g h order o.3)

unfoldable pub sum_links : (Link → ℕ) → List Link → ℕ
sum_links v [] = 0
sum_links v (m ∷ s) = v m + sum_links v s

-- what node n counts for if it is marked
unfoldable pub if_marked : List ℕ → (ℕ → ℕ) → ℕ → ℕ
if_marked marks v n = cond (eqb (get_or marks n 0) 0) 0 (v n)

pub marked-counts : (marks : List ℕ) (v : ℕ → ℕ) (n : ℕ) → Marked marks n → if_marked marks v n ≡ v n
unfolding if_marked
marked-counts marks v n h = rw (ne_eqb (get_or marks n 0) 0 (omega arith))

pub sum-trimmed : (v : Link → ℕ) (s : List Link) (marks : List ℕ) → length marks ≡ length s
    → sum_below (if_marked marks (λ n. v (link_at s n))) (length s) ≡ sum_links v (trimmed s marks)
unfolding if_marked link_at trimmed sum_links
sum-trimmed v [] marks h = unfold sum_below in refl
sum-trimmed v (x ∷ s) [] h = absurd (omega arith)
sum-trimmed v (x ∷ s) (k ∷ marks) h =
    sum_below-first (if_marked (k ∷ marks) (λ n. v (link_at (x ∷ s) n))) (length s) ∙ by (eqb k 0) (sum-trimmed v s marks (omega arith))
  where
    rest : ℕ
    rest = sum_below (if_marked marks (λ n. v (link_at s n))) (length s)

    by : (u : Bool) → rest ≡ sum_links v (trimmed s marks) → cond u 0 (v x) + rest ≡ sum_links v (cond u (trimmed s marks) (x ∷ trimmed s marks))
    by true q = omega arith
    by false q = omega arith

-- ---- uses of lowered nodes, counted twice: by the nodes, and by the steps that name them

unfoldable pub cuts_in : (ℕ → Lowered) → Link → ℕ
cuts_in low (leaf line) = 0
cuts_in low (join p l r) = one (low l) + one (low r)

module _ (low : ℕ → Lowered) where
  times : Lowered → ℕ → ℕ
  times staying k = 0
  times (lowered x) k = k

  times_none : (t : Lowered) → times t 0 ≡ 0
  unfolding times
  times_none staying = refl
  times_none (lowered x) = refl

  times-both : (t : Lowered) (a c : ℕ) → times t (a + c) ≡ times t a + times t c
  unfolding times
  times-both staying a c = refl
  times-both (lowered x) a c = refl

  times-one : (t : Lowered) → times t 1 ≡ one t
  unfolding times one
  times-one staying = refl
  times-one (lowered x) = refl

  naming-other : (n l : ℕ) → n ≢ l → times (low n) (naming n l) ≡ 0
  unfolding naming
  naming-other n l h = rw (ne_eqb n l h) (times_none (low n))

  naming-here : (l : ℕ) → times (low l) (naming l l) ≡ one (low l)
  unfolding naming
  naming-here l = rw (eq-eqb l l refl) (times-one (low l))

  sum-naming : (l k : ℕ) → sum_below (λ n. times (low n) (naming n l)) k ≤ one (low l)
  unfolding sum_below
  sum-naming l zero = omega arith
  sum-naming l (suc k) = elim (ℕ_discrete k l) [
    | yes q ↦ rw q (omega (arith, naming-here l, sum_below-none (λ n. times (low n) (naming n l)) l (λ n h. naming-other n l (omega arith))))
    | no q ↦ omega (arith, naming-other k l q, sum-naming l k)
  ]

  sum-uses_in : (m : Link) (k : ℕ) → sum_below (λ n. times (low n) (uses_in n m)) k ≤ cuts_in low m
  unfolding uses_in cuts_in
  sum-uses_in (leaf line) k = omega (arith, sum_below-none (λ n. times (low n) 0) k (λ n h. times_none (low n)))
  sum-uses_in (join p l r) k =
      let f : ℕ → ℕ = λ n. times (low n) (naming n l) in
      let g : ℕ → ℕ = λ n. times (low n) (naming n r) in
      let split : sum_below (λ n. times (low n) (naming n l + naming n r)) k ≤ sum_below (λ n. f n + g n) k =
      sum_below-le (λ n. times (low n) (naming n l + naming n r)) (λ n. f n + g n) k (λ n h. omega (arith, times-both (low n) (naming n l) (naming n r))) in
      omega (arith, split, sum_below-add f g k, sum-naming l k, sum-naming r k)

  sum-uses : (t : List Link) (k : ℕ) → sum_below (λ n. times (low n) (uses t n)) k ≤ sum_links (cuts_in low) t
  unfolding uses sum_links
  sum-uses [] k = omega (arith, sum_below-none (λ n. times (low n) 0) k (λ n h. times_none (low n)))
  sum-uses (m ∷ t) k =
      let f : ℕ → ℕ = λ n. times (low n) (uses_in n m) in
      let g : ℕ → ℕ = λ n. times (low n) (uses t n) in
      let split : sum_below (λ n. times (low n) (uses_in n m + uses t n)) k ≤ sum_below (λ n. f n + g n) k =
      sum_below-le (λ n. times (low n) (uses_in n m + uses t n)) (λ n. f n + g n) k (λ n h. omega (arith, times-both (low n) (uses_in n m) (uses t n))) in
      omega (arith, split, sum_below-add f g k, sum-uses_in m k, sum-uses t k)

  two-each : (t : List Link) (k : ℕ) → ((n : ℕ) (x : _) → low n ≡ lowered x → 2 ≤ uses t n)
      → lowered_below low k + lowered_below low k ≤ sum_below (λ n. times (low n) (uses t n)) k
  unfolding lowered_below
  two-each t k h =
      let up : sum_below (λ n. one (low n) + one (low n)) k ≤ sum_below (λ n. times (low n) (uses t n)) k =
      sum_below-le (λ n. one (low n) + one (low n)) (λ n. times (low n) (uses t n)) k (λ n l. by n (low n) refl) in
      omega (arith, up, sum_below-add (λ n. one (low n)) (λ n. one (low n)) k)
    where
      by : (n : ℕ) (u : Lowered) → low n ≡ u → one u + one u ≤ times u (uses t n)
      by n staying q = unfold one times in omega arith
      by n (lowered x) q = unfold one times in h n x q

  -- each lowered node has two or more steps of its own that lose it
  pub twice_cut : (t : List Link) (k : ℕ) → ((n : ℕ) (x : _) → low n ≡ lowered x → 2 ≤ uses t n)
      → lowered_below low k + lowered_below low k ≤ sum_links (cuts_in low) t
  twice_cut t k h = omega (arith, two-each t k h, sum-uses t k)
