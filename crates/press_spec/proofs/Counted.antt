-- What is counted over an order is no more than what is counted over all numbers, since an order has each number once.
use Prim.Native.Nat.{ℕ, zero, suc, ◌+◌, ◌≤◌, ◌<◌}
use mathlib.Core.Bool.{false, cond}
use mathlib.Core.Path.{◌≡◌, refl, ◌∙◌, sym}
use mathlib.Core.Logic.{◌≢◌}
use mathlib.Core.List.{List, [], ◌∷◌}
use native.Mathlib.Omega.{arith}
use native.Mathlib.Decide.{ℕ_discrete}
use lib.ListN.{length}
use borrow.Author.Tests.{ne_eqb}
use Rattle.base.proofs.Lists.{cond_both}
use Rattle.sheet.specs.Records.{Node, node_at}
use Rattle.sheet.specs.Counts.{step_of, steps_of}
use Rattle.press_spec.specs.Links.{Link}
use Rattle.press_spec.specs.Order.{placed, InOrder}
use Rattle.press_spec.proofs.Ordered.{placed-here}

unfoldable pub sum_over : (ℕ → ℕ) → List ℕ → ℕ
sum_over f [] = 0
sum_over f (n ∷ order) = f n + sum_over f order

unfoldable pub sum_below : (ℕ → ℕ) → ℕ → ℕ
sum_below f zero = 0
sum_below f (suc k) = f k + sum_below f k

pub sum_below-le : (f g : ℕ → ℕ) (k : ℕ) → ((n : ℕ) → n < k → f n ≤ g n) → sum_below f k ≤ sum_below g k
unfolding sum_below
sum_below-le f g zero h = omega arith
sum_below-le f g (suc k) h = omega (arith, h k (omega arith), sum_below-le f g k (λ n i. h n (omega arith)))

pub sum_below-none : (f : ℕ → ℕ) (k : ℕ) → ((n : ℕ) → n < k → f n ≡ 0) → sum_below f k ≡ 0
unfolding sum_below
sum_below-none f zero h = refl
sum_below-none f (suc k) h = omega (arith, h k (omega arith), sum_below-none f k (λ n i. h n (omega arith)))

pub sum_below-ones : (k : ℕ) → sum_below (λ n. 1) k ≡ k
unfolding sum_below
sum_below-ones zero = refl
sum_below-ones (suc k) = omega (arith, sum_below-ones k)

pub sum_below-add : (f g : ℕ → ℕ) (k : ℕ) → sum_below (λ n. f n + g n) k ≡ sum_below f k + sum_below g k
unfolding sum_below
sum_below-add f g zero = refl
sum_below-add f g (suc k) = omega (arith, sum_below-add f g k)

pub sum_over-ones : (order : List ℕ) → sum_over (λ n. 1) order ≡ length order
unfolding sum_over
sum_over-ones [] = refl
sum_over-ones (n ∷ order) = omega (arith, sum_over-ones order)

pub sum_below-first : (f : ℕ → ℕ) (k : ℕ) → sum_below f (suc k) ≡ f 0 + sum_below (λ n. f (suc n)) k
unfolding sum_below
sum_below-first f zero = refl
sum_below-first f (suc k) = omega (arith, sum_below-first f k)

pub steps-below : (s : List Node) → sum_below (λ n. step_of (node_at s n)) (length s) ≡ steps_of s
unfolding steps_of node_at
steps-below [] = unfold sum_below in refl
steps-below (x ∷ s) = sum_below-first (λ n. step_of (node_at (x ∷ s) n)) (length s) ∙ omega (arith, steps-below s)

-- ---- the numbers below k that are placed

module _ (f : ℕ → ℕ) where
  unfoldable pub sum_placed : List ℕ → ℕ → ℕ
  sum_placed order zero = 0
  sum_placed order (suc k) = cond (placed k order) (f k) 0 + sum_placed order k

  placed-le : (order : List ℕ) (k : ℕ) → sum_placed order k ≤ sum_below f k
  unfolding sum_placed sum_below
  placed-le order zero = omega arith
  placed-le order (suc k) = omega (arith, cond_both (λ x. x ≤ f k) (placed k order) (f k) 0 (omega arith) (omega arith), placed-le order k)

  placed-other : (m n : ℕ) (order : List ℕ) → m ≢ n → placed m (n ∷ order) ≡ placed m order
  unfolding placed
  placed-other m n order h = rw (ne_eqb m n h)

  sum-nothing : (k : ℕ) → sum_placed [] k ≡ 0
  unfolding sum_placed placed
  sum-nothing zero = refl
  sum-nothing (suc k) = omega (arith, sum-nothing k)

  sum-above : (n : ℕ) (order : List ℕ) (k : ℕ) → k ≤ n → sum_placed (n ∷ order) k ≡ sum_placed order k
  unfolding sum_placed
  sum-above n order zero h = refl
  sum-above n order (suc k) h = rw (placed-other k n order (omega arith)) (omega (arith, sum-above n order k (omega arith)))

  sum-new : (n : ℕ) (order : List ℕ) (k : ℕ) → n < k → placed n order ≡ false → sum_placed (n ∷ order) k ≡ f n + sum_placed order k
  unfolding sum_placed
  sum-new n order zero h q = absurd (omega arith)
  sum-new n order (suc k) h q = elim (ℕ_discrete k n) [
    | yes e ↦ rw (e, placed-here n order, q) (omega (arith, sum-above n order n (omega arith)))
    | no e ↦ rw (placed-other k n order e) (omega (arith, sum-new n order k (omega arith) q))
  ]

  module _ (s : List Link) (Q : ℕ → Type 0) (k : ℕ) (small : (n : ℕ) → Q n → n < k) where
    pub sum-order : (order : List ℕ) → InOrder s Q order → sum_placed order k ≡ sum_over f order
    unfolding sum_over
    sum-order [] o = sum-nothing k
    sum-order (n ∷ order) o = omega (arith, sum-new n order k (small n o.0) o.1, sum-order order o.3)

    pub order_le : (order : List ℕ) → InOrder s Q order → sum_over f order ≤ sum_below f k
    order_le order o = omega (arith, sum-order order o, placed-le order k)

-- an order of numbers below k has at most k of them
pub order-fits : (s : List Link) (Q : ℕ → Type 0) (k : ℕ) → ((n : ℕ) → Q n → n < k) → (order : List ℕ) → InOrder s Q order → length order ≤ k
order-fits s Q k small order o = omega (arith, order_le (λ n. 1) s Q k small order o, sum_over-ones order, sum_below-ones k)

-- two orders that have the same numbers are equally long
pub same_length : (s : List Link) (Q : ℕ → Type 0) (k : ℕ) → ((n : ℕ) → Q n → n < k) → (one two : List ℕ) → InOrder s Q one → InOrder s Q two
    → ((n : ℕ) → placed n one ≡ placed n two) → length one ≡ length two
unfolding sum_placed
same_length s Q k small one two o p e =
    sym (sum_over-ones one) ∙ sym (sum-order f s Q k small one o) ∙ same k ∙ sum-order f s Q k small two p ∙ sum_over-ones two
  where
    f : ℕ → ℕ
    f n = 1

    same : (k : ℕ) → sum_placed f one k ≡ sum_placed f two k
    same zero = refl
    same (suc k) = rw (e k, same k)
