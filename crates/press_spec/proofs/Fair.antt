-- What the walk of recycling asks of a way to fit sets to nodes, and that both ways that can be chosen are such.
use Prim.Native.Nat.{ℕ, ◌≤◌}
use mathlib.Core.Bool.{Bool, true, false, cond}
use mathlib.Core.Path.{◌≡◌, refl}
use native.Mathlib.Omega.{arith}
use lib.Dec.{ltb}
use borrow.Author.Tests.{ltb-true}
use Rattle.clause.specs.Clauses.{Literals, none, Within}
use Rattle.press_spec.specs.declared.Recycling.{Recycling}
use Rattle.press_spec.specs.declared.Recycling.TheVariants.{Reset, Intersection}
use Rattle.press_spec.specs.Recycle.{Reach, unreached, reached, Fit, reset, intersect, fit_of}
use Rattle.press_spec.proofs.Literals.{in-none, in-common}

-- what a node gets lies in what it is handed, and in what it had if it was reached before: that happens only to one with two or more uses
pub record Fair (count : ℕ → ℕ) (fit : Fit) : Type 0 where
  pub once : (n : ℕ) (before : Reach) (S : Literals) → Within (fit n before S) S
  pub again : (n : ℕ) (R S : Literals) → 2 ≤ count n → Within (fit n (reached R) S) R

reset-fair : (count : ℕ → ℕ) → Fair count (reset count)
unfolding reset
reset-fair count = record {
  once = λ n before S. first (ltb (count n) 2) S;
  again = λ n R S h. second n R S h (ltb (count n) 2) refl;
}
  where
    first : (u : Bool) (S : Literals) → Within (cond u S none) S
    first true S x h = h
    first false S x h = absurd (in-none x h)

    second : (n : ℕ) (R S : Literals) → 2 ≤ count n → (u : Bool) → ltb (count n) 2 ≡ u → Within (cond u S none) R
    second n R S h true q x t = absurd (omega (arith, ltb-true (count n) 2 q))
    second n R S h false q x t = absurd (in-none x t)

pub intersect-fair : (count : ℕ → ℕ) → Fair count intersect
unfolding intersect
intersect-fair count = record {
  once = first;
  again = λ n R S h x t. (in-common x R S t).0;
}
  where
    first : (n : ℕ) (before : Reach) (S : Literals) → Within (intersect n before S) S
    first n unreached S x t = t
    first n (reached R) S x t = (in-common x R S t).1

pub chosen-fair : (how : Recycling) (count : ℕ → ℕ) → Fair count (fit_of how count)
unfolding fit_of
chosen-fair Reset count = reset-fair count
chosen-fair Intersection count = intersect-fair count
