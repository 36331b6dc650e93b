-- Every node that `from` reaches is placed by an order that ends with `from`: what is laid out counts no less than what the trim keeps.
use Prim.Native.Nat.{ℕ, zero, suc, ◌≤◌, ◌<◌}
use mathlib.Core.Bool.{Bool, true, false, cond}
use mathlib.Core.Path.{◌≡◌, refl}
use mathlib.Core.List.{List}
use native.Mathlib.Omega.{arith}
use lib.Dec.{eqb}
use lib.ListN.{get_or}
use borrow.Author.Tests.{eqb-false}
use Rattle.sheet.specs.Records.{Node}
use Rattle.press_spec.specs.Links.{links}
use Rattle.press_spec.specs.Trim.{trim}
use Rattle.press_spec.specs.Order.{placed}
use Rattle.press_spec.proofs.Ordered.{Ordering}
use Rattle.press_spec.proofs.Counted.{sum_over, sum_below, sum_placed, sum-order}
use Rattle.press_spec.proofs.Finished.{ordering-reached}
use Rattle.press_spec.proofs.Reached.{marked-reached}
use Rattle.press_spec.proofs.Lessened.{if_marked}

module _ (s : List Node) (Q : ℕ → Type 0) (from : ℕ) (order : List ℕ) (o : Ordering (links s) Q from order) where
  module _ (v : ℕ → ℕ) where
    covers : (n : ℕ) → if_marked (trim (links s) from) v n ≤ cond (placed n order) (v n) 0
    unfolding if_marked
    covers n = by (eqb (get_or (trim (links s) from) n 0) 0) refl
      where
        by : (u : Bool) → eqb (get_or (trim (links s) from) n 0) 0 ≡ u → cond u 0 (v n) ≤ cond (placed n order) (v n) 0
        by true q = omega arith
        by false q =
            rw (ordering-reached (links s) Q from order o n (marked-reached (links s) from n (omega (arith, eqb-false (get_or (trim (links s) from) n 0) 0 q)))) (omega arith)

    covers-all : (k : ℕ) → sum_below (if_marked (trim (links s) from) v) k ≤ sum_placed v order k
    unfolding sum_below sum_placed
    covers-all zero = omega arith
    covers-all (suc k) = omega (arith, covers k, covers-all k)

    pub order-covers : (k : ℕ) → ((n : ℕ) → Q n → n < k) → sum_below (if_marked (trim (links s) from) v) k ≤ sum_over v order
    order-covers k small = omega (arith, covers-all k, sum-order v (links s) Q k small order o.each)
