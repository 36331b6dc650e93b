-- The numbers and the sets of proper nodes fit the bytes of a record, and so do those of their drops.
use Prim.Native.Nat.{ℕ, ◌≤◌, ◌<◌}
use mathlib.Core.List.{List}
use native.Mathlib.Omega.{arith}
use lib.ListN.{length, get_or}
use Rattle.clause.proofs.Clauses.{below-resolvent}
use Rattle.sheet.specs.declared.edition.Edition.{Edition}
use Rattle.sheet.specs.Editions.{variables}
use Rattle.sheet.specs.Records.{Node, given, step, node, clause, node_at}
use Rattle.sheet.specs.Fields.{rule_lines}
use Rattle.sheet.specs.Fitting.{Fits, Fitting}
use Rattle.sheet.specs.Proper.{record_in}
use Rattle.sheet.proofs.RecordBytes.{rule_line-below}
use Rattle.press_spec.specs.Drops.{with_drops}
use Rattle.press_spec.proofs.Proper.{ProperNode, AllProper}
use Rattle.press_spec.proofs.Nodes.{by-rising, proper-falling}
use Rattle.press_spec.proofs.Drops.{with_drops-dropping, each-dropping, used-early}

module _ (e : Edition) (rules : List ℕ) (bytes : (i : ℕ) → get_or rules i 0 < 256) (s : List Node) (proper : AllProper e rules s) where
  clause-fits : (n : ℕ) (x : Node) → ProperNode e rules s n x → ((m : ℕ) → m < n → Fits e (clause (node_at s m))) → Fits e (clause x)
  unfolding clause
  clause-fits n (given line c) d below = rw d.1 (rule_line-below e rules line bytes)
  clause-fits n (step p l r c) d below = rw d.5 (below-resolvent (variables e) p _ _ (below l d.1) (below r d.2))

  clauses-fit : (n : ℕ) → n < length s → Fits e (clause (node_at s n))
  clauses-fit =
      by-rising (λ n. n < length s → Fits e (clause (node_at s n)))
      (λ n below h. clause-fits n (node_at s n) (proper n h) (λ m i. below m i (omega arith)))

  module _ (lines : rule_lines e rules ≤ 65536) (few : length s ≤ 65536) where
    node-fitting : (n : ℕ) → n < length s → (x : Node) → ProperNode e rules s n x → Fits e (clause x) → Fitting e (node x)
    unfolding clause
    node-fitting n h (given line c) d f = (omega (arith, d.0), f)
    node-fitting n h (step p l r c) d f = (d.0, omega (arith, d.1), omega (arith, d.2), f)

    pub with_drops-fitting : (k : ℕ) → k < length (with_drops s) → Fitting e (record_in (with_drops s) k)
    with_drops-fitting =
        each-dropping s (with_drops s) (with_drops-dropping s) (Fitting e)
        (λ n h. node-fitting n h (node_at s n) (proper n h) (clauses-fit n h))
        (λ j u. omega (arith, used-early s (proper-falling e rules s proper) j u))
