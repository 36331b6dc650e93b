-- Lower the units: the LowerUnits pass of 001, of a proof that step 4 left.
use Rattle.std.specs.Prelude.{ℕ, suc, ◌&&◌, not, cond, List, leb, length}
use Rattle.base.specs.Folds.{fall}
use Rattle.clause.specs.Clauses.{holds}
use Rattle.sheet.specs.Records.{Node, clause, node_at}
use Rattle.press_spec.specs.Links.{links}
use Rattle.press_spec.specs.Trim.{trim, uses_from}
use Rattle.press_spec.specs.Rebuild.{Built, rebuild, Ended}
use Rattle.press_spec.specs.Lower.{Lowered, staying, lowered, single, LoweredOnes, none_lowered, lower, low_at, fates_by}

-- "Collect each node whose clause is a single literal, that has two or more uses, and whose literal's opposite hasn't been collected."
-- (Owed are the opposites of what was collected: l is owed exactly if its opposite was.)
unfoldable pub collect : ℕ → ℕ → Lowered → LoweredOnes → LoweredOnes
collect n uses staying w = w
collect n uses (lowered l) w = cond (leb 2 uses && not (holds l w.owed)) (lower n l w) w

unfoldable pub collect_turn : ℕ → List Node → (ℕ → ℕ) → ℕ → LoweredOnes → LoweredOnes
collect_turn v s count n w = collect n (count n) (single v (clause (node_at s n))) w

-- "From the sink down by number", over v variables
unfoldable pub collected : ℕ → Ended → LoweredOnes
collected v t = fall (collect_turn v t.nodes (uses_from (links t.nodes) t.last)) (suc t.last) (none_lowered (length t.nodes))

-- "Uses of collected nodes are cut; the rebuild rule of 01 follows, over all nodes."
unfoldable pub units_built : ℕ → Ended → Built
units_built v t = let s = links t.nodes in rebuild t.nodes (fates_by (trim s t.last) (low_at (collected v t).low) s)
