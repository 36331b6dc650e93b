use Prim.Native.Nat.{suc, ◌≤◌}
use mathlib.Core.Path.{◌≡◌}
use lib.ListN.{length}
use Rattle.base.specs.Folds.{fall}
use Rattle.clause.specs.Denote.{literals_of}
use Rattle.press_spec.specs.Lower.{lowered_ones}
use Rattle.press_lowered.specs.Table.{low_in}
use Rattle.press_units.specs.Turns.{collect_in}
use Rattle.press_units.proofs.collect.collect_units.Given as goal

abbrev pub invariant-loop-i : goal.invariant-loop-i
invariant-loop-i l =
    (l.i ≤ length l.uses)
    × (length l.low ≡ length l.uses)
    × (fall (collect_in l.variables l.clauses l.uses) l.i (lowered_ones (low_in l.low) (literals_of l.owed)) ≡ fall (collect_in l.variables l.clauses l.uses) (suc l.fn.from.0) (lowered_ones (low_in l.initial.low) (literals_of l.initial.owed)))
