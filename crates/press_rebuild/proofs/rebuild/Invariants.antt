use Prim.Native.Nat.{◌≤◌}
use mathlib.Core.Path.{◌≡◌}
use lib.ListN.{length, replicate}
use Rattle.base.specs.Folds.{rise}
use Rattle.press_spec.specs.Rebuild.{built, rebuild_turn}
use Rattle.press_nodes.specs.Tables.{nodes_in}
use Rattle.press_nodes.specs.Fates.{fates_in}
use Rattle.press_rebuild.proofs.rebuild.Given as goal

abbrev pub invariant-loop-i : goal.invariant-loop-i
invariant-loop-i l =
    (l.i ≤ length l.initial.links)
    × (length l.links ≡ length l.initial.links)
    × (length l.clauses ≡ length l.initial.clauses)
    × (length l.stand_ins ≡ length l.initial.links)
    × (built (nodes_in l.links l.clauses) l.stand_ins
    ≡ rise (rebuild_turn (nodes_in l.initial.links l.initial.clauses) (fates_in l.fates)) l.i
    (built (nodes_in l.initial.links l.initial.clauses) (replicate (length (nodes_in l.initial.links l.initial.clauses)) 0)))
