use Prim.Native.Nat.{◌≤◌}
use mathlib.Core.Path.{◌≡◌}
use lib.ListN.{length, replicate}
use Rattle.base.specs.Folds.{rise}
use Rattle.clause.specs.Denote.{literals_of}
use Rattle.press_spec.specs.Rebuild.{built}
use Rattle.press_spec.specs.Lower.{lowered_ones, none_lowered}
use Rattle.press_spec.specs.Univalents.{risen_to, rise_turn}
use Rattle.press_nodes.specs.Tables.{nodes_in}
use Rattle.press_lowered.specs.Table.{low_in}
use Rattle.press_used.specs.Table.{use_at}
use Rattle.press_univalents.proofs.rise.rise.Given as goal

abbrev pub invariant-loop-i : goal.invariant-loop-i
invariant-loop-i l =
    (l.i ≤ length l.initial.links)
    × (length l.links ≡ length l.initial.links)
    × (length l.clauses ≡ length l.initial.clauses)
    × (length l.low ≡ length l.initial.links)
    × (length l.stand_ins ≡ length l.initial.links)
    × (risen_to (built (nodes_in l.links l.clauses) l.stand_ins) (lowered_ones (low_in l.low) (literals_of l.owed))
    ≡ rise (rise_turn l.kept (nodes_in l.initial.links l.initial.clauses) (use_at l.used)) l.i
    (risen_to (built (nodes_in l.initial.links l.initial.clauses) (replicate (length (nodes_in l.initial.links l.initial.clauses)) 0)) (none_lowered (length (nodes_in l.initial.links l.initial.clauses)))))
