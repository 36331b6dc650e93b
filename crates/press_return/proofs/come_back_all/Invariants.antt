use Prim.Native.Nat.{suc, ◌≤◌, ◌<◌}
use mathlib.Core.Path.{◌≡◌}
use lib.ListN.{length, take}
use Rattle.base.specs.Folds.{fall}
use Rattle.press_spec.specs.Rebuild.{built}
use Rattle.press_spec.specs.Lower.{low_at, return_turn}
use Rattle.press_nodes.specs.Tables.{nodes_in}
use Rattle.press_lowered.specs.Table.{low_in}
use Rattle.press_return.specs.Returns.{ended_in}
use Rattle.press_return.proofs.come_back_all.Given as goal

abbrev pub invariant-loop-i : goal.invariant-loop-i
invariant-loop-i l =
    (l.i ≤ l.nodes)
    × (length l.links ≡ length l.initial.links)
    × (length l.clauses ≡ length l.initial.clauses)
    × (l.nodes ≤ l.at.nodes)
    × (l.at.nodes ≤ length l.initial.links)
    × (l.at.last.0 < l.at.nodes)
    × (let turn = return_turn (low_at (low_in l.low)) (built (take l.nodes (nodes_in l.initial.links l.initial.clauses)) l.stand_ins) in
    fall turn l.i (ended_in l.at (nodes_in l.links l.clauses)) ≡ fall turn (suc l.fn.from.0) (ended_in l.initial.at (nodes_in l.initial.links l.initial.clauses)))
