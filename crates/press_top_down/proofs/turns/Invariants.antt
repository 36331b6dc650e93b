use Prim.Native.Nat.{ℕ, ◌-◌}
use lib.ListN.{length}
use Rattle.press_nodes.specs.Tables.{links_in}
use Rattle.press_nodes.specs.Numbers.{numbers_in}
use Rattle.press_top_down.specs.Scores.{score_in}
use Rattle.press_top_down.specs.Renewed.{Tables, Scored}
use Rattle.press_top_down.proofs.Turning.{Turning}
use Rattle.press_top_down.proofs.turns.Given as goal

abbrev pub invariant-loop-best : goal.invariant-loop-best
invariant-loop-best l =
    Tables l.links l.left l.ahead l.numbers l.rows
    × Turning (links_in l.links) l.initial.left l.left l.ahead (numbers_in l.numbers) l.count
    × ((m : ℕ) → Scored (score_in (links_in l.links) l.left l.ahead (numbers_in l.numbers)) l.rows m)

abbrev pub decreases-loop-best : goal.decreases-loop-best
decreases-loop-best l = length l.links - l.count
