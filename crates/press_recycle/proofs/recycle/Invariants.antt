use Prim.Native.Nat.{◌≤◌}
use mathlib.Core.Path.{◌≡◌}
use lib.ListN.{length}
use Rattle.base.specs.Folds.{fall}
use Rattle.press_spec.specs.Recycle.{fit_of, recycle_turn}
use Rattle.press_nodes.specs.Tables.{links_in}
use Rattle.press_reach.specs.Reaches.{reaches_in}
use Rattle.press_recycle.specs.Passes.{count_in, Fated}
use Rattle.press_recycle.proofs.recycle.Given as goal

abbrev pub invariant-loop-i : goal.invariant-loop-i
invariant-loop-i l = (l.i ≤ length l.links)
    × (length l.fates ≡ length l.links)
    × (length l.sets ≡ length l.links)
    × (fall (recycle_turn (fit_of l.fn.how (count_in l.uses)) (links_in l.links)) l.i (reaches_in l.fates l.sets)
    ≡ fall (recycle_turn (fit_of l.fn.how (count_in l.uses)) (links_in l.links)) (length l.links) (reaches_in l.initial.fates l.initial.sets))
    × Fated (links_in l.links) l.fates l.sets l.i
