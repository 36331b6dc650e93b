use Prim.Native.Nat.{suc, ◌≤◌}
use mathlib.Core.Path.{◌≡◌}
use lib.ListN.{length}
use Rattle.base.specs.Folds.{fall}
use Rattle.press_nodes.specs.Tables.{links_in}
use Rattle.press_spec.specs.Trim.{trim_turn}
use Rattle.press_trim.proofs.trim.trim.Given as goal

abbrev pub invariant-loop-i : goal.invariant-loop-i
invariant-loop-i l =
    (l.i ≤ length l.links) × (length l.kept ≡ length l.links) × (fall (trim_turn (links_in l.links)) l.i l.kept ≡ fall (trim_turn (links_in l.links)) (suc l.fn.from.0) l.initial.kept)
