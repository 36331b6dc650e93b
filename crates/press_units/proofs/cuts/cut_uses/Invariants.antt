use Prim.Native.Nat.{◌≤◌}
use mathlib.Core.Path.{◌≡◌}
use lib.ListN.{length}
use Rattle.press_spec.specs.Lower.{low_at}
use Rattle.press_nodes.specs.Tables.{links_in}
use Rattle.press_lowered.specs.Table.{low_in}
use Rattle.press_units.proofs.Cuttings.{CutBelow}
use Rattle.press_units.proofs.cuts.cut_uses.Given as goal

abbrev pub invariant-loop-i : goal.invariant-loop-i
invariant-loop-i l =
    (l.i ≤ length l.links) × (length l.fates ≡ length l.links) × CutBelow (links_in l.links) (low_at (low_in l.low)) l.initial.fates l.i l.fates
