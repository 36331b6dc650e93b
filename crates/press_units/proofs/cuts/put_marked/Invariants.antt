use Prim.Native.Nat.{◌≤◌}
use mathlib.Core.Path.{◌≡◌}
use lib.ListN.{length}
use Rattle.press_units.specs.Marks.{fates_marked}
use Rattle.press_units.proofs.Cuttings.{FatedBelow}
use Rattle.press_units.proofs.cuts.put_marked.Given as goal

abbrev pub invariant-loop-i : goal.invariant-loop-i
invariant-loop-i l = (l.i ≤ length l.kept) × (length l.fates ≡ length l.kept) × FatedBelow (fates_marked l.kept) l.i l.fates
