use Prim.Native.Nat.{ℕ, ◌≤◌}
use mathlib.Core.Path.{◌≡◌}
use lib.ListN.{length}
use Rattle.press_nodes.specs.Tables.{links_in}
use Rattle.press_used.specs.Table.{use_at}
use Rattle.press_used.proofs.Walked.{used_after}
use Rattle.press_used.proofs.walk.used_on.Given as goal

abbrev pub invariant-loop-i : goal.invariant-loop-i
invariant-loop-i l =
    (l.i ≤ length l.links) × (length l.used ≡ length l.links) × ((m : ℕ) → use_at l.used m ≡ used_after (links_in l.links) l.kept l.i m)
