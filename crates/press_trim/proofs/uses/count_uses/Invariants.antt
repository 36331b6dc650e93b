use Prim.Native.Nat.{ℕ, ◌≤◌}
use mathlib.Core.Path.{◌≡◌}
use lib.ListN.{length, get_or}
use Rattle.press_nodes.specs.Tables.{links_in}
use Rattle.press_spec.proofs.Trimmed.{uses_after}
use Rattle.press_trim.proofs.uses.count_uses.Given as goal

abbrev pub invariant-loop-i : goal.invariant-loop-i
invariant-loop-i l =
    (l.i ≤ length l.links) × (length l.counts ≡ length l.links) × ((m : ℕ) → get_or l.counts m 0 ≡ uses_after (links_in l.links) l.kept l.i m)
