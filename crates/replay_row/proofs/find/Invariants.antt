use Rattle.std.proofs.Common.{ℕ, ◌≡◌, ◌<◌, false, get_or}
use Rattle.replay_spec.specs.Slots.{empty}
use Rattle.replay_slots.specs.Looks.{is_sought}
use Rattle.replay_slots.specs.Said.{row_of, sought_of}
use Rattle.replay_row.proofs.find.Given as goal

-- no slot before i is the one sought
abbrev pub invariant-loop-i : goal.invariant-loop-i
invariant-loop-i l = (k : ℕ) → k < l.i → is_sought (sought_of l.sought) (get_or (row_of l.slots) k empty) ≡ false
