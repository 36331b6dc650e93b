use Rattle.std.proofs.Common.{◌≡◌, ◌≤◌, length}
use Rattle.replay_slots.specs.Said.{row_of}
use Rattle.replay_row.proofs.Cells.{swept}
use Rattle.replay_row.proofs.clear.Given as goal

-- the first so many slots are freed, and the others are as they were
abbrev pub invariant-loop-at : goal.invariant-loop-at
invariant-loop-at l = record { upto : l.at ≤ length l.fn.slots; long : length l.slots ≡ length l.fn.slots; freed : row_of l.slots ≡ swept l.at (row_of l.fn.slots) }
