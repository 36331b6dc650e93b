use Rattle.std.proofs.Common.{◌≡◌}
use Rattle.tally.specs.Tally.{nothing}
use Rattle.tally.specs.Said.{tally_of}
use Rattle.replay_spec.specs.Step.{state, stepped}
use Rattle.replay_slots.specs.Said.{row_of, said_of_step}
use Rattle.replay_look.specs.After.{after_records}
use Rattle.replay_look.proofs.look_from.Given as goal

-- what stands is what so many records leave
abbrev pub invariant-loop-k : goal.invariant-loop-k
invariant-loop-k l = stepped (said_of_step l.answer) (state (tally_of l.t) (row_of l.slots)) ≡ after_records l.edition l.rules l.sheet (state nothing (row_of l.fn.slots)) l.k
