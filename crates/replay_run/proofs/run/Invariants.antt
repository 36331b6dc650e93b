use Rattle.tally.specs.Tally.{nothing}
use Rattle.tally.specs.Said.{tally_of}
use Rattle.replay_spec.specs.Step.{state}
use Rattle.replay_slots.specs.Said.{row_of}
use Rattle.replay_take.proofs.Going.{Goes}
use Rattle.replay_run.proofs.run.Given as goal

abbrev pub invariant-loop-k : goal.invariant-loop-k
invariant-loop-k l = Goes l.edition l.rules l.sheet (state nothing (row_of l.fn.slots)) l.k (state (tally_of l.t) (row_of l.slots))
