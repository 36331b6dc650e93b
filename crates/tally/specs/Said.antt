-- The tally that the code's is.
use Rattle.std.specs.Prelude.{◌<◌, ◌≤◌}
use Rattle.sheet.specs.Editions.{most_records}
use Rattle.tally.specs.declared.Tally.{Tally as CodeTally}
use Rattle.tally.specs.Tally.{Tally}

abbrev pub tally_of : CodeTally → Tally
tally_of t = record { next = t.next; held = t.held; peak = t.peak; steps = t.steps }

-- a tally on which one record more can be counted: no number runs over
abbrev pub Countable : CodeTally → Type 0
Countable t = (t.next < most_records) × (t.held ≤ t.next) × (t.steps ≤ t.next)
