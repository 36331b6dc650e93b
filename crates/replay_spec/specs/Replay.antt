-- The whole replay: checks 1 to 4, then record by record, then 16.
use Rattle.std.specs.Prelude.{ℕ, zero, suc, ◌/◌, List, length, Ok, Err}
use Rattle.clause.specs.Clauses.{Literals}
use Rattle.sheet.specs.declared.Reason.TheVariants.{NotHeld}
use Rattle.sheet.specs.declared.edition.Edition.{Edition}
use Rattle.sheet.specs.Editions.{record_bytes, replay_records}
use Rattle.sheet.specs.Reasons.{Verdict, number_of}
use Rattle.sheet.specs.Fields.{record_at}
use Rattle.sheet.specs.Checks.{check_lengths}
use Rattle.tally.specs.Tally.{Tally, nothing}
use Rattle.replay_spec.specs.Slots.{Slot, Place, nowhere, at, look, last_of, cleared}
use Rattle.replay_spec.specs.Step.{State, state, goes, stops, turn}

-- "An accepted replay returns the conclusion, the nodes, the steps it took and the peak it reached."
pub record Result : Type 0 where
  pub conclusion : Literals
  pub nodes : ℕ
  pub steps : ℕ
  pub peak : ℕ

-- a refusal has the paper's number of its reason, and the record's
pub data Answer : Type 0 where
  refused : ℕ → ℕ → Answer
  accepted : Result → Answer

-- 16: at the end the last node isn't held. It reports the count of records.
unfoldable pub by_last : ℕ → Tally → Place → Answer
by_last k t nowhere = refused (number_of NotHeld) k
by_last k t (at i s) = accepted (record { conclusion = s.clause; nodes = t.next; steps = t.steps; peak = t.peak })

unfoldable pub ending : ℕ → State → Answer
ending k s = by_last k s.tally (look (last_of s.tally.next) s.slots)

-- m records, the first of them number k
unfoldable pub run : Edition → List ℕ → List ℕ → ℕ → ℕ → State → Answer
run e rules sheet zero k s = ending k s
run e rules sheet (suc m) k s =
    elim (turn e rules (record_at e sheet k) s) [ goes t ↦ run e rules sheet m (suc k) t | stops why ↦ refused (number_of why) k ]

-- where they stop: "a refused record changes neither tally nor slots"
unfoldable pub stopped : Edition → List ℕ → List ℕ → ℕ → ℕ → State → State
stopped e rules sheet zero k s = s
stopped e rules sheet (suc m) k s =
    elim (turn e rules (record_at e sheet k) s) [ goes t ↦ stopped e rules sheet m (suc k) t | stops why ↦ s ]

-- what they come to: the answer, and the tally and the slots where they stop
pub record Ran : Type 0 where
  pub answer : Answer
  pub state : State

abbrev pub ran : Answer → State → Ran
ran a s = record { answer = a; state = s }

abbrev pub ran_through : Edition → List ℕ → List ℕ → ℕ → ℕ → State → Ran
ran_through e rules sheet m k s = ran (run e rules sheet m k s) (stopped e rules sheet m k s)

unfoldable pub start : List Slot → State
start slots = state nothing (cleared slots)

pub record Outcome : Type 0 where
  pub answer : Answer
  pub slots : List Slot

abbrev pub outcome : Answer → List Slot → Outcome
outcome a slots = record { answer = a; slots = slots }

-- "A replay refused by 1 to 4 leaves the slots alone; every other replay, accepted too, ends with all slots free and zero."
unfoldable pub by_lengths : Edition → List ℕ → List ℕ → List Slot → Verdict → Outcome
by_lengths e sheet rules slots (Ok tt) = outcome (run e rules sheet (length sheet / record_bytes e) 0 (start slots)) (cleared slots)
by_lengths e sheet rules slots (Err why) = outcome (refused (number_of why) 0) slots

unfoldable pub replay : Edition → List ℕ → List ℕ → List Slot → Outcome
replay e sheet rules slots = by_lengths e sheet rules slots (check_lengths e (replay_records e) (length sheet) (length rules))
