-- What the code's values are, and what a step's answer says: the paper's number and values for each case.
use Rattle.std.specs.Prelude.{List, [], ◌∷◌, map, Ok, Err, ⊤, None, Some}
use Rattle.std.specs.declared.option.Option.{Option}
use Rattle.std.specs.declared.result.Result.{Result}
use Rattle.clause.specs.Denote.{literals_of, ClauseFits}
use Rattle.sheet.specs.declared.Reason.{Reason}
use Rattle.sheet.specs.Reasons.{Verdict, number_of}
use Rattle.tally.specs.Tally.{Tally}
use Rattle.tally.specs.Said.{tally_of}
use Rattle.replay_slots.specs.declared.Slot.{Slot as CodeSlot}
use Rattle.replay_slots.specs.declared.Place.{Place as CodePlace}
use Rattle.replay_slots.specs.declared.Sought.{Sought as CodeSought}
use Rattle.replay_slots.specs.declared.Sought.TheVariants as L
use Rattle.replay_slots.specs.declared.Taken.{Taken}
use Rattle.replay_slots.specs.declared.Untaken.{Untaken}
use Rattle.replay_slots.specs.declared.Untaken.TheVariants as U
use Rattle.replay_spec.specs.Slots.{Slot, slot, Place, nowhere, at, Sought, nothing, vacancy, holder}
use Rattle.replay_spec.specs.Step.{Step, taken, refused, unfit}

abbrev pub slot_of : CodeSlot → Slot
slot_of s = slot s.used s.node (literals_of s.clause)

-- the row that a lent slice of slots is
unfoldable pub row_of : List CodeSlot → List Slot
row_of slots = map slot_of slots

-- each word of a slot, and of a row of slots, is one that the machine can hold
abbrev pub SlotFits : CodeSlot → Type 0
SlotFits s = ClauseFits s.clause

abbrev pub RowFits : List CodeSlot → Type 0
RowFits [] = Unit {0}
RowFits (s ∷ slots) = SlotFits s × RowFits slots

abbrev pub place_of : Option CodePlace → Place
place_of None = nowhere
place_of (Some p) = at p.at.0 (slot_of p.slot)

abbrev pub sought_of : CodeSought → Sought
sought_of L.Nothing = nothing
sought_of L.Free = vacancy
sought_of (L.Node n) = holder n.0

-- what is decided on: what the checks say, the tally then, and where a slot is put
pub record Decided : Type 0 where
  pub verdict : Verdict
  pub tally : Tally
  pub place : Place

-- a record that is not taken leaves the tally t, and no slot is put
abbrev pub decided_of : Tally → Result Taken Reason → Decided
decided_of t (Ok d) = record { verdict = Ok tt; tally = tally_of d.tally; place = place_of d.place }
decided_of t (Err why) = record { verdict = Err why; tally = t; place = nowhere }

abbrev pub StepAnswer : Type 0
StepAnswer = Result ⊤ Untaken

unfoldable pub said_of_step : StepAnswer → Step
said_of_step (Ok tt) = taken
said_of_step (Err (U.Refused r)) = refused (number_of r.why) r.at.0
said_of_step (Err U.Unfit) = unfit
