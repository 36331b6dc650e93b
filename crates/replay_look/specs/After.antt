-- What stands after so many records, each lent to one step with what the one before it left.
use Rattle.std.specs.Prelude.{ℕ, zero, suc, List, get_or}
use Rattle.sheet.specs.declared.edition.Edition.{Edition}
use Rattle.sheet.specs.Fields.{record_at}
use Rattle.tally.specs.Tally.{Tally}
use Rattle.tally.specs.Said.{tally_of}
use Rattle.replay_spec.specs.Slots.{Slot, empty}
use Rattle.replay_spec.specs.Step.{State, Step, taken, Stepped, stepped, one_step}
use Rattle.replay_spec.specs.Steps.{after_steps}
use Rattle.replay_slots.specs.Said.{said_of_step, slot_of, SlotFits}
use Rattle.replay_look.specs.declared.Look.{Look as CodeLook}

-- the last record's answer, and the tally and the slots then; with no record, nothing is refused
unfoldable pub after_records : Edition → List ℕ → List ℕ → State → ℕ → Stepped
after_records e rules sheet s zero = stepped taken s
after_records e rules sheet s (suc k) = one_step e rules (record_at e sheet k) k (after_steps e rules sheet s k)

-- of the slots, one; past the row, an empty one
pub record Look : Type 0 where
  pub answer : Step
  pub tally : Tally
  pub slot : Slot

abbrev pub look : Step → Tally → Slot → Look
look a t s = record { answer = a; tally = t; slot = s }

unfoldable pub look_at : ℕ → Stepped → Look
look_at at a = look a.answer a.state.tally (get_or a.state.slots at empty)

abbrev pub look_of : CodeLook → Look
look_of l = look (said_of_step l.answer) (tally_of l.tally) (slot_of l.slot)

-- each word of it is one that the machine can hold
abbrev pub LookFits : CodeLook → Type 0
LookFits l = SlotFits l.slot
