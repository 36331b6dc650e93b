-- The one public step, again and again: each record of a sheet is lent to it with the state that the record before it left.
use Rattle.std.specs.Prelude.{ℕ, zero, suc, ◌<◌, ◌≡◌, List}
use Rattle.sheet.specs.declared.edition.Edition.{Edition}
use Rattle.sheet.specs.Fields.{record_at}
use Rattle.replay_spec.specs.Step.{State, Step, taken, one_step}

-- the state after the first k records
unfoldable pub after_steps : Edition → List ℕ → List ℕ → State → ℕ → State
after_steps e rules sheet s zero = s
after_steps e rules sheet s (suc k) = (one_step e rules (record_at e sheet k) k (after_steps e rules sheet s k)).state

-- the step's answer to record k after them
abbrev pub answer_at : Edition → List ℕ → List ℕ → State → ℕ → Step
answer_at e rules sheet s k = (one_step e rules (record_at e sheet k) k (after_steps e rules sheet s k)).answer

-- the step takes each of the first k records
abbrev pub FirstTaken : Edition → List ℕ → List ℕ → State → ℕ → Type 0
FirstTaken e rules sheet s k = (j : ℕ) → j < k → answer_at e rules sheet s j ≡ taken
