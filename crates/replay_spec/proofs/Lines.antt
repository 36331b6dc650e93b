-- A replay looks at a rule table through check 4 and the lines that its given records name, and at nothing else of it: what it is that two tables
-- say the same on a line, and what follows of one record. Proved in `Alike`.
use Rattle.std.proofs.Common.{◌≡◌, ℕ, length}
use mathlib.Core.Bool.{true}
use mathlib.Core.List.{List}
use lib.Dec.{ltb}
use Rattle.sheet.specs.declared.edition.Edition.{Edition}
use Rattle.sheet.specs.Records.{given, step, Record, node, drop, reads}
use Rattle.sheet.specs.Fields.{reading, rule_lines, rule_line}
use Rattle.sheet.specs.Checks.{check_table}
use Rattle.replay_spec.specs.Step.{State, one_step}

module _ (e : Edition) (rules rules' : List ℕ) where
  -- the line that a given record names is in both tables or in neither, and says the same; a step and a drop name none
  abbrev pub SameLine : Record → Type 0
  SameLine (node (given line c)) = (ltb line (rule_lines e rules) ≡ ltb line (rule_lines e rules')) × (rule_line e rules line ≡ rule_line e rules' line)
  SameLine (node (step p l r c)) = Unit {0}
  SameLine (drop n) = Unit {0}

  -- one record, lent to the public step with any state: its answer, and the tally and the slots after it
  abbrev pub StepAlike : Type 0
  StepAlike = check_table e (length rules) ≡ check_table e (length rules')
      → (b : List ℕ) (k : ℕ) (s : State) (r : Record) → reading e true b ≡ reads r → SameLine r → one_step e rules b k s ≡ one_step e rules' b k s
