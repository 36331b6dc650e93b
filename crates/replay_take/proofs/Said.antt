-- What `decide` says of what is found in the row, once its slot is put there, is what the record comes to.
use Rattle.std.proofs.Common.{◌≡◌, ℕ, true, List, ap, ◌∙◌}
use Rattle.sheet.specs.declared.edition.Edition.{Edition}
use Rattle.sheet.specs.Records.{Reading as RecordReading}
use Rattle.sheet.specs.Fields.{reading}
use Rattle.tally.specs.declared.Tally.{Tally}
use Rattle.tally.specs.Said.{tally_of}
use Rattle.replay_spec.specs.Slots.{Place as RowPlace, Sought, look}
use Rattle.replay_spec.specs.Step.{State, state, turn, by_reading, by_turn}
use Rattle.replay_slots.specs.declared.Slot.{Slot}
use Rattle.replay_slots.specs.Said.{row_of, Decided}
use Rattle.replay_sought.specs.Sought.{left_sought, right_sought, room_sought}
use Rattle.replay_decide.specs.Decides.{decided}
use Rattle.replay_decide.proofs.Deciding.{comes_to, decides}

module _ (edition : Edition) (rules bytes : List ℕ) (ys : List Slot) (h : Tally) where
  abbrev before : State
  before = state (tally_of h) (row_of ys)

  -- what is looked for, and what is found, for the left parent, the right one and a new node
  pub says_so : {w : RecordReading} → w ≡ reading edition true bytes → {l r v : Sought} → l ≡ left_sought w → r ≡ right_sought w → v ≡ room_sought w
      → {left right vacant : RowPlace} → left ≡ look l (row_of ys) → right ≡ look r (row_of ys) → vacant ≡ look v (row_of ys)
      → {d : Decided} → d ≡ decided edition rules (tally_of h) w left right vacant → comes_to d (row_of ys) ≡ by_turn before (turn edition rules bytes before)
  unfolding turn
  says_so {w = w} read p q o e-left e-right e-vacant e =
      ap (λ (x : Decided). comes_to x (row_of ys)) (e ∙ (λ i. decided edition rules (tally_of h) w (found p e-left i) (found q e-right i) (found o e-vacant i)))
      ∙ decides edition rules before w
      ∙ (λ i. by_turn before (by_reading edition rules before (read i)))
    where
      found : {x y : Sought} → x ≡ y → {place : RowPlace} → place ≡ look x (row_of ys) → place ≡ look y (row_of ys)
      found e f = f ∙ ap (λ (z : Sought). look z (row_of ys)) e
