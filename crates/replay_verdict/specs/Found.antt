-- The checks of a record that reads, on the places that looks through the row have found (`check_record` has them over the row itself).
use Rattle.std.specs.Prelude.{ℕ, List, [], ◌∷◌, Ok}
use Rattle.sheet.specs.declared.Reason.{Reason}
use Rattle.sheet.specs.declared.Reason.TheVariants.{Dropped, Full}
use Rattle.sheet.specs.declared.edition.Edition.{Edition}
use Rattle.sheet.specs.Reasons.{Verdict, unless}
use Rattle.sheet.specs.Records.{given, step, Record, node, drop}
use Rattle.sheet.specs.Checks.{check_earlier, check_step, check_given}
use Rattle.replay_spec.specs.Slots.{Place, is_place, slot_in}
use Rattle.replay_spec.specs.Step.{first_of}

unfoldable pub check_place : Reason → Place → Verdict
check_place why p = unless (is_place p) why (Ok tt)

unfoldable pub check_found : Edition → List ℕ → ℕ → Record → Place → Place → Place → Verdict
check_found e rules next (node (given line c)) left right vacant = first_of (check_given e rules line c ∷ check_place Full vacant ∷ [])
check_found e rules next (node (step p l r c)) left right vacant =
    first_of
    (check_earlier next l
    ∷ check_earlier next r
    ∷ check_place Dropped left
    ∷ check_place Dropped right
    ∷ check_step p (slot_in left).clause (slot_in right).clause c
    ∷ check_place Full vacant
    ∷ [])
check_found e rules next (drop n) left right vacant = first_of (check_earlier next n ∷ check_place Dropped left ∷ [])
