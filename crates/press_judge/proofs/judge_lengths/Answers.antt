use Rattle.std.proofs.Common.{ℕ, sym, ap, ◌∙◌}
use Rattle.sheet.specs.Editions.{press_records}
use Rattle.sheet.specs.Checks.{check_lengths}
use Rattle.sheet.proofs.Fine.{lengths-fine}
use Rattle.press_judge.proofs.judge_lengths.Goals as goal

pub check_room-requires : goal.check_room-requires
check_room-requires c =
    let same = ap (λ (most : ℕ). check_lengths c.args.edition most c.args.sheet c.args.rules) c.press_records.ensures in
    let l = lengths-fine c.args.edition (press_records c.args.edition) _ _ (sym (c.check_lengths.ensures ∙ same) ∙ c.in_ok-check_lengths.was) in
    (l.1, l.2)
