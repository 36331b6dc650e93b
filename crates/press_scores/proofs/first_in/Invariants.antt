use Rattle.std.proofs.Common.{◌≡◌, ℕ, false, ◌<◌, ◌*◌}
use Rattle.clause.specs.Denote.{word}
use Rattle.press_scores.specs.Rows.{in_row}
use Rattle.press_scores.proofs.first_in.Given as goal

abbrev pub invariant-loop-w : goal.invariant-loop-w
invariant-loop-w l = (m : ℕ) → m < l.w * word → in_row l.rows l.g m ≡ false
