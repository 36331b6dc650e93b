use Rattle.std.proofs.Common.{◌≡◌, ℕ, false, ◌<◌, ◌≤◌}
use Rattle.press_scores.specs.Rows.{in_row}
use Rattle.press_scores.proofs.highest.Given as goal

abbrev pub invariant-loop-score : goal.invariant-loop-score
invariant-loop-score l = (m h : ℕ) → l.score < h → h ≤ 3 → in_row l.rows h m ≡ false
