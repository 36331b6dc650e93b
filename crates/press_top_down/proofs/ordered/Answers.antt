use Rattle.press_scores.proofs.Found.{blank-scores}
use Rattle.press_top_down.proofs.ordered.Goals as goal

pub turns-requires-clause-by_index : goal.turns-requires-clause-by_index
turns-requires-clause-by_index c = blank-scores
