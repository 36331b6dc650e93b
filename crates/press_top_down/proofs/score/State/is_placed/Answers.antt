use Rattle.press_top_down.proofs.Scoring.{place-marks}
use Rattle.press_top_down.proofs.score.State.is_placed.Goals as goal

pub returns : goal.returns
returns c = place-marks c.args.self.now.numbers.now _ _ _ c.index.ensures c.requires c.is_some.ensures
