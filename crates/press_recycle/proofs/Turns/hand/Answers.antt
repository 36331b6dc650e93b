use Rattle.press_recycle.proofs.Recycles.{hand-fitted}
use Rattle.press_recycle.proofs.Turns.hand.Goals as goal

pub returns-clause-reaches : goal.returns-clause-reaches
returns-clause-reaches c = search hand-fitted
