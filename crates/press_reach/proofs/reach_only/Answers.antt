use Rattle.press_reach.proofs.Reaches.{reach_start}
use Rattle.press_reach.proofs.reach_only.Goals as goal

pub returns : goal.returns
returns c = let cleared = c.fill.ensures.after (λ y q. q) in search reach_start
