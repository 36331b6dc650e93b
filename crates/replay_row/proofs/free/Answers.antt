use Rattle.replay_spec.specs.Slots.{put}
use Rattle.replay_row.proofs.free.Goals as goal

pub returns : goal.returns
unfolding put
returns c = simp c.empty.ensures at c.put.ensures
