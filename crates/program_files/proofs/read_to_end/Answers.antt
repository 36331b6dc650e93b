use Rattle.std.proofs.Common.{rules}
use Rattle.program_files.proofs.Reading.{front-more}
use Rattle.program_files.proofs.read_to_end.Goals as goal

pub loop-length-preserved : goal.loop-length-preserved
loop-length-preserved g c = front-more _ _ _ _ _ _ _ (search rules) c.loop-length.invariant c.in_ok-n.ensures.adds
