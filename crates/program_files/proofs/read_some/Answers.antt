use Rattle.std.proofs.Common.{arith, rules}
use Rattle.program_files.proofs.Reading.{adds-part}
use Rattle.program_files.proofs.read_some.Goals as goal

pub returns-clause-adds : goal.returns-clause-adds
returns-clause-adds g c = adds-part c.read.result _ _ _ _ _ _ (omega arith) (search rules) c.read.ensures.bound c.read.ensures.bytes
