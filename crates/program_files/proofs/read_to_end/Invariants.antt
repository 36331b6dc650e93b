use Rattle.std.proofs.Common.{◌-◌}
use Rattle.program_files.proofs.Reading.{Front}
use Rattle.program_files.proofs.read_to_end.Given as goal

abbrev pub invariant-loop-length : goal.invariant-loop-length
invariant-loop-length g l = Front (g.F.Read.remaining l.initial.file) (g.F.Read.remaining l.file) l.length l.start

abbrev pub decreases-loop-length : goal.decreases-loop-length
decreases-loop-length g l = 9223372036854775808 - l.length
