use Rattle.std.proofs.Common.{arith}
use Rattle.c_report.proofs.Filled.{words-of-replay}
use Rattle.c_report.proofs.words_of_replay.Goals as goal

pub returns : goal.returns
returns c = rw (c.from.ensures, c.from-2.ensures, c.from-3.ensures) (words-of-replay c.args.replayed ((omega arith, omega arith), (omega arith, omega arith)))
