use Rattle.std.proofs.Common.{arith}
use Rattle.c_report.proofs.Filled.{words-of-press}
use Rattle.c_report.proofs.words_of_press.Goals as goal

pub returns : goal.returns
returns c = rw (c.from.ensures, c.from-2.ensures, c.from-3.ensures, c.from-4.ensures, c.from-5.ensures) (words-of-press c.args.pressed _ ((omega arith, omega arith), (omega arith, omega arith)) c.order_number.ensures)
