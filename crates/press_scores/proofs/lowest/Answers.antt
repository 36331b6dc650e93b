use native.Mathlib.Omega.{arith}
use Rattle.clause.specs.Denote.{word}
use Rattle.press_scores.proofs.Zeros.{trailing-lowest}
use Rattle.press_scores.proofs.lowest.Goals as goal

pub returns : goal.returns
returns c = trailing-lowest word c.args.bits (omega arith) c.requires
