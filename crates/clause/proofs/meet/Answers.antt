use mathlib.Core.Path.{sym}
use native.Mathlib.Omega.{arith}
use Rattle.clause.specs.Sets.{meet}
use Rattle.clause.proofs.Blocks.{meet-block}
use Rattle.clause.proofs.meet.Goals as goal

pub returns : goal.returns
unfolding meet
returns c = let x = c.args in sym (meet-block 64 x.a.high x.b.high x.a.low x.b.low (omega arith) (omega arith))
