use mathlib.Core.Path.{sym}
use native.Mathlib.Omega.{arith}
use Rattle.clause.specs.Sets.{union}
use Rattle.clause.proofs.Blocks.{union-block}
use Rattle.clause.proofs.union.Goals as goal

pub returns : goal.returns
unfolding union
returns c = let x = c.args in sym (union-block 64 x.a.high x.b.high x.a.low x.b.low (omega arith) (omega arith))
