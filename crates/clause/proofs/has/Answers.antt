use mathlib.Core.Path.{sym}
use native.Mathlib.Omega.{arith}
use Rattle.clause.specs.Sets.{has}
use Rattle.clause.specs.Denote.{width, set_of}
use Rattle.clause.proofs.Sets.{has-past}
use Rattle.clause.proofs.Blocks.{has-low, has-from, pair_lt}
use Rattle.clause.proofs.has.Goals as goal

pub returns-then-v-lt-WORD : goal.returns-then-v-lt-WORD
unfolding has
returns-then-v-lt-WORD c = let a = c.args in sym (has-low 64 a.s.high a.s.low a.v c.if-v-lt-WORD.true)

pub returns-then-v-lt-WIDTH : goal.returns-then-v-lt-WIDTH
unfolding has
returns-then-v-lt-WIDTH c = let a = c.args in sym (has-from 64 a.s.high a.s.low (omega arith) a.v c.if-v-lt-WORD.false)

pub returns : goal.returns
returns c = let a = c.args in sym (has-past width a.v (set_of a.s) (pair_lt 64 64 a.s.high a.s.low (omega arith) (omega arith)) c.if-v-lt-WIDTH.false)
