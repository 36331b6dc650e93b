use native.Mathlib.Omega.{arith}
use Rattle.press_scores.proofs.Rows.{or-bit, xor-bit}
use Rattle.press_scores.proofs.with_bit.Goals as goal

pub returns-then-on : goal.returns-then-on
returns-then-on c = let a = c.args in or-bit a.bits a.b a.on c.if-on.true (omega arith)

pub returns : goal.returns
returns c = let a = c.args in xor-bit a.bits a.b a.on c.if-on.false (omega arith)
