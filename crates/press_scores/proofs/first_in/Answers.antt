use Rattle.std.proofs.Common.{arith, refl}
use Rattle.press_scores.proofs.Found.{word-empty, word_first}
use Rattle.press_scores.proofs.first_in.Goals as goal

pub returns-then-bits-ne0-clause-some : goal.returns-then-bits-ne0-clause-some
returns-then-bits-ne0-clause-some c =
    (omega (arith, c.lowest.ensures.low), word_first c.args.rows.now c.args.g c.loop-w.w _ c.loop-w-test.true refl c.loop-w.invariant _ c.lowest.ensures)

pub loop-w-preserved : goal.loop-w-preserved
loop-w-preserved c = word-empty c.args.rows.now c.args.g c.loop-w.w _ c.loop-w-test.true refl c.loop-w.invariant c.if-bits-ne0.false
