use Rattle.std.proofs.Common.{arith}
use Rattle.press_scores.proofs.Found.{above-next, row-none, row-highest, rows-none}
use Rattle.press_scores.proofs.highest.Goals as goal

pub returns-in-Some-clause-node : goal.returns-in-Some-clause-node
returns-in-Some-clause-node c =
    let f = rw c.from.ensures at c.in-Some.ensures.some in
    (row-highest c.args.rows.now c.loop-score.score c.in-Some.node.0 (omega arith) (omega arith) f.0 f.1 c.loop-score.invariant).0

pub returns-in-Some-clause-score : goal.returns-in-Some-clause-score
returns-in-Some-clause-score c =
    let f = rw c.from.ensures at c.in-Some.ensures.some in
    (row-highest c.args.rows.now c.loop-score.score c.in-Some.node.0 (omega arith) (omega arith) f.0 f.1 c.loop-score.invariant).1

pub loop-score-preserved : goal.loop-score-preserved
loop-score-preserved c m h k l =
    let none = rw c.from.ensures at c.in_default.ensures.none in
    above-next c.args.rows.now m c.loop-score.score (c.loop-score.invariant m) (row-none c.args.rows.now c.loop-score.score none m) h (omega arith) l

pub returns-clause-node : goal.returns-clause-node
returns-clause-node c = (rows-none c.args.rows.now (λ m h k l. c.loop-score.invariant m h (omega arith) l)).0

pub returns-clause-score : goal.returns-clause-score
returns-clause-score c = (rows-none c.args.rows.now (λ m h k l. c.loop-score.invariant m h (omega arith) l)).1
