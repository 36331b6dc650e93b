use Rattle.press_order.proofs.Placing.{right-goes, left-goes}
use Rattle.press_order.proofs.in_turn.Goals as goal

pub returns-then-counts-l-clause-first : goal.returns-then-counts-l-clause-first
returns-then-counts-l-clause-first c = right-goes c.args.counts.now c.index-l.ensures c.index-r.ensures _ c.args.left.0 c.if-counts-l.true

pub returns-then-counts-l-clause-second : goal.returns-then-counts-l-clause-second
returns-then-counts-l-clause-second c = right-goes c.args.counts.now c.index-l.ensures c.index-r.ensures _ c.args.right.0 c.if-counts-l.true

pub returns-clause-first : goal.returns-clause-first
returns-clause-first c = left-goes c.args.counts.now c.index-l.ensures c.index-r.ensures c.args.right.0 _ c.if-counts-l.false

pub returns-clause-second : goal.returns-clause-second
returns-clause-second c = left-goes c.args.counts.now c.index-l.ensures c.index-r.ensures c.args.left.0 _ c.if-counts-l.false
