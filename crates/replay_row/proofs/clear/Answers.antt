use Rattle.std.proofs.Common.{◌∙◌, arith}
use Rattle.replay_row.proofs.Cells.{swept-more, swept_all}
use Rattle.replay_row.proofs.clear.Goals as goal

pub loop-at-preserved : goal.loop-at-preserved
loop-at-preserved c = let l = c.loop-at in record {
  upto = omega arith;
  long = c.free.auto.slots ∙ l.invariant.long;
  freed = swept-more l.at c.args.slots.now l.slots c.free.new.slots (omega arith) l.invariant.freed c.free.ensures;
}

pub returns : goal.returns
returns c = swept_all c.loop-at.at c.args.slots.now c.loop-at.slots (omega arith) c.loop-at.invariant.freed
