use Rattle.press_order.proofs.Placing.{stands-next}
use Rattle.press_order.proofs.put_next.Goals as goal

pub returns : goal.returns
returns c = λ order f. stands-next c.args.numbers.now _ c.index.ensures c.requires.0 f
