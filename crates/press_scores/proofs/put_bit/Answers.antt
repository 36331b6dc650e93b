use Rattle.press_scores.proofs.Rows.{bit-put}
use Rattle.press_scores.proofs.put_bit.Goals as goal

pub returns : goal.returns
returns c = let a = c.args in bit-put a.rows.now a.g a.n.0 c.index-i.result _ a.on c.index-i.ensures c.with_bit.ensures
