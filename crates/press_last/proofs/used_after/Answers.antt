use Rattle.press_last.proofs.used_after.Goals as goal
use Rattle.std.proofs.Common.{rules}
use Rattle.press_last.proofs.Noting.{used-by}

pub returns : goal.returns
returns c = used-by _ _ _ c.index.result _ c.index.ensures c.requires (search rules)
