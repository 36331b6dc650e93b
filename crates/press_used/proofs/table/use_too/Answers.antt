use Rattle.press_used.proofs.Tabled.{used-more}
use Rattle.press_used.proofs.table.use_too.Goals as goal

pub returns : goal.returns
returns c = used-more _ _ _ _ _ _ c.index-i.ensures c.requires c.used_too.ensures
