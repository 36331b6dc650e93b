use Rattle.base.proofs.Stored.{part-found}
use Rattle.base.proofs.bytes_at.Goals as goal

pub returns : goal.returns
returns g c = part-found g.row.N c.args.at c.args.s.now _ c.copy_from_slice.ensures.after
