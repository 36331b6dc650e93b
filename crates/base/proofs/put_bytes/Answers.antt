use Rattle.base.proofs.Stored.{part-copied}
use Rattle.base.proofs.put_bytes.Goals as goal

pub returns : goal.returns
returns g c = part-copied g.row.N c.args.at c.args.d.now c.args.x _ c.requires c.copy_from_slice.ensures.len c.copy_from_slice.ensures.after
