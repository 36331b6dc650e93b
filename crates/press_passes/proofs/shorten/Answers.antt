use Rattle.press_rebuild.proofs.Sounds.{rebuilt-nodes}
use Rattle.press_passes.proofs.Recycled.{from-below, from-shortened}
use Rattle.press_passes.proofs.shorten.Goals as goal

pub returns-clause-sound : goal.returns-clause-sound
returns-clause-sound c =
    let r = c.requires in
    let b = c.rebuild in (
      rebuilt-nodes _ c.args.links.now c.args.clauses.now b.new.links b.new.clauses _ r.0 b.auto.links b.auto.clauses b.ensures,
      from-below r.0 b.new.links b.new.clauses _ _ b.ensures _ c.stand_in.ensures r.1 b.auto.links,
    )

pub returns-clause-short : goal.returns-clause-short
returns-clause-short c =
    let r = c.requires in
    let b = c.rebuild in
    from-shortened r.0 b.new.links b.new.clauses _ _ b.ensures _ c.stand_in.ensures c.args.plan r.1 _ c.uses_from.ensures _ c.clause_at-own.ensures c.recycle.ensures
