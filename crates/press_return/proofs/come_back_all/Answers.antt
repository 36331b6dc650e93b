use mathlib.Core.Path.{◌∙◌}
use native.Mathlib.Omega.{arith}
use Rattle.base.proofs.Folds.{fall-next, fall-all}
use Rattle.press_spec.specs.Rebuild.{stand_in}
use Rattle.press_spec.specs.Lower.{return_turn}
use Rattle.press_return.proofs.Walks.{room-left, walk-whole}
use Rattle.press_return.proofs.come_back_all.Goals as goal

pub loop-i-preserved : goal.loop-i-preserved
unfolding stand_in return_turn
loop-i-preserved c = let l = c.loop-i in
    let v = l.invariant in
    let e = c.return_turn-at.ensures in
    (omega (arith, v.0), omega (arith, v.1), omega (arith, v.2), omega (arith, v.3, e.fits.0), omega (arith, v.1, e.fits.1), e.fits.2, fall-next _ _ _ _ _ (omega arith) v.6 e.clauses_after)

pub returns-clause-clauses_after : goal.returns-clause-clauses_after
returns-clause-clauses_after c = fall-all _ _ _ _ (omega arith) c.loop-i.invariant.6 ∙ walk-whole _ _ _ _ _ c.stand_in-last.ensures

pub return_turn-at-requires-clause-clauses_in_bounds : goal.return_turn-at-requires-clause-clauses_in_bounds
unfolding stand_in
return_turn-at-requires-clause-clauses_in_bounds c =
    let v = c.loop-i.invariant in
    room-left _ _ _ _ _ _ (omega arith) (v.6 ∙ walk-whole _ _ _ _ _ c.stand_in-last.ensures) (rw v.1 c.requires.from_in_bounds)
