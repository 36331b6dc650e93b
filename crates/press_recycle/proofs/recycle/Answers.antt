use mathlib.Core.Path.{refl}
use native.Mathlib.Omega.{arith}
use Rattle.base.proofs.Folds.{fall-next}
use Rattle.press_recycle.proofs.Recycles.{fated-start, fates-done}
use Rattle.press_recycle.proofs.recycle.Goals as goal

pub loop-i-init : goal.loop-i-init
loop-i-init c = (omega arith, omega arith, omega arith, refl, fated-start _ _ _ _ (omega arith))

pub loop-i-preserved : goal.loop-i-preserved
loop-i-preserved c = let u = c.turn in
    (omega arith, omega arith, omega arith, fall-next _ _ _ _ _ (omega arith) c.loop-i.invariant.3 u.ensures.reaches, u.ensures.fated)

pub returns : goal.returns
returns c = search fates-done
