use mathlib.Core.Path.{refl}
use native.Mathlib.Omega.{arith}
use lib.ListN.{length-set}
use Rattle.press_units.proofs.Cuttings.{cut-next, cuts-done}
use Rattle.press_units.proofs.cuts.cut_uses.Goals as goal

pub loop-i-init : goal.loop-i-init
loop-i-init c = (omega arith, c.requires.low_len.1, record { ahead = λ m h. refl; done = λ m h. absurd (omega arith) })

pub loop-i-preserved : goal.loop-i-preserved
loop-i-preserved c = let l = c.loop-i in
    (omega arith, simp length-set (omega arith), cut-next _ _ _ l.i l.fates _ (omega arith) c.fate_of.ensures l.invariant.2)

pub returns : goal.returns
returns c = let l = c.loop-i in
    cuts-done _ _ _ l.i l.fates (omega arith) l.invariant.2
