use native.Mathlib.Omega.{arith}
use lib.ListN.{length-set}
use Rattle.press_units.specs.Marks.{fates_marked}
use Rattle.press_units.proofs.Cuttings.{fated-next, marked-done}
use Rattle.press_units.proofs.cuts.put_marked.Goals as goal

pub loop-i-preserved : goal.loop-i-preserved
loop-i-preserved c = let l = c.loop-i in
    (omega arith, simp length-set (omega arith), fated-next _ l.i l.fates _ (omega arith) (unfold fates_marked in c.fate_marked.ensures) l.invariant.2)

pub returns : goal.returns
returns c = let l = c.loop-i in
    marked-done _ l.i l.fates (omega arith) (omega arith) l.invariant.2
