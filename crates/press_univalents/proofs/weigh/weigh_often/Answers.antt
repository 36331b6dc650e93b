use mathlib.Core.Path.{sym, ◌∙◌}
use native.Mathlib.Omega.{arith}
use Rattle.press_lowered.proofs.Searched.{opposite-narrow}
use Rattle.press_univalents.proofs.Weighs.{lowerable-narrow}
use Rattle.press_univalents.proofs.weigh.weigh_often.Goals as goal

pub adding-requires : goal.adding-requires
adding-requires c = rw c.opposite.ensures (opposite-narrow _ (lowerable-narrow _ ((omega arith, omega arith), (omega arith, omega arith)) _ _ (sym c.lowerable.ensures ∙ c.if-lowerable.true)))
