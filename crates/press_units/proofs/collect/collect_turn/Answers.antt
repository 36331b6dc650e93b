use Rattle.press_lowered.proofs.Searched.{opposite-narrow}
use Rattle.press_units.proofs.Collects.{found-narrow}
use Rattle.press_units.proofs.collect.collect_turn.Goals as goal

pub adding-requires : goal.adding-requires
adding-requires c = rw c.opposite.ensures (opposite-narrow _ (found-narrow _ _ c.single.ensures c.in-Some.is c.requires.variables_le_width))
