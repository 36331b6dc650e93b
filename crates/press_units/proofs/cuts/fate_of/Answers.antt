use Rattle.press_units.proofs.Cuttings.{stays-lost, is-cut}
use Rattle.press_units.proofs.cuts.fate_of.Goals as goal

pub returns-in-Lost : goal.returns-in-Lost
returns-in-Lost c = stays-lost _ _ _ _ (rw c.index.ensures at c.in-Lost.is)

pub returns-in-Kept : goal.returns-in-Kept
returns-in-Kept c = is-cut _ _ _ _ _ _ (rw c.index.ensures at c.in-Kept.is) c.cut_of.ensures
