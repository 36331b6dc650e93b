-- Marks in a table of fates: of each node whether it is kept, whatever edge of it is cut.
use Rattle.std.specs.Prelude.{ℕ, cond, List, eqb, map, get_or}
use Rattle.press_spec.specs.Recycle.{uncut, Fate, lost, kept}
use Rattle.press_nodes.specs.declared.fate.Fate.{Fate as CodeFate}
use Rattle.press_nodes.specs.declared.fate.Fate.TheVariants.{Lost, Kept}

unfoldable pub mark_in : CodeFate → ℕ
mark_in Lost = 0
mark_in (Kept cut) = 1

unfoldable pub marks_in : List CodeFate → List ℕ
marks_in table = map mark_in table

-- what a trim's marks say of nodes, before an edge is cut: one that is not marked is lost
unfoldable pub fate_marked : ℕ → Fate
fate_marked mark = cond (eqb mark 0) lost (kept uncut)

unfoldable pub fates_marked : List ℕ → ℕ → Fate
fates_marked marks n = fate_marked (get_or marks n 0)
