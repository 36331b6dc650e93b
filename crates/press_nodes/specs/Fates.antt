-- Fates in a table: what each of them says of its node.
use Rattle.std.specs.Prelude.{ℕ, List, get_or, Option, Some, None}
use Rattle.press_spec.specs.Recycle.{Cut, cut_left, cut_right, uncut, Fate, lost, kept}
use Rattle.press_nodes.specs.declared.fate.Side.{Side}
use Rattle.press_nodes.specs.declared.fate.Side.TheVariants.{Left, Right}
use Rattle.press_nodes.specs.declared.fate.Fate.{Fate as CodeFate}
use Rattle.press_nodes.specs.declared.fate.Fate.TheVariants.{Lost, Kept}

-- which edge of a step is cut, if one is
unfoldable pub cut_in : Option Side → Cut
cut_in (Some Left) = cut_left
cut_in (Some Right) = cut_right
cut_in None = uncut

unfoldable pub fate_in : CodeFate → Fate
fate_in Lost = lost
fate_in (Kept cut) = kept (cut_in cut)

unfoldable pub fates_in : List CodeFate → ℕ → Fate
fates_in table n = fate_in (get_or table n Lost)
