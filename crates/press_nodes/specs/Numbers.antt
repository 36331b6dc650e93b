-- A table that has another node for some nodes, as numbers: 0 where there is none, else one more than the node's number.
use Rattle.std.specs.Prelude.{ℕ, suc, List, map, Option, None, Some}
use Rattle.sheet.specs.declared.NodeNo.{NodeNo}

unfoldable pub number_in : Option NodeNo → ℕ
number_in None = 0
number_in (Some n) = suc n.0

unfoldable pub numbers_in : List (Option NodeNo) → List ℕ
numbers_in table = map number_in table
