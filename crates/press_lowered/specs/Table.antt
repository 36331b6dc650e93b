-- Which nodes are lowered, and with which literal.
use Rattle.std.specs.Prelude.{List, map, Option, Some, None}
use Rattle.press_spec.specs.Lower.{Lowered, staying, lowered}
use Rattle.press_reach.specs.declared.literal.Literal.{Literal}
use Rattle.press_reach.specs.Literals.{literal_in}

unfoldable pub lowered_in : Option Literal → Lowered
lowered_in None = staying
lowered_in (Some l) = lowered (literal_in l)

unfoldable pub low_in : List (Option Literal) → List Lowered
low_in table = map lowered_in table
