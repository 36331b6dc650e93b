-- What the code's literals are, and which have room in a set.
use Rattle.std.specs.Prelude.{◌<◌}
use Rattle.clause.specs.Clauses.{Literal, plus, minus}
use Rattle.clause.specs.Denote.{width}
use Rattle.press_reach.specs.declared.literal.Literal.{Literal as CodeLiteral}
use Rattle.press_reach.specs.declared.literal.Literal.TheVariants.{Plus, Minus}

unfoldable pub literal_in : CodeLiteral → Literal
literal_in (Plus v) = plus v
literal_in (Minus v) = minus v

-- its variable is one that a set has room for
abbrev pub Narrow : Literal → Type 0
Narrow (plus v) = v < width
Narrow (minus v) = v < width
