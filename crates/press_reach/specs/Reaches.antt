-- What the code's reaches are, and a table of them.
use Rattle.std.specs.Prelude.{List, Option, Some, None}
use Rattle.clause.specs.Clauses.{Literals}
use Rattle.clause.specs.Denote.{literals_of}
use Rattle.clause.specs.declared.Clause.{Clause}
use Rattle.press_spec.specs.Recycle.{Reach, unreached, reached}
use Rattle.press_nodes.specs.declared.fate.Fate.{Fate}
use Rattle.press_nodes.specs.declared.fate.Fate.TheVariants.{Lost, Kept}
use Rattle.press_nodes.specs.Tables.{clauses_in, beside}

unfoldable pub reach_in : Option Clause → Reach
reach_in None = unreached
reach_in (Some s) = reached (literals_of s)

-- a node is reached if it is not lost, and its set stands in a table of clauses
unfoldable pub reach_of : Fate → Literals → Reach
reach_of Lost S = unreached
reach_of (Kept cut) S = reached S

unfoldable pub reaches_in : List Fate → List Clause → List Reach
reaches_in fates sets = beside reach_of fates (clauses_in sets)
