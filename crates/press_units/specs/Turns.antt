-- One turn of collecting, in the tables.
use Rattle.std.specs.Prelude.{ℕ, List, get_or}
use Rattle.clause.specs.declared.Clause.{Clause}
use Rattle.press_spec.specs.Lower.{LoweredOnes, single}
use Rattle.press_spec.specs.Units.{collect}
use Rattle.press_nodes.specs.Tables.{clauses_in}

unfoldable pub collect_in : ℕ → List Clause → List ℕ → ℕ → LoweredOnes → LoweredOnes
collect_in v clauses uses n w = collect n (get_or uses n 0) (single v (clauses_in clauses n)) w
