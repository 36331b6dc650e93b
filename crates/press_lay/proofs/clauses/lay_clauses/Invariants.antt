use Rattle.press_nodes.specs.Numbers.{numbers_in}
use Rattle.press_nodes.specs.Tables.{clauses_in}
use Rattle.press_lay.proofs.Laying.{LaidBelow}
use Rattle.press_lay.proofs.clauses.lay_clauses.Given as goal

abbrev pub invariant-loop-i : goal.invariant-loop-i
invariant-loop-i l = LaidBelow (numbers_in l.numbers) (clauses_in l.clauses) l.i (clauses_in l.laid)
