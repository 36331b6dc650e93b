-- What the code's returns are, and what stands in the part of the tables that is in use.
use Rattle.std.specs.Prelude.{List, take}
use Rattle.sheet.specs.Records.{Node}
use Rattle.press_spec.specs.Rebuild.{Ended, ended}
use Rattle.press_spec.specs.Lower.{Return, conclusion_stays, unit_concludes, resolves}
use Rattle.press_return.specs.declared.Return.{Return as CodeReturn}
use Rattle.press_return.specs.declared.Return.TheVariants.{ConclusionStays, UnitConcludes, Resolves}
use Rattle.press_return.specs.declared.Ended.{Ended as CodeEnded}

unfoldable pub return_in : CodeReturn → Return
return_in ConclusionStays = conclusion_stays
return_in UnitConcludes = unit_concludes
return_in Resolves = resolves

abbrev pub ended_in : CodeEnded → List Node → Ended
ended_in e s = ended (take e.nodes s) e.last.0
