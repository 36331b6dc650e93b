-- What lowering makes of a proper sheet.
use Rattle.sheet.specs.Counts.{nodes_of}
use Rattle.press_spec.proofs.Kept as Kept
use Rattle.press_spec.proofs.Accepts.{proper-nodes}
use Rattle.demands.specs.Passes.{NoMoreSteps, NoUnitConcludes}

pub no-more-steps : NoMoreSteps
no-more-steps e how low sheet rules rs p =
    let (proper, some) = proper-nodes e rules sheet rs p in
    Kept.lowering-shorter e how low rules (nodes_of rs) proper some

pub no-unit-concludes : NoUnitConcludes
no-unit-concludes plan which sheet rules rs n l t p =
    let (proper, some) = proper-nodes plan.edition rules sheet rs p in
    Kept.no-unit-concludes plan.edition plan.recycling rules (nodes_of rs) proper some which n t l
