use mathlib.Core.Path.{ap, ◌∙◌}
use Rattle.press_spec.specs.Univalents.{Risen}
use Rattle.press_lower.proofs.Lowering.{risen-in}
use Rattle.press_lower.proofs.univalents.cut_univalents.Goals as goal

pub returns-clause-low : goal.returns-clause-low
returns-clause-low c = c.rise.ensures.low ∙ ap (λ (x : Risen). x.ones.low) (risen-in _ c.args.clauses.now _ _ _ c.trim.ensures c.used_on.ensures)

pub returns-clause-built : goal.returns-clause-built
returns-clause-built c = c.rise.ensures.built ∙ ap (λ (x : Risen). x.so) (risen-in _ c.args.clauses.now _ _ _ c.trim.ensures c.used_on.ensures)
