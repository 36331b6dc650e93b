use mathlib.Core.Path.{ap, ◌∙◌}
use lib.ListN.{set}
use Rattle.sheet.specs.Records.{Node}
use Rattle.press_nodes.specs.Tables.{nodes_in}
use Rattle.press_nodes.proofs.Tables.{clauses-at}
use Rattle.press_return.proofs.Backs.{resolves-plus, resolves-minus}
use Rattle.press_return.proofs.put_resolving.Goals as goal

pub returns-in-Plus : goal.returns-in-Plus
returns-in-Plus c = let a = c.args in
    c.put_step.ensures
    ∙ ap (λ (m : Node). set (nodes_in a.links.now a.clauses.now) a.n.0 m)
    (resolves-plus _ _ _ _ a.l (c.clause_at-unit.ensures ∙ clauses-at _ _ _ c.requires.2) (c.clause_at-conclusion.ensures ∙ clauses-at _ _ _ c.requires.3) c.in-Plus.is c.resolve-result.ensures)

pub returns-in-Minus : goal.returns-in-Minus
returns-in-Minus c = let a = c.args in
    c.put_step-in-Minus.ensures
    ∙ ap (λ (m : Node). set (nodes_in a.links.now a.clauses.now) a.n.0 m)
    (resolves-minus _ _ _ _ a.l (c.clause_at-unit.ensures ∙ clauses-at _ _ _ c.requires.2) (c.clause_at-conclusion.ensures ∙ clauses-at _ _ _ c.requires.3) c.in-Minus.is c.resolve-result-in-Minus.ensures)
