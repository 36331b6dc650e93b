use mathlib.Core.List.{List}
use mathlib.Core.Path.{sym, ap, ◌∙◌}
use Prim.Native.Nat.{ℕ}
use Rattle.sheet.specs.Editions.{most_nodes}
use Rattle.press_spec.specs.Rebuild.{rebuild}
use Rattle.press_spec.specs.Lower.{low_at, fates_by}
use Rattle.press_nodes.specs.Tables.{links_in, nodes_in}
use Rattle.press_lowered.specs.Table.{low_in}
use Rattle.press_nodes.proofs.Lent.{lent-long}
use Rattle.press_units.proofs.Cuttings.{cuts-marked}
use Rattle.press_lower.proofs.Lowering.{units_in, units-built}
use Rattle.press_lower.proofs.units.cut_units.Goals as goal

pub returns-clause-low : goal.returns-clause-low
returns-clause-low c =
    units_in _ _ c.args.links.now c.args.clauses.now _ _ _ c.variables.ensures (sym (c.uses_with.auto.counts ∙ lent-long 0 most_nodes _ c.requires.links_len_bound.0))
    c.uses_with.ensures.uses c.collect_units.ensures

pub returns-clause-built : goal.returns-clause-built
returns-clause-built c =
    let h = c.args.links.now in
    units-built _ _ _ _ _ _
    (units_in _ _ h c.args.clauses.now _ _ _ c.variables.ensures (sym (c.uses_with.auto.counts ∙ lent-long 0 most_nodes _ c.requires.links_len_bound.0))
    c.uses_with.ensures.uses c.collect_units.ensures)
    (c.rebuild.ensures
    ∙ ap (rebuild (nodes_in h c.args.clauses.now))
    (c.cut_uses.ensures ∙ cuts-marked _ _ _ _ c.put_marked.ensures
    ∙ ap (λ (m : List ℕ). fates_by m (low_at (low_in c.collect_units.new.low)) (links_in h)) c.uses_with.ensures.marks))
