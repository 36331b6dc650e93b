use Prim.Native.Nat.{◌≤◌}
use mathlib.Core.List.{List}
use mathlib.Core.Path.{sym, subst}
use lib.ListN.{length}
use Rattle.sheet.specs.Editions.{capacity}
use Rattle.sheet.specs.Records.{Node}
use Rattle.press_spec.specs.Rebuild.{Ended}
use Rattle.press_write.specs.Emittable.{Emittable}
use Rattle.press_nodes.specs.Tables.{nodes_in}
use Rattle.press_passes.proofs.Chosen.{nothing-concluded, lowered-concluded, arranged-pressed, finishes-pressed}
use Rattle.press_passes.proofs.run_passes.Goals as goal

pub returns-in-None : goal.returns-in-None
returns-in-None c =
    let a = c.args in
    let f = finishes-pressed a.plan (nodes_in a.links.now a.clauses.now) _ (nothing-concluded a.plan (nodes_in a.links.now a.clauses.now) _ c.shorten-from.ensures.short c.in-None.is)
    _ _ _ _ _ _ c.finish.ensures in
    record { report = f.0; lent = f.1 }

pub returns-in-Some : goal.returns-in-Some
returns-in-Some c =
    let a = c.args in
    let f = finishes-pressed a.plan (nodes_in a.links.now a.clauses.now) _ (lowered-concluded a.plan (nodes_in a.links.now a.clauses.now) _ c.shorten-from.ensures.short _ c.in-Some.is)
    _ _ _ _ _ _ c.finish_lowered.ensures in
    record { report = f.0; lent = f.1 }

pub finish-requires-clause-from_len_bound : goal.finish-requires-clause-from_len_bound
finish-requires-clause-from_len_bound c =
    let a = c.args in
    rw (arranged-pressed a.plan (nodes_in a.links.now a.clauses.now) _ (nothing-concluded a.plan (nodes_in a.links.now a.clauses.now) _ c.shorten-from.ensures.short c.in-None.is))
    c.requires.fact.1

pub finish-requires-clause-emittable : goal.finish-requires-clause-emittable
finish-requires-clause-emittable c =
    let a = c.args in
    let q = arranged-pressed a.plan (nodes_in a.links.now a.clauses.now) _ (nothing-concluded a.plan (nodes_in a.links.now a.clauses.now) _ c.shorten-from.ensures.short c.in-None.is) in
    subst (λ (s : List Node). Emittable a.plan.edition a.lines s a.out.now a.marks.now) (sym q) c.requires.emittable

pub finish_lowered-requires-clause-from_len_bound : goal.finish_lowered-requires-clause-from_len_bound
finish_lowered-requires-clause-from_len_bound c =
    let a = c.args in
    let e = lowered-concluded a.plan (nodes_in a.links.now a.clauses.now) _ c.shorten-from.ensures.short _ c.in-Some.is in
    (subst (λ (y : Ended). length y.nodes ≤ capacity) (sym e) c.requires.fact.0, rw (arranged-pressed a.plan (nodes_in a.links.now a.clauses.now) _ e) c.requires.fact.1)

pub finish_lowered-requires-clause-emittable : goal.finish_lowered-requires-clause-emittable
finish_lowered-requires-clause-emittable c =
    let a = c.args in
    let q = arranged-pressed a.plan (nodes_in a.links.now a.clauses.now) _ (lowered-concluded a.plan (nodes_in a.links.now a.clauses.now) _ c.shorten-from.ensures.short _ c.in-Some.is) in
    subst (λ (s : List Node). Emittable a.plan.edition a.lines s a.out.now a.marks.now) (sym q) c.requires.emittable
