use native.Mathlib.Omega.{arith}
use mathlib.Core.Path.{ap, ◌∙◌}
use Rattle.base.specs.Bytes.{put}
use Rattle.press_spec.specs.Drops.{total}
use Rattle.press_emit.specs.Emission.{emission_of}
use Rattle.press_write.proofs.Wholes.{all-written, all-reported, some-node, last-concludes, lines-below, same-core}
use Rattle.press_write.proofs.write.Goals as goal

pub overflow_sub-sink : goal.overflow_sub-sink
overflow_sub-sink c =
    omega (arith, some-node c.args.links.now c.args.clauses.now c.requires.emittable)

pub clause_at-requires : goal.clause_at-requires
clause_at-requires c = omega (arith, c.requires.nodes.size, some-node c.args.links.now c.args.clauses.now c.requires.emittable)

pub mark_lines-marked-requires : goal.mark_lines-marked-requires
mark_lines-marked-requires c = let fit = c.requires.emittable in
    record { links = c.requires.nodes.linked; lines_le_most_lines = (fit.lines-few, fit.marks-enough, lines-below c.args.links.now c.args.clauses.now fit) }

pub returns-clause-report : goal.returns-clause-report
returns-clause-report c =
    let a = c.args in
    let fit = c.requires.emittable in
    let core = same-core a.links.now a.clauses.now fit in
    all-reported fit a.order (emission_of _ _) c.emit_records-emitted.ensures (last-concludes a.links.now a.clauses.now fit _ c.clause_at.ensures) (c.mark_lines-marked.ensures.marked ∙ ap total core)

pub returns-clause-lent : goal.returns-clause-lent
returns-clause-lent c =
    let a = c.args in
    let fit = c.requires.emittable in
    let core = same-core a.links.now a.clauses.now fit in
    (all-written fit (emission_of _ _) c.emit_records-emitted.ensures, c.mark_lines-marked.ensures.marks ∙ ap (put a.marks.now 0) core)
