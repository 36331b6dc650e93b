use Rattle.std.proofs.Common.{◌≡◌, drop as after}
use Rattle.press_spec.specs.Drops.{with_drops}
use Rattle.press_nodes.specs.Tables.{nodes_in}
use Rattle.press_emit.specs.Emission.{emitted_by, emit_all, Roomy}
use Rattle.press_drops.proofs.emit_records.Given as goal

abbrev pub invariant-loop-k : goal.invariant-loop-k
invariant-loop-k l =
    Roomy (with_drops (after l.k (nodes_in l.links l.clauses))) (emitted_by l.emitter)
    × (emit_all (with_drops (after l.k (nodes_in l.links l.clauses))) (emitted_by l.emitter) ≡ emit_all (with_drops (nodes_in l.links l.clauses)) (emitted_by l.initial.emitter))
    × (l.emitter.out.ghost_name ≡ l.initial.emitter.out.ghost_name)
