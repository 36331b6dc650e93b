use Rattle.std.proofs.Common.{◌∙◌, ◌+◌, ◌<◌, sym, ap, subst, arith, rules, length, drop as after}
use Rattle.tally.specs.Tally.{Tally}
use Rattle.press_spec.specs.Drops.{with_drops}
use Rattle.press_nodes.specs.Tables.{nodes_in}
use Rattle.press_nodes.proofs.Tables.{nodes-length}
use Rattle.press_emit.specs.Emission.{Emission, emission, emitted_by, emit_all, Roomy}
use Rattle.press_drops.proofs.Rooms.{emit-room, emit-room-left, emit-on, emit-done}
use Rattle.press_drops.proofs.emit_records.Goals as goal

pub emit_turn-requires-clause-roomy : goal.emit_turn-requires-clause-roomy
emit_turn-requires-clause-roomy c =
    let s = nodes_in c.args.links.now c.args.clauses.now in
    let h : c.loop-k.k < length s = rw (nodes-length c.args.links.now c.args.clauses.now) (omega arith) in
    emit-room s c.loop-k.k h (emitted_by c.loop-k.emitter) c.loop-k.invariant.0

pub loop-k-preserved : goal.loop-k-preserved
loop-k-preserved c =
    let l = c.loop-k in
    let t = c.emit_turn.ensures in
    let s = nodes_in c.args.links.now c.args.clauses.now in
    let e = emitted_by l.emitter in
    let h : l.k < length s = rw (nodes-length c.args.links.now c.args.clauses.now) (omega arith) in (
      subst (λ (f : Emission). Roomy (with_drops (after (l.k + 1) s)) f) (sym t.written) (emit-room-left s l.k h e l.invariant.0),
      ap (emit_all (with_drops (after (l.k + 1) s))) t.written ∙ emit-on s l.k h e ∙ l.invariant.1,
      t.same_reference ∙ l.invariant.2,
    )

pub returns : goal.returns
returns c =
    let l = c.loop-k in
    let s = nodes_in c.args.links.now c.args.clauses.now in
    let done = sym (emit-done s l.k (rw (nodes-length c.args.links.now c.args.clauses.now) (omega arith)) (emitted_by l.emitter)) in
    let start = ap (λ (t : Tally). emit_all (with_drops s) (emission c.args.edition c.args.out.now 0 t)) c.nothing.ensures in
    search (rules, done ∙ l.invariant.1 ∙ start, l.invariant.2)
