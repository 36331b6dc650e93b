use Rattle.std.proofs.Common.{◌≡◌, ◌+◌, ◌<◌, ◌∙◌, ap, arith, rules, length, replicate, drop as after}
use Rattle.press_spec.specs.Drops.{mark_lines}
use Rattle.press_nodes.specs.Tables.{links_in}
use Rattle.press_nodes.proofs.Tables.{links-length}
use Rattle.press_marks.proofs.Cores.{mark_on, mark-done}
use Rattle.press_marks.proofs.mark_core.Goals as goal

pub loop-k-preserved : goal.loop-k-preserved
loop-k-preserved c =
    let l = c.loop-k in
    let s = links_in c.args.links.now in
    let h : l.k < length s = rw (links-length c.args.links.now) (omega arith) in
    ap (mark_lines (after (l.k + 1) s)) c.mark_turn.ensures ∙ mark_on s l.k l.core h ∙ l.invariant

pub returns : goal.returns
returns c =
    let l = c.loop-k in
    let s = links_in c.args.links.now in
    let e : c.fill.new.self ≡ replicate (length c.args.core.now) 0 = search rules in
    mark-done s l.k l.core (rw (links-length c.args.links.now) (omega arith)) ∙ l.invariant ∙ ap (mark_lines s) e
