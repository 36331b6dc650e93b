use Prim.Native.Nat.{◌≤◌}
use mathlib.Core.Path.{sym, subst, ◌∙◌}
use lib.ListN.{length}
use Rattle.press_return.proofs.Backs.{found_back}
use Rattle.press_spec.specs.Lower.{come_back}
use Rattle.press_lowered.specs.Table.{lowered_in}
use Rattle.press_spec.specs.Rebuild.{Ended}
use Rattle.press_nodes.specs.Tables.{nodes_in}
use Rattle.press_return.specs.Returns.{ended_in}
use Rattle.press_return.proofs.return_turn.Goals as goal

pub returns-in_default-clause-clauses_after : goal.returns-in_default-clause-clauses_after
unfolding lowered_in come_back
returns-in_default-clause-clauses_after c = rw (← c.lowered_at.ensures, c.in_default.is)

pub come_back-requires-clause-clauses_in_bounds : goal.come_back-requires-clause-clauses_in_bounds
come_back-requires-clause-clauses_in_bounds c =
    let a = c.args in
    let t : Ended = ended_in a.at (nodes_in a.links.now a.clauses.now) in
    subst (λ (y : Ended). length y.nodes ≤ length a.links.now) (found_back _ _ _ _ _ t c.lowered_at.ensures c.in-Some.is c.stand_in-u.ensures) c.requires.clauses_in_bounds

pub returns-clause-clauses_after : goal.returns-clause-clauses_after
returns-clause-clauses_after c =
    let a = c.args in
    c.come_back.ensures.clauses_after
    ∙ sym (found_back _ _ _ _ _ (ended_in a.at (nodes_in a.links.now a.clauses.now)) c.lowered_at.ensures c.in-Some.is c.stand_in-u.ensures)
