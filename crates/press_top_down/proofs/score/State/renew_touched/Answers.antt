use native.Mathlib.Omega.{arith}
use Rattle.press_nodes.proofs.Found.{found-leaf, found-join, found-sound}
use Rattle.press_top_down.proofs.Renewing.{leaf-renewed, join-renewed}
use Rattle.press_top_down.proofs.score.State.renew_touched.Goals as goal

pub renew_sharers-requires-clause-q_in_bounds : goal.renew_sharers-requires-clause-q_in_bounds
renew_sharers-requires-clause-q_in_bounds c =
    let o = found-sound _ _ _ _ _ _ c.requires.tables.linked c.requires.n_in_bounds c.link_at.ensures c.in-Join.is in
    omega (arith, o.1, c.requires.n_in_bounds)

pub renew_sharers-requires-in-Join-clause-q_in_bounds : goal.renew_sharers-requires-in-Join-clause-q_in_bounds
renew_sharers-requires-in-Join-clause-q_in_bounds c =
    let o = found-sound _ _ _ _ _ _ c.requires.tables.linked c.requires.n_in_bounds c.link_at.ensures c.in-Join.is in
    omega (arith, o.2, c.requires.n_in_bounds)

pub returns-in-Join : goal.returns-in-Join
returns-in-Join c =
    join-renewed _ _ _ _ c.renew.ensures c.renew_users.ensures (found-join _ _ _ _ _ c.link_at.ensures c.in-Join.is) c.renew_sharers.ensures c.renew_sharers-in-Join.ensures

pub returns-in_default : goal.returns-in_default
returns-in_default c = leaf-renewed _ _ _ _ c.renew.ensures c.renew_users.ensures (found-leaf _ _ _ c.link_at.ensures c.in_default.is)
