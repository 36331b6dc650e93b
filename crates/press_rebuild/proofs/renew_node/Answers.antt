use Rattle.press_nodes.proofs.Tables.{given-there, step-there}
use Rattle.press_nodes.proofs.Found.{found-leaf, found-join}
use Rattle.press_rebuild.proofs.Rebuilds.{node-stands, node-renews}
use Rattle.press_rebuild.proofs.renew_node.Goals as goal

pub returns-in_default : goal.returns-in_default
returns-in_default c =
    node-stands _ _ _ _ _ _ _ (given-there _ _ _ _ c.requires.n_in_bounds.0 (found-leaf _ _ _ c.link_at.ensures c.in_default.is)) c.stands_for.ensures

pub returns : goal.returns
returns c =
    node-renews _ _ _ _ _ _ _ _ _ (step-there _ _ _ _ _ _ c.requires.n_in_bounds.0 (found-join _ _ _ _ _ c.link_at.ensures c.in-Join.is)) c.renew_step.ensures
