use Rattle.press_nodes.specs.Tables.{node_of}
use Rattle.press_nodes.proofs.Tables.{nodes_put}
use Rattle.press_nodes.proofs.node.put_given.Goals as goal

pub returns : goal.returns
unfolding node_of
returns c = nodes_put _ _ _ _ _ _ _ c.put_leaf.ensures c.put_clause.ensures
