use Rattle.press_nodes.proofs.Found.{found-leaf, found-join, found-sound}
use Rattle.press_users.proofs.Chains.{parent-none, parent-left, parent-right}
use Rattle.press_users.proofs.parent_on.Goals as goal

pub returns-in_default-clause-none : goal.returns-in_default-clause-none
returns-in_default-clause-none c = parent-none c.args.side _ (found-leaf _ _ _ c.link_at.ensures c.in_default.is)

pub returns-in-Left-clause-some : goal.returns-in-Left-clause-some
returns-in-Left-clause-some c = (
  parent-left _ _ c.in-Left.is (found-join _ _ _ _ _ c.link_at.ensures c.in-Join.is),
  (found-sound _ _ _ _ _ _ c.requires.links c.requires.n_in_bounds c.link_at.ensures c.in-Join.is).1,
)

pub returns-in-Right-clause-some : goal.returns-in-Right-clause-some
returns-in-Right-clause-some c = (
  parent-right _ _ c.in-Right.is (found-join _ _ _ _ _ c.link_at.ensures c.in-Join.is),
  (found-sound _ _ _ _ _ _ c.requires.links c.requires.n_in_bounds c.link_at.ensures c.in-Join.is).2,
)
