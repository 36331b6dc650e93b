use Rattle.press_nodes.specs.Numbers.{numbers_in}
use Rattle.press_nodes.specs.Tables.{links_in}
use Rattle.press_users.specs.Chains.{Chain}
use Rattle.press_users.proofs.chain.Given as goal

abbrev pub invariant-loop-n : goal.invariant-loop-n
invariant-loop-n l = Chain l.side (links_in l.links) l.n (numbers_in l.heads) (numbers_in l.nexts)
