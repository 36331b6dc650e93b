use Rattle.std.proofs.Common.{length}
use Rattle.press_spec.specs.Links.{link_at}
use Rattle.press_nodes.specs.Tables.{links_in}
use Rattle.press_nodes.specs.Numbers.{number_in}
use Rattle.press_users.specs.Chains.{parent_on}
use Rattle.press_top_down.specs.Renewed.{score_of}
use Rattle.press_top_down.proofs.Renewing.{Walk}
use Rattle.press_top_down.proofs.score.State.renew_chain.Given as goal

abbrev pub invariant-loop-user : goal.invariant-loop-user
invariant-loop-user l =
    Walk (score_of l.self) (λ n. parent_on l.chains.side (link_at (links_in l.self.links.now) n)) (length l.self.links.now) l.fn.q.0 l.initial.rows l.rows (number_in l.user)

abbrev pub decreases-loop-user : goal.decreases-loop-user
decreases-loop-user l = number_in l.user
