use Rattle.press_spec.specs.Links.{link_at}
use Rattle.press_nodes.specs.Numbers.{numbers_in}
use Rattle.press_nodes.specs.Tables.{links_in}
use Rattle.press_lay.proofs.Laying.{LaidBelow, relinked}
use Rattle.press_lay.proofs.links.lay_links.Given as goal

abbrev pub invariant-loop-n : goal.invariant-loop-n
invariant-loop-n l = LaidBelow (numbers_in l.numbers) (relinked (numbers_in l.numbers) l.links) l.n (link_at (links_in l.laid))
