use mathlib.Core.Path.{ap₂, ◌∙◌}
use lib.ListN.{set}
use Rattle.press_nodes.specs.Tables.{links_in}
use Rattle.press_nodes.proofs.Found.{found-leaf, found-join}
use Rattle.press_lay.proofs.Laying.{entry-inside, relinks-leaf, relinks-join}
use Rattle.press_lay.proofs.links.lay_link.Goals as goal

pub number_of-k-requires : goal.number_of-k-requires
number_of-k-requires c = let p = c.requires.n_in_bounds.1 in (entry-inside c.args.numbers.now _ p, p)

pub returns-in-Leaf : goal.returns-in-Leaf
returns-in-Leaf c = c.put_leaf.ensures
    ∙ ap₂ (set (links_in c.args.laid.now)) c.number_of-k.ensures (relinks-leaf _ _ (found-leaf _ _ _ c.link_at-found.ensures c.in-Leaf.is))

pub number_of-l-requires : goal.number_of-l-requires
number_of-l-requires c = let p = rw (found-join _ _ _ _ _ c.link_at-found.ensures c.in-Join.is) at c.requires.parents in
    (entry-inside c.args.numbers.now _ p.0, p.0)

pub number_of-r-requires : goal.number_of-r-requires
number_of-r-requires c = let p = rw (found-join _ _ _ _ _ c.link_at-found.ensures c.in-Join.is) at c.requires.parents in
    (entry-inside c.args.numbers.now _ p.1, p.1)

pub returns-in-Join : goal.returns-in-Join
returns-in-Join c = c.put_join.ensures
    ∙ ap₂ (set (links_in c.args.laid.now)) c.number_of-k.ensures
    (relinks-join _ _ (found-join _ _ _ _ _ c.link_at-found.ensures c.in-Join.is) c.number_of-l.ensures c.number_of-r.ensures)
