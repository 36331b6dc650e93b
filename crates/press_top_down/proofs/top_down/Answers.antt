use mathlib.Core.Path.{refl, ◌∙◌}
use Rattle.std.proofs.Common.{None}
use Rattle.sheet.specs.Editions.{capacity}
use Rattle.press_nodes.proofs.Lent.{lent-long, front-again}
use Rattle.press_top_down.proofs.Renewing.{chains-again}
use Rattle.press_top_down.proofs.top_down.Goals as goal

pub ordered-requires-clause-users : goal.ordered-requires-clause-users
ordered-requires-clause-users c =
    let few = c.requires.links.few in
    let l = c.chain in
    let r = c.chain-2 in
    let long = lent-long None capacity _ few in
    record {
      on-left = chains-again _ _ (front-again _ _ _ l.auto.heads few) (front-again _ _ _ l.auto.nexts few) (l.auto.heads ∙ long) (l.auto.nexts ∙ long) l.ensures;
      on-right = chains-again _ _ (front-again _ _ _ r.auto.heads few) (front-again _ _ _ r.auto.nexts few) (r.auto.heads ∙ long) (r.auto.nexts ∙ long) r.ensures;
      is-left = refl;
      is-right = refl;
    }
