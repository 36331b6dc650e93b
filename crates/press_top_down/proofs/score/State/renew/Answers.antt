use Rattle.press_nodes.specs.Tables.{links_in}
use Rattle.press_nodes.specs.Numbers.{numbers_in}
use native.Mathlib.Omega.{arith}
use Rattle.press_top_down.proofs.Scoring.{score-few}
use Rattle.press_top_down.proofs.Renewing.{one-renewed}
use Rattle.press_top_down.proofs.score.State.renew.Goals as goal

pub put_score-requires : goal.put_score-requires
put_score-requires c =
    let t = c.args.self.now in
    (c.requires.tables.scored, omega (arith, c.requires.tables.linked.few), omega (arith, score-few (links_in t.links.now) t.left.now t.ahead.now (numbers_in t.numbers.now) c.args.n.0))

pub returns : goal.returns
returns c = one-renewed _ c.score.ensures c.put_score.ensures
