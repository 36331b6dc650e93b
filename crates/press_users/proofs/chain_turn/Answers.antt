use Rattle.std.proofs.Common.{arith}
use Rattle.press_users.proofs.Chains.{not-chained, front-chained}
use Rattle.press_users.proofs.chain_turn.Goals as goal

pub returns-in_default : goal.returns-in_default
returns-in_default c = not-chained _ _ c.requires.chain c.in_default.ensures.none

pub returns : goal.returns
returns c =
    front-chained _ c.args.heads.now c.args.nexts.now c.index.ensures c.index-q.ensures c.requires.chain c.in-Some.ensures.some.0
    (omega (arith, c.in-Some.ensures.some.1)) (omega arith)
