use native.Mathlib.Omega.{arith}
use Rattle.press_nodes.proofs.Found.{found-leaf, found-join, found-sound}
use Rattle.press_top_down.proofs.Taking.{close-leaf, close-asks, close-join}
use Rattle.press_top_down.proofs.close.Goals as goal

pub returns-in_default : goal.returns-in_default
returns-in_default c = let e = found-leaf _ _ _ c.link_at.ensures c.in_default.is in λ m. search close-leaf

pub returns-in-Join : goal.returns-in-Join
returns-in-Join c = let e = found-join _ _ _ _ _ c.link_at.ensures c.in-Join.is in λ m. search close-join

pub take_uses-requires-clause-l_in_bounds : goal.take_uses-requires-clause-l_in_bounds
take_uses-requires-clause-l_in_bounds c =
    let o = found-sound _ _ _ _ _ _ c.requires.links c.requires.ahead_len.1 c.link_at.ensures c.in-Join.is in (omega arith, omega arith)

pub take_uses-requires-clause-by_index : goal.take_uses-requires-clause-by_index
take_uses-requires-clause-by_index c =
    close-asks _ c.args.ahead.now _ _ _ _ (found-join _ _ _ _ _ c.link_at.ensures c.in-Join.is) c.requires.by_index
