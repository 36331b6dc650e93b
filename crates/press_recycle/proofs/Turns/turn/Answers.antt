use native.Mathlib.Omega.{arith}
use Rattle.press_nodes.proofs.Found.{found-leaf, found-join, found-sound}
use Rattle.press_recycle.proofs.Recycles.{turn-past, turn-leaf, turn-join}
use Rattle.press_recycle.proofs.Turns.turn.Goals as goal

pub returns-in_default : goal.returns-in_default
returns-in_default c =
    let t = turn-past _ _ c.args.fates.now c.args.sets.now c.args.n.0 (omega arith) c.requires.fated_2 _ c.reach_at.ensures c.in_default.is in
    record { reaches = t.0; fated = t.1 }

pub returns-in_default-link_at : goal.returns-in_default-link_at
returns-in_default-link_at c =
    let t = turn-leaf _ _ c.args.fates.now c.args.sets.now c.args.n.0 (omega arith) c.requires.fated_2 _ c.reach_at.ensures _ c.in-Some.is _ _ (found-leaf _ _ _ c.link_at.ensures c.in_default-link_at.is) c.put_fate.ensures in
    record { reaches = t.0; fated = t.1 }

pub hand_on-requires-clause-p_lt_width : goal.hand_on-requires-clause-p_lt_width
hand_on-requires-clause-p_lt_width c =
    let o = found-sound _ _ _ _ _ _ c.requires.links c.requires.uses_len.3 c.link_at.ensures c.in-Join.is in
    (omega arith, omega arith, omega arith)

pub returns : goal.returns
returns c =
    let o = found-sound _ _ _ _ _ _ c.requires.links c.requires.uses_len.3 c.link_at.ensures c.in-Join.is in
    let t = turn-join _ _ c.args.fates.now c.args.sets.now c.args.n.0 (omega arith) c.requires.fated_2 _ c.reach_at.ensures _ c.in-Some.is _ _ _ _ _ _ _ (found-join _ _ _ _ _ c.link_at.ensures c.in-Join.is) o.1 o.2 c.cut_of-cut.ensures c.put_fate-2.ensures c.hand_on.ensures.reaches c.hand_on.ensures.fates in
    record { reaches = t.0; fated = t.1 }
