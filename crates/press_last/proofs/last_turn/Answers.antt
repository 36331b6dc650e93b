use Rattle.std.proofs.Common.{arith}
use Rattle.press_nodes.proofs.Found.{found-leaf, found-join, found-sound}
use Rattle.press_last.proofs.Noting.{turn-leaf, turn-join}
use Rattle.press_last.proofs.last_turn.Goals as goal

pub returns-in_default : goal.returns-in_default
returns-in_default c = let e = found-leaf _ _ _ c.link_at.ensures c.in_default.is in search turn-leaf

pub note_use-requires : goal.note_use-requires
note_use-requires c =
    let o = found-sound _ _ _ _ _ _ c.requires.links c.requires.last_len.1 c.link_at.ensures c.in-Join.is in
    omega arith

pub note_use-requires-2 : goal.note_use-requires-2
note_use-requires-2 c =
    let o = found-sound _ _ _ _ _ _ c.requires.links c.requires.last_len.1 c.link_at.ensures c.in-Join.is in
    omega arith

pub returns : goal.returns
returns c = let e = found-join _ _ _ _ _ c.link_at.ensures c.in-Join.is in search turn-join
