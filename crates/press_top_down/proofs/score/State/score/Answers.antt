use Prim.Native.Nat.{ℕ}
use lib.ListN.{get_or}
use native.Mathlib.Omega.{arith}
use Rattle.press_spec.specs.Links.{join}
use Rattle.press_nodes.proofs.Found.{found-leaf, found-join, found-sound}
use Rattle.press_top_down.proofs.Scoring.{gain-few, score-leaf, left-waits, right-waits, score-gain}
use Rattle.press_top_down.proofs.score.State.score.Goals as goal
use Rattle.press_top_down.proofs.score.State.score.Goals.{then-not-is_placed-via-then-not-is_placed, then-not-is_placed-via-else-not-is_placed+then-not-is_placed-2}

pub returns-in_default : goal.returns-in_default
returns-in_default c = score-leaf _ _ _ _ _ c.if-not-is_unplaced.ensures _ (found-leaf _ _ _ c.link_at.ensures c.in_default.is)

pub is_placed-requires : goal.is_placed-requires
is_placed-requires c = let o = found-sound _ _ _ _ _ _ c.requires.links c.requires.left_len.3 c.link_at.ensures c.in-Join.is in omega arith

pub is_placed-requires-else-not-is_placed : goal.is_placed-requires-else-not-is_placed
is_placed-requires-else-not-is_placed c = let o = found-sound _ _ _ _ _ _ c.requires.links c.requires.left_len.3 c.link_at.ensures c.in-Join.is in omega arith

pub returns-then-not-is_placed : goal.returns-then-not-is_placed
returns-then-not-is_placed c =
    let e = found-join _ _ _ _ _ c.link_at.ensures c.in-Join.is in
    elim c.then-not-is_placed.branch [
      | then-not-is_placed-via-then-not-is_placed w ↦ left-waits _ _ _ _ _ c.if-not-is_unplaced.ensures _ _ _ e w.if-not-is_placed.ensures
      | then-not-is_placed-via-else-not-is_placed+then-not-is_placed-2 w ↦
          right-waits _ _ _ _ _ c.if-not-is_unplaced.ensures _ _ _ e w.if-not-is_placed.ensures w.if-not-is_placed-2.ensures
    ]

pub gain-requires : goal.gain-requires
gain-requires c = let o = found-sound _ _ _ _ _ _ c.requires.links c.requires.left_len.3 c.link_at.ensures c.in-Join.is in (omega arith, omega arith)

pub overflow_add-result : goal.overflow_add-result
overflow_add-result c = let t = c.args.self.now.ahead.now in
    omega (arith, gain-few (λ (m : ℕ). get_or t m 0) (join 0 c.in-Join.left.0 c.in-Join.right.0), c.gain.ensures 0)

pub returns : goal.returns
returns c =
    score-gain _ _ _ _ _ c.if-not-is_unplaced.ensures _ _ _ (found-join _ _ _ _ _ c.link_at.ensures c.in-Join.is) c.if-not-is_placed.ensures
    _ c.if-not-is_placed-2.ensures c.gain.ensures
