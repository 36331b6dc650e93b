use mathlib.Core.Path.{ap, ◌∙◌}
use Prim.Native.Nat.{ℕ, ◌<◌}
use native.Mathlib.Omega.{arith}
use lib.ListN.{length, set}
use Rattle.press_nodes.specs.Tables.{links_in}
use Rattle.press_nodes.proofs.Tables.{links-length}
use Rattle.press_nodes.proofs.Found.{found-leaf, found-join}
use Rattle.press_marks.proofs.Cores.{join-unmarked, line-within, line_marked}
use Rattle.press_marks.proofs.mark_turn.Goals as goal

pub bounds-core-index : goal.bounds-core-index
bounds-core-index c =
    let h : c.args.k.0 < length (links_in c.args.links.now) = rw (links-length c.args.links.now) c.requires.k_in_bounds.0 in
    omega (arith, line-within _ c.args.k.0 _ (found-leaf _ _ _ c.link_at.ensures c.in-Leaf.is) (length c.args.core.now) h c.requires.k_in_bounds.1)

pub returns-in-Leaf : goal.returns-in-Leaf
returns-in-Leaf c =
    ap (λ (i : ℕ). set c.args.core.now i 1) c.index.ensures
    ∙ line_marked _ _ _ (found-leaf _ _ _ c.link_at.ensures c.in-Leaf.is) c.args.core.now

pub returns-in_default : goal.returns-in_default
returns-in_default c = join-unmarked _ _ _ _ _ _ (found-join _ _ _ _ _ c.link_at.ensures c.in_default.is)
