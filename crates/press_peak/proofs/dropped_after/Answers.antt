use mathlib.Core.Path.{sym, ◌∙◌}
use borrow.Author.Tests.{eqb-true, eqb-false}
use native.Mathlib.Omega.{arith}
use Rattle.press_nodes.specs.Numbers.{numbers_in}
use Rattle.press_nodes.proofs.Numbers.{numbers-length}
use Rattle.press_nodes.proofs.Found.{found-leaf}
use Rattle.press_last.proofs.Joined.{joined-inside, found-joined}
use Rattle.press_peak.proofs.Peaking.{drop-most, dropped-leaf, dropped-same, dropped-two}
use Rattle.press_peak.proofs.dropped_after.Goals as goal

pub returns-in_default : goal.returns-in_default
returns-in_default c = dropped-leaf _ _ _ (found-leaf _ _ _ c.link_at.ensures c.in_default.is)

pub drop_count-of_left-requires : goal.drop_count-of_left-requires
drop_count-of_left-requires c =
    rw (← numbers-length c.args.last.now) (joined-inside (found-joined _ _ _ _ _ _ _ c.requires.links c.requires.k_in_bounds.0 c.requires.k_in_bounds.1 c.link_at.ensures c.in-Join.is)).0

pub returns-then-eq : goal.returns-then-eq
returns-then-eq c =
    dropped-same (found-joined _ _ _ _ _ _ _ c.requires.links c.requires.k_in_bounds.0 c.requires.k_in_bounds.1 c.link_at.ensures c.in-Join.is)
    _ (eqb-true _ _ (sym c.eq.ensures ∙ c.if-eq.true)) c.drop_count-of_left.ensures

pub drop_count-requires : goal.drop_count-requires
drop_count-requires c =
    rw (← numbers-length c.args.last.now) (joined-inside (found-joined _ _ _ _ _ _ _ c.requires.links c.requires.k_in_bounds.0 c.requires.k_in_bounds.1 c.link_at.ensures c.in-Join.is)).1

pub overflow_add-result : goal.overflow_add-result
overflow_add-result c = let last = numbers_in c.args.last.now in
    let k = c.args.k.0 in
    omega (arith, drop-most last k c.in-Join.left.0 _ c.drop_count-of_left.ensures, drop-most last k c.in-Join.right.0 _ c.drop_count.ensures)

pub returns : goal.returns
returns c =
    dropped-two (found-joined _ _ _ _ _ _ _ c.requires.links c.requires.k_in_bounds.0 c.requires.k_in_bounds.1 c.link_at.ensures c.in-Join.is)
    _ _ (eqb-false _ _ (sym c.eq.ensures ∙ c.if-eq.false)) c.drop_count-of_left.ensures c.drop_count.ensures
