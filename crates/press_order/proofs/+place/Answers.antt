use mathlib.Core.Path.{sym, ◌∙◌}
use native.Mathlib.Omega.{arith}
use Rattle.press_nodes.proofs.Found.{found-leaf, found-join}
use Rattle.press_nodes.proofs.Numbers.{numbers-length}
use Rattle.press_order.proofs.Placing.{has-entry, placed-before, not-placed, asks-first, asks-next, places-old, leaf-fits, places-leaf, left-inside, right-inside, first_below, second_below, step_fits, places-step}
use Rattle.press_order.proofs.+place.Goals as goal

pub bounds-numbers-index : goal.bounds-numbers-index
bounds-numbers-index t c = omega (arith, c.index.ensures, has-entry c.args.numbers.now c.requires)

pub returns-then-is_some : goal.returns-then-is_some
returns-then-is_some t c = places-old c.requires (placed-before c.args.numbers.now c.requires c.index.ensures c.if-is_some.ensures)

pub put_next-requires : goal.put_next-requires
put_next-requires t c = let P = c.requires in (
  has-entry c.args.numbers.now P,
  leaf-fits P (not-placed c.args.numbers.now P c.index.ensures c.if-is_some.ensures) (found-leaf _ _ _ c.link_at-found.ensures c.in_default.is),
)

pub returns-in_default : goal.returns-in_default
returns-in_default t c =
    places-leaf c.requires (not-placed c.args.numbers.now c.requires c.index.ensures c.if-is_some.ensures) (found-leaf _ _ _ c.link_at-found.ensures c.in_default.is) c.put_next.ensures

pub in_turn-premises-requires : goal.in_turn-premises-requires
in_turn-premises-requires t c = let joins = found-join _ _ _ _ _ c.link_at-found.ensures c.in-Join.is in (
  left-inside c.requires (not-placed c.args.numbers.now c.requires c.index.ensures c.if-is_some.ensures) joins,
  right-inside c.requires (not-placed c.args.numbers.now c.requires c.index.ensures c.if-is_some.ensures) joins,
)

pub place-with_first-requires : goal.place-with_first-requires
place-with_first-requires t c = let joins = found-join _ _ _ _ _ c.link_at-found.ensures c.in-Join.is in
    let p = c.in_turn-premises.ensures in
    let i = first_below c.requires (not-placed c.args.numbers.now c.requires c.index.ensures c.if-is_some.ensures) joins p.first p.second in
    (omega (arith, c.decreases, i), asks-first c.requires _ i)

pub place-with_both-requires : goal.place-with_both-requires
place-with_both-requires t c = let joins = found-join _ _ _ _ _ c.link_at-found.ensures c.in-Join.is in
    let p = c.in_turn-premises.ensures in
    let i = first_below c.requires (not-placed c.args.numbers.now c.requires c.index.ensures c.if-is_some.ensures) joins p.first p.second in
    let j = second_below c.requires (not-placed c.args.numbers.now c.requires c.index.ensures c.if-is_some.ensures) joins p.first p.second in (
      omega (arith, c.decreases, j),
      asks-next (asks-first c.requires _ i) _ _ _ c.place-with_first.ensures (numbers-length _ ∙ c.place-with_first.auto.numbers ∙ sym (numbers-length _)) (omega (arith, j, c.requires.inside)),
    )

pub put_next-requires-2 : goal.put_next-requires-2
put_next-requires-2 t c = let joins = found-join _ _ _ _ _ c.link_at-found.ensures c.in-Join.is in
    let p = c.in_turn-premises.ensures in (
      omega (arith, has-entry c.args.numbers.now c.requires, c.place-with_first.auto.numbers, c.place-with_both.auto.numbers),
      step_fits c.requires (not-placed c.args.numbers.now c.requires c.index.ensures c.if-is_some.ensures) joins p.first p.second c.place-with_first.ensures c.place-with_both.ensures,
    )

pub returns : goal.returns
returns t c = let joins = found-join _ _ _ _ _ c.link_at-found.ensures c.in-Join.is in
    let p = c.in_turn-premises.ensures in
    places-step c.requires (not-placed c.args.numbers.now c.requires c.index.ensures c.if-is_some.ensures) joins p.first p.second c.place-with_first.ensures c.place-with_both.ensures c.put_next-2.ensures
