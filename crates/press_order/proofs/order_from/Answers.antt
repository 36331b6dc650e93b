use Rattle.std.proofs.Common.{◌≡◌, length, replicate, None, rules}
use lib.Seq.{length-take-le}
use Rattle.press_nodes.proofs.Lent.{front_long, front-again}
use Rattle.press_order.proofs.Arranging.{none-stand, starts, order-found}
use Rattle.press_order.proofs.order_from.Goals as goal

pub place-requires : goal.place-requires
place-requires c =
    let u = c.uses_from in
    let p = c.requires in
    let e : c.fill.new.self ≡ replicate (length c.args.numbers.now) None = search rules in
    starts _ c.args.numbers.now _ _ p.links p.numbers_len.1 (length-take-le _ _ (front_long _ u.new.counts _ u.auto.counts p.links.few)) p.numbers_len.0 e

pub returns-clause-numbers : goal.returns-clause-numbers
returns-clause-numbers c =
    let u = c.uses_from in
    let e : c.fill.new.self ≡ replicate (length c.args.numbers.now) None = search rules in
    (order-found _ _ u.ensures (front-again _ u.new.counts _ u.auto.counts c.requires.links.few) (none-stand c.args.numbers.now _ e) c.place.ensures).numbered

pub returns-clause-count : goal.returns-clause-count
returns-clause-count c =
    let u = c.uses_from in
    let e : c.fill.new.self ≡ replicate (length c.args.numbers.now) None = search rules in
    (order-found _ _ u.ensures (front-again _ u.new.counts _ u.auto.counts c.requires.links.few) (none-stand c.args.numbers.now _ e) c.place.ensures).counts
