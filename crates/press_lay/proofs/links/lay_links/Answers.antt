use mathlib.Core.Path.{refl, sym, ◌∙◌}
use Prim.Native.Nat.{◌<◌}
use lib.ListN.{length}
use native.Mathlib.Omega.{arith}
use Rattle.press_spec.specs.Links.{link_at}
use Rattle.press_nodes.specs.Tables.{links_in}
use Rattle.press_nodes.specs.Numbers.{numbers_in}
use Rattle.press_nodes.proofs.Numbers.{numbers-length}
use Rattle.press_order.proofs.Placing.{entry-some, entry-none}
use Rattle.press_lay.proofs.Laying.{relinked, fits, turn-none, link-turn, parents-known, all-linked}
use Rattle.press_lay.proofs.links.lay_links.Goals as goal
use Rattle.press_lay.proofs.links.lay_links.Goals.{then-is_some, else-is_some}

pub lay_link-requires-clause-n_in_bounds : goal.lay_link-requires-clause-n_in_bounds
lay_link-requires-clause-n_in_bounds c = let L = c.requires.laying in
    let here : c.loop-n.n < length c.args.numbers.now = omega arith in
    (omega arith, entry-some c.args.numbers.now _ _ refl here c.if-is_some.ensures, omega (arith, fits (numbers_in c.args.numbers.now) L.order L.numbered c.loop-n.n, L.fills))

pub lay_link-requires-clause-parents : goal.lay_link-requires-clause-parents
lay_link-requires-clause-parents c = let L = c.requires.laying in
    let here : c.loop-n.n < length c.args.numbers.now = omega arith in
    parents-known c.args.links.now L.order L.orderly (numbers_in c.args.numbers.now) L.numbered (numbers-length c.args.numbers.now ∙ c.requires.numbers_len) c.loop-n.n
    (entry-some c.args.numbers.now _ _ refl here c.if-is_some.ensures)

pub loop-n-preserved : goal.loop-n-preserved
loop-n-preserved c =
    let L = c.requires.laying in
    let numbers = numbers_in c.args.numbers.now in
    let h = c.args.links.now in
    let l = c.loop-n in
    let here : l.n < length c.args.numbers.now = omega arith in
    elim c.if-is_some.branch [
      | then-is_some w ↦
          rw w.laid-is (link-turn numbers L.order L.numbered l.n (entry-some c.args.numbers.now _ _ refl here w.if-is_some.ensures) h l.laid _ l.invariant (omega (arith, fits numbers L.order L.numbered l.n, L.fills)) w.lay_link.ensures)
      | else-is_some w ↦ rw w.laid-is (turn-none numbers (relinked numbers h) (link_at (links_in l.laid)) l.n l.invariant (omega (arith, entry-none c.args.numbers.now _ _ refl here w.if-is_some.ensures)))
    ]

pub returns : goal.returns
returns c = let l = c.loop-n in
    λ order orderly numbered fills.
    all-linked c.args.links.now order orderly (numbers_in c.args.numbers.now) numbered (numbers-length c.args.numbers.now ∙ c.requires.numbers_len) l.laid (l.auto.laid ∙ sym fills) (λ m i p. l.invariant m (omega arith) p)
