use Prim.Native.Nat.{ℕ, ◌≤◌, ◌<◌}
use mathlib.Core.List.{List}
use mathlib.Core.Path.{◌≡◌, sym, ap, ◌∙◌}
use lib.ListN.{length}
use Rattle.press_spec.specs.declared.Order.TheVariants.{BottomUp, TopDown}
use Rattle.press_spec.specs.Order.{order_from}
use Rattle.press_spec.specs.TopDown.{top_down}
use Rattle.press_spec.specs.Better.{better_of, better}
use Rattle.clause.specs.declared.Clause.{Clause}
use Rattle.press_nodes.specs.declared.link.Link.{Link as CodeLink}
use Rattle.press_nodes.specs.Tables.{links_in, nodes_in, Links}
use Rattle.press_nodes.specs.Numbers.{numbers_in}
use Rattle.press_order.specs.Placing.{Numbered, Orderly}
use Rattle.press_lay.specs.Laying.{laid_links}
use Rattle.press_peak.specs.Peaks.{peak_of_links}
use Rattle.press_better.proofs.Choosing.{old-orderly, new-orderly, as_long, chooses-new, chooses-old, better-is-new, better-is-old}
use Rattle.press_better.proofs.better_order.Goals as goal

-- both orders in turn, each in the same table: how many nodes they have, their peaks, and where they stand
module _ (links : List CodeLink) (from nodes a b : ℕ) (first second : List ℕ) (tables : Links links) (inside : from < length links)
    (count : nodes ≡ length (order_from (links_in links) from))
    (one : (order : List ℕ) → Orderly links order → Numbered first order → length order ≡ nodes → a ≡ peak_of_links 0 (laid_links (links_in links) order))
    (two : (order : List ℕ) → Orderly links order → Numbered second order → length order ≡ nodes → b ≡ peak_of_links 0 (laid_links (links_in links) order))
    (old-stands : Numbered first (order_from (links_in links) from)) (new-stands : Numbered second (top_down (links_in links) from)) where
  bottom-up : a ≡ peak_of_links 0 (laid_links (links_in links) (order_from (links_in links) from))
  bottom-up = one _ (old-orderly tables from inside) old-stands (sym count)

  top-down : b ≡ peak_of_links 0 (laid_links (links_in links) (top_down (links_in links) from))
  top-down = two _ (new-orderly tables from inside) new-stands (as_long tables from inside ∙ sym count)

  takes-new : b < a → (c : List Clause) → TopDown ≡ better_of (nodes_in links c) from
  takes-new h c = chooses-new links from c _ _ bottom-up top-down h

  takes-old : a ≤ b → (c : List Clause) → BottomUp ≡ better_of (nodes_in links c) from
  takes-old h c = chooses-old links from c _ _ bottom-up top-down h

  is-new : b < a → (c : List Clause) → better (nodes_in links c) from ≡ top_down (links_in links) from
  is-new h c = better-is-new links from c (takes-new h c)

  is-old : a ≤ b → (c : List Clause) → better (nodes_in links c) from ≡ order_from (links_in links) from
  is-old h c = better-is-old links from c (takes-old h c)

pub peak_by-bottom_up-requires-clause-laying : goal.peak_by-bottom_up-requires-clause-laying
peak_by-bottom_up-requires-clause-laying c = let o = c.order_from-nodes.ensures in record {
  order = order_from (links_in c.args.links.now) c.args.from.0;
  orderly = old-orderly c.requires.links c.args.from.0 c.requires.numbers_len.1;
  numbered = o.numbers;
  fills = sym o.count;
}

pub peak_by-top_down-requires-clause-laying : goal.peak_by-top_down-requires-clause-laying
peak_by-top_down-requires-clause-laying c = let inside = c.requires.numbers_len.1 in record {
  order = top_down (links_in c.args.links.now) c.args.from.0;
  orderly = new-orderly c.requires.links c.args.from.0 inside;
  numbered = c.top_down.ensures.numbers;
  fills = as_long c.requires.links c.args.from.0 inside ∙ sym c.order_from-nodes.ensures.count;
}

pub returns-then-top_down-bottom_up-clause-order : goal.returns-then-top_down-bottom_up-clause-order
returns-then-top_down-bottom_up-clause-order c =
    takes-new c.args.links.now c.args.from.0 _ _ _ (numbers_in c.order_from-nodes.new.numbers) (numbers_in c.top_down.new.numbers) c.requires.links c.requires.numbers_len.1 c.order_from-nodes.ensures.count c.peak_by-bottom_up.ensures c.peak_by-top_down.ensures c.order_from-nodes.ensures.numbers c.top_down.ensures.numbers c.if-top_down-bottom_up.true

pub returns-then-top_down-bottom_up-clause-numbers : goal.returns-then-top_down-bottom_up-clause-numbers
returns-then-top_down-bottom_up-clause-numbers c = λ d.
    rw (is-new c.args.links.now c.args.from.0 _ _ _ (numbers_in c.order_from-nodes.new.numbers) (numbers_in c.top_down.new.numbers) c.requires.links c.requires.numbers_len.1 c.order_from-nodes.ensures.count c.peak_by-bottom_up.ensures c.peak_by-top_down.ensures c.order_from-nodes.ensures.numbers c.top_down.ensures.numbers c.if-top_down-bottom_up.true d) c.top_down.ensures.numbers

pub returns-then-top_down-bottom_up-clause-nodes : goal.returns-then-top_down-bottom_up-clause-nodes
returns-then-top_down-bottom_up-clause-nodes c = λ d. c.order_from-nodes.ensures.count
    ∙ sym (as_long c.requires.links c.args.from.0 c.requires.numbers_len.1)
    ∙ ap length (sym (is-new c.args.links.now c.args.from.0 _ _ _ (numbers_in c.order_from-nodes.new.numbers) (numbers_in c.top_down.new.numbers) c.requires.links c.requires.numbers_len.1 c.order_from-nodes.ensures.count c.peak_by-bottom_up.ensures c.peak_by-top_down.ensures c.order_from-nodes.ensures.numbers c.top_down.ensures.numbers c.if-top_down-bottom_up.true d))

pub returns-clause-order : goal.returns-clause-order
returns-clause-order c =
    takes-old c.args.links.now c.args.from.0 _ _ _ (numbers_in c.order_from-nodes.new.numbers) (numbers_in c.top_down.new.numbers) c.requires.links c.requires.numbers_len.1 c.order_from-nodes.ensures.count c.peak_by-bottom_up.ensures c.peak_by-top_down.ensures c.order_from-nodes.ensures.numbers c.top_down.ensures.numbers c.if-top_down-bottom_up.false

pub returns-clause-numbers : goal.returns-clause-numbers
returns-clause-numbers c = λ d.
    rw (is-old c.args.links.now c.args.from.0 _ _ _ (numbers_in c.order_from-nodes.new.numbers) (numbers_in c.top_down.new.numbers) c.requires.links c.requires.numbers_len.1 c.order_from-nodes.ensures.count c.peak_by-bottom_up.ensures c.peak_by-top_down.ensures c.order_from-nodes.ensures.numbers c.top_down.ensures.numbers c.if-top_down-bottom_up.false d) c.order_from.ensures.numbers

pub returns-clause-nodes : goal.returns-clause-nodes
returns-clause-nodes c = λ d. c.order_from-nodes.ensures.count
    ∙ ap length (sym (is-old c.args.links.now c.args.from.0 _ _ _ (numbers_in c.order_from-nodes.new.numbers) (numbers_in c.top_down.new.numbers) c.requires.links c.requires.numbers_len.1 c.order_from-nodes.ensures.count c.peak_by-bottom_up.ensures c.peak_by-top_down.ensures c.order_from-nodes.ensures.numbers c.top_down.ensures.numbers c.if-top_down-bottom_up.false d))
