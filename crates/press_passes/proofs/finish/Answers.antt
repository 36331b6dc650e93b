use Prim.Native.Nat.{ℕ, ◌≤◌, ◌<◌}
use mathlib.Core.List.{List}
use mathlib.Core.Path.{◌≡◌, refl, sym, ap, ap₂, subst, ◌∙◌}
use native.Mathlib.Omega.{arith}
use lib.ListN.{length}
use lib.Seq.{length-take-le}
use Rattle.base.specs.Bytes.{put}
use Rattle.clause.specs.declared.Clause.{Clause}
use Rattle.sheet.specs.Editions.{most_nodes, capacity}
use Rattle.sheet.specs.Fields.{sheet_bytes}
use Rattle.sheet.specs.Records.{Node}
use Rattle.press_spec.specs.Drops.{with_drops}
use Rattle.press_spec.specs.Order.{order_from, laid}
use Rattle.press_spec.specs.Better.{better_of, better}
use Rattle.press_spec.specs.Rebuild.{ended}
use Rattle.press_spec.specs.Press.{arranged, order_of, core, report}
use Rattle.press_spec.proofs.Laid.{length-laid}
use Rattle.press_nodes.specs.declared.link.Link.{Link as CodeLink}
use Rattle.press_nodes.specs.Tables.{links_in, nodes_in, Nodes}
use Rattle.press_nodes.proofs.Lent.{lent-long}
use Rattle.press_order.specs.Placing.{Numbered, Orderly}
use Rattle.press_lay.specs.Laying.{Laying}
use Rattle.press_lay.proofs.Laying.{laid-nodes-sound}
use Rattle.press_better.proofs.Choosing.{better-orderly, better-long}
use Rattle.press_write.specs.Emittable.{Emittable}
use Rattle.press_passes.proofs.finish.Goals as goal

-- the nodes as the better order lays them out, and that order's name
module _ (s : List Node) (from : ℕ) where
  arranged_is : laid s (better s from) ≡ arranged (ended s from)
  unfolding arranged
  arranged_is = refl

  order_is : better_of s from ≡ order_of (ended s from)
  unfolding order_of
  order_is = refl

-- what is known after each pass: how many nodes the order has, and what stands in the tables that the pass filled
module _ (links : List CodeLink) (clauses : List Clause) (from : ℕ) (tables : Nodes links clauses) (inside : from < length links)
    (small : length (arranged (ended (nodes_in links clauses) from)) ≤ most_nodes) where
  abbrev order : List ℕ
  order = better (nodes_in links clauses) from

  order-fits : length order ≤ most_nodes
  order-fits = omega (arith, length-laid (nodes_in links clauses) order, ap length (arranged_is (nodes_in links clauses) from))

  old-fits : length (order_from (links_in links) from) ≤ most_nodes
  old-fits = omega (arith, order-fits, better-long tables.linked from inside clauses)

  orderly : Orderly links order
  orderly = better-orderly tables.linked from inside clauses

  module _ (count : ℕ) (counts : (d : List Clause) → count ≡ length (better (nodes_in links d) from)) where
    count_fits : count ≤ most_nodes
    count_fits = omega (arith, counts clauses, order-fits)

    -- the order's numbers, room for its nodes, and then the nodes that are laid out by them
    module _ (numbers : List ℕ) (stands : (d : List Clause) → Numbered numbers (better (nodes_in links d) from)) (room : ℕ) (enough : room ≡ count) where
      fills : length order ≡ room
      fills = sym (counts clauses) ∙ sym enough

      laying : Laying links numbers room
      laying = record { order = order; orderly = orderly; numbered = stands clauses; fills = fills }

      module _ (h : List CodeLink) (c : List Clause)
          (lays : (o : List ℕ) → Orderly links o → Numbered numbers o → length o ≡ room → nodes_in h c ≡ laid (nodes_in links clauses) o) where
        out : nodes_in h c ≡ laid (nodes_in links clauses) order
        out = lays order orderly (stands clauses) fills

        pressed-tables : length c ≡ length h → Nodes h c
        pressed-tables size = laid-nodes-sound links order orderly tables h c out size

        lent : nodes_in h c ≡ arranged (ended (nodes_in links clauses) from)
        lent = out ∙ arranged_is (nodes_in links clauses) from

-- ---- the better order

pub better_order-chosen-requires-clause-numbers_len : goal.better_order-chosen-requires-clause-numbers_len
better_order-chosen-requires-clause-numbers_len c =
    let q = c.requires.nodes in
    (lent-long _ capacity _ q.0.linked.few, q.1, old-fits _ _ _ q.0 q.1 c.requires.from_len_bound)

-- ---- the tables for the pressed nodes

pub slice_bounds-laid-end : goal.slice_bounds-laid-end
slice_bounds-laid-end c = let q = c.requires.nodes in count_fits _ _ _ q.0 q.1 c.requires.from_len_bound _ c.better_order-chosen.ensures.nodes

pub slice_bounds-laid-end-2 : goal.slice_bounds-laid-end-2
slice_bounds-laid-end-2 c =
    let q = c.requires.nodes in
    sym (lent-long _ most_nodes _ (count_fits _ _ _ q.0 q.1 c.requires.from_len_bound _ c.better_order-chosen.ensures.nodes))

pub slice_bounds-sets-end : goal.slice_bounds-sets-end
slice_bounds-sets-end c =
    let q = c.requires.nodes in
    omega (arith, q.2, count_fits _ _ _ q.0 q.1 c.requires.from_len_bound _ c.better_order-chosen.ensures.nodes)

pub slice_bounds-sets-end-2 : goal.slice_bounds-sets-end-2
slice_bounds-sets-end-2 c =
    let q = c.requires.nodes in
    sym (length-take-le _ _ (omega (arith, q.2, count_fits _ _ _ q.0 q.1 c.requires.from_len_bound _ c.better_order-chosen.ensures.nodes)))

pub lay-requires-clause-laying : goal.lay-requires-clause-laying
lay-requires-clause-laying c =
    let q = c.requires.nodes in
    let o = c.better_order-chosen.ensures in
    laying _ _ _ q.0 q.1 c.requires.from_len_bound _ o.nodes _ o.numbers _
    (lent-long _ most_nodes _ (count_fits _ _ _ q.0 q.1 c.requires.from_len_bound _ o.nodes))

-- ---- the pressed nodes

pub write-requires-clause-nodes : goal.write-requires-clause-nodes
write-requires-clause-nodes c =
    let q = c.requires.nodes in
    let o = c.better_order-chosen.ensures in
    let y = c.lay in
    let fits = count_fits _ _ _ q.0 q.1 c.requires.from_len_bound _ o.nodes in
    pressed-tables _ _ _ q.0 q.1 c.requires.from_len_bound _ o.nodes _ o.numbers _ (lent-long _ most_nodes _ fits) _ _ y.ensures
    (y.auto.pressed_clauses ∙ length-take-le _ _ (omega (arith, q.2, fits)) ∙ sym (y.auto.pressed_links ∙ lent-long _ most_nodes _ fits))

pub write-requires-clause-emittable : goal.write-requires-clause-emittable
write-requires-clause-emittable c =
    let q = c.requires.nodes in
    let o = c.better_order-chosen.ensures in
    let fits = count_fits _ _ _ q.0 q.1 c.requires.from_len_bound _ o.nodes in
    subst (λ (s : List Node). Emittable c.args.edition c.args.lines s c.args.out.now c.args.marks.now)
    (sym (lent _ _ _ q.0 q.1 c.requires.from_len_bound _ o.nodes _ o.numbers _ (lent-long _ most_nodes _ fits) _ _ c.lay.ensures))
    c.requires.emittable

pub returns : goal.returns
returns c =
    let q = c.requires.nodes in
    let o = c.better_order-chosen.ensures in
    let e = c.write.ensures in
    let fits = count_fits _ _ _ q.0 q.1 c.requires.from_len_bound _ o.nodes in
    let same = lent _ _ _ q.0 q.1 c.requires.from_len_bound _ o.nodes _ o.numbers _ (lent-long _ most_nodes _ fits) _ _ c.lay.ensures in (
      e.report ∙ ap₂ (report c.args.lines) (o.order c.args.clauses.now ∙ order_is _ _) same,
      e.lent.0 ∙ ap (λ (s : List Node). put c.args.out.now 0 (sheet_bytes c.args.edition (with_drops s))) same,
      e.lent.1 ∙ ap (λ (s : List Node). put c.args.marks.now 0 (core c.args.lines s)) same,
    )
