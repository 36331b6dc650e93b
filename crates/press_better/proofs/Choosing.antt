-- Both orders of a table of links, their peaks, and which of them is the better one.
use Prim.Native.Nat.{ℕ, ◌≤◌, ◌<◌}
use mathlib.Core.Path.{◌≡◌, sym, ap, ◌∙◌}
use mathlib.Core.List.{List}
use lib.ListN.{length}
use Rattle.sheet.specs.Records.{Node}
use Rattle.press_spec.specs.declared.Order.{Order}
use Rattle.press_spec.specs.declared.Order.TheVariants.{BottomUp, TopDown}
use Rattle.press_spec.specs.Links.{Link}
use Rattle.press_spec.specs.Order.{order_from, laid}
use Rattle.press_spec.specs.TopDown.{top_down}
use Rattle.press_spec.specs.Better.{order_by, peak_by, better_of, better}
use Rattle.press_spec.proofs.Ordered.{order_from-ends}
use Rattle.press_spec.proofs.TopDown.{top_down-ends, orders-long}
use Rattle.press_spec.proofs.Better.{better-new, better-old}
use Rattle.clause.specs.declared.Clause.{Clause}
use Rattle.press_nodes.specs.declared.link.Link.{Link as CodeLink}
use Rattle.press_nodes.specs.Tables.{links_in, nodes_in, Links}
use Rattle.press_nodes.proofs.Tables.{links-nodes, links-length, links-falling}
use Rattle.press_order.specs.Placing.{Orderly}
use Rattle.press_order.proofs.Placing.{links-closed}
use Rattle.press_lay.specs.Laying.{laid_links}
use Rattle.press_lay.proofs.Laying.{links-laid}
use Rattle.press_peak.specs.Peaks.{peak_of_links}
use Rattle.press_peak.proofs.Peaks.{peak-of-links}

module _ {h : List CodeLink} (tables : Links h) (from : ℕ) (inside : from < length h) where
  abbrev old : List ℕ
  old = order_from (links_in h) from

  abbrev new : List ℕ
  new = top_down (links_in h) from

  there : from < length (links_in h)
  there = rw (links-length h) inside

  pub old-orderly : Orderly h (order_from (links_in h) from)
  old-orderly = (order_from-ends (links_in h) (links-falling tables) (λ n. n < length h) (links-closed h tables) from inside).each

  pub new-orderly : Orderly h (top_down (links_in h) from)
  new-orderly = (top_down-ends (links_in h) (links-falling tables) from there (λ n. n < length h) (links-closed h tables) inside).each

  pub as_long : length (top_down (links_in h) from) ≡ length (order_from (links_in h) from)
  as_long = sym (orders-long (links_in h) (links-falling tables) from there)

-- ---- whatever the clauses are

module _ (h : List CodeLink) (from : ℕ) (c : List Clause) where
  abbrev s : List Node
  s = nodes_in h c

  is-old : order_by BottomUp (nodes_in h c) from ≡ order_from (links_in h) from
  unfolding order_by
  is-old = ap (λ (t : List Link). order_from t from) (links-nodes h c)

  is-new : order_by TopDown (nodes_in h c) from ≡ top_down (links_in h) from
  unfolding order_by
  is-new = ap (λ (t : List Link). top_down t from) (links-nodes h c)

  peak-is : (w : Order) (order : List ℕ) → order_by w (nodes_in h c) from ≡ order → peak_by w (nodes_in h c) from ≡ peak_of_links 0 (laid_links (links_in h) order)
  unfolding peak_by
  peak-is w order e =
      peak-of-links (laid s (order_by w s from)) 0
      ∙ ap (peak_of_links 0) (links-laid s (order_by w s from))
      ∙ rw (e, links-nodes h c)

  -- the better order is the one that its name says
  named : (w : Order) → w ≡ better_of (nodes_in h c) from → better (nodes_in h c) from ≡ order_by w (nodes_in h c) from
  unfolding better
  named w e = ap (λ (x : Order). order_by x s from) (sym e)

  module _ (a b : ℕ) (of-old : a ≡ peak_of_links 0 (laid_links (links_in h) (order_from (links_in h) from)))
      (of-new : b ≡ peak_of_links 0 (laid_links (links_in h) (top_down (links_in h) from))) where
    pub chooses-new : b < a → TopDown ≡ better_of (nodes_in h c) from
    chooses-new l = sym (better-new s from (rw (peak-is TopDown _ is-new, peak-is BottomUp _ is-old, ← of-old, ← of-new) l))

    pub chooses-old : a ≤ b → BottomUp ≡ better_of (nodes_in h c) from
    chooses-old l = sym (better-old s from (rw (peak-is TopDown _ is-new, peak-is BottomUp _ is-old, ← of-old, ← of-new) l))

  pub better-is-new : TopDown ≡ better_of (nodes_in h c) from → better (nodes_in h c) from ≡ top_down (links_in h) from
  better-is-new e = named TopDown e ∙ is-new

  pub better-is-old : BottomUp ≡ better_of (nodes_in h c) from → better (nodes_in h c) from ≡ order_from (links_in h) from
  better-is-old e = named BottomUp e ∙ is-old

-- ---- what a caller asks of the better order

module _ {h : List CodeLink} (tables : Links h) (from : ℕ) (inside : from < length h) (c : List Clause) where
  pub better-orderly : Orderly h (better (nodes_in h c) from)
  unfolding better
  better-orderly = by (better_of (nodes_in h c) from)
    where
      by : (w : Order) → Orderly h (order_by w (nodes_in h c) from)
      by BottomUp = rw (is-old h from c) (old-orderly tables from inside)
      by TopDown = rw (is-new h from c) (new-orderly tables from inside)

  pub better-long : length (better (nodes_in h c) from) ≡ length (order_from (links_in h) from)
  unfolding better
  better-long = by (better_of (nodes_in h c) from)
    where
      by : (w : Order) → length (order_by w (nodes_in h c) from) ≡ length (order_from (links_in h) from)
      by BottomUp = ap length (is-old h from c)
      by TopDown = ap length (is-new h from c) ∙ as_long tables from inside
