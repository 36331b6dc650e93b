-- The better of the two orders: it ends with the conclusion as each of them does, and its peak is the smaller one.
use Prim.Native.Nat.{ℕ, ◌≤◌, ◌<◌, min}
use mathlib.Core.Bool.{Bool, true, false, cond}
use mathlib.Core.Path.{◌≡◌, refl}
use mathlib.Core.List.{List}
use native.Mathlib.Omega.{arith}
use native.Mathlib.Decide.{dec_lt}
use lib.Dec.{ltb}
use lib.ListN.{length}
use borrow.Author.Tests.{ltb-true, ltb-false}
use Rattle.sheet.specs.Records.{Node}
use Rattle.sheet.specs.Counts.{peak_from}
use Rattle.press_spec.specs.Links.{links, link_at, Parents}
use Rattle.press_spec.specs.Trim.{Reaches, itself}
use Rattle.press_spec.specs.Order.{placed, laid, InOrder}
use Rattle.press_spec.specs.Drops.{with_drops}
use Rattle.press_spec.specs.declared.Order.{Order}
use Rattle.press_spec.specs.declared.Order.TheVariants.{BottomUp, TopDown}
use Rattle.press_spec.specs.Better.{order_by, peak_by, better_of, better}
use Rattle.press_spec.proofs.Nodes.{Falling}
use Rattle.press_spec.proofs.Ordered.{Ordering, order_from-ends}
use Rattle.press_spec.proofs.Finished.{reached-closed, ordering-reached}
use Rattle.press_spec.proofs.TopDown.{top_down-ends}

module _ (s : List Node) (falling : Falling (links s)) (from : ℕ) (inside : from < length (links s)) (Q : ℕ → Type 0)
    (closed : (n : ℕ) → Q n → Parents Q (link_at (links s) n)) (start : Q from) where
  pub order_by-ends : (w : Order) → Ordering (links s) Q from (order_by w s from)
  unfolding order_by
  order_by-ends BottomUp = order_from-ends (links s) falling Q closed from start
  order_by-ends TopDown = top_down-ends (links s) falling from inside Q closed start

  pub better-ends : Ordering (links s) Q from (better s from)
  unfolding better
  better-ends = order_by-ends (better_of s from)

-- each of them has what is reached, in order
pub order_by-reached : (s : List Node) → Falling (links s) → (from : ℕ) → from < length (links s) → (w : Order)
    → let reached = Reaches (links s) from in
    InOrder (links s) reached (order_by w s from) × ((n : ℕ) → reached n → placed n (order_by w s from) ≡ true)
order_by-reached s falling from inside w =
    let o = order_by-ends s falling from inside (Reaches (links s) from) (reached-closed (links s) from) itself w in
    (o.each, ordering-reached (links s) (Reaches (links s) from) from (order_by w s from) o)

-- ---- "emit the one with the smaller peak; equal: the old one"

module _ (s : List Node) (from : ℕ) where
  abbrev old : ℕ
  old = peak_by BottomUp s from

  abbrev new : ℕ
  new = peak_by TopDown s from

  pub better-new : peak_by TopDown s from < peak_by BottomUp s from → better_of s from ≡ TopDown
  unfolding better_of
  better-new h = by (ltb new old) refl
    where
      by : (u : Bool) → ltb new old ≡ u → cond u TopDown BottomUp ≡ TopDown
      by true e = refl
      by false e = absurd (let k = ltb-false new old e in omega arith)

  pub better-old : peak_by BottomUp s from ≤ peak_by TopDown s from → better_of s from ≡ BottomUp
  unfolding better_of
  better-old h = by (ltb new old) refl
    where
      by : (u : Bool) → ltb new old ≡ u → cond u TopDown BottomUp ≡ BottomUp
      by true e = absurd (let k = ltb-true new old e in omega arith)
      by false e = refl

  pub better-peak : peak_from 0 (with_drops (laid s (better s from))) ≡ min (peak_by BottomUp s from) (peak_by TopDown s from)
  unfolding better peak_by
  better-peak = elim (dec_lt new old) [
    | yes h ↦ rw (better-new h) (omega arith)
    | no h ↦ rw (better-old (omega arith)) (omega arith)
  ]
