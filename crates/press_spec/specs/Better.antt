-- 5, of two orders: "Work out both orders and emit the one with the smaller peak; equal: the old one."
use Rattle.std.specs.Prelude.{ℕ, cond, List, ltb}
use Rattle.sheet.specs.Records.{Node}
use Rattle.sheet.specs.Counts.{peak_from}
use Rattle.press_spec.specs.declared.Order.{Order}
use Rattle.press_spec.specs.declared.Order.TheVariants.{BottomUp, TopDown}
use Rattle.press_spec.specs.Links.{links}
use Rattle.press_spec.specs.Order.{order_from, laid}
use Rattle.press_spec.specs.Drops.{with_drops}
use Rattle.press_spec.specs.TopDown.{top_down}

unfoldable pub order_by : Order → List Node → ℕ → List ℕ
order_by BottomUp s from = order_from (links s) from
order_by TopDown s from = top_down (links s) from

-- the peak of the sheet that an order gives
unfoldable pub peak_by : Order → List Node → ℕ → ℕ
peak_by which s from = peak_from 0 (with_drops (laid s (order_by which s from)))

unfoldable pub better_of : List Node → ℕ → Order
better_of s from = cond (ltb (peak_by TopDown s from) (peak_by BottomUp s from)) TopDown BottomUp

unfoldable pub better : List Node → ℕ → List ℕ
better s from = order_by (better_of s from) s from

-- how a row of numbers says which it was
unfoldable pub order_number : Order → ℕ
order_number BottomUp = 0
order_number TopDown = 1
