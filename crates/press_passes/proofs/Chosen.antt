-- What is pressed, by the lowering that the plan chooses.
use Rattle.std.proofs.Common.{None, Some}
use Prim.Native.Nat.{ℕ}
use mathlib.Core.List.{List}
use mathlib.Core.Path.{◌≡◌, ap, subst}
use Rattle.base.specs.Bytes.{put}
use Rattle.sheet.specs.Editions.{variables}
use Rattle.sheet.specs.Records.{Node}
use Rattle.sheet.specs.Fields.{sheet_bytes}
use Rattle.press_spec.specs.declared.Lowerable.{Lowerable}
use Rattle.press_spec.specs.declared.Plan.{Plan}
use Rattle.press_spec.specs.Rebuild.{Ended}
use Rattle.press_spec.specs.Lowerings.{lower_of, lower_by}
use Rattle.press_spec.specs.Drops.{with_drops}
use Rattle.press_spec.specs.Press.{shortened, arranged, conclusion, chosen_fit, concluded, pressed_from, pressed, pressed_order, core, report}
use Rattle.press_write.specs.declared.Pressed.{Pressed}
use Rattle.press_write.specs.Reported.{reported}
use Rattle.press_passes.specs.Finishing.{Finishes}

module _ (plan : Plan) (s : List Node) (t : Ended) (short : t ≡ shortened (chosen_fit plan s) (conclusion s) s) where
  pub nothing-concluded : plan.lowering ≡ None → t ≡ concluded plan (conclusion s) s
  unfolding concluded lower_by
  nothing-concluded q = rw (q, short)

  module _ (which : Lowerable) (q : plan.lowering ≡ Some which) where
    pub lowered-concluded : lower_of which (variables plan.edition) t ≡ concluded plan (conclusion s) s
    unfolding concluded lower_by
    lowered-concluded = rw (q, short)

-- ---- what step 5 orders is what the plan concludes

module _ (plan : Plan) (s : List Node) (t : Ended) (same : t ≡ concluded plan (conclusion s) s) where
  pub arranged-pressed : arranged t ≡ pressed plan s
  unfolding pressed pressed_from
  arranged-pressed = ap arranged same

  pub finishes-pressed : (lines : ℕ) (r : Pressed) (out marks out' marks' : List ℕ) → Finishes plan.edition lines t r out marks out' marks'
      → (reported r ≡ report lines (pressed_order plan s) (pressed plan s))
      × ((out' ≡ put out 0 (sheet_bytes plan.edition (with_drops (pressed plan s)))) × (marks' ≡ put marks 0 (core lines (pressed plan s))))
  unfolding pressed pressed_from pressed_order
  finishes-pressed lines r out marks out' marks' f =
      let g = subst (λ (x : Ended). Finishes plan.edition lines x r out marks out' marks') same f in (g.0, (g.1, g.2))
