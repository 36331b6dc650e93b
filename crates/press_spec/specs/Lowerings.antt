-- What is lowered after step 4, by the pass chosen.
use Rattle.press_spec.specs.Plans.{Lowering}
use Rattle.std.specs.Prelude.{ℕ, List, None, Some}
use Rattle.press_spec.specs.declared.Lowerable.{Lowerable}
use Rattle.press_spec.specs.declared.Lowerable.TheVariants.{Units, Univalents}
use Rattle.press_spec.specs.Rebuild.{Built, Ended}
use Rattle.press_spec.specs.Lower.{Lowered, low_at, come_back_all}
use Rattle.press_spec.specs.Units.{collected, units_built}
use Rattle.press_spec.specs.Univalents.{risen}

-- which nodes are lowered, over v variables
unfoldable pub lows_of : Lowerable → ℕ → Ended → List Lowered
lows_of Units v t = (collected v t).low
lows_of Univalents v t = (risen t).ones.low

-- what the rebuild makes of the rest
unfoldable pub built_of : Lowerable → ℕ → Ended → Built
built_of Units v t = units_built v t
built_of Univalents v t = (risen t).so

-- and the lowered ones come back
unfoldable pub lower_of : Lowerable → ℕ → Ended → Ended
lower_of which v t = come_back_all (low_at (lows_of which v t)) (built_of which v t) t.last

unfoldable pub lower_by : Lowering → ℕ → Ended → Ended
lower_by None v t = t
lower_by (Some which) v t = lower_of which v t
