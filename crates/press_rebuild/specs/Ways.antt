-- What the code's ways are, and what the rebuild keeps of its stand-ins.
use Rattle.std.specs.Prelude.{ℕ, ◌≤◌, ◌≡◌, List, length, get_or}
use Rattle.press_rebuild.specs.declared.Way.{Way as CodeWay}
use Rattle.press_rebuild.specs.declared.Way.TheVariants.{TakeLeft, TakeRight, StepAnew}
use Rattle.press_spec.specs.Rebuild.{Way, take_left, take_right, step_anew}

unfoldable pub way_in : CodeWay → Way
way_in TakeLeft = take_left
way_in TakeRight = take_right
way_in StepAnew = step_anew

-- a stand-in for each of n nodes, none later than the node itself
pub record StandIns (n : ℕ) (stand_ins : List ℕ) : Type 0 where
  pub long : length stand_ins ≡ n
  pub low : (m : ℕ) → get_or stand_ins m 0 ≤ m
