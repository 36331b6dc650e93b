-- What one turn of judging says, and what it makes of a table of nodes at k.
use Rattle.std.specs.Prelude.{ℕ, List, set, Ok, Err}
use Rattle.sheet.specs.Reasons.{Verdict}
use Rattle.sheet.specs.Records.{Node}
use Rattle.press_spec.specs.Judge.{Turn, goes, stops}

unfoldable pub turn_says : Turn → Verdict
turn_says (goes n) = (Ok tt)
turn_says (stops why) = Err why

unfoldable pub turn_stores : ℕ → Turn → List Node → List Node
turn_stores k (goes n) s = set s k n
turn_stores k (stops why) s = s
