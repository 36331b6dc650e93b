-- What the uses of a node are on, in a table.
use Rattle.std.specs.Prelude.{ℕ, List, get_or}
use Rattle.press_spec.specs.Univalents.{Used, unused, once, often, mixed}
use Rattle.press_reach.specs.Literals.{literal_in}
use Rattle.press_used.specs.declared.table.Used.{Used as CodeUsed}
use Rattle.press_used.specs.declared.table.Used.TheVariants.{Unused, Once, Often, Mixed}

unfoldable pub use_in : CodeUsed → Used
use_in Unused = unused
use_in (Once l) = once (literal_in l)
use_in (Often l) = often (literal_in l)
use_in Mixed = mixed

unfoldable pub use_at : List CodeUsed → ℕ → Used
use_at table n = use_in (get_or table n Unused)
