-- What the program presses by; a file and the start of it that is at hand.
use Rattle.std.specs.Prelude.{ℕ, ◌*◌, ◌≤◌, ◌≡◌, List, length, take, None, Ok, Err}
use Rattle.sheet.specs.declared.edition.Edition.TheVariants.{Narrow}
use Rattle.sheet.specs.Editions.{record_bytes}
use Rattle.press_spec.specs.declared.Recycling.TheVariants.{Intersection}
use Rattle.press_spec.specs.declared.Plan.{Plan}
use Rattle.press_spec.specs.Plans.{plan}
use Rattle.press.specs.Said.{PressAnswer}

-- "The program stays with 64 variables", "the program takes the new one", and "the program goes on without" lowering
abbrev pub program_plan : Plan
program_plan = plan Narrow Intersection None

-- s is a file of so many bytes, all of them at the start of the buffer if they fit
abbrev pub Starts : List ℕ → ℕ → List ℕ → Type 0
Starts s n buffer = (length s ≡ n) × (n ≤ length buffer → s ≡ take n buffer)

-- the records of an accepted answer stand in so many bytes of output
abbrev pub Fits : ℕ → PressAnswer → Type 0
Fits room (Ok p) = record_bytes Narrow * p.records ≤ room
Fits room (Err r) = Unit {0}
