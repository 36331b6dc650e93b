-- The plan of a press: the edition of its sheet, and the passes that are chosen.
use Rattle.std.specs.Prelude.{ℕ, cond, eqb, Option, Result, Ok, Err}
use Rattle.sheet.specs.declared.edition.Edition.{Edition}
use Rattle.press_spec.specs.declared.Recycling.{Recycling}
use Rattle.press_spec.specs.declared.Recycling.TheVariants.{Reset, Intersection}
use Rattle.press_spec.specs.declared.NoRecycling.{NoRecycling}
use Rattle.press_spec.specs.declared.Lowerable.{Lowerable}
use Rattle.press_spec.specs.declared.Lowerable.TheVariants.{Units, Univalents}
use Rattle.press_spec.specs.declared.NoLowerable.{NoLowerable}
use Rattle.press_spec.specs.declared.Plan.{Plan}

-- what is lowered after step 4, if anything is
abbrev pub Lowering : Type 0
Lowering = Option Lowerable

abbrev pub plan : Edition → Recycling → Lowering → Plan
plan e how low = record { edition = e; recycling = how; lowering = low }

-- the recycling that a number names: 0 the reset, 1 the intersection
unfoldable pub recycling_named : ℕ → Result Recycling NoRecycling
recycling_named number = cond (eqb number 0) (Ok Reset) (cond (eqb number 1) (Ok Intersection) (Err (record { 0 = number })))

-- what can be lowered, by number: 1 the units, 2 the univalents
unfoldable pub lowerable_named : ℕ → Result Lowerable NoLowerable
lowerable_named number = cond (eqb number 1) (Ok Units) (cond (eqb number 2) (Ok Univalents) (Err (record { 0 = number })))
