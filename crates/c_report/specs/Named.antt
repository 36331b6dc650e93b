-- What a caller names by numbers.
use Rattle.std.specs.Prelude.{ℕ, Bool, cond, eqb, ltb, None, Some, Result, Ok, Err}
use Rattle.sheet.specs.declared.edition.Edition.{Edition}
use Rattle.sheet.specs.declared.edition.Edition.TheVariants.{Narrow, Wide}
use Rattle.press_spec.specs.declared.Recycling.{Recycling}
use Rattle.press_spec.specs.declared.Recycling.TheVariants.{Reset, Intersection}
use Rattle.press_spec.specs.declared.Lowerable.TheVariants.{Units, Univalents}
use Rattle.press_spec.specs.declared.NoLowerable.{NoLowerable}
use Rattle.press_spec.specs.declared.Plan.{Plan}
use Rattle.press_spec.specs.Plans.{plan, Lowering}
use Rattle.c_report.specs.declared.named.Unnamed.{Unnamed}
use Rattle.c_report.specs.declared.named.Unnamed.TheVariants as U

-- what is answered to a number that names no edition, to one that names no recycling, and to one that names no lowering
abbrev pub no_edition : ℕ
no_edition = 255

abbrev pub no_recycling : ℕ
no_recycling = 254

abbrev pub no_lowering : ℕ
no_lowering = 253

unfoldable pub unnamed_code : Unnamed → ℕ
unnamed_code U.Edition = no_edition
unnamed_code U.Recycling = no_recycling
unnamed_code U.Lowering = no_lowering

-- 0 and 1 name an edition, and a recycling, other numbers none
unfoldable pub names : ℕ → Bool
names n = ltb n 2

-- 0, 1 and 2 name a lowering
unfoldable pub names_lowering : ℕ → Bool
names_lowering n = ltb n 3

unfoldable pub edition_of : ℕ → Edition
edition_of n = cond (eqb n 0) Narrow Wide

unfoldable pub recycling_of : ℕ → Recycling
recycling_of n = cond (eqb n 0) Reset Intersection

unfoldable pub lowering_of : ℕ → Lowering
lowering_of n = cond (eqb n 0) None (cond (eqb n 1) (Some Units) (Some Univalents))

unfoldable pub lowering_named : ℕ → Result Lowering NoLowerable
lowering_named n = cond (names_lowering n) (Ok (lowering_of n)) (Err (record { 0 = n }))

-- the edition is looked at first, then the recycling, then the lowering
unfoldable pub plan_of : ℕ → ℕ → ℕ → Result Plan Unnamed
plan_of e r l =
    cond (names e)
    (cond (names r) (cond (names_lowering l) (Ok (plan (edition_of e) (recycling_of r) (lowering_of l))) (Err U.Lowering)) (Err U.Recycling))
    (Err U.Edition)
