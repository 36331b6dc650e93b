-- Sheets that tell lowering the units from passes that look like it. Made by the second program: `reference tables`.
use Rattle.std.specs.Prelude.{◌+◌, ◌^◌, List, [], ◌∷◌, T, Some}
use Rattle.clause.specs.Clauses.{Literals, literals}
use Rattle.sheet.specs.declared.edition.Edition.TheVariants.{Narrow, Wide}
use Rattle.sheet.specs.Records.{given, step, Record, node, drop}
use Rattle.sheet.specs.Fields.{sheet_bytes}
use Rattle.press_spec.specs.declared.Recycling.TheVariants.{Reset, Intersection}
use Rattle.press_spec.specs.declared.Lowerable.TheVariants.{Units}
use Rattle.press_spec.specs.declared.Order.TheVariants.{BottomUp, TopDown}
use Rattle.press_spec.specs.Plans.{plan}
use Rattle.demands.specs.Cases.{Case, accepts, all_right}

-- two units, each used twice, come back in the order of their collection, {-1} on the right and {+0} on the left
unfoldable pub everywhere : List Record
everywhere =
    node (given 0 (literals 1 0))
    ∷ node (given 1 (literals 0 2))
    ∷ node (given 2 (literals 6 1))
    ∷ node (step 0 0 2 (literals 6 0))
    ∷ node (step 1 3 1 (literals 4 0))
    ∷ node (given 3 (literals 2 5))
    ∷ node (step 0 0 5 (literals 2 4))
    ∷ node (step 1 6 1 (literals 0 4))
    ∷ node (step 2 4 7 (literals 0 0))
    ∷ []

unfoldable pub everywhere_rules : List Literals
everywhere_rules = literals 1 0 ∷ literals 0 2 ∷ literals 6 1 ∷ literals 2 5 ∷ []

unfoldable pub everywhere_lowered : List Record
everywhere_lowered =
    node (given 0 (literals 1 0))
    ∷ node (given 2 (literals 6 1))
    ∷ node (given 3 (literals 2 5))
    ∷ node (step 2 1 2 (literals 2 1))
    ∷ drop 1
    ∷ drop 2
    ∷ node (given 1 (literals 0 2))
    ∷ node (step 1 3 4 (literals 0 1))
    ∷ drop 3
    ∷ drop 4
    ∷ node (step 0 0 5 (literals 0 0))
    ∷ drop 0
    ∷ drop 5
    ∷ []

-- a unit whose own derivation uses another one. With the old unit there would be a step more, and in another order -1 would be left
unfoldable pub within : List Record
within =
    node (given 0 (literals 2 0))
    ∷ node (given 1 (literals 1 2))
    ∷ node (step 1 0 1 (literals 1 0))
    ∷ node (given 2 (literals 4 1))
    ∷ node (given 3 (literals 0 7))
    ∷ node (step 0 2 3 (literals 4 0))
    ∷ node (step 0 2 4 (literals 0 6))
    ∷ node (step 1 0 6 (literals 0 4))
    ∷ node (step 2 5 7 (literals 0 0))
    ∷ []

unfoldable pub within_rules : List Literals
within_rules = literals 2 0 ∷ literals 1 2 ∷ literals 4 1 ∷ literals 0 7 ∷ []

unfoldable pub within_lowered : List Record
within_lowered =
    node (given 0 (literals 2 0))
    ∷ node (given 1 (literals 1 2))
    ∷ node (given 2 (literals 4 1))
    ∷ node (given 3 (literals 0 7))
    ∷ node (step 2 2 3 (literals 0 3))
    ∷ drop 2
    ∷ drop 3
    ∷ node (step 0 1 4 (literals 0 2))
    ∷ drop 1
    ∷ drop 4
    ∷ node (step 1 0 5 (literals 0 0))
    ∷ drop 0
    ∷ drop 5
    ∷ []

-- of two opposite units only the first is collected, {-0}
unfoldable pub opposites : List Record
opposites =
    node (given 0 (literals 1 0))
    ∷ node (given 1 (literals 0 1))
    ∷ node (given 2 (literals 2 1))
    ∷ node (step 0 0 2 (literals 2 0))
    ∷ node (given 3 (literals 4 1))
    ∷ node (step 0 0 4 (literals 4 0))
    ∷ node (given 4 (literals 9 2))
    ∷ node (step 0 6 1 (literals 8 2))
    ∷ node (step 1 3 7 (literals 8 0))
    ∷ node (given 5 (literals 1 12))
    ∷ node (step 0 9 1 (literals 0 12))
    ∷ node (step 2 5 10 (literals 0 8))
    ∷ node (step 3 8 11 (literals 0 0))
    ∷ []

unfoldable pub opposites_rules : List Literals
opposites_rules = literals 1 0 ∷ literals 0 1 ∷ literals 2 1 ∷ literals 4 1 ∷ literals 9 2 ∷ literals 1 12 ∷ []

unfoldable pub opposites_lowered : List Record
opposites_lowered =
    node (given 0 (literals 1 0))
    ∷ node (given 2 (literals 2 1))
    ∷ node (step 0 0 1 (literals 2 0))
    ∷ drop 1
    ∷ node (given 4 (literals 9 2))
    ∷ node (step 1 2 3 (literals 9 0))
    ∷ drop 2
    ∷ drop 3
    ∷ node (given 3 (literals 4 1))
    ∷ node (step 0 0 5 (literals 4 0))
    ∷ drop 0
    ∷ drop 5
    ∷ node (given 5 (literals 1 12))
    ∷ node (step 2 6 7 (literals 1 8))
    ∷ drop 6
    ∷ drop 7
    ∷ node (step 3 4 8 (literals 1 0))
    ∷ drop 4
    ∷ drop 8
    ∷ node (given 1 (literals 0 1))
    ∷ node (step 0 9 10 (literals 0 0))
    ∷ drop 9
    ∷ drop 10
    ∷ []

-- the same literal is collected twice, and comes back twice
unfoldable pub again : List Record
again =
    node (given 0 (literals 1 0))
    ∷ node (given 1 (literals 2 1))
    ∷ node (step 0 0 1 (literals 2 0))
    ∷ node (given 2 (literals 1 2))
    ∷ node (step 1 2 3 (literals 1 0))
    ∷ node (given 3 (literals 8 1))
    ∷ node (step 0 4 5 (literals 8 0))
    ∷ node (given 4 (literals 16 9))
    ∷ node (step 0 4 7 (literals 16 8))
    ∷ node (step 3 6 8 (literals 16 0))
    ∷ node (given 5 (literals 0 21))
    ∷ node (step 0 0 10 (literals 0 20))
    ∷ node (step 4 9 11 (literals 0 4))
    ∷ node (given 6 (literals 4 2))
    ∷ node (step 1 2 13 (literals 4 0))
    ∷ node (step 2 14 12 (literals 0 0))
    ∷ []

unfoldable pub again_rules : List Literals
again_rules = literals 1 0 ∷ literals 2 1 ∷ literals 1 2 ∷ literals 8 1 ∷ literals 16 9 ∷ literals 0 21 ∷ literals 4 2 ∷ []

unfoldable pub again_lowered : List Record
again_lowered =
    node (given 0 (literals 1 0))
    ∷ node (given 1 (literals 2 1))
    ∷ node (given 2 (literals 1 2))
    ∷ node (given 3 (literals 8 1))
    ∷ node (given 4 (literals 16 9))
    ∷ node (step 3 3 4 (literals 16 1))
    ∷ drop 3
    ∷ drop 4
    ∷ node (given 5 (literals 0 21))
    ∷ node (step 4 5 6 (literals 0 5))
    ∷ drop 5
    ∷ drop 6
    ∷ node (given 6 (literals 4 2))
    ∷ node (step 2 8 7 (literals 0 3))
    ∷ drop 7
    ∷ drop 8
    ∷ node (step 0 2 9 (literals 0 2))
    ∷ drop 2
    ∷ drop 9
    ∷ node (step 1 1 10 (literals 0 1))
    ∷ drop 1
    ∷ drop 10
    ∷ node (step 0 0 11 (literals 0 0))
    ∷ drop 0
    ∷ drop 11
    ∷ []

-- the conclusion lacks the opposite of the second unit, and stays
unfoldable pub stays : List Record
stays =
    node (given 0 (literals 1 0))
    ∷ node (given 1 (literals 1 0))
    ∷ node (given 2 (literals 6 1))
    ∷ node (step 0 0 2 (literals 6 0))
    ∷ node (given 3 (literals 4 3))
    ∷ node (step 0 0 4 (literals 4 2))
    ∷ node (step 1 3 5 (literals 4 0))
    ∷ node (given 4 (literals 2 5))
    ∷ node (step 0 1 7 (literals 2 4))
    ∷ node (given 5 (literals 0 7))
    ∷ node (step 0 1 9 (literals 0 6))
    ∷ node (step 1 8 10 (literals 0 4))
    ∷ node (step 2 6 11 (literals 0 0))
    ∷ []

unfoldable pub stays_rules : List Literals
stays_rules = literals 1 0 ∷ literals 1 0 ∷ literals 6 1 ∷ literals 4 3 ∷ literals 2 5 ∷ literals 0 7 ∷ []

unfoldable pub stays_lowered : List Record
stays_lowered =
    node (given 1 (literals 1 0))
    ∷ node (given 2 (literals 6 1))
    ∷ node (given 3 (literals 4 3))
    ∷ node (step 1 1 2 (literals 4 1))
    ∷ drop 1
    ∷ drop 2
    ∷ node (given 4 (literals 2 5))
    ∷ node (given 5 (literals 0 7))
    ∷ node (step 1 4 5 (literals 0 5))
    ∷ drop 4
    ∷ drop 5
    ∷ node (step 2 3 6 (literals 0 1))
    ∷ drop 3
    ∷ drop 6
    ∷ node (step 0 0 7 (literals 0 0))
    ∷ drop 0
    ∷ drop 7
    ∷ []

-- units with one use stay where they are
unfoldable pub once : List Record
once =
    node (given 0 (literals 1 0))
    ∷ node (given 1 (literals 2 1))
    ∷ node (step 0 0 1 (literals 2 0))
    ∷ node (given 2 (literals 0 2))
    ∷ node (step 1 2 3 (literals 0 0))
    ∷ []

unfoldable pub once_rules : List Literals
once_rules = literals 1 0 ∷ literals 2 1 ∷ literals 0 2 ∷ []

unfoldable pub once_lowered : List Record
once_lowered =
    node (given 0 (literals 1 0))
    ∷ node (given 1 (literals 2 1))
    ∷ node (step 0 0 1 (literals 2 0))
    ∷ drop 0
    ∷ drop 1
    ∷ node (given 2 (literals 0 2))
    ∷ node (step 1 2 3 (literals 0 0))
    ∷ drop 2
    ∷ drop 3
    ∷ []

-- a unit with one use in the sheet, and two after step 4
unfoldable pub merged : List Record
merged =
    node (given 0 (literals 0 1))
    ∷ node (given 1 (literals 3 0))
    ∷ node (step 0 1 0 (literals 2 0))
    ∷ node (given 2 (literals 0 3))
    ∷ node (step 1 2 3 (literals 0 1))
    ∷ node (given 3 (literals 5 0))
    ∷ node (step 0 5 4 (literals 4 0))
    ∷ node (given 4 (literals 1 4))
    ∷ node (step 0 7 4 (literals 0 4))
    ∷ node (step 2 6 8 (literals 0 0))
    ∷ []

unfoldable pub merged_rules : List Literals
merged_rules = literals 0 1 ∷ literals 3 0 ∷ literals 0 3 ∷ literals 5 0 ∷ literals 1 4 ∷ []

unfoldable pub merged_lowered : List Record
merged_lowered =
    node (given 3 (literals 5 0))
    ∷ node (given 4 (literals 1 4))
    ∷ node (step 2 0 1 (literals 1 0))
    ∷ drop 0
    ∷ drop 1
    ∷ node (given 0 (literals 0 1))
    ∷ node (step 0 2 3 (literals 0 0))
    ∷ drop 2
    ∷ drop 3
    ∷ []

-- a unit with two uses in the sheet, and one after step 4
unfoldable pub fewer : List Record
fewer =
    node (given 0 (literals 1 0))
    ∷ node (given 1 (literals 2 5))
    ∷ node (step 0 0 1 (literals 2 4))
    ∷ node (given 2 (literals 4 2))
    ∷ node (given 3 (literals 8 0))
    ∷ node (given 4 (literals 0 13))
    ∷ node (step 0 0 5 (literals 0 12))
    ∷ node (step 3 4 6 (literals 0 4))
    ∷ node (step 2 3 7 (literals 0 2))
    ∷ node (step 1 2 8 (literals 0 4))
    ∷ []

unfoldable pub fewer_rules : List Literals
fewer_rules = literals 1 0 ∷ literals 2 5 ∷ literals 4 2 ∷ literals 8 0 ∷ literals 0 13 ∷ []

unfoldable pub fewer_lowered : List Record
fewer_lowered =
    node (given 3 (literals 8 0))
    ∷ node (given 0 (literals 1 0))
    ∷ node (given 4 (literals 0 13))
    ∷ node (step 0 1 2 (literals 0 12))
    ∷ drop 1
    ∷ drop 2
    ∷ node (step 3 0 3 (literals 0 4))
    ∷ drop 0
    ∷ drop 3
    ∷ []

-- variables at one place of the halves, and units on them that are no opposites
unfoldable pub high_everywhere : List Record
high_everywhere =
    node (given 0 (literals 1 0))
    ∷ node (given 1 (literals 0 (2 ^ 64)))
    ∷ node (given 2 (literals (2 ^ 64 + 2 ^ 127) 1))
    ∷ node (step 0 0 2 (literals (2 ^ 64 + 2 ^ 127) 0))
    ∷ node (step 64 3 1 (literals (2 ^ 127) 0))
    ∷ node (given 3 (literals (2 ^ 64) (1 + 2 ^ 127)))
    ∷ node (step 0 0 5 (literals (2 ^ 64) (2 ^ 127)))
    ∷ node (step 64 6 1 (literals 0 (2 ^ 127)))
    ∷ node (step 127 4 7 (literals 0 0))
    ∷ []

unfoldable pub high_everywhere_rules : List Literals
high_everywhere_rules = literals 1 0 ∷ literals 0 (2 ^ 64) ∷ literals (2 ^ 64 + 2 ^ 127) 1 ∷ literals (2 ^ 64) (1 + 2 ^ 127) ∷ []

unfoldable pub high_everywhere_lowered : List Record
high_everywhere_lowered =
    node (given 0 (literals 1 0))
    ∷ node (given 2 (literals (2 ^ 64 + 2 ^ 127) 1))
    ∷ node (given 3 (literals (2 ^ 64) (1 + 2 ^ 127)))
    ∷ node (step 127 1 2 (literals (2 ^ 64) 1))
    ∷ drop 1
    ∷ drop 2
    ∷ node (given 1 (literals 0 (2 ^ 64)))
    ∷ node (step 64 3 4 (literals 0 1))
    ∷ drop 3
    ∷ drop 4
    ∷ node (step 0 0 5 (literals 0 0))
    ∷ drop 0
    ∷ drop 5
    ∷ []

-- by the reset, a node that one step names twice holds two literals, and is no unit
unfoldable pub twice_again : List Record
twice_again =
    node (given 0 (literals 3 0))
    ∷ node (given 1 (literals 0 3))
    ∷ node (step 1 0 1 (literals 1 1))
    ∷ node (step 0 2 2 (literals 1 1))
    ∷ node (step 0 3 3 (literals 1 1))
    ∷ []

unfoldable pub twice_again_rules : List Literals
twice_again_rules = literals 3 0 ∷ literals 0 3 ∷ []

unfoldable pub twice_again_reset_lowered : List Record
twice_again_reset_lowered =
    node (given 0 (literals 3 0))
    ∷ node (given 1 (literals 0 3))
    ∷ node (step 1 0 1 (literals 1 1))
    ∷ drop 0
    ∷ drop 1
    ∷ node (step 0 2 2 (literals 1 1))
    ∷ drop 2
    ∷ []

unfoldable pub lowerings : List Case
lowerings =
    accepts (plan Narrow Intersection (Some Units)) everywhere_rules everywhere (0 ∷ 0 ∷ 13 ∷ 7 ∷ 3 ∷ 4 ∷ 4 ∷ []) BottomUp (sheet_bytes Narrow everywhere_lowered) (1 ∷ 1 ∷ 1 ∷ 1 ∷ [])
    ∷ accepts (plan Narrow Intersection (Some Units)) within_rules within (0 ∷ 0 ∷ 13 ∷ 7 ∷ 3 ∷ 5 ∷ 4 ∷ []) BottomUp (sheet_bytes Narrow within_lowered) (1 ∷ 1 ∷ 1 ∷ 1 ∷ [])
    ∷ accepts (plan Narrow Intersection (Some Units)) opposites_rules opposites (0 ∷ 0 ∷ 23 ∷ 12 ∷ 6 ∷ 4 ∷ 6 ∷ []) BottomUp (sheet_bytes Narrow opposites_lowered) (1 ∷ 1 ∷ 1 ∷ 1 ∷ 1 ∷ 1 ∷ [])
    ∷ accepts (plan Narrow Intersection (Some Units)) again_rules again (0 ∷ 0 ∷ 25 ∷ 13 ∷ 6 ∷ 6 ∷ 7 ∷ []) TopDown (sheet_bytes Narrow again_lowered) (1 ∷ 1 ∷ 1 ∷ 1 ∷ 1 ∷ 1 ∷ 1 ∷ [])
    ∷ accepts (plan Narrow Intersection (Some Units)) stays_rules stays (0 ∷ 0 ∷ 17 ∷ 9 ∷ 4 ∷ 5 ∷ 5 ∷ []) BottomUp (sheet_bytes Narrow stays_lowered) (0 ∷ 1 ∷ 1 ∷ 1 ∷ 1 ∷ 1 ∷ [])
    ∷ accepts (plan Narrow Intersection (Some Units)) once_rules once (0 ∷ 0 ∷ 9 ∷ 5 ∷ 2 ∷ 3 ∷ 3 ∷ []) BottomUp (sheet_bytes Narrow once_lowered) (1 ∷ 1 ∷ 1 ∷ [])
    ∷ accepts (plan Narrow Intersection (Some Units)) merged_rules merged (0 ∷ 0 ∷ 9 ∷ 5 ∷ 2 ∷ 3 ∷ 3 ∷ []) BottomUp (sheet_bytes Narrow merged_lowered) (1 ∷ 0 ∷ 0 ∷ 1 ∷ 1 ∷ [])
    ∷ accepts (plan Narrow Intersection (Some Units)) fewer_rules fewer (0 ∷ 4 ∷ 9 ∷ 5 ∷ 2 ∷ 4 ∷ 3 ∷ []) BottomUp (sheet_bytes Narrow fewer_lowered) (1 ∷ 0 ∷ 0 ∷ 1 ∷ 1 ∷ [])
    ∷ accepts (plan Wide Intersection (Some Units)) high_everywhere_rules high_everywhere (0 ∷ 0 ∷ 13 ∷ 7 ∷ 3 ∷ 4 ∷ 4 ∷ []) BottomUp (sheet_bytes Wide high_everywhere_lowered) (1 ∷ 1 ∷ 1 ∷ 1 ∷ [])
    ∷ accepts (plan Narrow Reset (Some Units)) twice_again_rules twice_again (1 ∷ 1 ∷ 7 ∷ 4 ∷ 2 ∷ 3 ∷ 2 ∷ []) BottomUp (sheet_bytes Narrow twice_again_reset_lowered) (1 ∷ 1 ∷ [])
    ∷ []

abbrev pub Lowerings : Type 0
Lowerings = T (all_right lowerings)
