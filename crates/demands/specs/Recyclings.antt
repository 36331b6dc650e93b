-- Sheets that the recyclings press apart, and that tell the intersection from passes that look like it. Made by the second program:
-- `reference tables`.
use Rattle.std.specs.Prelude.{List, [], ◌∷◌, T, None}
use Rattle.clause.specs.Clauses.{Literals, literals}
use Rattle.sheet.specs.declared.edition.Edition.TheVariants.{Narrow}
use Rattle.sheet.specs.Records.{given, step, Record, node, drop}
use Rattle.sheet.specs.Fields.{sheet_bytes}
use Rattle.press_spec.specs.declared.Recycling.TheVariants.{Reset, Intersection}
use Rattle.press_spec.specs.declared.Order.TheVariants.{BottomUp}
use Rattle.press_spec.specs.Plans.{plan}
use Rattle.demands.specs.Cases.{Case, accepts, all_right}

-- what all uses allow cuts a step that the reset leaves. A pass in which a cut edge counts leaves it too
unfoldable pub all_allow : List Record
all_allow =
    node (given 0 (literals 3 0))
    ∷ node (given 1 (literals 0 3))
    ∷ node (given 2 (literals 1 2))
    ∷ node (step 0 2 1 (literals 0 2))
    ∷ node (step 1 0 3 (literals 1 0))
    ∷ node (given 3 (literals 2 1))
    ∷ node (step 0 4 5 (literals 2 0))
    ∷ node (step 1 6 1 (literals 0 1))
    ∷ node (step 0 4 7 (literals 0 0))
    ∷ []

unfoldable pub all_allow_rules : List Literals
all_allow_rules = literals 3 0 ∷ literals 0 3 ∷ literals 1 2 ∷ literals 2 1 ∷ []

unfoldable pub all_allow_reset : List Record
all_allow_reset =
    node (given 0 (literals 3 0))
    ∷ node (given 1 (literals 0 3))
    ∷ node (given 2 (literals 1 2))
    ∷ node (step 0 2 1 (literals 0 2))
    ∷ drop 2
    ∷ node (step 1 0 3 (literals 1 0))
    ∷ drop 0
    ∷ drop 3
    ∷ node (given 3 (literals 2 1))
    ∷ node (step 1 5 1 (literals 0 1))
    ∷ drop 1
    ∷ drop 5
    ∷ node (step 0 4 6 (literals 0 0))
    ∷ drop 4
    ∷ drop 6
    ∷ []

unfoldable pub all_allow_intersected : List Record
all_allow_intersected =
    node (given 0 (literals 3 0))
    ∷ node (given 2 (literals 1 2))
    ∷ node (step 1 0 1 (literals 1 0))
    ∷ drop 0
    ∷ drop 1
    ∷ node (given 3 (literals 2 1))
    ∷ node (given 1 (literals 0 3))
    ∷ node (step 1 3 4 (literals 0 1))
    ∷ drop 3
    ∷ drop 4
    ∷ node (step 0 2 5 (literals 0 0))
    ∷ drop 2
    ∷ drop 5
    ∷ []

-- the other way round: the intersection has a step more
unfoldable pub reset_shorter : List Record
reset_shorter =
    node (given 0 (literals 2 0))
    ∷ node (given 1 (literals 1 4))
    ∷ node (given 2 (literals 0 7))
    ∷ node (step 1 0 2 (literals 0 5))
    ∷ node (given 3 (literals 13 0))
    ∷ node (given 4 (literals 0 1))
    ∷ node (step 0 1 5 (literals 0 4))
    ∷ node (given 5 (literals 4 8))
    ∷ node (step 2 7 6 (literals 0 8))
    ∷ node (step 3 4 8 (literals 5 0))
    ∷ node (step 2 9 6 (literals 1 0))
    ∷ node (step 0 10 3 (literals 0 4))
    ∷ []

unfoldable pub reset_shorter_rules : List Literals
reset_shorter_rules = literals 2 0 ∷ literals 1 4 ∷ literals 0 7 ∷ literals 13 0 ∷ literals 0 1 ∷ literals 4 8 ∷ []

unfoldable pub reset_shorter_reset : List Record
reset_shorter_reset =
    node (given 1 (literals 1 4))
    ∷ node (given 4 (literals 0 1))
    ∷ node (step 0 0 1 (literals 0 4))
    ∷ drop 0
    ∷ drop 1
    ∷ []

unfoldable pub reset_shorter_intersected : List Record
reset_shorter_intersected =
    node (given 1 (literals 1 4))
    ∷ node (given 0 (literals 2 0))
    ∷ node (given 2 (literals 0 7))
    ∷ node (step 1 1 2 (literals 0 5))
    ∷ drop 1
    ∷ drop 2
    ∷ node (step 0 0 3 (literals 0 4))
    ∷ drop 0
    ∷ drop 3
    ∷ []

-- what two uses have in common is neither nothing, nor all that they hand over, nor what the first or the last one does
unfoldable pub keeps_common : List Record
keeps_common =
    node (given 0 (literals 0 3))
    ∷ node (given 1 (literals 1 0))
    ∷ node (given 2 (literals 2 5))
    ∷ node (step 0 1 2 (literals 2 4))
    ∷ node (step 1 3 0 (literals 0 5))
    ∷ node (given 3 (literals 3 0))
    ∷ node (given 4 (literals 1 2))
    ∷ node (step 0 5 4 (literals 2 4))
    ∷ node (step 0 6 4 (literals 0 6))
    ∷ node (step 1 7 8 (literals 0 4))
    ∷ []

unfoldable pub keeps_common_rules : List Literals
keeps_common_rules = literals 0 3 ∷ literals 1 0 ∷ literals 2 5 ∷ literals 3 0 ∷ literals 1 2 ∷ []

unfoldable pub keeps_common_reset : List Record
keeps_common_reset =
    node (given 1 (literals 1 0))
    ∷ node (given 2 (literals 2 5))
    ∷ node (step 0 0 1 (literals 2 4))
    ∷ drop 0
    ∷ drop 1
    ∷ node (given 0 (literals 0 3))
    ∷ node (step 1 2 3 (literals 0 5))
    ∷ drop 2
    ∷ drop 3
    ∷ node (given 3 (literals 3 0))
    ∷ node (step 0 5 4 (literals 2 4))
    ∷ drop 5
    ∷ node (given 4 (literals 1 2))
    ∷ node (step 0 7 4 (literals 0 6))
    ∷ drop 4
    ∷ drop 7
    ∷ node (step 1 6 8 (literals 0 4))
    ∷ drop 6
    ∷ drop 8
    ∷ []

unfoldable pub keeps_common_intersected : List Record
keeps_common_intersected =
    node (given 2 (literals 2 5))
    ∷ node (given 0 (literals 0 3))
    ∷ node (step 1 0 1 (literals 0 5))
    ∷ drop 0
    ∷ drop 1
    ∷ node (given 3 (literals 3 0))
    ∷ node (step 0 3 2 (literals 2 4))
    ∷ drop 3
    ∷ node (given 4 (literals 1 2))
    ∷ node (step 0 5 2 (literals 0 6))
    ∷ drop 2
    ∷ drop 5
    ∷ node (step 1 4 6 (literals 0 4))
    ∷ drop 4
    ∷ drop 6
    ∷ []

-- one of two uses is cut. A pass in which it counts cuts less, also where it hands over its side of the pivot
unfoldable pub cut_use : List Record
cut_use =
    node (given 0 (literals 2 0))
    ∷ node (given 1 (literals 3 0))
    ∷ node (given 2 (literals 0 3))
    ∷ node (step 1 0 2 (literals 0 1))
    ∷ node (step 0 1 3 (literals 2 0))
    ∷ node (given 3 (literals 1 2))
    ∷ node (step 0 5 3 (literals 0 2))
    ∷ node (step 1 1 6 (literals 1 0))
    ∷ node (step 0 7 2 (literals 0 2))
    ∷ node (step 1 4 8 (literals 0 0))
    ∷ []

unfoldable pub cut_use_rules : List Literals
cut_use_rules = literals 2 0 ∷ literals 3 0 ∷ literals 0 3 ∷ literals 1 2 ∷ []

unfoldable pub cut_use_reset : List Record
cut_use_reset =
    node (given 1 (literals 3 0))
    ∷ node (given 2 (literals 0 3))
    ∷ node (given 0 (literals 2 0))
    ∷ node (step 1 2 1 (literals 0 1))
    ∷ drop 2
    ∷ node (step 0 0 3 (literals 2 0))
    ∷ drop 0
    ∷ drop 3
    ∷ node (given 3 (literals 1 2))
    ∷ node (step 0 5 1 (literals 0 2))
    ∷ drop 1
    ∷ drop 5
    ∷ node (step 1 4 6 (literals 0 0))
    ∷ drop 4
    ∷ drop 6
    ∷ []

unfoldable pub cut_use_intersected : List Record
cut_use_intersected =
    node (given 0 (literals 2 0))
    ∷ node (given 3 (literals 1 2))
    ∷ node (given 2 (literals 0 3))
    ∷ node (step 0 1 2 (literals 0 2))
    ∷ drop 1
    ∷ drop 2
    ∷ node (step 1 0 3 (literals 0 0))
    ∷ drop 0
    ∷ drop 3
    ∷ []

-- one of two uses is in a step that is not reached. A pass in which it counts cuts less
unfoldable pub unreached_use : List Record
unreached_use =
    node (given 0 (literals 0 40))
    ∷ node (given 1 (literals 8 0))
    ∷ node (given 2 (literals 40 0))
    ∷ node (step 3 1 0 (literals 0 32))
    ∷ node (step 5 2 3 (literals 8 0))
    ∷ node (step 5 2 3 (literals 8 0))
    ∷ node (step 3 4 0 (literals 0 32))
    ∷ node (given 3 (literals 32 8))
    ∷ node (step 5 7 6 (literals 0 8))
    ∷ node (step 3 5 8 (literals 0 0))
    ∷ []

unfoldable pub unreached_use_rules : List Literals
unreached_use_rules = literals 0 40 ∷ literals 8 0 ∷ literals 40 0 ∷ literals 32 8 ∷ []

unfoldable pub unreached_use_reset : List Record
unreached_use_reset =
    node (given 2 (literals 40 0))
    ∷ node (given 0 (literals 0 40))
    ∷ node (given 1 (literals 8 0))
    ∷ node (step 3 2 1 (literals 0 32))
    ∷ drop 2
    ∷ node (step 5 0 3 (literals 8 0))
    ∷ drop 0
    ∷ drop 3
    ∷ node (given 3 (literals 32 8))
    ∷ node (step 5 5 1 (literals 0 8))
    ∷ drop 1
    ∷ drop 5
    ∷ node (step 3 4 6 (literals 0 0))
    ∷ drop 4
    ∷ drop 6
    ∷ []

unfoldable pub unreached_use_intersected : List Record
unreached_use_intersected =
    node (given 1 (literals 8 0))
    ∷ node (given 3 (literals 32 8))
    ∷ node (given 0 (literals 0 40))
    ∷ node (step 5 1 2 (literals 0 8))
    ∷ drop 1
    ∷ drop 2
    ∷ node (step 3 0 3 (literals 0 0))
    ∷ drop 0
    ∷ drop 3
    ∷ []

-- by the reset, after the rebuild a step names one node twice, though no step did before
unfoldable pub twice_after : List Record
twice_after =
    node (given 0 (literals 4 3))
    ∷ node (given 1 (literals 3 4))
    ∷ node (step 1 1 0 (literals 5 5))
    ∷ node (step 2 0 2 (literals 5 3))
    ∷ node (step 0 1 2 (literals 7 4))
    ∷ node (step 0 3 2 (literals 5 7))
    ∷ node (step 2 0 5 (literals 5 3))
    ∷ node (step 0 4 6 (literals 7 6))
    ∷ node (step 1 7 6 (literals 5 7))
    ∷ []

unfoldable pub twice_after_rules : List Literals
twice_after_rules = literals 4 3 ∷ literals 3 4 ∷ []

unfoldable pub twice_after_reset : List Record
twice_after_reset =
    node (given 0 (literals 4 3))
    ∷ node (given 1 (literals 3 4))
    ∷ node (step 1 1 0 (literals 5 5))
    ∷ drop 1
    ∷ node (step 0 2 2 (literals 5 5))
    ∷ drop 2
    ∷ node (step 2 0 3 (literals 5 3))
    ∷ drop 0
    ∷ drop 3
    ∷ []

unfoldable pub twice_after_intersected : List Record
twice_after_intersected =
    node (given 0 (literals 4 3))
    ∷ []

unfoldable pub recyclings : List Case
recyclings =
    accepts (plan Narrow Reset None) all_allow_rules all_allow (0 ∷ 0 ∷ 15 ∷ 8 ∷ 4 ∷ 4 ∷ 4 ∷ []) BottomUp (sheet_bytes Narrow all_allow_reset) (1 ∷ 1 ∷ 1 ∷ 1 ∷ [])
    ∷ accepts (plan Narrow Intersection None) all_allow_rules all_allow (0 ∷ 0 ∷ 13 ∷ 7 ∷ 3 ∷ 4 ∷ 4 ∷ []) BottomUp (sheet_bytes Narrow all_allow_intersected) (1 ∷ 1 ∷ 1 ∷ 1 ∷ [])
    ∷ accepts (plan Narrow Reset None) reset_shorter_rules reset_shorter (0 ∷ 4 ∷ 5 ∷ 3 ∷ 1 ∷ 3 ∷ 2 ∷ []) BottomUp (sheet_bytes Narrow reset_shorter_reset) (0 ∷ 1 ∷ 0 ∷ 0 ∷ 1 ∷ 0 ∷ [])
    ∷ accepts (plan Narrow Intersection None) reset_shorter_rules reset_shorter (0 ∷ 4 ∷ 9 ∷ 5 ∷ 2 ∷ 4 ∷ 3 ∷ []) BottomUp (sheet_bytes Narrow reset_shorter_intersected) (1 ∷ 1 ∷ 1 ∷ 0 ∷ 0 ∷ 0 ∷ [])
    ∷ accepts (plan Narrow Reset None) keeps_common_rules keeps_common (0 ∷ 4 ∷ 19 ∷ 10 ∷ 5 ∷ 4 ∷ 5 ∷ []) BottomUp (sheet_bytes Narrow keeps_common_reset) (1 ∷ 1 ∷ 1 ∷ 1 ∷ 1 ∷ [])
    ∷ accepts (plan Narrow Intersection None) keeps_common_rules keeps_common (0 ∷ 4 ∷ 15 ∷ 8 ∷ 4 ∷ 4 ∷ 4 ∷ []) BottomUp (sheet_bytes Narrow keeps_common_intersected) (1 ∷ 0 ∷ 1 ∷ 1 ∷ 1 ∷ [])
    ∷ accepts (plan Narrow Reset None) cut_use_rules cut_use (0 ∷ 0 ∷ 15 ∷ 8 ∷ 4 ∷ 4 ∷ 4 ∷ []) BottomUp (sheet_bytes Narrow cut_use_reset) (1 ∷ 1 ∷ 1 ∷ 1 ∷ [])
    ∷ accepts (plan Narrow Intersection None) cut_use_rules cut_use (0 ∷ 0 ∷ 9 ∷ 5 ∷ 2 ∷ 4 ∷ 3 ∷ []) BottomUp (sheet_bytes Narrow cut_use_intersected) (1 ∷ 0 ∷ 1 ∷ 1 ∷ [])
    ∷ accepts (plan Narrow Reset None) unreached_use_rules unreached_use (0 ∷ 0 ∷ 15 ∷ 8 ∷ 4 ∷ 4 ∷ 4 ∷ []) BottomUp (sheet_bytes Narrow unreached_use_reset) (1 ∷ 1 ∷ 1 ∷ 1 ∷ [])
    ∷ accepts (plan Narrow Intersection None) unreached_use_rules unreached_use (0 ∷ 0 ∷ 9 ∷ 5 ∷ 2 ∷ 4 ∷ 3 ∷ []) BottomUp (sheet_bytes Narrow unreached_use_intersected) (1 ∷ 1 ∷ 0 ∷ 1 ∷ [])
    ∷ accepts (plan Narrow Reset None) twice_after_rules twice_after (5 ∷ 3 ∷ 9 ∷ 5 ∷ 3 ∷ 3 ∷ 2 ∷ []) BottomUp (sheet_bytes Narrow twice_after_reset) (1 ∷ 1 ∷ [])
    ∷ accepts (plan Narrow Intersection None) twice_after_rules twice_after (4 ∷ 3 ∷ 1 ∷ 1 ∷ 0 ∷ 1 ∷ 1 ∷ []) BottomUp (sheet_bytes Narrow twice_after_intersected) (1 ∷ 0 ∷ [])
    ∷ []

abbrev pub Recyclings : Type 0
Recyclings = T (all_right recyclings)
