-- Sheets that tell lowering the univalents from lowering the units and from passes that look like it. Made by the second program:
-- `reference tables`.
use Rattle.std.specs.Prelude.{◌+◌, ◌^◌, List, [], ◌∷◌, T, Some}
use Rattle.clause.specs.Clauses.{Literals, literals}
use Rattle.sheet.specs.declared.edition.Edition.TheVariants.{Narrow, Wide}
use Rattle.sheet.specs.Records.{given, step, Record, node, drop}
use Rattle.sheet.specs.Fields.{sheet_bytes}
use Rattle.press_spec.specs.declared.Recycling.TheVariants.{Intersection}
use Rattle.press_spec.specs.declared.Lowerable.TheVariants.{Univalents}
use Rattle.press_spec.specs.declared.Order.TheVariants.{BottomUp}
use Rattle.press_spec.specs.Plans.{plan}
use Rattle.demands.specs.Cases.{Case, accepts, all_right}
use Rattle.demands.specs.Lowerings.{opposites, opposites_rules, stays, stays_rules, fewer, fewer_rules, fewer_lowered}

-- of two opposite units the first one up is lowered, {+0}, and then -0 is in D
unfoldable pub opposites_univalents : List Record
opposites_univalents =
    node (given 0 (literals 1 0))
    ∷ node (given 2 (literals 2 1))
    ∷ node (given 1 (literals 0 1))
    ∷ node (given 4 (literals 9 2))
    ∷ node (step 0 3 2 (literals 8 2))
    ∷ drop 3
    ∷ node (step 1 1 4 (literals 8 1))
    ∷ drop 1
    ∷ drop 4
    ∷ node (given 3 (literals 4 1))
    ∷ node (given 5 (literals 1 12))
    ∷ node (step 0 7 2 (literals 0 12))
    ∷ drop 2
    ∷ drop 7
    ∷ node (step 2 6 8 (literals 0 9))
    ∷ drop 6
    ∷ drop 8
    ∷ node (step 3 5 9 (literals 0 1))
    ∷ drop 5
    ∷ drop 9
    ∷ node (step 0 0 10 (literals 0 0))
    ∷ drop 0
    ∷ drop 10
    ∷ []

-- the second of two nodes with one literal has its opposite in D, and stays: two steps more than by the units
unfoldable pub stays_univalents : List Record
stays_univalents =
    node (given 0 (literals 1 0))
    ∷ node (given 2 (literals 6 1))
    ∷ node (given 3 (literals 4 3))
    ∷ node (step 1 1 2 (literals 4 1))
    ∷ drop 1
    ∷ drop 2
    ∷ node (given 1 (literals 1 0))
    ∷ node (given 4 (literals 2 5))
    ∷ node (step 0 4 5 (literals 2 4))
    ∷ drop 5
    ∷ node (given 5 (literals 0 7))
    ∷ node (step 0 4 7 (literals 0 6))
    ∷ drop 4
    ∷ drop 7
    ∷ node (step 1 6 8 (literals 0 4))
    ∷ drop 6
    ∷ drop 8
    ∷ node (step 2 3 9 (literals 0 1))
    ∷ drop 3
    ∷ drop 9
    ∷ node (step 0 0 10 (literals 0 0))
    ∷ drop 0
    ∷ drop 10
    ∷ []

-- a node of two literals is lowered, since the opposite of one was lowered before. In another order +0 would be left
unfoldable pub after : List Record
after =
    node (given 0 (literals 0 1))
    ∷ node (given 1 (literals 3 0))
    ∷ node (given 2 (literals 4 2))
    ∷ node (step 1 1 2 (literals 5 0))
    ∷ node (step 0 3 0 (literals 4 0))
    ∷ node (given 3 (literals 0 6))
    ∷ node (step 1 1 5 (literals 1 4))
    ∷ node (step 0 6 0 (literals 0 4))
    ∷ node (step 2 4 7 (literals 0 0))
    ∷ []

unfoldable pub after_rules : List Literals
after_rules = literals 0 1 ∷ literals 3 0 ∷ literals 4 2 ∷ literals 0 6 ∷ []

unfoldable pub after_univalents : List Record
after_univalents =
    node (given 1 (literals 3 0))
    ∷ node (given 2 (literals 4 2))
    ∷ node (given 3 (literals 0 6))
    ∷ node (step 2 1 2 (literals 0 2))
    ∷ drop 1
    ∷ drop 2
    ∷ node (step 1 0 3 (literals 1 0))
    ∷ drop 0
    ∷ drop 3
    ∷ node (given 0 (literals 0 1))
    ∷ node (step 0 4 5 (literals 0 0))
    ∷ drop 4
    ∷ drop 5
    ∷ []

-- a node of two literals, of which the one that it is not used on lies outside D
unfoldable pub rest_outside : List Record
rest_outside =
    node (given 0 (literals 4 1))
    ∷ node (given 1 (literals 3 0))
    ∷ node (step 0 1 0 (literals 6 0))
    ∷ node (given 2 (literals 1 2))
    ∷ node (step 0 3 0 (literals 4 2))
    ∷ node (step 1 2 4 (literals 4 0))
    ∷ []

unfoldable pub rest_outside_rules : List Literals
rest_outside_rules = literals 4 1 ∷ literals 3 0 ∷ literals 1 2 ∷ []

unfoldable pub rest_outside_lowered : List Record
rest_outside_lowered =
    node (given 0 (literals 4 1))
    ∷ node (given 1 (literals 3 0))
    ∷ node (step 0 1 0 (literals 6 0))
    ∷ drop 1
    ∷ node (given 2 (literals 1 2))
    ∷ node (step 0 3 0 (literals 4 2))
    ∷ drop 0
    ∷ drop 3
    ∷ node (step 1 2 4 (literals 4 0))
    ∷ drop 2
    ∷ drop 4
    ∷ []

-- a node that is used on two literals is not lowered, though the rest of its clause lies in D: twice on the left, once on the right
unfoldable pub on_two_literals : List Record
on_two_literals =
    node (given 0 (literals 2 0))
    ∷ node (given 1 (literals 1 2))
    ∷ node (given 2 (literals 10 0))
    ∷ node (step 1 2 1 (literals 9 0))
    ∷ node (given 3 (literals 8 1))
    ∷ node (step 0 3 4 (literals 8 0))
    ∷ node (given 4 (literals 4 1))
    ∷ node (step 0 1 6 (literals 4 2))
    ∷ node (step 1 0 7 (literals 4 0))
    ∷ node (given 5 (literals 0 13))
    ∷ node (step 0 1 9 (literals 0 14))
    ∷ node (step 1 0 10 (literals 0 12))
    ∷ node (step 2 8 11 (literals 0 8))
    ∷ node (step 3 5 12 (literals 0 0))
    ∷ []

unfoldable pub on_two_literals_rules : List Literals
on_two_literals_rules = literals 2 0 ∷ literals 1 2 ∷ literals 10 0 ∷ literals 8 1 ∷ literals 4 1 ∷ literals 0 13 ∷ []

unfoldable pub on_two_literals_lowered : List Record
on_two_literals_lowered =
    node (given 0 (literals 2 0))
    ∷ node (given 1 (literals 1 2))
    ∷ node (given 2 (literals 10 0))
    ∷ node (step 1 2 1 (literals 9 0))
    ∷ drop 2
    ∷ node (given 3 (literals 8 1))
    ∷ node (step 0 3 4 (literals 8 0))
    ∷ drop 3
    ∷ drop 4
    ∷ node (given 4 (literals 4 1))
    ∷ node (step 0 1 6 (literals 4 2))
    ∷ drop 6
    ∷ node (given 5 (literals 0 13))
    ∷ node (step 0 1 8 (literals 0 14))
    ∷ drop 1
    ∷ drop 8
    ∷ node (step 2 7 9 (literals 0 10))
    ∷ drop 7
    ∷ drop 9
    ∷ node (step 3 5 10 (literals 0 2))
    ∷ drop 5
    ∷ drop 10
    ∷ node (step 1 0 11 (literals 0 0))
    ∷ drop 0
    ∷ drop 11
    ∷ []

-- node 5 as rebuilt has lost a literal that is not in D, and is lowered
unfoldable pub as_rebuilt : List Record
as_rebuilt =
    node (given 0 (literals 0 2))
    ∷ node (given 1 (literals 3 0))
    ∷ node (given 2 (literals 4 1))
    ∷ node (step 0 1 2 (literals 6 0))
    ∷ node (given 3 (literals 16 2))
    ∷ node (step 1 3 4 (literals 20 0))
    ∷ node (given 4 (literals 8 5))
    ∷ node (step 0 1 6 (literals 10 4))
    ∷ node (step 1 7 0 (literals 8 4))
    ∷ node (step 2 5 8 (literals 24 0))
    ∷ node (given 5 (literals 2 12))
    ∷ node (step 1 10 0 (literals 0 12))
    ∷ node (step 2 5 11 (literals 16 8))
    ∷ node (step 3 9 12 (literals 16 0))
    ∷ []

unfoldable pub as_rebuilt_rules : List Literals
as_rebuilt_rules = literals 0 2 ∷ literals 3 0 ∷ literals 4 1 ∷ literals 16 2 ∷ literals 8 5 ∷ literals 2 12 ∷ []

unfoldable pub as_rebuilt_univalents : List Record
as_rebuilt_univalents =
    node (given 1 (literals 3 0))
    ∷ node (given 2 (literals 4 1))
    ∷ node (given 4 (literals 8 5))
    ∷ node (given 5 (literals 2 12))
    ∷ node (step 3 2 3 (literals 2 5))
    ∷ drop 2
    ∷ drop 3
    ∷ node (step 2 1 4 (literals 2 1))
    ∷ drop 1
    ∷ drop 4
    ∷ node (step 0 0 5 (literals 2 0))
    ∷ drop 0
    ∷ drop 5
    ∷ node (given 0 (literals 0 2))
    ∷ node (step 1 6 7 (literals 0 0))
    ∷ drop 6
    ∷ drop 7
    ∷ []

-- node 5 as rebuilt has lost the literal that it is used on, and is not lowered
unfoldable pub lacks_it : List Record
lacks_it =
    node (given 0 (literals 0 2))
    ∷ node (given 1 (literals 3 0))
    ∷ node (given 2 (literals 0 1))
    ∷ node (step 0 1 2 (literals 2 0))
    ∷ node (given 3 (literals 4 2))
    ∷ node (step 1 3 4 (literals 4 0))
    ∷ node (given 4 (literals 10 5))
    ∷ node (step 1 6 0 (literals 8 5))
    ∷ node (step 2 5 7 (literals 8 1))
    ∷ node (given 5 (literals 1 0))
    ∷ node (step 0 9 8 (literals 8 0))
    ∷ node (given 6 (literals 0 13))
    ∷ node (step 0 1 11 (literals 2 12))
    ∷ node (step 1 12 0 (literals 0 12))
    ∷ node (step 2 5 13 (literals 0 8))
    ∷ node (step 3 10 14 (literals 0 0))
    ∷ []

unfoldable pub lacks_it_rules : List Literals
lacks_it_rules = literals 0 2 ∷ literals 3 0 ∷ literals 0 1 ∷ literals 4 2 ∷ literals 10 5 ∷ literals 1 0 ∷ literals 0 13 ∷ []

unfoldable pub lacks_it_univalents : List Record
lacks_it_univalents =
    node (given 5 (literals 1 0))
    ∷ node (given 2 (literals 0 1))
    ∷ node (step 0 0 1 (literals 0 0))
    ∷ drop 0
    ∷ drop 1
    ∷ []

-- a node whose two literals lie at one place of the halves
unfoldable pub high_after : List Record
high_after =
    node (given 0 (literals 0 (2 ^ 64)))
    ∷ node (given 1 (literals (1 + 2 ^ 64) 0))
    ∷ node (given 2 (literals (2 ^ 127) 1))
    ∷ node (step 0 1 2 (literals (2 ^ 64 + 2 ^ 127) 0))
    ∷ node (step 64 3 0 (literals (2 ^ 127) 0))
    ∷ node (given 3 (literals 0 (1 + 2 ^ 127)))
    ∷ node (step 0 1 5 (literals (2 ^ 64) (2 ^ 127)))
    ∷ node (step 64 6 0 (literals 0 (2 ^ 127)))
    ∷ node (step 127 4 7 (literals 0 0))
    ∷ []

unfoldable pub high_after_rules : List Literals
high_after_rules = literals 0 (2 ^ 64) ∷ literals (1 + 2 ^ 64) 0 ∷ literals (2 ^ 127) 1 ∷ literals 0 (1 + 2 ^ 127) ∷ []

unfoldable pub high_after_univalents : List Record
high_after_univalents =
    node (given 1 (literals (1 + 2 ^ 64) 0))
    ∷ node (given 2 (literals (2 ^ 127) 1))
    ∷ node (given 3 (literals 0 (1 + 2 ^ 127)))
    ∷ node (step 127 1 2 (literals 0 1))
    ∷ drop 1
    ∷ drop 2
    ∷ node (step 0 0 3 (literals (2 ^ 64) 0))
    ∷ drop 0
    ∷ drop 3
    ∷ node (given 0 (literals 0 (2 ^ 64)))
    ∷ node (step 64 4 5 (literals 0 0))
    ∷ drop 4
    ∷ drop 5
    ∷ []

unfoldable pub univalents : List Case
univalents =
    accepts (plan Narrow Intersection (Some Univalents)) opposites_rules opposites (0 ∷ 0 ∷ 23 ∷ 12 ∷ 6 ∷ 6 ∷ 6 ∷ []) BottomUp (sheet_bytes Narrow opposites_univalents) (1 ∷ 1 ∷ 1 ∷ 1 ∷ 1 ∷ 1 ∷ [])
    ∷ accepts (plan Narrow Intersection (Some Univalents)) stays_rules stays (0 ∷ 0 ∷ 23 ∷ 12 ∷ 6 ∷ 6 ∷ 6 ∷ []) BottomUp (sheet_bytes Narrow stays_univalents) (1 ∷ 1 ∷ 1 ∷ 1 ∷ 1 ∷ 1 ∷ [])
    ∷ accepts (plan Narrow Intersection (Some Univalents)) fewer_rules fewer (0 ∷ 4 ∷ 9 ∷ 5 ∷ 2 ∷ 4 ∷ 3 ∷ []) BottomUp (sheet_bytes Narrow fewer_lowered) (1 ∷ 0 ∷ 0 ∷ 1 ∷ 1 ∷ [])
    ∷ accepts (plan Narrow Intersection (Some Univalents)) after_rules after (0 ∷ 0 ∷ 13 ∷ 7 ∷ 3 ∷ 4 ∷ 4 ∷ []) BottomUp (sheet_bytes Narrow after_univalents) (1 ∷ 1 ∷ 1 ∷ 1 ∷ [])
    ∷ accepts (plan Narrow Intersection (Some Univalents)) rest_outside_rules rest_outside (4 ∷ 0 ∷ 11 ∷ 6 ∷ 3 ∷ 4 ∷ 3 ∷ []) BottomUp (sheet_bytes Narrow rest_outside_lowered) (1 ∷ 1 ∷ 1 ∷ [])
    ∷ accepts (plan Narrow Intersection (Some Univalents)) on_two_literals_rules on_two_literals (0 ∷ 0 ∷ 25 ∷ 13 ∷ 7 ∷ 6 ∷ 6 ∷ []) BottomUp (sheet_bytes Narrow on_two_literals_lowered) (1 ∷ 1 ∷ 1 ∷ 1 ∷ 1 ∷ 1 ∷ [])
    ∷ accepts (plan Narrow Intersection (Some Univalents)) as_rebuilt_rules as_rebuilt (0 ∷ 0 ∷ 17 ∷ 9 ∷ 4 ∷ 5 ∷ 5 ∷ []) BottomUp (sheet_bytes Narrow as_rebuilt_univalents) (1 ∷ 1 ∷ 1 ∷ 0 ∷ 1 ∷ 1 ∷ [])
    ∷ accepts (plan Narrow Intersection (Some Univalents)) lacks_it_rules lacks_it (0 ∷ 0 ∷ 5 ∷ 3 ∷ 1 ∷ 3 ∷ 2 ∷ []) BottomUp (sheet_bytes Narrow lacks_it_univalents) (0 ∷ 0 ∷ 1 ∷ 0 ∷ 0 ∷ 1 ∷ 0 ∷ [])
    ∷ accepts (plan Wide Intersection (Some Univalents)) high_after_rules high_after (0 ∷ 0 ∷ 13 ∷ 7 ∷ 3 ∷ 4 ∷ 4 ∷ []) BottomUp (sheet_bytes Wide high_after_univalents) (1 ∷ 1 ∷ 1 ∷ 1 ∷ [])
    ∷ []

abbrev pub LoweredUnivalents : Type 0
LoweredUnivalents = T (all_right univalents)
