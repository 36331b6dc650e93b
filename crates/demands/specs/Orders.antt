-- Sheets that tell the two orders apart, the choice between them, and the top-down order from orders that look like it. Made by the
-- second program: `reference tables`.
use Rattle.std.specs.Prelude.{◌^◌, List, [], ◌∷◌, T, None}
use Rattle.clause.specs.Clauses.{Literals, literals}
use Rattle.sheet.specs.declared.edition.Edition.TheVariants.{Narrow, Wide}
use Rattle.sheet.specs.Records.{given, step, Record, node, drop}
use Rattle.sheet.specs.Fields.{sheet_bytes}
use Rattle.press_spec.specs.declared.Recycling.TheVariants.{Reset, Intersection}
use Rattle.press_spec.specs.declared.Order.TheVariants.{BottomUp, TopDown}
use Rattle.press_spec.specs.Plans.{plan}
use Rattle.demands.specs.Cases.{Case, accepts, all_right}

-- a chain whose left premises are given: six nodes are held bottom-up, and three top-down. Ties go to the smallest number
unfoldable pub left_givens : List Record
left_givens =
    node (given 0 (literals 0 1))
    ∷ node (given 1 (literals 1 2))
    ∷ node (step 0 1 0 (literals 0 2))
    ∷ node (given 2 (literals 2 4))
    ∷ node (step 1 3 2 (literals 0 4))
    ∷ node (given 3 (literals 4 8))
    ∷ node (step 2 5 4 (literals 0 8))
    ∷ node (given 4 (literals 8 0))
    ∷ node (step 3 7 6 (literals 0 0))
    ∷ []

unfoldable pub left_givens_rules : List Literals
left_givens_rules = literals 0 1 ∷ literals 1 2 ∷ literals 2 4 ∷ literals 4 8 ∷ literals 8 0 ∷ []

unfoldable pub left_givens_intersected : List Record
left_givens_intersected =
    node (given 0 (literals 0 1))
    ∷ node (given 1 (literals 1 2))
    ∷ node (step 0 1 0 (literals 0 2))
    ∷ drop 0
    ∷ drop 1
    ∷ node (given 2 (literals 2 4))
    ∷ node (step 1 3 2 (literals 0 4))
    ∷ drop 2
    ∷ drop 3
    ∷ node (given 3 (literals 4 8))
    ∷ node (step 2 5 4 (literals 0 8))
    ∷ drop 4
    ∷ drop 5
    ∷ node (given 4 (literals 8 0))
    ∷ node (step 3 7 6 (literals 0 0))
    ∷ drop 6
    ∷ drop 7
    ∷ []

-- the same on variables of both halves
unfoldable pub high_left_givens : List Record
high_left_givens =
    node (given 0 (literals 0 1))
    ∷ node (given 1 (literals 1 (2 ^ 64)))
    ∷ node (step 0 1 0 (literals 0 (2 ^ 64)))
    ∷ node (given 2 (literals (2 ^ 64) (2 ^ 63)))
    ∷ node (step 64 3 2 (literals 0 (2 ^ 63)))
    ∷ node (given 3 (literals (2 ^ 63) (2 ^ 127)))
    ∷ node (step 63 5 4 (literals 0 (2 ^ 127)))
    ∷ node (given 4 (literals (2 ^ 127) 0))
    ∷ node (step 127 7 6 (literals 0 0))
    ∷ []

unfoldable pub high_left_givens_rules : List Literals
high_left_givens_rules = literals 0 1 ∷ literals 1 (2 ^ 64) ∷ literals (2 ^ 64) (2 ^ 63) ∷ literals (2 ^ 63) (2 ^ 127) ∷ literals (2 ^ 127) 0 ∷ []

unfoldable pub high_left_givens_intersected : List Record
high_left_givens_intersected =
    node (given 0 (literals 0 1))
    ∷ node (given 1 (literals 1 (2 ^ 64)))
    ∷ node (step 0 1 0 (literals 0 (2 ^ 64)))
    ∷ drop 0
    ∷ drop 1
    ∷ node (given 2 (literals (2 ^ 64) (2 ^ 63)))
    ∷ node (step 64 3 2 (literals 0 (2 ^ 63)))
    ∷ drop 2
    ∷ drop 3
    ∷ node (given 3 (literals (2 ^ 63) (2 ^ 127)))
    ∷ node (step 63 5 4 (literals 0 (2 ^ 127)))
    ∷ drop 4
    ∷ drop 5
    ∷ node (given 4 (literals (2 ^ 127) 0))
    ∷ node (step 127 7 6 (literals 0 0))
    ∷ drop 6
    ∷ drop 7
    ∷ []

-- equal peaks: the old order, though the new one places the nodes otherwise
unfoldable pub equal_peaks : List Record
equal_peaks =
    node (given 0 (literals 0 1))
    ∷ node (given 1 (literals 1 0))
    ∷ node (step 0 1 0 (literals 0 0))
    ∷ []

unfoldable pub equal_peaks_rules : List Literals
equal_peaks_rules = literals 0 1 ∷ literals 1 0 ∷ []

unfoldable pub equal_peaks_intersected : List Record
equal_peaks_intersected =
    node (given 1 (literals 1 0))
    ∷ node (given 0 (literals 0 1))
    ∷ node (step 0 0 1 (literals 0 0))
    ∷ drop 0
    ∷ drop 1
    ∷ []

-- the top-down order has the larger peak, and the old one is emitted
unfoldable pub early_given : List Record
early_given =
    node (given 0 (literals 1 0))
    ∷ node (given 1 (literals 0 2))
    ∷ node (given 2 (literals 2 1))
    ∷ node (step 0 0 2 (literals 2 0))
    ∷ node (step 1 3 1 (literals 0 0))
    ∷ []

unfoldable pub early_given_rules : List Literals
early_given_rules = literals 1 0 ∷ literals 0 2 ∷ literals 2 1 ∷ []

unfoldable pub early_given_intersected : List Record
early_given_intersected =
    node (given 0 (literals 1 0))
    ∷ node (given 2 (literals 2 1))
    ∷ node (step 0 0 1 (literals 2 0))
    ∷ drop 0
    ∷ drop 1
    ∷ node (given 1 (literals 0 2))
    ∷ node (step 1 2 3 (literals 0 0))
    ∷ drop 2
    ∷ drop 3
    ∷ []

-- parents that are still needed do not count: node 2 goes before node 3
unfoldable pub still_needed : List Record
still_needed =
    node (given 0 (literals 1 0))
    ∷ node (given 1 (literals 2 1))
    ∷ node (given 2 (literals 0 6))
    ∷ node (step 0 0 1 (literals 2 0))
    ∷ node (step 1 1 2 (literals 0 5))
    ∷ node (step 0 0 4 (literals 0 4))
    ∷ node (given 3 (literals 4 2))
    ∷ node (step 1 3 6 (literals 4 0))
    ∷ node (step 2 7 5 (literals 0 0))
    ∷ []

unfoldable pub still_needed_rules : List Literals
still_needed_rules = literals 1 0 ∷ literals 2 1 ∷ literals 0 6 ∷ literals 4 2 ∷ []

unfoldable pub still_needed_intersected : List Record
still_needed_intersected =
    node (given 0 (literals 1 0))
    ∷ node (given 1 (literals 2 1))
    ∷ node (given 2 (literals 0 6))
    ∷ node (step 1 1 2 (literals 0 5))
    ∷ drop 2
    ∷ node (step 0 0 1 (literals 2 0))
    ∷ drop 1
    ∷ node (step 0 0 3 (literals 0 4))
    ∷ drop 0
    ∷ drop 3
    ∷ node (given 3 (literals 4 2))
    ∷ node (step 1 4 6 (literals 4 0))
    ∷ drop 4
    ∷ drop 6
    ∷ node (step 2 7 5 (literals 0 0))
    ∷ drop 5
    ∷ drop 7
    ∷ []

-- after node 6 two nodes can be dropped, after node 5 one
unfoldable pub two_dropped : List Record
two_dropped =
    node (given 0 (literals 1 2))
    ∷ node (given 1 (literals 4 8))
    ∷ node (given 2 (literals 0 3))
    ∷ node (given 3 (literals 2 4))
    ∷ node (step 1 3 2 (literals 0 5))
    ∷ node (step 2 1 4 (literals 0 9))
    ∷ node (step 1 3 0 (literals 1 4))
    ∷ node (step 2 1 6 (literals 1 8))
    ∷ node (step 0 7 5 (literals 0 8))
    ∷ node (given 4 (literals 8 0))
    ∷ node (step 3 9 8 (literals 0 0))
    ∷ []

unfoldable pub two_dropped_rules : List Literals
two_dropped_rules = literals 1 2 ∷ literals 4 8 ∷ literals 0 3 ∷ literals 2 4 ∷ literals 8 0 ∷ []

unfoldable pub two_dropped_intersected : List Record
two_dropped_intersected =
    node (given 0 (literals 1 2))
    ∷ node (given 1 (literals 4 8))
    ∷ node (given 2 (literals 0 3))
    ∷ node (given 3 (literals 2 4))
    ∷ node (step 1 3 2 (literals 0 5))
    ∷ drop 2
    ∷ node (step 1 3 0 (literals 1 4))
    ∷ drop 0
    ∷ drop 3
    ∷ node (step 2 1 4 (literals 0 9))
    ∷ drop 4
    ∷ node (step 2 1 5 (literals 1 8))
    ∷ drop 1
    ∷ drop 5
    ∷ node (step 0 7 6 (literals 0 8))
    ∷ drop 6
    ∷ drop 7
    ∷ node (given 4 (literals 8 0))
    ∷ node (step 3 9 8 (literals 0 0))
    ∷ drop 8
    ∷ drop 9
    ∷ []

-- by the reset, a node that one step names twice counts once
unfoldable pub named_twice : List Record
named_twice =
    node (given 0 (literals 7 0))
    ∷ node (given 1 (literals 2 12))
    ∷ node (given 2 (literals 0 3))
    ∷ node (step 1 0 2 (literals 5 1))
    ∷ node (given 3 (literals 8 0))
    ∷ node (step 0 3 3 (literals 5 1))
    ∷ node (step 1 1 2 (literals 0 13))
    ∷ node (step 2 5 6 (literals 1 9))
    ∷ node (step 3 4 7 (literals 1 1))
    ∷ node (step 0 8 8 (literals 1 1))
    ∷ []

unfoldable pub named_twice_rules : List Literals
named_twice_rules = literals 7 0 ∷ literals 2 12 ∷ literals 0 3 ∷ literals 8 0 ∷ []

unfoldable pub named_twice_reset : List Record
named_twice_reset =
    node (given 0 (literals 7 0))
    ∷ node (given 1 (literals 2 12))
    ∷ node (given 2 (literals 0 3))
    ∷ node (step 1 0 2 (literals 5 1))
    ∷ drop 0
    ∷ node (step 1 1 2 (literals 0 13))
    ∷ drop 1
    ∷ drop 2
    ∷ node (step 0 3 3 (literals 5 1))
    ∷ drop 3
    ∷ node (step 2 5 4 (literals 1 9))
    ∷ drop 4
    ∷ drop 5
    ∷ node (given 3 (literals 8 0))
    ∷ node (step 3 7 6 (literals 1 1))
    ∷ drop 6
    ∷ drop 7
    ∷ []

unfoldable pub orders : List Case
orders =
    accepts (plan Narrow Intersection None) left_givens_rules left_givens (0 ∷ 0 ∷ 17 ∷ 9 ∷ 4 ∷ 3 ∷ 5 ∷ []) TopDown (sheet_bytes Narrow left_givens_intersected) (1 ∷ 1 ∷ 1 ∷ 1 ∷ 1 ∷ [])
    ∷ accepts (plan Wide Intersection None) high_left_givens_rules high_left_givens (0 ∷ 0 ∷ 17 ∷ 9 ∷ 4 ∷ 3 ∷ 5 ∷ []) TopDown (sheet_bytes Wide high_left_givens_intersected) (1 ∷ 1 ∷ 1 ∷ 1 ∷ 1 ∷ [])
    ∷ accepts (plan Narrow Intersection None) equal_peaks_rules equal_peaks (0 ∷ 0 ∷ 5 ∷ 3 ∷ 1 ∷ 3 ∷ 2 ∷ []) BottomUp (sheet_bytes Narrow equal_peaks_intersected) (1 ∷ 1 ∷ [])
    ∷ accepts (plan Narrow Intersection None) early_given_rules early_given (0 ∷ 0 ∷ 9 ∷ 5 ∷ 2 ∷ 3 ∷ 3 ∷ []) BottomUp (sheet_bytes Narrow early_given_intersected) (1 ∷ 1 ∷ 1 ∷ [])
    ∷ accepts (plan Narrow Intersection None) still_needed_rules still_needed (0 ∷ 0 ∷ 17 ∷ 9 ∷ 5 ∷ 4 ∷ 4 ∷ []) TopDown (sheet_bytes Narrow still_needed_intersected) (1 ∷ 1 ∷ 1 ∷ 1 ∷ [])
    ∷ accepts (plan Narrow Intersection None) two_dropped_rules two_dropped (0 ∷ 0 ∷ 21 ∷ 11 ∷ 6 ∷ 5 ∷ 5 ∷ []) TopDown (sheet_bytes Narrow two_dropped_intersected) (1 ∷ 1 ∷ 1 ∷ 1 ∷ 1 ∷ [])
    ∷ accepts (plan Narrow Reset None) named_twice_rules named_twice (1 ∷ 1 ∷ 17 ∷ 9 ∷ 5 ∷ 4 ∷ 4 ∷ []) TopDown (sheet_bytes Narrow named_twice_reset) (1 ∷ 1 ∷ 1 ∷ 1 ∷ [])
    ∷ []

abbrev pub Orders : Type 0
Orders = T (all_right orders)
