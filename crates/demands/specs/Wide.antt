-- Cases of the wide edition, most of them on variables that the narrow one does not have. Made by the second program: `reference tables`.
use Rattle.std.specs.Prelude.{◌+◌, ◌^◌, List, [], ◌∷◌, T, None}
use Rattle.clause.specs.Clauses.{Literals, literals}
use Rattle.sheet.specs.declared.edition.Edition.TheVariants.{Narrow, Wide}
use Rattle.sheet.specs.Records.{given, step, Record, node, drop}
use Rattle.sheet.specs.Fields.{sheet_bytes}
use Rattle.press_spec.specs.declared.Recycling.{Recycling}
use Rattle.press_spec.specs.declared.Order.TheVariants.{BottomUp}
use Rattle.press_spec.specs.Plans.{plan}
use Rattle.demands.specs.Cases.{Case, presses, replays, accepts, refuses, replayed, rule_table, junk, clean, all_right}
use Rattle.demands.specs.Starred.{lone_rules, lone, lone_pressed}

-- the last pivot
unfoldable pub pivot127 : List Record
pivot127 =
    node (given 0 (literals (2 ^ 127) 0))
    ∷ node (given 1 (literals 0 (2 ^ 127)))
    ∷ node (step 127 0 1 (literals 0 0))
    ∷ []

unfoldable pub pivot127_rules : List Literals
pivot127_rules = literals (2 ^ 127) 0 ∷ literals 0 (2 ^ 127) ∷ []

unfoldable pub pivot127_pressed : List Record
pivot127_pressed =
    node (given 0 (literals (2 ^ 127) 0))
    ∷ node (given 1 (literals 0 (2 ^ 127)))
    ∷ node (step 127 0 1 (literals 0 0))
    ∷ drop 0
    ∷ drop 1
    ∷ []

-- *irregular*, with two variables over 63
unfoldable pub high_irregular : List Record
high_irregular =
    node (given 0 (literals (2 ^ 64 + 2 ^ 127) 0))
    ∷ node (given 1 (literals 1 (2 ^ 64)))
    ∷ node (step 64 0 1 (literals (1 + 2 ^ 127) 0))
    ∷ node (given 2 (literals (2 ^ 64) (2 ^ 127)))
    ∷ node (step 127 2 3 (literals (1 + 2 ^ 64) 0))
    ∷ node (given 3 (literals 0 (2 ^ 64)))
    ∷ node (step 64 4 5 (literals 1 0))
    ∷ node (given 4 (literals 0 1))
    ∷ node (step 0 6 7 (literals 0 0))
    ∷ []

unfoldable pub high_irregular_rules : List Literals
high_irregular_rules = literals (2 ^ 64 + 2 ^ 127) 0 ∷ literals 1 (2 ^ 64) ∷ literals (2 ^ 64) (2 ^ 127) ∷ literals 0 (2 ^ 64) ∷ literals 0 1 ∷ []

unfoldable pub high_irregular_pressed : List Record
high_irregular_pressed =
    node (given 0 (literals (2 ^ 64 + 2 ^ 127) 0))
    ∷ node (given 2 (literals (2 ^ 64) (2 ^ 127)))
    ∷ node (step 127 0 1 (literals (2 ^ 64) 0))
    ∷ drop 0
    ∷ drop 1
    ∷ node (given 3 (literals 0 (2 ^ 64)))
    ∷ node (step 64 2 3 (literals 0 0))
    ∷ drop 2
    ∷ drop 3
    ∷ []

-- literals over 63 are kept
unfoldable pub high_kept : List Record
high_kept =
    node (given 0 (literals (1 + 2 ^ 64) 0))
    ∷ node (given 1 (literals (2 ^ 127) 1))
    ∷ node (step 0 0 1 (literals (2 ^ 64 + 2 ^ 127) 0))
    ∷ []

unfoldable pub high_kept_rules : List Literals
high_kept_rules = literals (1 + 2 ^ 64) 0 ∷ literals (2 ^ 127) 1 ∷ []

unfoldable pub high_kept_pressed : List Record
high_kept_pressed =
    node (given 0 (literals (1 + 2 ^ 64) 0))
    ∷ node (given 1 (literals (2 ^ 127) 1))
    ∷ node (step 0 0 1 (literals (2 ^ 64 + 2 ^ 127) 0))
    ∷ drop 0
    ∷ drop 1
    ∷ []

-- two variables of one place in their halves, each one way
unfoldable pub high_one_way : List Record
high_one_way =
    node (given 0 (literals (2 ^ 36) (2 ^ 100)))
    ∷ []

unfoldable pub high_one_way_rules : List Literals
high_one_way_rules = literals (2 ^ 36) (2 ^ 100) ∷ []

unfoldable pub high_one_way_pressed : List Record
high_one_way_pressed =
    node (given 0 (literals (2 ^ 36) (2 ^ 100)))
    ∷ []

-- bytes that both editions take, with other answers
unfoldable pub either_edition : List Record
either_edition =
    node (given 0 (literals 0 (1 + 2 ^ 49)))
    ∷ node (given 2 (literals (1 + 2 ^ 49 + 2 ^ 50) (2 ^ 64 + 2 ^ 112 + 2 ^ 113 + 2 ^ 114)))
    ∷ node (given 4 (literals (2 ^ 64 + 2 ^ 112 + 2 ^ 115) 0))
    ∷ []

unfoldable pub either_edition_rules : List Literals
either_edition_rules = literals 0 (1 + 2 ^ 49) ∷ literals (2 ^ 64 + 2 ^ 113) 0 ∷ literals (1 + 2 ^ 49 + 2 ^ 50) (2 ^ 64 + 2 ^ 112 + 2 ^ 113 + 2 ^ 114) ∷ literals 0 (1 + 2 ^ 50) ∷ literals (2 ^ 64 + 2 ^ 112 + 2 ^ 115) 0 ∷ []

unfoldable pub either_edition_pressed : List Record
either_edition_pressed =
    node (given 4 (literals (2 ^ 64 + 2 ^ 112 + 2 ^ 115) 0))
    ∷ []

-- a pivot of 128: 8
unfoldable pub pivot128 : List Record
pivot128 =
    node (given 0 (literals (2 ^ 127) 0))
    ∷ node (given 1 (literals 0 (2 ^ 127)))
    ∷ node (step 128 0 1 (literals 0 0))
    ∷ []

-- a literal over 63 is lost: 12
unfoldable pub high_lost : List Record
high_lost =
    node (given 0 (literals (1 + 2 ^ 64) 0))
    ∷ node (given 1 (literals (2 ^ 127) 1))
    ∷ node (step 0 0 1 (literals (2 ^ 64) 0))
    ∷ []

-- a literal over 63 is added: 18
unfoldable pub high_added : List Record
high_added =
    node (given 0 (literals (1 + 2 ^ 64) 0))
    ∷ node (given 1 (literals (2 ^ 127) 1))
    ∷ node (step 0 0 1 (literals (2 ^ 64 + 2 ^ 127) (2 ^ 64)))
    ∷ []

-- one moves to the same place of the low half: 12
unfoldable pub high_moved : List Record
high_moved =
    node (given 0 (literals (1 + 2 ^ 64) 0))
    ∷ node (given 1 (literals (2 ^ 127) 1))
    ∷ node (step 0 0 1 (literals (1 + 2 ^ 127) 0))
    ∷ []

-- a given clause that differs from its line over 63 only: 14
unfoldable pub high_given : List Record
high_given =
    node (given 0 (literals 1 (2 ^ 101)))
    ∷ []

-- a given clause that holds a variable over 63 both ways: 17
unfoldable pub high_both_ways : List Record
high_both_ways =
    node (given 0 (literals (1 + 2 ^ 100) (2 ^ 100)))
    ∷ []

unfoldable pub high_given_rules : List Literals
high_given_rules = literals 1 (2 ^ 100) ∷ []

unfoldable pub high_both_ways_rules : List Literals
high_both_ways_rules = literals (1 + 2 ^ 100) (2 ^ 100) ∷ []

unfoldable pub wide : Recycling → List Case
wide how =
    accepts (plan Wide how None) pivot127_rules pivot127 (0 ∷ 0 ∷ 5 ∷ 3 ∷ 1 ∷ 3 ∷ 2 ∷ []) BottomUp (sheet_bytes Wide pivot127_pressed) (1 ∷ 1 ∷ [])
    ∷ accepts (plan Wide how None) high_irregular_rules high_irregular (0 ∷ 0 ∷ 9 ∷ 5 ∷ 2 ∷ 3 ∷ 3 ∷ []) BottomUp (sheet_bytes Wide high_irregular_pressed) (1 ∷ 0 ∷ 1 ∷ 1 ∷ 0 ∷ [])
    ∷ accepts (plan Wide how None) high_kept_rules high_kept ((2 ^ 64 + 2 ^ 127) ∷ 0 ∷ 5 ∷ 3 ∷ 1 ∷ 3 ∷ 2 ∷ []) BottomUp (sheet_bytes Wide high_kept_pressed) (1 ∷ 1 ∷ [])
    ∷ accepts (plan Wide how None) high_one_way_rules high_one_way ((2 ^ 36) ∷ (2 ^ 100) ∷ 1 ∷ 1 ∷ 0 ∷ 1 ∷ 1 ∷ []) BottomUp (sheet_bytes Wide high_one_way_pressed) (1 ∷ [])
    ∷ accepts (plan Wide how None) either_edition_rules either_edition ((2 ^ 64 + 2 ^ 112 + 2 ^ 115) ∷ 0 ∷ 1 ∷ 1 ∷ 0 ∷ 1 ∷ 1 ∷ []) BottomUp (sheet_bytes Wide either_edition_pressed) (0 ∷ 0 ∷ 0 ∷ 0 ∷ 1 ∷ [])
    ∷ refuses (plan Wide how None) pivot127_rules pivot128 8 2
    ∷ replayed Wide (sheet_bytes Wide pivot128) pivot127_rules 3 (8 ∷ 2 ∷ [])
    ∷ refuses (plan Wide how None) high_kept_rules high_lost 12 2
    ∷ replayed Wide (sheet_bytes Wide high_lost) high_kept_rules 3 (12 ∷ 2 ∷ [])
    ∷ refuses (plan Wide how None) high_kept_rules high_added 18 2
    ∷ replayed Wide (sheet_bytes Wide high_added) high_kept_rules 3 (18 ∷ 2 ∷ [])
    ∷ refuses (plan Wide how None) high_kept_rules high_moved 12 2
    ∷ replayed Wide (sheet_bytes Wide high_moved) high_kept_rules 3 (12 ∷ 2 ∷ [])
    ∷ refuses (plan Wide how None) high_given_rules high_given 14 0
    ∷ replayed Wide (sheet_bytes Wide high_given) high_given_rules 3 (14 ∷ 0 ∷ [])
    ∷ refuses (plan Wide how None) high_both_ways_rules high_both_ways 17 0
    ∷ replayed Wide (sheet_bytes Wide high_both_ways) high_both_ways_rules 3 (17 ∷ 0 ∷ [])
    ∷ replayed Wide (sheet_bytes Wide pivot127_pressed) pivot127_rules 3 (0 ∷ 0 ∷ 3 ∷ 1 ∷ 3 ∷ [])
    ∷ replayed Wide (sheet_bytes Wide pivot127_pressed) pivot127_rules 2 (15 ∷ 2 ∷ [])
    ∷ replayed Wide (sheet_bytes Wide high_irregular_pressed) high_irregular_rules 3 (0 ∷ 0 ∷ 5 ∷ 2 ∷ 3 ∷ [])
    ∷ replayed Wide (sheet_bytes Wide high_irregular_pressed) high_irregular_rules 2 (15 ∷ 2 ∷ [])
    ∷ accepts (plan Wide how None) lone_rules lone (1 ∷ 0 ∷ 1 ∷ 1 ∷ 0 ∷ 1 ∷ 1 ∷ []) BottomUp (sheet_bytes Wide lone_pressed) (1 ∷ [])
    ∷ presses (plan Wide how None) (sheet_bytes Wide lone) (rule_table Wide lone_rules) 39 1 (5 ∷ 0 ∷ []) (junk 39) (junk 1)
    ∷ presses (plan Wide how None) (sheet_bytes Wide high_irregular) (rule_table Wide high_irregular_rules) 679 5 (5 ∷ 0 ∷ []) (junk 679) (junk 5)
    ∷ replayed Wide (sheet_bytes Wide either_edition) either_edition_rules 5 ((2 ^ 64 + 2 ^ 112 + 2 ^ 115) ∷ 0 ∷ 3 ∷ 0 ∷ 3 ∷ [])
    ∷ replays Narrow (sheet_bytes Wide either_edition) (rule_table Wide either_edition_rules) 5 (0 ∷ 0 ∷ 5 ∷ 0 ∷ 5 ∷ []) (clean 5)
    ∷ []

abbrev pub WideSheets : Type 0
WideSheets = (how : Recycling) → T (all_right (wide how))
