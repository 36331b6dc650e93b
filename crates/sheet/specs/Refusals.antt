-- When each number of the table applies, to lengths or to a record, in the table's words, with no word of how it is found out. The order in
-- which the checks are tried is a list of its own.
use Rattle.std.specs.Prelude.{ℕ, ◌/◌, ◌%◌, ◌<◌, ◌≤◌, ◌≡◌, Bool, true, ◌⊎◌, List, [], ◌∷◌, length, take}
use Rattle.clause.specs.Clauses.{plus, minus, Literals, none, holds, Within, BothWays, resolvent}
use Rattle.sheet.specs.declared.Reason.{Reason}
use Rattle.sheet.specs.declared.Reason.TheVariants.{Ragged, Empty, Long, Table, Room, Kind, NotZero, Pivot, NotEarlier, Dropped, PivotMissing, LiteralMissing, LiteralTooMany, NoLine, LineDiffers, SaysNothing, Full, NotHeld}
use Rattle.sheet.specs.declared.edition.Edition.{Edition}
use Rattle.sheet.specs.Editions.{variables, record_bytes, line_bytes, table_lines}
use Rattle.sheet.specs.Reasons.{number_of}
use Rattle.sheet.specs.Records.{Record, drop, reads}
use Rattle.sheet.specs.Fields.{Fields, fields_of, reading, record_at, rule_lines, rule_line}
use Rattle.sheet.specs.Counts.{nodes_of}
use Rattle.sheet.specs.Proper.{record_in, clause_in, ProperAfter}

-- the first of a list that applies
abbrev pub FirstOf : (Reason → Type 0) → List Reason → Reason → Type 0
FirstOf A [] why = ⊥
FirstOf A (r ∷ rs) why = ((why ≡ r) × A r) ⊎ ((A r → ⊥) × FirstOf A rs why)

-- none of a list applies
abbrev pub NoneOf : (Reason → Type 0) → List Reason → Type 0
NoneOf A [] = Unit {0}
NoneOf A (r ∷ rs) = (A r → ⊥) × NoneOf A rs

-- ---- the lengths

-- the lengths in bytes of a sheet and of a rule table, the most records, and when the rest of what is lent is too small
pub record Lent : Type 1 where
  pub edition : Edition
  pub most : ℕ
  pub sheet : ℕ
  pub rules : ℕ
  pub Small : Type 0

abbrev pub LengthApplies : Lent → Reason → Type 0
-- sheet length isn't a multiple of 24 (wide: 40)
LengthApplies z Ragged = z.sheet % record_bytes z.edition ≡ 0 → ⊥
-- sheet is empty
LengthApplies z Empty = z.sheet ≡ 0
-- over so many records
LengthApplies z Long = z.most < z.sheet / record_bytes z.edition
-- rule table isn't a multiple of 16 (wide: 32), or over 1,024 lines
LengthApplies z Table = (z.rules % line_bytes z.edition ≡ 0 → ⊥) ⊎ (table_lines z.edition < z.rules / line_bytes z.edition)
-- room for output too small, or marks shorter than the number of rule lines
LengthApplies z Room = z.Small
-- the others are of records
LengthApplies z Kind = ⊥
LengthApplies z NotZero = ⊥
LengthApplies z Pivot = ⊥
LengthApplies z NotEarlier = ⊥
LengthApplies z Dropped = ⊥
LengthApplies z PivotMissing = ⊥
LengthApplies z LiteralMissing = ⊥
LengthApplies z LiteralTooMany = ⊥
LengthApplies z NoLine = ⊥
LengthApplies z LineDiffers = ⊥
LengthApplies z SaysNothing = ⊥
LengthApplies z Full = ⊥
LengthApplies z NotHeld = ⊥

-- the order in which the checks of the lengths are tried
abbrev pub lengths_in_order : List Reason
lengths_in_order = Ragged ∷ Empty ∷ Long ∷ Table ∷ Room ∷ []

-- what is lent is refused for this reason, or for none
abbrev pub LentRefusedFor : Lent → Reason → Type 0
LentRefusedFor z why = FirstOf (LengthApplies z) lengths_in_order why

abbrev pub LentFine : Lent → Type 0
LentFine z = NoneOf (LengthApplies z) lengths_in_order

-- ---- a record

-- where a record stands: whether drops are a known kind, the rule table, the records before it, and when every slot holds a node
pub record Place : Type 1 where
  pub edition : Edition
  pub drops : Bool
  pub rules : List ℕ
  pub before : List Record
  pub Crowded : Type 0

-- a step names its parents, a drop its node
abbrev pub Names : Fields → ℕ → Type 0
Names f n = ((f.kind ≡ 2) × ((n ≡ f.left) ⊎ (n ≡ f.right))) ⊎ ((f.kind ≡ 3) × (n ≡ f.left))

-- the bytes that must be zero are
abbrev pub Zeros : Fields → Type 0
Zeros f =
    (f.kind ≡ 1 → (f.pivot ≡ 0) × (f.left ≡ 0) × (f.right ≡ 0))
    × (f.kind ≡ 2 → f.line ≡ 0)
    × (f.kind ≡ 3 → (f.pivot ≡ 0) × (f.right ≡ 0) × (f.line ≡ 0) × (f.clause ≡ none))

-- the result of a step: the resolvent of its parents' clauses
abbrev pub result_of : Place → Fields → Literals
result_of p f = resolvent f.pivot (clause_in p.before f.left) (clause_in p.before f.right)

abbrev pub Applies : Place → Fields → Reason → Type 0
-- unknown kind; for the press also kind 3
Applies p f Kind = (f.kind ≡ 1 → ⊥) × (f.kind ≡ 2 → ⊥) × (p.drops ≡ true → f.kind ≡ 3 → ⊥)
-- a byte that must be zero isn't
Applies p f NotZero = Zeros f → ⊥
-- pivot over 63 (wide: 127)
Applies p f Pivot = (f.kind ≡ 2) × (variables p.edition ≤ f.pivot)
-- named node isn't earlier
Applies p f NotEarlier = (n : ℕ) × Names f n × (length (nodes_of p.before) ≤ n)
-- named node was dropped
Applies p f Dropped = (n : ℕ) × Names f n × (k : ℕ) × (k < length p.before) × (record_in p.before k ≡ drop n)
-- +p missing on the left or -p on the right
Applies p f PivotMissing =
    (f.kind ≡ 2)
    × ((holds (plus f.pivot) (clause_in p.before f.left) ≡ true) × (holds (minus f.pivot) (clause_in p.before f.right) ≡ true) → ⊥)
-- written clause lacks a literal of the result
Applies p f LiteralMissing = (f.kind ≡ 2) × (Within (result_of p f) f.clause → ⊥)
-- it lacks none but has at least one too many
Applies p f LiteralTooMany = (f.kind ≡ 2) × Within (result_of p f) f.clause × (Within f.clause (result_of p f) → ⊥)
-- rule line beyond the table
Applies p f NoLine = (f.kind ≡ 1) × (rule_lines p.edition p.rules ≤ f.line)
-- given clause differs from its rule line
Applies p f LineDiffers = (f.kind ≡ 1) × (f.clause ≡ rule_line p.edition p.rules f.line → ⊥)
-- given clause holds a variable both ways
Applies p f SaysNothing = (f.kind ≡ 1) × BothWays f.clause
-- node record, and every slot holds a node
Applies p f Full = ((f.kind ≡ 1) ⊎ (f.kind ≡ 2)) × p.Crowded
-- the others are of no record
Applies p f Ragged = ⊥
Applies p f Empty = ⊥
Applies p f Long = ⊥
Applies p f Table = ⊥
Applies p f Room = ⊥
Applies p f NotHeld = ⊥

-- the order in which the checks of a record are tried
abbrev pub checks_in_order : List Reason
checks_in_order =
    Kind ∷ NotZero ∷ Pivot ∷ NotEarlier ∷ Dropped ∷ PivotMissing ∷ LiteralMissing ∷ LiteralTooMany
    ∷ NoLine ∷ LineDiffers ∷ SaysNothing ∷ Full ∷ []

-- a record with these columns is refused for this reason
abbrev pub RefusedFor : Place → Fields → Reason → Type 0
RefusedFor p f why = FirstOf (Applies p f) checks_in_order why

-- to a step whose written clause isn't the result exactly one of the two applies
abbrev pub OneIsWrong : Type 1
OneIsWrong =
    (p : Place) (f : Fields)
    → f.kind ≡ 2
    → (f.clause ≡ result_of p f → ⊥)
    → (Applies p f LiteralMissing × (Applies p f LiteralTooMany → ⊥)) ⊎ ((Applies p f LiteralMissing → ⊥) × Applies p f LiteralTooMany)

-- ---- the answer: the number of the reason, and the record

-- the lengths answer record 0
abbrev pub LentRefused : Lent → ℕ → ℕ → Type 0
LentRefused z n k = (why : Reason) × LentRefusedFor z why × (n ≡ number_of why) × (k ≡ 0)

-- the first records of a sheet are rs, and each is proper after those before it
pub record Good (e : Edition) (drops : Bool) (rules sheet : List ℕ) (rs : List Record) : Type 0 where
  pub read : (k : ℕ) → k < length rs → reading e drops (record_at e sheet k) ≡ reads (record_in rs k)
  pub each : (k : ℕ) → k < length rs → ProperAfter e rules (take k rs) (record_in rs k)

-- the first record that is not good answers
abbrev pub RecordRefused : Place → List ℕ → ℕ → ℕ → Type 0
RecordRefused p sheet n k =
    Good p.edition p.drops p.rules sheet p.before
    × (k ≡ length p.before)
    × (k < length sheet / record_bytes p.edition)
    × (why : Reason)
    × RefusedFor p (fields_of p.edition (record_at p.edition sheet k)) why
    × (n ≡ number_of why)
