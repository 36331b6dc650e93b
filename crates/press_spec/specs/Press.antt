-- The whole press.
use Rattle.std.specs.Prelude.{ℕ, List, length, replicate, Ok, Err}
use Rattle.base.specs.Bytes.{put}
use Rattle.clause.specs.Clauses.{Literals}
use Rattle.sheet.specs.declared.Reason.{Reason}
use Rattle.sheet.specs.declared.edition.Edition.{Edition}
use Rattle.press_spec.specs.declared.Order.{Order}
use Rattle.press_spec.specs.declared.Plan.{Plan}
use Rattle.sheet.specs.Editions.{variables}
use Rattle.sheet.specs.Reasons.{Verdict, number_of}
use Rattle.sheet.specs.Records.{Node, clause, node_at}
use Rattle.sheet.specs.Fields.{sheet_bytes, rule_lines}
use Rattle.sheet.specs.Counts.{steps_of, peak_from}
use Rattle.press_spec.specs.Links.{links, sink}
use Rattle.press_spec.specs.Judge.{Sizes, sizes, check_press, Judged, proper, bad, judge}
use Rattle.press_spec.specs.Trim.{uses_from}
use Rattle.press_spec.specs.Recycle.{Fit, Reach, fit_of, recycle, fates}
use Rattle.press_spec.specs.Rebuild.{Built, rebuild, Ended, ended_at}
use Rattle.press_spec.specs.Lowerings.{lower_by}
use Rattle.press_spec.specs.Order.{laid}
use Rattle.press_spec.specs.Better.{better_of, better}
use Rattle.press_spec.specs.Drops.{with_drops, mark_lines, total}

-- 2: with a way to fit sets, and the sink's own set
abbrev pub reaches : Fit → Literals → List Node → List Reach
reaches fit S s = recycle fit S (links s) (sink s)

-- 2 and 3
unfoldable pub recycled : Fit → Literals → List Node → Built
recycled fit S s = rebuild s (fates (links s) (reaches fit S s))

-- 4 starts from the sink's stand-in
unfoldable pub shortened : Fit → Literals → List Node → Ended
shortened fit S s = ended_at (recycled fit S s) (sink s)

-- 4 and 5: from the conclusion, in the better of the two orders
unfoldable pub arranged : Ended → List Node
arranged t = laid t.nodes (better t.nodes t.last)

-- which of the two that is
unfoldable pub order_of : Ended → Order
order_of t = better_of t.nodes t.last

-- the way to fit sets that the plan chooses
abbrev pub chosen_fit : Plan → List Node → Fit
chosen_fit plan s = fit_of plan.recycling (uses_from (links s) (sink s))

-- 1 to 4 and lowering, by the passes chosen, with a set for the sink
unfoldable pub concluded : Plan → Literals → List Node → Ended
concluded plan S s = lower_by plan.lowering (variables plan.edition) (shortened (chosen_fit plan s) S s)

-- 1 to 5
unfoldable pub pressed_from : Plan → Literals → List Node → List Node
pressed_from plan S s = arranged (concluded plan S s)

unfoldable pub conclusion : List Node → Literals
conclusion s = clause (node_at s (sink s))

-- "The sink's S is its clause."
unfoldable pub pressed : Plan → List Node → List Node
pressed plan s = pressed_from plan (conclusion s) s

unfoldable pub pressed_order : Plan → List Node → Order
pressed_order plan s = order_of (concluded plan (conclusion s) s)

-- what a press is lent
pub record Call : Type 0 where
  pub sheet : List ℕ
  pub rules : List ℕ
  pub out : List ℕ
  pub marks : List ℕ

abbrev pub call : List ℕ → List ℕ → List ℕ → List ℕ → Call
call sheet rules out marks = record { sheet = sheet; rules = rules; out = out; marks = marks }

abbrev pub sizes_of : Call → Sizes
sizes_of c = sizes (length c.sheet) (length c.rules) (length c.out) (length c.marks)

-- "An accepted press returns conclusion, record count, node count, step count (resolution records), peak and number of marked
-- lines." And "the answer says which" of the two orders "it was".
pub record Report : Type 0 where
  pub conclusion : Literals
  pub records : ℕ
  pub nodes : ℕ
  pub steps : ℕ
  pub peak : ℕ
  pub marked : ℕ
  pub order : Order

pub data Answer : Type 0 where
  refused : ℕ → ℕ → Answer
  accepted : Report → Answer

pub record Outcome : Type 0 where
  pub answer : Answer
  pub out : List ℕ
  pub marks : List ℕ

abbrev pub outcome : Answer → List ℕ → List ℕ → Outcome
outcome a out marks = record { answer = a; out = out; marks = marks }

-- the core of a table of so many lines, a mark for each
unfoldable pub core : ℕ → List Node → List ℕ
core lines s = mark_lines (links s) (replicate lines 0)

unfoldable pub report : ℕ → Order → List Node → Report
report lines which s = record {
  conclusion = conclusion s;
  records = length (with_drops s);
  nodes = length s;
  steps = steps_of s;
  peak = peak_from 0 (with_drops s);
  marked = total (core lines s);
  order = which;
}

-- "Output beyond the records is untouched. Marks hold 1 or 0 for each rule line; bytes beyond are untouched."
unfoldable pub emit : Edition → Call → Order → List Node → Outcome
emit e c which s =
    let lines = rule_lines e c.rules in
    outcome (accepted (report lines which s)) (put c.out 0 (sheet_bytes e (with_drops s))) (put c.marks 0 (core lines s))

-- "A refused press changes neither output nor marks."
unfoldable pub refuse : Call → Reason → ℕ → Outcome
refuse c why k = outcome (refused (number_of why) k) c.out c.marks

unfoldable pub by_judging : Plan → Call → Judged → Outcome
by_judging plan c (proper s) = emit plan.edition c (pressed_order plan s) (pressed plan s)
by_judging plan c (bad why k) = refuse c why k

unfoldable pub by_lengths : Plan → Call → Verdict → Outcome
by_lengths plan c (Ok tt) = by_judging plan c (judge plan.edition c.rules c.sheet)
by_lengths plan c (Err why) = refuse c why 0

unfoldable pub press : Plan → Call → Outcome
press plan c = by_lengths plan c (check_press plan.edition (sizes_of c))
