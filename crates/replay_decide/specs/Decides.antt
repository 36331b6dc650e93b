-- What a record comes to, with what was found in the row.
use Rattle.std.specs.Prelude.{ℕ, List, Ok, Err}
use Rattle.sheet.specs.Reasons.{Verdict}
use Rattle.sheet.specs.declared.edition.Edition.{Edition}
use Rattle.sheet.specs.Records.{Record, node, drop, clause, Reading, reads, unread}
use Rattle.tally.specs.Tally.{Tally, counted}
use Rattle.replay_spec.specs.Slots.{slot, empty, Place, nowhere, into}
use Rattle.replay_slots.specs.Said.{Decided}
use Rattle.replay_verdict.specs.Found.{check_found}

-- "A node takes the lowest free slot, and a drop zeroes its slot."
unfoldable pub placed : ℕ → Record → Place → Place → Place
placed next (node x) left vacant = into (slot 1 next (clause x)) vacant
placed next (drop n) left vacant = into empty left

-- "a refused record changes neither tally nor slots"
abbrev pub keeps : Verdict → Tally → Decided
keeps v t = record { verdict = v; tally = t; place = nowhere }

unfoldable pub by_checks : Verdict → Tally → Record → Place → Place → Decided
by_checks (Ok tt) t r left vacant = record { verdict = (Ok tt); tally = counted t r; place = placed t.next r left vacant }
by_checks (Err why) t r left vacant = keeps (Err why) t

unfoldable pub decided : Edition → List ℕ → Tally → Reading → Place → Place → Place → Decided
decided e rules t (reads r) left right vacant = by_checks (check_found e rules t.next r left right vacant) t r left vacant
decided e rules t (unread why) left right vacant = keeps (Err why) t
