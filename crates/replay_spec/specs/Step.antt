-- One record of the replay: the tally and the slots before it, its checks, and the tally and the slots after it.
use Rattle.std.specs.Prelude.{ℕ, Bool, true, false, ◌&&◌, cond, List, [], ◌∷◌, eqb, ltb, leb, length, Ok, Err}
use Rattle.sheet.specs.declared.Reason.{Reason}
use Rattle.sheet.specs.declared.Reason.TheVariants.{Dropped, Full}
use Rattle.sheet.specs.declared.edition.Edition.{Edition}
use Rattle.sheet.specs.Editions.{record_bytes, replay_records}
use Rattle.sheet.specs.Reasons.{Verdict, number_of, unless, and_then}
use Rattle.sheet.specs.Records.{given, step, Record, node, drop, clause, Reading, reads, unread}
use Rattle.sheet.specs.Fields.{reading}
use Rattle.sheet.specs.Checks.{check_table, check_earlier, check_step, check_given}
use Rattle.tally.specs.Tally.{Tally, counted}
use Rattle.replay_spec.specs.Slots.{Slot, held, clause_held, room, hold, release}

pub record State : Type 0 where
  pub tally : Tally
  pub slots : List Slot

abbrev pub state : Tally → List Slot → State
state t slots = record { tally = t; slots = slots }

-- ---- the checks of a record that reads

-- 10: named node was dropped
unfoldable pub check_held : List Slot → ℕ → Verdict
check_held slots n = unless (held n slots) Dropped (Ok tt)

-- 15: node record, and every slot holds a node
unfoldable pub check_room : List Slot → Verdict
check_room slots = unless (room slots) Full (Ok tt)

-- the first of them that refuses
unfoldable pub first_of : List Verdict → Verdict
first_of [] = (Ok tt)
first_of (v ∷ rest) = and_then v (first_of rest)

-- the first number that applies: 9, 10, 11, 12 and 18, 15 of a step; 13, 14 and 17, 15 of a given record; 9, 10 of a drop
unfoldable pub check_record : Edition → List ℕ → State → Record → Verdict
check_record e rules s (node (given line c)) = first_of (check_given e rules line c ∷ check_room s.slots ∷ [])
check_record e rules s (node (step p l r c)) =
    first_of
    (check_earlier s.tally.next l
    ∷ check_earlier s.tally.next r
    ∷ check_held s.slots l
    ∷ check_held s.slots r
    ∷ check_step p (clause_held l s.slots) (clause_held r s.slots) c
    ∷ check_room s.slots
    ∷ [])
check_record e rules s (drop n) = first_of (check_earlier s.tally.next n ∷ check_held s.slots n ∷ [])

-- ---- the state after one that is taken

unfoldable pub stored : ℕ → Record → List Slot → List Slot
stored next (node n) slots = hold next (clause n) slots
stored next (drop n) slots = release n slots

unfoldable pub after : State → Record → State
after s r = state (counted s.tally r) (stored s.tally.next r s.slots)

-- what a record comes to: the state after it, or the reason why it is refused
pub data Turn : Type 0 where
  goes : State → Turn
  stops : Reason → Turn

unfoldable pub by_verdict : Verdict → State → Turn
by_verdict (Ok tt) s = goes s
by_verdict (Err why) s = stops why

unfoldable pub by_reading : Edition → List ℕ → State → Reading → Turn
by_reading e rules s (reads r) = by_verdict (check_record e rules s r) (after s r)
by_reading e rules s (unread why) = stops why

-- the record whose bytes are b
unfoldable pub turn : Edition → List ℕ → List ℕ → State → Turn
turn e rules b s = by_reading e rules s (reading e true b)

-- what is said of it, and the tally and the slots then: "a refused record changes neither"
pub record Judged : Type 0 where
  pub verdict : Verdict
  pub state : State

abbrev pub judged : Verdict → State → Judged
judged v s = record { verdict = v; state = s }

unfoldable pub by_turn : State → Turn → Judged
by_turn s (goes t) = judged (Ok tt) t
by_turn s (stops why) = judged (Err why) s

-- ---- one step, for whoever lends the state

-- What a caller can lend that no replay within its limit has: a record of another length, a rule table that check 4 refuses, a tally
-- that is not reached.
unfoldable pub passes : Verdict → Bool
passes (Ok tt) = true
passes (Err why) = false

unfoldable pub reached : Edition → Tally → Bool
reached e t = ltb t.next (replay_records e) && leb t.held t.next && leb t.steps t.next

unfoldable pub fits : Edition → ℕ → ℕ → Tally → Bool
fits e rules bytes t = eqb bytes (record_bytes e) && passes (check_table e rules) && reached e t

-- an answer to one record: a refusal has the number of its reason, and of the record
pub data Step : Type 0 where
  taken : Step
  refused : ℕ → ℕ → Step
  unfit : Step

unfoldable pub answered : ℕ → Verdict → Step
answered k (Ok tt) = taken
answered k (Err why) = refused (number_of why) k

-- the answer, and the tally and the slots then
pub record Stepped : Type 0 where
  pub answer : Step
  pub state : State

abbrev pub stepped : Step → State → Stepped
stepped a s = record { answer = a; state = s }

abbrev pub numbered : ℕ → Judged → Stepped
numbered k j = stepped (answered k j.verdict) j.state

-- record number k, lent to one step with a state
unfoldable pub one_step : Edition → List ℕ → List ℕ → ℕ → State → Stepped
one_step e rules b k s = cond (fits e (length rules) (length b) s.tally) (numbered k (by_turn s (turn e rules b s))) (stepped unfit s)
