-- What is decided on what was found in a row is what a record comes to in that row.
use Rattle.std.proofs.Common.{Err, Ok}
use mathlib.Core.Path.{◌≡◌, refl}
use mathlib.Core.List.{List}
use Prim.Native.Nat.{ℕ}
use Rattle.sheet.specs.Reasons.{Verdict}
use Rattle.sheet.specs.declared.edition.Edition.{Edition}
use Rattle.sheet.specs.Records.{given, step, Record, node, drop, Reading, reads, unread}
use Rattle.replay_spec.specs.Slots.{Slot, put, held, clause_held, room, look, hold, release}
use Rattle.replay_spec.specs.Step.{State, state, check_held, check_room, check_record, stored, after, by_verdict, by_reading, Judged, judged, by_turn}
use Rattle.replay_slots.specs.Said.{Decided}
use Rattle.replay_verdict.specs.Found.{check_place, check_found}
use Rattle.replay_sought.specs.Sought.{left_sought, right_sought, room_sought}
use Rattle.replay_decide.specs.Decides.{placed, by_checks, decided}

-- what the checks say, the tally, and the row with the slot put into it
abbrev pub comes_to : Decided → List Slot → Judged
comes_to d slots = judged d.verdict (state d.tally (put d.place slots))

module _ (e : Edition) (rules : List ℕ) (s : State) where
  -- what was found for a record, or for what does not read
  abbrev pub decided_in : Reading → Decided
  decided_in w = decided e rules s.tally w (look (left_sought w) s.slots) (look (right_sought w) s.slots) (look (room_sought w) s.slots)

  checked-in : (r : Record) → check_found e rules s.tally.next r (look (left_sought (reads r)) s.slots) (look (right_sought (reads r)) s.slots) (look (room_sought (reads r)) s.slots)
      ≡ check_record e rules s r
  unfolding check_found check_place check_record check_held check_room held clause_held room look left_sought right_sought room_sought
  checked-in (node (given line c)) = refl
  checked-in (node (step p l r c)) = refl
  checked-in (drop n) = refl

  stored-in : (r : Record) → put (placed s.tally.next r (look (left_sought (reads r)) s.slots) (look (room_sought (reads r)) s.slots)) s.slots
      ≡ stored s.tally.next r s.slots
  unfolding placed stored hold release look left_sought room_sought
  stored-in (node (given line c)) = refl
  stored-in (node (step p l r c)) = refl
  stored-in (drop n) = refl

  pub decides : (w : Reading) → comes_to (decided_in w) s.slots ≡ by_turn s (by_reading e rules s w)
  unfolding decided by_checks by_reading by_verdict by_turn put after
  decides (reads r) = rw (checked-in r) (by-verdict (check_record e rules s r))
    where
      by-verdict : (v : Verdict)
          → comes_to (by_checks v s.tally r (look (left_sought (reads r)) s.slots) (look (room_sought (reads r)) s.slots)) s.slots
          ≡ by_turn s (by_verdict v (after s r))
      by-verdict (Ok tt) = rw (stored-in r)
      by-verdict (Err why) = refl
  decides (unread why) = refl
