-- With a slot for each record that a replay may have, the number of slots does not matter: more of them stay free, and no answer changes.
use Rattle.std.proofs.Common.{Err, Ok}
use mathlib.Core.Path.{◌≡◌, refl, sym, ap, ◌∙◌}
use mathlib.Core.Bool.{true}
use mathlib.Core.List.{List, ◌++◌}
use Prim.Native.Nat.{ℕ, zero, suc, ◌+◌, ◌/◌, ◌≤◌, min}
use native.Mathlib.Decide.{dec_lt}
use native.Mathlib.Omega.{arith}
use lib.ListN.{length, take, drop as drop-list, replicate, length-replicate, take-append-drop}
use lib.Seq.{length-take-le}
use borrow.Author.Tests.{lt-ltb}
use Rattle.sheet.specs.declared.Reason.{Reason}
use Rattle.sheet.specs.declared.Reason.TheVariants.{Dropped}
use Rattle.sheet.specs.Reasons.{Verdict}
use Rattle.sheet.specs.declared.edition.Edition.{Edition}
use Rattle.sheet.specs.Editions.{record_bytes, replay_records}
use Rattle.sheet.specs.Records.{given, step, Record, node, drop, clause, Reading, reads, unread}
use Rattle.sheet.specs.Fields.{reading, record_at}
use Rattle.sheet.specs.Checks.{check_lengths}
use Rattle.sheet.proofs.Reasons.{unless-fine, and_then-fine}
use Rattle.sheet.proofs.Fine.{lengths-fine}
use Rattle.tally.specs.Tally.{counted}
use Rattle.replay_spec.specs.Slots.{Slot, empty, look, last_of, held, room, cleared}
use Rattle.replay_spec.specs.Step.{State, state, check_held, check_room, first_of, check_record, stored, after, Turn, goes, stops, by_reading, by_verdict, turn}
use Rattle.replay_spec.specs.Replay.{by_last, ending, run, start, by_lengths, replay}
use Rattle.replay_spec.proofs.Slots.{in_use, room-when-fewer, in_use-cleared, in_use-hold, in_use-release, length-cleared, find-more, held_more, clause-more, cleared-append, room-more, hold-more, release-more}
use Rattle.replay_spec.proofs.Steps.{turn-goes, turn-went, run-goes, run-stops, Within, within-counted}
use Rattle.replay_spec.proofs.Mirrors.{length-after}

module _ (others : List Slot) where
  -- the state with free slots after its own
  abbrev wider : State → State
  wider s = state s.tally (s.slots ++ cleared others)

  -- ---- a state with room shows the same, and takes a record the same way

  held-wider : (row : List Slot) (n : ℕ) → check_held (row ++ cleared others) n ≡ check_held row n
  unfolding check_held
  held-wider row n = rw (held_more n row others)

  room-wider : (row : List Slot) → room row ≡ true → check_room (row ++ cleared others) ≡ check_room row
  unfolding check_room
  room-wider row q = rw (room-more row (cleared others) q, q)

  module _ (e : Edition) (rules : List ℕ) (s : State) (q : room s.slots ≡ true) where
    checked-wider : (r : Record) → check_record e rules (wider s) r ≡ check_record e rules s r
    unfolding check_record
    checked-wider (node (given line c)) = rw (room-wider s.slots q)
    checked-wider (node (step p l r c)) =
        rw (
          held-wider s.slots l,
          held-wider s.slots r,
          clause-more l s.slots others,
          clause-more r s.slots others,
          room-wider s.slots q,
        )
    checked-wider (drop n) = rw (held-wider s.slots n)

    -- a drop that is fine is of a node that is held
    drop-held : (n : ℕ) → check_record e rules s (drop n) ≡ Ok tt → held n s.slots ≡ true
    unfolding check_record first_of check_held
    drop-held n v = (unless-fine _ Dropped _ (and_then-fine _ _ (and_then-fine _ _ v).1).0).0

    after-wider : (r : Record) → check_record e rules s r ≡ Ok tt → after (wider s) r ≡ wider (after s r)
    unfolding after stored
    after-wider (node x) v = ap (state (counted s.tally (node x))) (hold-more s.tally.next (clause x) s.slots (cleared others) q)
    after-wider (drop n) v = ap (state (counted s.tally (drop n))) (release-more n s.slots (cleared others) (drop-held n v))

    used-then : in_use s.slots ≡ s.tally.held → (r : Record) → check_record e rules s r ≡ Ok tt → in_use (after s r).slots ≡ (after s r).tally.held
    unfolding after stored counted
    used-then u (node x) v = omega (arith, in_use-hold s.tally.next (clause x) s.slots q, u)
    used-then u (drop n) v = omega (arith, in_use-release n s.slots (drop-held n v), u)

    within-then : (k : ℕ) → Within k s.tally → (r : Record) → Within (suc k) (after s r).tally
    unfolding after
    within-then k w r = within-counted k s.tally r w

    -- ---- a turn

    stops-wider : (b : List ℕ) (why : Reason) → turn e rules b s ≡ stops why → turn e rules b (wider s) ≡ stops why
    unfolding turn by_reading by_verdict
    stops-wider b why g = by-reading (reading e true b) g
      where
        by-verdict : (r : Record) (v : Verdict) → by_verdict v (after s r) ≡ stops why → by_verdict v (after (wider s) r) ≡ stops why
        by-verdict r (Ok tt) h = cc
        by-verdict r (Err x) h = h

        by-reading : (w : Reading) → by_reading e rules s w ≡ stops why → by_reading e rules (wider s) w ≡ stops why
        by-reading (reads r) h = rw (checked-wider r) (by-verdict r (check_record e rules s r) h)
        by-reading (unread x) h = h

  ending-wider : (k : ℕ) (s : State) → ending k (wider s) ≡ ending k s
  unfolding ending look last_of
  ending-wider k s = by_last_lem s.tally.next
    where
      by_last_lem : (n : ℕ) → by_last k s.tally (look (last_of n) (s.slots ++ cleared others)) ≡ by_last k s.tally (look (last_of n) s.slots)
      by_last_lem zero = refl
      by_last_lem (suc n) = ap (by_last k s.tally) (find-more n s.slots others)

  -- ---- a run, in a state that counts its slots in use

  module _ (e : Edition) (rules sheet : List ℕ) where
    run_wider : (m k : ℕ) (s : State)
        → k + m ≤ length s.slots → Within k s.tally → in_use s.slots ≡ s.tally.held
        → run e rules sheet m k (wider s) ≡ run e rules sheet m k s
    unfolding run
    run_wider zero k s h w u = ending-wider k s
    run_wider (suc m) k s h w u = by_turn_lem (run_wider m (suc k)) (turn e rules (record_at e sheet k) s) refl
      where
        roomy : room s.slots ≡ true
        roomy = room-when-fewer s.slots ∙ lt-ltb (in_use s.slots) (length s.slots) (omega (arith, u, w.next, w.held))

        by_turn_lem : ((t : State) → suc k + m ≤ length t.slots → Within (suc k) t.tally → in_use t.slots ≡ t.tally.held
            → run e rules sheet m (suc k) (wider t) ≡ run e rules sheet m (suc k) t)
            → (t : Turn)
            → turn e rules (record_at e sheet k) s ≡ t
            → run e rules sheet (suc m) k (wider s) ≡ run e rules sheet (suc m) k s
        by_turn_lem rest (goes t) g =
            let (r, read, fine, is) = turn-went e rules (record_at e sheet k) s t g in
            run-goes e rules sheet m k (wider s) (after (wider s) r) (turn-goes e rules (record_at e sheet k) (wider s) r read (checked-wider e rules s roomy r ∙ fine))
            ∙ ap (run e rules sheet m (suc k)) (after-wider e rules s roomy r fine)
            ∙ rest (after s r) (omega (arith, length-after s r)) (within-then e rules s roomy k w r) (used-then e rules s roomy u r fine)
            ∙ ap (run e rules sheet m (suc k)) (sym is)
            ∙ sym (run-goes e rules sheet m k s t g)
        by_turn_lem rest (stops why) g =
            run-stops e rules sheet m k (wider s) why (stops-wider e rules s roomy (record_at e sheet k) why g) ∙ sym (run-stops e rules sheet m k s why g)

-- ---- the whole replay

module _ (e : Edition) (sheet rules : List ℕ) where
  -- slots past those that a replay may need change nothing
  replay-wider : (row others : List Slot) → replay_records e ≤ length row → (replay e sheet rules (row ++ others)).answer ≡ (replay e sheet rules row).answer
  unfolding replay by_lengths start
  replay-wider row others enough = by-verdict (check_lengths e (replay_records e) (length sheet) (length rules)) refl
    where
      by-verdict : (v : Verdict) → check_lengths e (replay_records e) (length sheet) (length rules) ≡ v
          → (by_lengths e sheet rules (row ++ others) v).answer ≡ (by_lengths e sheet rules row v).answer
      by-verdict (Ok tt) q =
          let few = (lengths-fine e (replay_records e) (length sheet) (length rules) q).2 in
          ap (λ (slots : List Slot). run e rules sheet (length sheet / record_bytes e) 0 (state (start row).tally slots)) (cleared-append row others)
          ∙ run_wider others e rules sheet (length sheet / record_bytes e) 0 (start row) (omega (arith, length-cleared row)) (omega arith) (in_use-cleared row)
      by-verdict (Err why) q = refl

  -- the slots lent are cleared first: only their number matters
  pub replay-by-number : (row others : List Slot) → length row ≡ length others → (replay e sheet rules row).answer ≡ (replay e sheet rules others).answer
  unfolding replay by_lengths start cleared
  replay-by-number row others same = by-verdict (check_lengths e (replay_records e) (length sheet) (length rules))
    where
      by-verdict : (v : Verdict) → (by_lengths e sheet rules row v).answer ≡ (by_lengths e sheet rules others v).answer
      by-verdict (Ok tt) = ap (λ (k : ℕ). run e rules sheet (length sheet / record_bytes e) 0 (state (start row).tally (replicate k empty))) same
      by-verdict (Err why) = refl

  -- as many as a replay may have records are enough
  pub replay-enough : (row : List Slot) → replay_records e ≤ length row → (replay e sheet rules row).answer ≡ (replay e sheet rules (replicate (replay_records e) empty)).answer
  replay-enough row enough =
      let k = replay_records e in
      let front : length (take k row) ≡ k = length-take-le k row enough in
      ap (λ (slots : List Slot). (replay e sheet rules slots).answer) (sym (take-append-drop k row))
      ∙ replay-wider (take k row) (drop-list k row) (omega (arith, front))
      ∙ replay-by-number (take k row) (replicate k empty) (front ∙ sym (length-replicate k empty))

  pub replay-plenty : (row others : List Slot) → replay_records e ≤ length row → replay_records e ≤ length others → (replay e sheet rules row).answer ≡ (replay e sheet rules others).answer
  replay-plenty row others h i = replay-enough row h ∙ sym (replay-enough others i)

  -- so a replay in a row of its own needs no more, nor than any larger number, such as one that is enough for every edition
  pub replay-at-most : (most slots : ℕ) → replay_records e ≤ most
      → (replay e sheet rules (replicate (min slots most) empty)).answer ≡ (replay e sheet rules (replicate slots empty)).answer
  replay-at-most most slots enough = elim (dec_lt slots most) [
    | yes l ↦ let q : min slots most ≡ slots = omega arith in ap (λ (k : ℕ). (replay e sheet rules (replicate k empty)).answer) q
    | no l ↦
        replay-plenty (replicate (min slots most) empty) (replicate slots empty)
        (omega (arith, length-replicate (min slots most) empty, enough)) (omega (arith, length-replicate slots empty, enough))
  ]
