-- A replay looks at a rule table through check 4 and the lines that its given records name, and at nothing else of it: the proofs.
use mathlib.Core.Path.{◌≡◌, refl, sym, ap, ap₂, ◌∙◌}
use mathlib.Core.Bool.{true}
use mathlib.Core.List.{List}
use Prim.Native.Nat.{ℕ, zero, suc, ◌+◌, ◌≤◌, ◌<◌}
use native.Mathlib.Omega.{arith}
use lib.Dec.{ltb}
use lib.ListN.{length}
use Rattle.clause.specs.Clauses.{Literals}
use Rattle.sheet.specs.declared.edition.Edition.{Edition}
use Rattle.sheet.specs.Editions.{replay_records}
use Rattle.sheet.specs.Records.{given, step, Record, node, drop, reads}
use Rattle.sheet.specs.Fields.{reading, record_at, rule_lines, rule_line}
use Rattle.sheet.specs.Checks.{check_table, check_given}
use Rattle.sheet.specs.Proper.{record_in, ReadsAs}
use Rattle.sheet.proofs.Fine.{Lengths, fine-table, fine-lengths}
use Rattle.tally.specs.Tally.{Tally}
use Rattle.replay_spec.specs.Slots.{Slot, cleared}
use Rattle.replay_spec.specs.Step.{State, check_record, Turn, goes, stops, by_reading, turn, fits, Stepped, one_step}
use Rattle.replay_spec.specs.Steps.{after_steps, answer_at}
use Rattle.replay_spec.specs.Replay.{run, start, outcome, replay}
use Rattle.replay_spec.proofs.Lines.{SameLine, StepAlike}
use Rattle.replay_spec.proofs.Steps.{run-goes, run-stops, replay-runs, replay-clears}

-- the slots lent are cleared first: only their number matters
start-alike : (slots slots' : List Slot) → length slots ≡ length slots' → (start slots ≡ start slots') × (cleared slots ≡ cleared slots')
unfolding start cleared
start-alike slots slots' many = (rw many, rw many)

module _ (e : Edition) (rules rules' : List ℕ) where
  given-alike : (line : ℕ) (c : Literals) → ltb line (rule_lines e rules) ≡ ltb line (rule_lines e rules') → rule_line e rules line ≡ rule_line e rules' line
      → check_given e rules line c ≡ check_given e rules' line c
  unfolding check_given
  given-alike line c inside same = rw (inside, same)

  record-alike : (s : State) (r : Record) → SameLine e rules rules' r → check_record e rules s r ≡ check_record e rules' s r
  unfolding check_record
  record-alike s (node (given line c)) (inside, same) = rw (given-alike line c inside same)
  record-alike s (node (step p l r c)) a = refl
  record-alike s (drop n) a = refl

  turn-alike : (b : List ℕ) (s : State) (r : Record) → reading e true b ≡ reads r → SameLine e rules rules' r → turn e rules b s ≡ turn e rules' b s
  unfolding turn by_reading
  turn-alike b s r q a = rw (q, record-alike s r a)

  fits-alike : check_table e (length rules) ≡ check_table e (length rules') → (bytes : ℕ) (t : Tally) → fits e (length rules) bytes t ≡ fits e (length rules') bytes t
  unfolding fits
  fits-alike table bytes t = rw table

  pub step-alike : StepAlike e rules rules'
  unfolding one_step
  step-alike table b k s r q a = rw (fits-alike table (length b) s.tally, turn-alike b s r q a)

  -- a sheet that reads as rs, and tables that say the same on every line that it names
  module _ (sheet : List ℕ) (rs : List Record) (read : ReadsAs e true sheet rs) (same : (k : ℕ) → k < length rs → SameLine e rules rules' (record_in rs k))
      (l : Lengths e (replay_records e) (length sheet) (length rules) (length rs))
      (l' : Lengths e (replay_records e) (length sheet) (length rules') (length rs)) where
    run-alike : (m k : ℕ) (s : State) → k + m ≡ length rs → run e rules sheet m k s ≡ run e rules' sheet m k s
    unfolding run
    run-alike zero k s o = refl
    run-alike (suc m) k s o = by (λ t. run-alike m (suc k) t (omega arith)) (turn e rules' (record_at e sheet k) s) refl
      where
        turns : turn e rules (record_at e sheet k) s ≡ turn e rules' (record_at e sheet k) s
        turns = turn-alike (record_at e sheet k) s (record_in rs k) (read.each k (omega arith)) (same k (omega arith))

        by : ((t : State) → run e rules sheet m (suc k) t ≡ run e rules' sheet m (suc k) t)
            → (t : Turn) → turn e rules' (record_at e sheet k) s ≡ t → run e rules sheet (suc m) k s ≡ run e rules' sheet (suc m) k s
        by next (goes t) q = run-goes e rules sheet m k s t (turns ∙ q) ∙ next t ∙ sym (run-goes e rules' sheet m k s t q)
        by next (stops why) q = run-stops e rules sheet m k s why (turns ∙ q) ∙ sym (run-stops e rules' sheet m k s why q)

    -- record k, lent to the step with equal states
    next-alike : (k : ℕ) (s s' : State) → k < length rs → s ≡ s' → one_step e rules (record_at e sheet k) k s ≡ one_step e rules' (record_at e sheet k) k s'
    next-alike k s s' h q =
        ap (one_step e rules (record_at e sheet k) k) q
        ∙ step-alike (fine-table e (length rules) l.3 ∙ sym (fine-table e (length rules') l'.3)) (record_at e sheet k) k s' (record_in rs k)
        (read.each k h) (same k h)

    module _ (slots slots' : List Slot) (many : length slots ≡ length slots') where
      -- the whole replay: its answer, and the slots that it leaves
      pub replay-alike : replay e sheet rules slots ≡ replay e sheet rules' slots'
      replay-alike =
          let (starts, ends) = start-alike slots slots' many in
          let answers : (replay e sheet rules slots).answer ≡ (replay e sheet rules' slots').answer =
          replay-runs e sheet rules slots (length rs) l
          ∙ run-alike (length rs) 0 (start slots) (omega arith)
          ∙ ap (run e rules' sheet (length rs) 0) starts
          ∙ sym (replay-runs e sheet rules' slots' (length rs) l') in
          replay-clears e sheet rules slots (fine-lengths e (replay_records e) (length sheet) (length rules) (length rs) l)
          ∙ ap₂ outcome answers ends
          ∙ sym (replay-clears e sheet rules' slots' (fine-lengths e (replay_records e) (length sheet) (length rules') (length rs) l'))

      -- record by record: the tally and every slot after the first k, and the step's answer to the next
      pub after-alike : (k : ℕ) → k ≤ length rs → after_steps e rules sheet (start slots) k ≡ after_steps e rules' sheet (start slots') k
      unfolding after_steps
      after-alike zero h = (start-alike slots slots' many).0
      after-alike (suc k) h = ap (λ (a : Stepped). a.state) (next-alike k _ _ (omega arith) (after-alike k (omega arith)))

      pub answer-alike : (k : ℕ) → k < length rs → answer_at e rules sheet (start slots) k ≡ answer_at e rules' sheet (start slots') k
      answer-alike k h = ap (λ (a : Stepped). a.answer) (next-alike k _ _ h (after-alike k (omega arith)))
