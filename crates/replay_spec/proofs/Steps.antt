-- The whole replay is the public step, again and again: what a turn comes to, why every state of a replay fits the step, and that the
-- replay goes on from the state after the steps that were taken.
use Rattle.std.proofs.Common.{Err, Ok}
use mathlib.Core.Path.{◌≡◌, refl, sym, ap, ◌∙◌}
use mathlib.Core.Bool.{true, ◌&&◌, and-eq-true_iff}
use mathlib.Core.List.{List}
use Prim.Native.Nat.{ℕ, zero, suc, ◌+◌, ◌-◌, ◌*◌, ◌/◌, ◌≤◌, ◌<◌}
use native.Mathlib.Decide.{ℕ_discrete}
use native.Mathlib.Omega.{arith}
use lib.Dec.{eqb, ltb, leb}
use lib.ListN.{length}
use borrow.Author.Tests.{eq-eqb, lt-ltb, le-leb, eqb-true, ltb-true, leb-true}
use Rattle.base.proofs.Bytes.{length_part}
use Rattle.sheet.specs.declared.Reason.{Reason}
use Rattle.sheet.specs.declared.edition.Edition.{Edition}
use Rattle.sheet.specs.Editions.{record_bytes, replay_records}
use Rattle.sheet.specs.Reasons.{Verdict, number_of}
use Rattle.sheet.specs.Records.{given, step, Record, node, drop, Reading, reads, unread}
use Rattle.sheet.specs.Fields.{reading, record_at}
use Rattle.sheet.specs.Counts.{step_of}
use Rattle.sheet.specs.Checks.{check_table, check_lengths}
use Rattle.sheet.proofs.Sizes.{record-inside, record-count}
use Rattle.sheet.proofs.Fine.{Lengths, lengths-fine, fine-lengths, fine-table}
use Rattle.tally.specs.Tally.{Tally, counted}
use Rattle.replay_spec.specs.Slots.{Slot, cleared}
use Rattle.replay_spec.specs.Step.{State, check_record, after, Turn, goes, stops, by_verdict, by_reading, turn, by_turn, passes, reached, fits, Stepped, stepped, Step, taken, answered, numbered, one_step}
unfoldable pub use Rattle.replay_spec.specs.Steps.{after_steps}
pub use Rattle.replay_spec.specs.Steps.{answer_at, FirstTaken}
use Rattle.replay_spec.specs.Replay.{Result, refused, accepted, ending, run, start, outcome, by_lengths, replay}

-- ---- a turn

module _ (e : Edition) (rules b : List ℕ) (s : State) where
  pub turn-goes : (r : Record) → reading e true b ≡ reads r → check_record e rules s r ≡ Ok tt → turn e rules b s ≡ goes (after s r)
  unfolding turn by_reading by_verdict
  turn-goes r q v = rw (q, v)

  pub turn-stops : (r : Record) (why : Reason) → reading e true b ≡ reads r → check_record e rules s r ≡ Err why → turn e rules b s ≡ stops why
  unfolding turn by_reading by_verdict
  turn-stops r why q v = rw (q, v)

  pub turn-unread : (why : Reason) → reading e true b ≡ unread why → turn e rules b s ≡ stops why
  unfolding turn by_reading
  turn-unread why q = rw q

  -- a turn that goes has read a record, which is fine
  pub turn-went : (t : State) → turn e rules b s ≡ goes t
      → (r : Record) × (reading e true b ≡ reads r) × (check_record e rules s r ≡ Ok tt) × (t ≡ after s r)
  unfolding turn by_reading by_verdict
  turn-went t g = by-reading (reading e true b) refl g
    where
      by-verdict : (r : Record) (v : Verdict) → check_record e rules s r ≡ v → by_verdict v (after s r) ≡ goes t → (v ≡ Ok tt) × (t ≡ after s r)
      by-verdict r (Ok tt) q h = (refl, cc)
      by-verdict r (Err why) q h = (cc, cc)

      by-reading : (w : Reading) → reading e true b ≡ w → by_reading e rules s w ≡ goes t
          → (r : Record) × (reading e true b ≡ reads r) × (check_record e rules s r ≡ Ok tt) × (t ≡ after s r)
      by-reading (reads r) q h = let v = by-verdict r (check_record e rules s r) refl h in (r, q, v.0, v.1)
      by-reading (unread why) q h = let z : ◌≡◌ {A = ℕ} 0 1 = cc in absurd (omega arith)

module _ (e : Edition) (rules sheet : List ℕ) (m k : ℕ) (s : State) where
  pub run-goes : (t : State) → turn e rules (record_at e sheet k) s ≡ goes t → run e rules sheet (suc m) k s ≡ run e rules sheet m (suc k) t
  unfolding run
  run-goes t g = rw (g, run)

  pub run-stops : (why : Reason) → turn e rules (record_at e sheet k) s ≡ stops why → run e rules sheet (suc m) k s ≡ refused (number_of why) k
  unfolding run
  run-stops why g = rw (g, run)

-- ---- the lengths

module _ (e : Edition) (sheet rules : List ℕ) (slots : List Slot) where
  pub replay-runs : (n : ℕ) → Lengths e (replay_records e) (length sheet) (length rules) n
      → (replay e sheet rules slots).answer ≡ run e rules sheet n 0 (start slots)
  unfolding replay by_lengths
  replay-runs n l =
      rw (fine-lengths e (replay_records e) (length sheet) (length rules) n l)
      (ap (λ (k : ℕ). run e rules sheet k 0 (start slots)) (ap (λ (k : ℕ). k / record_bytes e) l.0 ∙ record-count e (record_bytes e * n) n refl))

  -- past them the slots end free, whatever is answered
  pub replay-clears : check_lengths e (replay_records e) (length sheet) (length rules) ≡ Ok tt
      → replay e sheet rules slots ≡ outcome (replay e sheet rules slots).answer (cleared slots)
  unfolding replay by_lengths
  replay-clears q = rw q

  pub accepted-lengths : (r : Result) → (replay e sheet rules slots).answer ≡ accepted r
      → Lengths e (replay_records e) (length sheet) (length rules) (length sheet / record_bytes e)
  unfolding replay by_lengths
  accepted-lengths r a = by-verdict (check_lengths e (replay_records e) (length sheet) (length rules)) refl a
    where
      by-verdict : (v : Verdict) → check_lengths e (replay_records e) (length sheet) (length rules) ≡ v
          → (by_lengths e sheet rules slots v).answer ≡ accepted r
          → Lengths e (replay_records e) (length sheet) (length rules) (length sheet / record_bytes e)
      by-verdict (Ok tt) q h = lengths-fine e (replay_records e) (length sheet) (length rules) q
      by-verdict (Err why) q h = let z : ◌≡◌ {A = ℕ} 0 1 = cc in absurd (omega arith)

-- ---- every state of a replay fits

-- the tally after at most k records
pub record Within (k : ℕ) (t : Tally) : Type 0 where
  pub next : t.next ≤ k
  pub held : t.held ≤ t.next
  pub steps : t.steps ≤ t.next

pub within-counted : (k : ℕ) (t : Tally) (r : Record) → Within k t → Within (suc k) (counted t r)
unfolding counted step_of
within-counted k t (node (given line c)) w = omega arith
within-counted k t (node (step p l r c)) w = omega arith
within-counted k t (drop n) w = omega arith

pub fits-within : (e : Edition) (rules b : List ℕ) (t : Tally)
    → check_table e (length rules) ≡ Ok tt → length b ≡ record_bytes e → t.next < replay_records e → t.held ≤ t.next → t.steps ≤ t.next
    → fits e (length rules) (length b) t ≡ true
unfolding fits passes reached
fits-within e rules b t table size few held steps =
    rw (
      eq-eqb (length b) (record_bytes e) size,
      table,
      lt-ltb t.next (replay_records e) few,
      le-leb t.held t.next held,
      le-leb t.steps t.next steps,
    )

-- and what a fitting record, table and tally tell
pub fits-tells : (e : Edition) (rules bytes : ℕ) (t : Tally) → fits e rules bytes t ≡ true
    → (bytes ≡ record_bytes e) × (t.next < replay_records e) × (t.held ≤ t.next) × (t.steps ≤ t.next)
unfolding fits reached
fits-tells e rules bytes t f =
    let (lent, within) = (and-eq-true_iff (eqb bytes (record_bytes e) && passes (check_table e rules)) (reached e t)).0 f in
    let (size, table) = (and-eq-true_iff (eqb bytes (record_bytes e)) (passes (check_table e rules))).0 lent in
    let (few, steps) = (and-eq-true_iff (ltb t.next (replay_records e) && leb t.held t.next) (leb t.steps t.next)).0 within in
    let (next, held) = (and-eq-true_iff (ltb t.next (replay_records e)) (leb t.held t.next)).0 few in (
      eqb-true bytes (record_bytes e) size,
      ltb-true t.next (replay_records e) next,
      leb-true t.held t.next held,
      leb-true t.steps t.next steps,
    )

-- where they fit, the turn decides
pub step-by-turn : (e : Edition) (rules b : List ℕ) (k : ℕ) (s : State) (t : Turn)
    → fits e (length rules) (length b) s.tally ≡ true → turn e rules b s ≡ t → one_step e rules b k s ≡ numbered k (by_turn s t)
unfolding one_step
step-by-turn e rules b k s t f q = rw f (ap (λ (x : Turn). numbered k (by_turn s x)) q)

-- ---- a record in a run

fine-goes : (s : State) (t : Turn) → (by_turn s t).verdict ≡ Ok tt → t ≡ goes (by_turn s t).state
unfolding by_turn
fine-goes s (goes t) h = refl
fine-goes s (stops why) h = cc

refused-stops : (s : State) (t : Turn) (why : Reason) → (by_turn s t).verdict ≡ Err why → t ≡ stops why
unfolding by_turn
refused-stops s (goes t) why h = cc
refused-stops s (stops x) why h = ap stops (cc)

taken_fine : (k : ℕ) (v : Verdict) → answered k v ≡ taken → v ≡ Ok tt
unfolding answered
taken_fine k (Ok tt) h = refl
taken_fine k (Err why) h = cc

-- record k of a sheet of n, in a state that is within
module _ (e : Edition) (sheet rules : List ℕ) (n : ℕ) (l : Lengths e (replay_records e) (length sheet) (length rules) n)
    (k : ℕ) (h : k < n) (s : State) (w : Within k s.tally) where
  -- it fits
  pub record-fits : fits e (length rules) (length (record_at e sheet k)) s.tally ≡ true
  unfolding record_at
  record-fits =
      let inside = record-inside e k n h in
      let few : n ≤ replay_records e = l.2 in
      fits-within e rules (record_at e sheet k) s.tally (fine-table e (length rules) l.3)
      (length_part (record_bytes e) sheet (record_bytes e * k) (rw l.0 inside)) (omega (arith, w.next)) w.held w.steps

  pub step-turns : one_step e rules (record_at e sheet k) k s ≡ numbered k (by_turn s (turn e rules (record_at e sheet k) s))
  step-turns = step-by-turn e rules (record_at e sheet k) k s (turn e rules (record_at e sheet k) s) record-fits refl

  -- fine: the run goes on from the state then, which is within
  pub turn-goes-on : (m : ℕ) → (by_turn s (turn e rules (record_at e sheet k) s)).verdict ≡ Ok tt
      → (run e rules sheet (suc m) k s ≡ run e rules sheet m (suc k) (by_turn s (turn e rules (record_at e sheet k) s)).state)
      × Within (suc k) (by_turn s (turn e rules (record_at e sheet k) s)).state.tally
  unfolding after
  turn-goes-on m a =
      let b = record_at e sheet k in
      let t = (by_turn s (turn e rules b s)).state in
      let g : turn e rules b s ≡ goes t = fine-goes s (turn e rules b s) a in
      let (r, read, fine, is) = turn-went e rules b s t g in
      (run-goes e rules sheet m k s t g, rw is (within-counted k s.tally r w))

  -- refused: that is the answer
  pub turn-refuses : (m : ℕ) (why : Reason) → (by_turn s (turn e rules (record_at e sheet k) s)).verdict ≡ Err why
      → run e rules sheet (suc m) k s ≡ refused (number_of why) k
  turn-refuses m why a = run-stops e rules sheet m k s why (refused-stops s (turn e rules (record_at e sheet k) s) why a)

  -- and so does the public step
  pub step-goes-on : (m : ℕ) → (one_step e rules (record_at e sheet k) k s).answer ≡ taken
      → (run e rules sheet (suc m) k s ≡ run e rules sheet m (suc k) (one_step e rules (record_at e sheet k) k s).state)
      × Within (suc k) (one_step e rules (record_at e sheet k) k s).state.tally
  step-goes-on m a =
      rw step-turns (turn-goes-on m (taken_fine k (by_turn s (turn e rules (record_at e sheet k) s)).verdict (sym (ap (λ (x : Stepped). x.answer) step-turns) ∙ a)))

-- ---- the public step, again and again

module _ (e : Edition) (sheet rules : List ℕ) (slots : List Slot) (n : ℕ) (l : Lengths e (replay_records e) (length sheet) (length rules) n) where
  -- the tally is within, and the replay goes on from the state after k steps
  record Reaches (k : ℕ) : Type 0 where
    within : Within k (after_steps e rules sheet (start slots) k).tally
    runs : (m : ℕ) → k + m ≡ n → (replay e sheet rules slots).answer ≡ run e rules sheet m k (after_steps e rules sheet (start slots) k)

  reaches_more : (k : ℕ) → k < n → Reaches k → answer_at e rules sheet (start slots) k ≡ taken → Reaches (suc k)
  unfolding after_steps
  reaches_more k h y a =
      let s = after_steps e rules sheet (start slots) k in
      record {
        within = (step-goes-on e sheet rules n l k h s y.within 0 a).1;
        runs = λ m o. y.runs (suc m) (omega arith) ∙ (step-goes-on e sheet rules n l k h s y.within m a).0;
      }

  reaches : (k : ℕ) → k ≤ n → FirstTaken e rules sheet (start slots) k → Reaches k
  unfolding after_steps start
  reaches zero h first = record { within = omega arith; runs = λ m o. let q : m ≡ n = omega arith in rw q (replay-runs e sheet rules slots n l) }
  reaches (suc k) h first = reaches_more k h (reaches k (omega arith) (λ j i. first j (omega arith))) (first k (omega arith))

  -- as long as records are taken, the replay goes on from the state after them
  pub replay-is-steps : (k m : ℕ) → k + m ≡ n → FirstTaken e rules sheet (start slots) k
      → (replay e sheet rules slots).answer ≡ run e rules sheet m k (after_steps e rules sheet (start slots) k)
  replay-is-steps k m o first = (reaches k (omega arith) first).runs m o

  pub steps-within : (k : ℕ) → k ≤ n → FirstTaken e rules sheet (start slots) k → Within k (after_steps e rules sheet (start slots) k).tally
  steps-within k h first = (reaches k h first).within

  -- with every record taken, it answers by the state at the end
  pub replay-ends : FirstTaken e rules sheet (start slots) n → (replay e sheet rules slots).answer ≡ ending n (after_steps e rules sheet (start slots) n)
  unfolding run
  replay-ends first = replay-is-steps n 0 (omega arith) first

  module _ (k : ℕ) (h : k < n) (first : FirstTaken e rules sheet (start slots) k) where
    abbrev s : State
    s = after_steps e rules sheet (start slots) k

    -- what the step makes of record k
    made : (t : Turn) → turn e rules (record_at e sheet k) s ≡ t → one_step e rules (record_at e sheet k) k s ≡ numbered k (by_turn s t)
    made t g = step-turns e sheet rules n l k h s (steps-within k (omega arith) first) ∙ ap (λ (x : Turn). numbered k (by_turn s x)) g

    -- a turn that goes is one more that is taken, and a turn that stops is the answer
    pub taken_more : (t : State) → turn e rules (record_at e sheet k) s ≡ goes t
        → FirstTaken e rules sheet (start slots) (suc k) × (after_steps e rules sheet (start slots) (suc k) ≡ t)
    unfolding after_steps by_turn answered
    taken_more t g =
        let q : one_step e rules (record_at e sheet k) k s ≡ stepped taken t = made (goes t) g in (
          (λ j i. elim (ℕ_discrete j k) [ yes o ↦ rw o (ap (λ (x : Stepped). x.answer) q) | no o ↦ first j (omega arith) ]),
          ap (λ (x : Stepped). x.state) q,
        )

    pub replay-stops : (why : Reason) → turn e rules (record_at e sheet k) s ≡ stops why
        → (replay e sheet rules slots).answer ≡ refused (number_of why) k
    replay-stops why g =
        replay-is-steps k (suc (n - suc k)) (omega arith) first
        ∙ run-stops e rules sheet (n - suc k) k s why g

    -- what the step does not take it refuses, and that is the answer
    pub replay-refuses : (answer_at e rules sheet (start slots) k ≡ taken → ⊥)
        → (why : ℕ) × (answer_at e rules sheet (start slots) k ≡ Step.refused why k) × ((replay e sheet rules slots).answer ≡ refused why k)
    unfolding by_turn answered
    replay-refuses f = by (turn e rules (record_at e sheet k) s) refl
      where
        by : (t : Turn) → turn e rules (record_at e sheet k) s ≡ t
            → (why : ℕ) × (answer_at e rules sheet (start slots) k ≡ Step.refused why k) × ((replay e sheet rules slots).answer ≡ refused why k)
        by (goes t) g = absurd (f (ap (λ (x : Stepped). x.answer) (made (goes t) g)))
        by (stops why) g = (number_of why, ap (λ (x : Stepped). x.answer) (made (stops why) g), replay-stops why g)
