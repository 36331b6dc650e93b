-- Where a run stops: it goes on past a record that is taken, and stops before one that is refused. So the tally and the slots are those that
-- the public step leaves.
use Rattle.std.proofs.Common.{Err, Ok}
use mathlib.Core.Path.{◌≡◌, refl, sym, ap, ◌∙◌}
use mathlib.Core.List.{List}
use Prim.Native.Nat.{ℕ, zero, suc, ◌+◌, ◌-◌, ◌<◌}
use native.Mathlib.Omega.{arith}
use lib.ListN.{length}
use Rattle.sheet.specs.declared.Reason.{Reason}
use Rattle.sheet.specs.Reasons.{Verdict}
use Rattle.sheet.specs.declared.edition.Edition.{Edition}
use Rattle.sheet.specs.Editions.{replay_records}
use Rattle.sheet.specs.Fields.{record_at}
use Rattle.sheet.proofs.Fine.{Lengths}
use Rattle.replay_spec.specs.Slots.{Slot}
use Rattle.replay_spec.specs.Step.{State, Turn, goes, stops, turn, by_turn, Stepped, taken, answered, numbered, one_step}
use Rattle.replay_spec.specs.Replay.{stopped, start}
use Rattle.replay_spec.proofs.Steps.{after_steps, answer_at, FirstTaken, steps-within, step-turns}

module _ (e : Edition) (rules sheet : List ℕ) (m k : ℕ) (s : State) where
  by_turn_lem : (t : Turn) → turn e rules (record_at e sheet k) s ≡ t
      → ((by_turn s t).verdict ≡ Ok tt → stopped e rules sheet (suc m) k s ≡ stopped e rules sheet m (suc k) (by_turn s t).state)
      × ((why : Reason) → (by_turn s t).verdict ≡ Err why → (stopped e rules sheet (suc m) k s ≡ s) × ((by_turn s t).state ≡ s))
  unfolding stopped by_turn
  by_turn_lem (goes u) q = ((λ h. rw (q, stopped)), (λ why h. (cc, cc)))
  by_turn_lem (stops x) q = ((λ h. cc), (λ why h. (rw (q, stopped), refl)))

  pub stopped-goes-on : (by_turn s (turn e rules (record_at e sheet k) s)).verdict ≡ Ok tt
      → stopped e rules sheet (suc m) k s ≡ stopped e rules sheet m (suc k) (by_turn s (turn e rules (record_at e sheet k) s)).state
  stopped-goes-on h = (by_turn_lem (turn e rules (record_at e sheet k) s) refl).0 h

  -- and then the state is as it was
  pub stopped-refused : (why : Reason) → (by_turn s (turn e rules (record_at e sheet k) s)).verdict ≡ Err why
      → (stopped e rules sheet (suc m) k s ≡ s) × ((by_turn s (turn e rules (record_at e sheet k) s)).state ≡ s)
  stopped-refused why h = (by_turn_lem (turn e rules (record_at e sheet k) s) refl).1 why h

-- ---- the public step, again and again

taken-or-not : (k : ℕ) (v : Verdict) → (answered k v ≡ taken → v ≡ Ok tt) × ((answered k v ≡ taken → ⊥) → (why : Reason) × (v ≡ Err why))
unfolding answered
taken-or-not k (Ok tt) = ((λ h. refl), (λ h. absurd (h refl)))
taken-or-not k (Err why) = ((λ h. cc), (λ h. (why, refl)))

module _ (e : Edition) (sheet rules : List ℕ) (slots : List Slot) (n : ℕ) (l : Lengths e (replay_records e) (length sheet) (length rules) n) where
  module _ (k : ℕ) (h : k < n) (first : FirstTaken e rules sheet (start slots) k) where
    abbrev s : State
    s = after_steps e rules sheet (start slots) k

    abbrev verdict : Verdict
    verdict = (by_turn s (turn e rules (record_at e sheet k) s)).verdict

    made : one_step e rules (record_at e sheet k) k s ≡ numbered k (by_turn s (turn e rules (record_at e sheet k) s))
    made = step-turns e sheet rules n l k h s (steps-within e sheet rules slots n l k (omega arith) first)

    answer-is : answer_at e rules sheet (start slots) k ≡ answered k verdict
    answer-is = ap (λ (x : Stepped). x.answer) made

    one_more : (m : ℕ) → answer_at e rules sheet (start slots) k ≡ taken
        → stopped e rules sheet (suc m) k s ≡ stopped e rules sheet m (suc k) (after_steps e rules sheet (start slots) (suc k))
    unfolding after_steps
    one_more m a =
        stopped-goes-on e rules sheet m k s ((taken-or-not k verdict).0 (sym answer-is ∙ a))
        ∙ ap (stopped e rules sheet m (suc k)) (sym (ap (λ (x : Stepped). x.state) made))

  -- as long as records are taken, the run stops where it does from the state after them
  pub stopped-is-steps : (k m : ℕ) → k + m ≡ n → FirstTaken e rules sheet (start slots) k
      → stopped e rules sheet n 0 (start slots) ≡ stopped e rules sheet m k (after_steps e rules sheet (start slots) k)
  unfolding after_steps
  stopped-is-steps zero m o first = let q : m ≡ n = omega arith in rw q
  stopped-is-steps (suc k) m o first =
      let before : FirstTaken e rules sheet (start slots) k = λ j i. first j (omega arith) in
      stopped-is-steps k (suc m) (omega arith) before ∙ one_more k (omega arith) before m (first k (omega arith))

  -- with every record taken, after the last of them
  pub stopped-at-the-end : FirstTaken e rules sheet (start slots) n → stopped e rules sheet n 0 (start slots) ≡ after_steps e rules sheet (start slots) n
  unfolding stopped
  stopped-at-the-end first = stopped-is-steps n 0 (omega arith) first

  -- and otherwise after those before the first that is not
  pub stopped-before : (k : ℕ) → k < n → FirstTaken e rules sheet (start slots) k → (answer_at e rules sheet (start slots) k ≡ taken → ⊥)
      → stopped e rules sheet n 0 (start slots) ≡ after_steps e rules sheet (start slots) k
  stopped-before k h first not =
      let (why, q) = (taken-or-not k (verdict k h first)).1 (λ a. not (answer-is k h first ∙ a)) in
      stopped-is-steps k (suc (n - suc k)) (omega arith) first ∙ (stopped-refused e rules sheet (n - suc k) k (s k h first) why q).0
