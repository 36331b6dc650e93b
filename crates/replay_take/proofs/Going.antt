-- How far a run has come: what the loop over the records keeps, why a record that is taken keeps it, and what it comes to where one is not, or none is left.
use Rattle.std.proofs.Common.{Err, Ok}
use Rattle.std.specs.Result.{is_err}
use mathlib.Core.Path.{◌≡◌, refl, sym, ap, ap₂, ◌∙◌}
use mathlib.Core.Bool.{true, false}
use mathlib.Core.List.{List}
use Prim.Native.Nat.{ℕ, suc, ◌+◌, ◌-◌, ◌/◌, ◌<◌}
use native.Mathlib.Numerals.{add-one}
use native.Mathlib.Omega.{arith}
use lib.ListN.{length}
use Rattle.sheet.specs.declared.edition.Edition.{Edition}
use Rattle.sheet.specs.Editions.{record_bytes, replay_records}
use Rattle.sheet.specs.Reasons.{Verdict}
use Rattle.sheet.specs.Checks.{check_lengths}
use Rattle.sheet.specs.Fields.{record_at}
use Rattle.sheet.proofs.RecordBytes.{lent, lent_is}
use Rattle.sheet.proofs.Fine.{Lengths, lengths-fine}
use Rattle.tally.specs.Tally.{Tally, nothing}
use Rattle.replay_spec.specs.Slots.{Slot, Place, look, last_of}
use Rattle.replay_spec.specs.Step.{State, state, turn, Judged, judged, by_turn, fits}
use Rattle.replay_spec.specs.Replay.{Answer, run, ending, stopped, ran, ran_through}
use Rattle.replay_spec.proofs.Stopped.{stopped-goes-on, stopped-refused}
use Rattle.replay_spec.proofs.Steps.{Within, record-fits, turn-goes-on, turn-refuses}
use Rattle.replay_answer.specs.Answers.{ended}
use Rattle.replay_answer.proofs.Ending.{ends-in}

-- after k records the tally is within, and the run goes on from the state then
pub record Goes (e : Edition) (rules sheet : List ℕ) (s₀ : State) (k : ℕ) (s : State) : Type 0 where
  pub within : Within k s.tally
  pub left : (m : ℕ) → k + m ≡ length sheet / record_bytes e → ran_through e rules sheet (length sheet / record_bytes e) 0 s₀ ≡ ran_through e rules sheet m k s

pub goes_none : (e : Edition) (rules sheet : List ℕ) (slots : List Slot) (t : Tally) → t ≡ nothing → Goes e rules sheet (state nothing slots) 0 (state t slots)
goes_none e rules sheet slots t q =
    rw q (record { within = omega arith; left = λ m o. let all : m ≡ length sheet / record_bytes e = omega arith in rw all })

passed-fine : (v : Verdict) → is_err v ≡ false → v ≡ Ok tt
passed-fine (Ok u) h = refl
passed-fine (Err why) h = cc

module _ (e : Edition) (rules sheet : List ℕ) (s₀ : State) (k : ℕ) (s : State) (g : Goes e rules sheet s₀ k s) where
  -- no record is left
  pub goes-all : (n : ℕ) → n ≡ length sheet / record_bytes e → k ≡ n
      → ran (ended (Ok tt) n s.tally (look (last_of s.tally.next) s.slots)) s ≡ ran_through e rules sheet (length sheet / record_bytes e) 0 s₀
  unfolding run stopped
  goes-all n q o = ap (λ (a : Answer). ran a s) (ends-in n s) ∙ sym (g.left 0 (omega arith) ∙ ap (λ (i : ℕ). ran (ending i s) s) o)

  module _ (h : k < length sheet / record_bytes e) (fine : check_lengths e (replay_records e) (length sheet) (length rules) ≡ (Ok tt)) where
    lengths : Lengths e (replay_records e) (length sheet) (length rules) (length sheet / record_bytes e)
    lengths = lengths-fine e (replay_records e) (length sheet) (length rules) fine

    -- the next record fits
    pub next_fits : fits e (length rules) (length (lent e sheet k)) s.tally ≡ true
    next_fits =
        ap (λ (b : List ℕ). fits e (length rules) (length b) s.tally) (lent_is e sheet k)
        ∙ record-fits e sheet rules (length sheet / record_bytes e) lengths k h s g.within

    module _ (v : Verdict) (t : State) (made : judged v t ≡ by_turn s (turn e rules (lent e sheet k) s)) where
      is : judged v t ≡ by_turn s (turn e rules (record_at e sheet k) s)
      is = made ∙ ap (λ (b : List ℕ). by_turn s (turn e rules b s)) (lent_is e sheet k)

      says : (w : Verdict) → v ≡ w → (by_turn s (turn e rules (record_at e sheet k) s)).verdict ≡ w
      says w q = sym (ap (λ (y : Judged). y.verdict) is) ∙ q

      -- taken
      pub goes_on : is_err v ≡ false → Goes e rules sheet s₀ (k + 1) t
      goes_on q =
          let on = turn-goes-on e sheet rules (length sheet / record_bytes e) lengths k h s g.within in
          let now : t ≡ (by_turn s (turn e rules (record_at e sheet k) s)).state = ap (λ (y : Judged). y.state) is in
          let w = says (Ok tt) (passed-fine v q) in
          rw (now, add-one)
          (record { within = (on 0 w).1; left = λ m o. g.left (suc m) (omega arith) ∙ ap₂ ran (on m w).0 (stopped-goes-on e rules sheet m k s w) })

      -- refused: that is the run's answer, and the state is as it was
      pub goes-no-more : is_err v ≡ true → (u : Tally) (p : Place) → ran (ended v k u p) t ≡ ran_through e rules sheet (length sheet / record_bytes e) 0 s₀
      unfolding ended
      goes-no-more q u p = by-verdict v refl q
        where
          by-verdict : (w : Verdict) → v ≡ w → is_err w ≡ true → ran (ended w k u p) t ≡ ran_through e rules sheet (length sheet / record_bytes e) 0 s₀
          by-verdict (Ok tt) o z = cc
          by-verdict (Err why) o z =
              let m = length sheet / record_bytes e - suc k in
              let (stays, same) = stopped-refused e rules sheet m k s why (says (Err why) o) in
              sym
              (g.left (suc m) (omega arith)
              ∙ ap₂ ran (turn-refuses e sheet rules (length sheet / record_bytes e) lengths k h s g.within m why (says (Err why) o))
              (stays ∙ sym (ap (λ (y : Judged). y.state) is ∙ same)))
