-- What the whole replay comes to, in the two ways that it goes.
use Rattle.std.proofs.Common.{Err, Ok}
use Rattle.std.specs.Result.{is_err}
use mathlib.Core.Path.{◌≡◌, refl, sym, ap, ◌∙◌}
use mathlib.Core.Bool.{true, false}
use mathlib.Core.List.{List}
use Prim.Native.Nat.{ℕ, ◌/◌}
use lib.ListN.{length, replicate, length-replicate}
use Rattle.sheet.specs.Reasons.{Verdict}
use Rattle.sheet.specs.declared.edition.Edition.{Edition}
use Rattle.sheet.specs.Editions.{record_bytes, replay_records}
use Rattle.sheet.specs.Checks.{check_lengths}
use Rattle.tally.specs.Tally.{Tally, nothing}
use Rattle.replay_spec.specs.Slots.{Slot as RowSlot, empty, Place, cleared}
use Rattle.replay_spec.specs.Step.{State, state}
use Rattle.replay_spec.specs.Replay.{Answer, Ran, ran, ran_through, start, outcome, by_lengths, replay}
use Rattle.replay_slots.specs.declared.Slot.{Slot}
use Rattle.replay_slots.specs.Said.{row_of}
use Rattle.replay_answer.specs.Answers.{ended}
use Rattle.replay_slots.proofs.Rows.{row-length}

pub fine-is : (v : Verdict) → is_err v ≡ false → v ≡ Ok tt
fine-is (Ok u) e = refl
fine-is (Err why) e = cc

-- a cleared row is as long as the row was
pub cleared-length : (ys zs : List Slot) → row_of zs ≡ cleared (row_of ys) → length zs ≡ length ys
unfolding cleared
cleared-length ys zs e = sym (row-length zs) ∙ ap length e ∙ length-replicate (length (row_of ys)) empty ∙ row-length ys

cleared-same : (ys zs : List Slot) → length zs ≡ length ys → cleared (row_of zs) ≡ cleared (row_of ys)
unfolding cleared
cleared-same ys zs e = ap (λ (n : ℕ). replicate n empty) (row-length zs ∙ e ∙ sym (row-length ys))

module _ (edition : Edition) (sheet rules : List ℕ) where
  abbrev verdict : Verdict
  verdict = check_lengths edition (replay_records edition) (length sheet) (length rules)

  pub comes-refused : (row : List RowSlot) (v : Verdict) → v ≡ verdict → is_err v ≡ true → (a : Answer) (u : Tally) (p : Place) → a ≡ ended v 0 u p → outcome a row ≡ replay edition sheet rules row
  unfolding replay by_lengths ended
  comes-refused row (Ok tt) e fails a u p so = cc
  comes-refused row (Err why) e fails a u p so = rw (← e, so)

  -- the row is cleared, run through, and cleared again
  pub comes-fine : (ys zs₁ zs₂ zs₃ : List Slot) (a : Answer) (s : State) → is_err verdict ≡ false → row_of zs₁ ≡ cleared (row_of ys)
      → ran a s ≡ ran_through edition rules sheet (length sheet / record_bytes edition) 0 (state nothing (row_of zs₁)) → length zs₂ ≡ length zs₁ → row_of zs₃ ≡ cleared (row_of zs₂)
      → outcome a (row_of zs₃) ≡ replay edition sheet rules (row_of ys)
  unfolding replay by_lengths start
  comes-fine ys zs₁ zs₂ zs₃ a s pass e₁ e₂ same e₃ =
      let last : row_of zs₃ ≡ cleared (row_of ys) = e₃ ∙ cleared-same ys zs₂ (same ∙ cleared-length ys zs₁ e₁) in
      rw (fine-is verdict pass, ap (λ (r : Ran). r.answer) e₂, e₁, last)
