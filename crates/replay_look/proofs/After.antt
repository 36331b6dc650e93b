-- How a look comes to what stands after so many records: what one record more comes to, and what is seen of it.
use Rattle.std.proofs.Common.{◌≡◌, ℕ, zero, suc, ◌+◌, List, get_or, refl, ap, ◌∙◌, add-one}
use Rattle.sheet.specs.declared.edition.Edition.{Edition}
use Rattle.sheet.specs.Fields.{record_at}
use Rattle.sheet.proofs.RecordBytes.{lent, lent_is}
use Rattle.tally.specs.Tally.{Tally}
use Rattle.replay_spec.specs.Slots.{Slot, empty}
use Rattle.replay_spec.specs.Step.{State, state, Step, Stepped, stepped, one_step}
use Rattle.replay_spec.specs.Steps.{after_steps}
use Rattle.replay_look.specs.After.{after_records, look, look_at}

module _ (edition : Edition) (rules sheet : List ℕ) (s₀ : State) where
  -- the state then is the one that the steps leave
  state-is : (k : ℕ) → (after_records edition rules sheet s₀ k).state ≡ after_steps edition rules sheet s₀ k
  unfolding after_records after_steps
  state-is zero = refl
  state-is (suc k) = refl

  -- one record more
  pub stands_on : (k : ℕ) (a : Step) (s : State) (c : Step) (t : State)
      → stepped a s ≡ after_records edition rules sheet s₀ k
      → stepped c t ≡ one_step edition rules (lent edition sheet k) k s
      → stepped c t ≡ after_records edition rules sheet s₀ (k + 1)
  unfolding after_records
  stands_on k a s c t e made =
      rw add-one
      (made
      ∙ ap (λ (bytes : List ℕ). one_step edition rules bytes k s) (lent_is edition sheet k)
      ∙ ap (one_step edition rules (record_at edition sheet k) k) (ap (λ (x : Stepped). x.state) e ∙ state-is k))

  -- what is seen of it
  pub sees : (k n j : ℕ) (a : Step) (t : Tally) (row : List Slot) (s : Slot)
      → stepped a (state t row) ≡ after_records edition rules sheet s₀ k
      → k ≡ n
      → s ≡ get_or row j empty
      → look a t s ≡ look_at j (after_records edition rules sheet s₀ n)
  unfolding look_at
  sees k n j a t row s e same at =
      ap (λ (x : Slot). look a t x) at ∙ ap (look_at j) e ∙ ap (λ (i : ℕ). look_at j (after_records edition rules sheet s₀ i)) same
