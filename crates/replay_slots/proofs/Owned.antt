-- A row of as many empty slots as are asked for, or of the most that can be needed.
use mathlib.Core.Path.{◌≡◌, refl, ap, ◌∙◌}
use Prim.Native.Nat.{ℕ, zero, suc, min}
use native.Mathlib.Omega.{arith}
use mathlib.Core.List.{List, ◌∷◌}
use lib.ListN.{take, replicate}
use Rattle.std.proofs.lemmas.List.{take-replicate}
use Rattle.sheet.specs.Editions.{most_records}
use Rattle.replay_spec.specs.Slots.{Slot as RowSlot}
use Rattle.replay_slots.specs.Said.{slot_of, row_of}
use Rattle.replay_slots.specs.declared.Slot.{Slot}

pub row-replicate : (n : ℕ) (s : Slot) → row_of (replicate n s) ≡ replicate n (slot_of s)
unfolding row_of
row-replicate zero s = refl
row-replicate (suc n) s = ap (λ (l : List RowSlot). slot_of s ∷ l) (row-replicate n s)

-- of a row of the most, as many of the first as are asked for
pub row-lent : (n : ℕ) (slots : ℕ) → n ≡ min slots most_records → (s : Slot) → row_of (take n (replicate most_records s)) ≡ replicate (min slots most_records) (slot_of s)
row-lent n slots e s = ap row_of (take-replicate n most_records s (omega (arith, e))) ∙ row-replicate n s ∙ ap (λ (k : ℕ). replicate k (slot_of s)) e
