-- What a step's answer, a tally, a slot and a row say is said by no other.
use Rattle.std.proofs.Common.{Err, Ok}
use mathlib.Core.Path.{◌≡◌, refl, ap, ap₂}
use mathlib.Core.List.{List, [], ◌∷◌}
use Rattle.clause.proofs.Fits.{literals_of-injective}
use Rattle.sheet.specs.Reasons.{number_of}
use Rattle.sheet.proofs.Reasons.{number_of-injective}
use Rattle.tally.specs.declared.Tally.{Tally as CodeTally}
use Rattle.tally.specs.Said.{tally_of}
use Rattle.replay_spec.specs.Slots.{Slot}
use Rattle.replay_slots.specs.declared.Slot.{Slot as CodeSlot}
use Rattle.replay_slots.specs.declared.Untaken.TheVariants as U
use Rattle.replay_slots.specs.Said.{StepAnswer, slot_of, row_of, SlotFits, RowFits, said_of_step}

pub said_of_step-injective : (r₁ r₂ : StepAnswer) → said_of_step r₁ ≡ said_of_step r₂ → r₁ ≡ r₂
unfolding said_of_step
said_of_step-injective (Ok a) (Ok b) e = refl
said_of_step-injective (Ok a) (Err (U.Refused r)) e = cc
said_of_step-injective (Ok a) (Err U.Unfit) e = cc
said_of_step-injective (Err (U.Refused r)) (Ok a) e = cc
said_of_step-injective (Err (U.Refused r)) (Err (U.Refused q)) e =
    let n : number_of r.why ≡ number_of q.why = cc in
    let k : r.at.0 ≡ q.at.0 = cc in
    λ i. Err (U.Refused (record { why = number_of-injective r.why q.why n i; at = record { 0 = k i } }))
said_of_step-injective (Err (U.Refused r)) (Err U.Unfit) e = cc
said_of_step-injective (Err U.Unfit) (Ok a) e = cc
said_of_step-injective (Err U.Unfit) (Err (U.Refused r)) e = cc
said_of_step-injective (Err U.Unfit) (Err U.Unfit) e = refl

pub slot_of-injective : (s₁ s₂ : CodeSlot) → SlotFits s₁ → SlotFits s₂ → slot_of s₁ ≡ slot_of s₂ → s₁ ≡ s₂
slot_of-injective s₁ s₂ f g e =
    let clause = literals_of-injective s₁.clause s₂.clause f g (ap (λ (s : Slot). s.clause) e) in
    λ i. record { used = (e i).used; node = (e i).node; clause = clause i }

pub tally_of-injective : (t₁ t₂ : CodeTally) → tally_of t₁ ≡ tally_of t₂ → t₁ ≡ t₂
tally_of-injective t₁ t₂ e = λ i. record { next = (e i).next; held = (e i).held; peak = (e i).peak; steps = (e i).steps }

pub row_of-injective : (ys zs : List CodeSlot) → RowFits ys → RowFits zs → row_of ys ≡ row_of zs → ys ≡ zs
unfolding row_of
row_of-injective [] [] f g e = refl
row_of-injective [] (z ∷ zs) f g e = cc
row_of-injective (y ∷ ys) [] f g e = cc
row_of-injective (y ∷ ys) (z ∷ zs) f g e =
    let first : slot_of y ≡ slot_of z = cc in
    let others : row_of ys ≡ row_of zs = cc in
    ap₂ (λ (x : CodeSlot) (xs : List CodeSlot). x ∷ xs) (slot_of-injective y z f.0 g.0 first) (row_of-injective ys zs f.1 g.1 others)
