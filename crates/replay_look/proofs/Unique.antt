-- Nothing else satisfies the promise: what a look says is said by no other.
use mathlib.Core.Path.{◌≡◌, sym, ap, ◌∙◌}
use Rattle.replay_slots.proofs.Unique.{said_of_step-injective, tally_of-injective, slot_of-injective}
use Rattle.replay_look.specs.declared.Look.{Look as CodeLook}
use Rattle.replay_look.specs.After.{Look, look_of, LookFits}

-- two looks that the promise admits are one
pub look-unique : (o : Look) (r₁ r₂ : CodeLook) → LookFits r₁ × (look_of r₁ ≡ o) → LookFits r₂ × (look_of r₂ ≡ o) → r₁ ≡ r₂
look-unique o r₁ r₂ p q =
    let e = p.1 ∙ sym q.1 in
    let a = said_of_step-injective r₁.answer r₂.answer (ap (λ (x : Look). x.answer) e) in
    let t = tally_of-injective r₁.tally r₂.tally (ap (λ (x : Look). x.tally) e) in
    let s = slot_of-injective r₁.slot r₂.slot p.0 q.0 (ap (λ (x : Look). x.slot) e) in
    λ i. record { answer = a i; tally = t i; slot = s i }
