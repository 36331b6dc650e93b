-- Nothing else satisfies the promises of the exported functions: two codes, reports and lent memories that one admits are one.
use mathlib.Core.Path.{◌≡◌, sym, ap, ◌∙◌}
use mathlib.Core.List.{List}
use Prim.Native.Nat.{ℕ}
use Rattle.replay_slots.specs.declared.Slot.{Slot}
use Rattle.replay_slots.specs.Said.{row_of, RowFits}
use Rattle.replay.proofs.Unique.{row_of-injective}
use Rattle.c_exports.specs.Calls.{Pressing, pressing, Replaying, replaying}

pub press-unique : (o : Pressing) (c₁ c₂ : ℕ) (out₁ out₂ marks₁ marks₂ r₁ r₂ : List ℕ)
    → pressing c₁ out₁ marks₁ r₁ ≡ o
    → pressing c₂ out₂ marks₂ r₂ ≡ o
    → (c₁ ≡ c₂) × (out₁ ≡ out₂) × (marks₁ ≡ marks₂) × (r₁ ≡ r₂)
press-unique o c₁ c₂ out₁ out₂ marks₁ marks₂ r₁ r₂ p q =
    let e = p ∙ sym q in
    (ap (λ (x : Pressing). x.code) e, ap (λ (x : Pressing). x.out) e, ap (λ (x : Pressing). x.marks) e, ap (λ (x : Pressing). x.report) e)

-- a set is said of two words, so of slots whose words fit
pub replay-unique : (o : Replaying) (c₁ c₂ : ℕ) (ys zs : List Slot) (r₁ r₂ : List ℕ)
    → RowFits ys × (replaying c₁ (row_of ys) r₁ ≡ o)
    → RowFits zs × (replaying c₂ (row_of zs) r₂ ≡ o)
    → (c₁ ≡ c₂) × (ys ≡ zs) × (r₁ ≡ r₂)
replay-unique o c₁ c₂ ys zs r₁ r₂ p q =
    let e = p.1 ∙ sym q.1 in (
      ap (λ (x : Replaying). x.code) e,
      row_of-injective ys zs p.0 q.0 (ap (λ (x : Replaying). x.slots) e),
      ap (λ (x : Replaying). x.report) e,
    )
