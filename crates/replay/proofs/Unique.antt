-- Nothing else satisfies the promises: what an answer, a tally and a row say is said by no other.
use Rattle.std.proofs.Common.{Err, Ok}
use mathlib.Core.Path.{◌≡◌, sym, ap, ◌∙◌}
use mathlib.Core.List.{List}
use Rattle.clause.proofs.Fits.{literals_of-injective}
use Rattle.sheet.specs.Reasons.{number_of}
use Rattle.sheet.proofs.Reasons.{number_of-injective}
use Rattle.tally.specs.Said.{tally_of}
use Rattle.replay_spec.specs.Step.{state, Stepped, stepped}
use Rattle.replay_spec.specs.Replay.{Result as RunResult, Outcome, outcome}
use Rattle.replay_slots.specs.declared.Slot.{Slot as CodeSlot}
use Rattle.tally.specs.declared.Tally.{Tally as CodeTally}
use Rattle.replay_slots.specs.Said.{StepAnswer, row_of, RowFits, said_of_step}
use Rattle.replay_answer.specs.Answers.{ReplayAnswer, result_of, said, AnswerFits}
pub use Rattle.replay_slots.proofs.Unique.{said_of_step-injective, tally_of-injective, row_of-injective}

pub said-injective : (r₁ r₂ : ReplayAnswer) → AnswerFits r₁ → AnswerFits r₂ → said r₁ ≡ said r₂ → r₁ ≡ r₂
unfolding said
said-injective (Ok a) (Ok b) f g e =
    let same : result_of a ≡ result_of b = cc in
    let clause = literals_of-injective a.conclusion b.conclusion f g (ap (λ (r : RunResult). r.conclusion) same) in
    λ i. Ok (record { conclusion = clause i; nodes = (same i).nodes; steps = (same i).steps; peak = (same i).peak })
said-injective (Ok a) (Err r) f g e = cc
said-injective (Err r) (Ok b) f g e = cc
said-injective (Err r) (Err q) f g e =
    let n : number_of r.why ≡ number_of q.why = cc in
    let k : r.at.0 ≡ q.at.0 = cc in
    λ i. Err (record { why = number_of-injective r.why q.why n i; at = record { 0 = k i } })

-- two answers, tallies and rows that a step's promise admits are one
pub step-unique : (o : Stepped) (r₁ r₂ : StepAnswer) (t₁ t₂ : CodeTally) (ys zs : List CodeSlot)
    → RowFits ys × (stepped (said_of_step r₁) (state (tally_of t₁) (row_of ys)) ≡ o)
    → RowFits zs × (stepped (said_of_step r₂) (state (tally_of t₂) (row_of zs)) ≡ o)
    → (r₁ ≡ r₂) × (t₁ ≡ t₂) × (ys ≡ zs)
step-unique o r₁ r₂ t₁ t₂ ys zs p q =
    let e = p.1 ∙ sym q.1 in (
      said_of_step-injective r₁ r₂ (ap (λ (x : Stepped). x.answer) e),
      tally_of-injective t₁ t₂ (ap (λ (x : Stepped). x.state.tally) e),
      row_of-injective ys zs p.0 q.0 (ap (λ (x : Stepped). x.state.slots) e),
    )

-- and two answers and rows that the replay's promise admits
pub replay-unique : (o : Outcome) (r₁ r₂ : ReplayAnswer) (ys zs : List CodeSlot)
    → AnswerFits r₁ × RowFits ys × (outcome (said r₁) (row_of ys) ≡ o)
    → AnswerFits r₂ × RowFits zs × (outcome (said r₂) (row_of zs) ≡ o)
    → (r₁ ≡ r₂) × (ys ≡ zs)
replay-unique o r₁ r₂ ys zs p q =
    let e = p.2 ∙ sym q.2 in (
      said-injective r₁ r₂ p.0 q.0 (ap (λ (x : Outcome). x.answer) e),
      row_of-injective ys zs p.1 q.1 (ap (λ (x : Outcome). x.slots) e),
    )
