-- What the C interface answers: 0 or the refusal's number, and a row of words, of which as many are filled as fit.
use Rattle.std.specs.Prelude.{ℕ, suc, ◌/◌, ◌%◌, ◌^◌, List, [], ◌∷◌, set}
use Rattle.clause.specs.Denote.{word}
use Rattle.press_spec.specs.Better.{order_number}
use Rattle.press_spec.specs.Press.{Answer, refused, accepted}
use Rattle.replay_spec.specs.Replay as R

-- words put one after another from position i; past the end nothing is put
unfoldable pub fill : ℕ → List ℕ → List ℕ → List ℕ
fill i [] row = row
fill i (w ∷ ws) row = fill (suc i) ws (set row i w)

unfoldable pub press_code : Answer → ℕ
press_code (refused why k) = why
press_code (accepted r) = 0

-- the words of a set
unfoldable pub low_word : ℕ → ℕ
low_word s = s % 2 ^ word

unfoldable pub high_word : ℕ → ℕ
high_word s = s / 2 ^ word

-- record, positive, negative, records, nodes, steps, peak, marked, the high words of the two sets, and the number of the order: on a refusal all but the
-- first are 0, on acceptance the first is
unfoldable pub press_words : Answer → List ℕ
press_words (refused why k) = k ∷ 0 ∷ 0 ∷ 0 ∷ 0 ∷ 0 ∷ 0 ∷ 0 ∷ 0 ∷ 0 ∷ 0 ∷ []
press_words (accepted r) =
    0
    ∷ low_word r.conclusion.positive
    ∷ low_word r.conclusion.negative
    ∷ r.records
    ∷ r.nodes
    ∷ r.steps
    ∷ r.peak
    ∷ r.marked
    ∷ high_word r.conclusion.positive
    ∷ high_word r.conclusion.negative
    ∷ order_number r.order
    ∷ []

unfoldable pub replay_code : R.Answer → ℕ
replay_code (R.refused why k) = why
replay_code (R.accepted r) = 0

-- record, positive, negative, nodes, steps, peak, and the high words of the two sets: likewise
unfoldable pub replay_words : R.Answer → List ℕ
replay_words (R.refused why k) = k ∷ 0 ∷ 0 ∷ 0 ∷ 0 ∷ 0 ∷ 0 ∷ 0 ∷ []
replay_words (R.accepted r) =
    0
    ∷ low_word r.conclusion.positive
    ∷ low_word r.conclusion.negative
    ∷ r.nodes
    ∷ r.steps
    ∷ r.peak
    ∷ high_word r.conclusion.positive
    ∷ high_word r.conclusion.negative
    ∷ []
