-- A report is filled with as many words as there is room for; and what the words of an answer are.
use Rattle.std.proofs.Common.{◌≡◌, ℕ, zero, suc, min, List, [], ◌∷◌, ◌++◌, length, take, drop, set, refl, sym, ap, ◌∙◌, arith, suc-ne-zero, Ok, Err}
use lib.Pow.{high, low}
use Rattle.clause.specs.declared.Clause.{Clause}
use Rattle.clause.specs.Denote.{literals_of, ClauseFits}
use Rattle.sheet.specs.Reasons.{number_of}
use Rattle.press_spec.specs.Better.{order_number}
use Rattle.press_write.specs.declared.Pressed.{Pressed}
use Rattle.press.specs.Said.{said}
use Rattle.replay_answer.specs.declared.Replayed.{Replayed}
use Rattle.replay_answer.specs.Answers.{said as said-of-replay}
use Rattle.c_report.specs.Report.{fill, low_word, high_word, press_code, press_words, replay_code, replay_words}

-- ---- filling

-- past the first word of the row, filling is filling what follows it
fill-past : (i : ℕ) (ws : List ℕ) (x : ℕ) (row : List ℕ) → fill (suc i) ws (x ∷ row) ≡ x ∷ fill i ws row
unfolding fill
fill-past i [] x row = refl
fill-past i (w ∷ ws) x row = fill-past (suc i) ws x (set row i w)

fill-none : (i : ℕ) (ws : List ℕ) → fill i ws [] ≡ []
unfolding fill
fill-none i [] = refl
fill-none i (w ∷ ws) = fill-none (suc i) ws

pub filled : (ws row : List ℕ) (n : ℕ) → n ≡ min (length row) (length ws) → take n ws ++ drop n row ≡ fill 0 ws row
unfolding fill
filled [] row zero e = refl
filled [] row (suc n) e = let z : suc n ≡ 0 = omega (arith, e) in absurd (suc-ne-zero _ z)
filled (w ∷ ws) [] zero e = sym (fill-none 1 ws)
filled (w ∷ ws) [] (suc n) e = let z : suc n ≡ 0 = omega (arith, e) in absurd (suc-ne-zero _ z)
filled (w ∷ ws) (x ∷ row) zero e = let z : 1 ≡ 0 = omega (arith, e) in absurd (suc-ne-zero _ z)
filled (w ∷ ws) (x ∷ row) (suc n) e =
    let same : n ≡ min (length row) (length ws) = omega (arith, e) in
    ap (λ (l : List ℕ). w ∷ l) (filled ws row n same) ∙ sym (fill-past 0 ws w row)

-- ---- the words of a clause

module _ (c : Clause) (fits : ClauseFits c) where
  positive-low : low_word (literals_of c).positive ≡ c.positive.low
  unfolding low_word
  positive-low = low c.positive.high 64 fits.0.0

  negative-low : low_word (literals_of c).negative ≡ c.negative.low
  unfolding low_word
  negative-low = low c.negative.high 64 fits.1.0

  positive-high : high_word (literals_of c).positive ≡ c.positive.high
  unfolding high_word
  positive-high = high c.positive.high 64 fits.0.0

  negative-high : high_word (literals_of c).negative ≡ c.negative.high
  unfolding high_word
  negative-high = high c.negative.high 64 fits.1.0

-- ---- the words of an answer

pub words-of-press : (p : Pressed) (n : ℕ) → ClauseFits p.conclusion → n ≡ order_number p.order
    → 0 ∷ p.conclusion.positive.low ∷ p.conclusion.negative.low ∷ p.records ∷ p.nodes ∷ p.steps ∷ p.peak ∷ p.marked ∷ p.conclusion.positive.high ∷ p.conclusion.negative.high ∷ n ∷ []
    ≡ press_words (said (Ok p))
unfolding press_words said
words-of-press p n h o =
    let c = p.conclusion in
    rw (o, positive-low c h, negative-low c h, positive-high c h, negative-high c h)

pub words-of-replay : (r : Replayed) → ClauseFits r.conclusion
    → 0 ∷ r.conclusion.positive.low ∷ r.conclusion.negative.low ∷ r.nodes ∷ r.steps ∷ r.peak ∷ r.conclusion.positive.high ∷ r.conclusion.negative.high ∷ []
    ≡ replay_words (said-of-replay (Ok r))
unfolding replay_words said-of-replay
words-of-replay r h =
    let c = r.conclusion in
    rw (positive-low c h, negative-low c h, positive-high c h, negative-high c h)
