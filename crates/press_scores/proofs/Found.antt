-- The first node of a row, word by word; and that of the highest row that has one is the highest of all.
use Prim.Native.Nat.{ℕ, zero, suc, ◌+◌, ◌-◌, ◌*◌, ◌/◌, ◌%◌, ◌≤◌, ◌<◌}
use mathlib.Core.Path.{◌≡◌, refl, sym, ap, ◌∙◌}
use mathlib.Core.Bool.{true, false}
use mathlib.Core.List.{List}
use native.Mathlib.Omega.{arith}
use native.Mathlib.Decide.{ℕ_discrete, dec_le}
use lib.ListN.{get_or, replicate}
use Rattle.base.proofs.Lists.{cond_both, get_d-blank}
use Rattle.clause.specs.Sets.{has}
use Rattle.clause.specs.Denote.{word}
use Rattle.clause.proofs.Sets.{has-none}
use Rattle.sheet.specs.Editions.{capacity}
use Rattle.press_spec.specs.TopDown.{highest}
use Rattle.press_spec.proofs.TopDown.{highest-is}
use Rattle.press_scores.specs.Rows.{row_words, score_words, word_of, in_row, scores_in, Lowest, FirstIn}
use Rattle.press_scores.proofs.Rows.{in-row, past_row}

-- ---- the first of a row

module _ (rows : List ℕ) (g w bits : ℕ) (inside : w < row_words) (e : bits ≡ get_or rows ((g - 1) * row_words + w) 0) where
  -- a node of word w
  in-word : (m v : ℕ) → m / word ≡ w → m % word ≡ v → in_row rows g m ≡ has v bits
  in-word m v q r = in-row rows g m (omega arith) ∙ rw (q, r, e)

  module _ (before : (m : ℕ) → m < w * word → in_row rows g m ≡ false) where
    pub word-empty : bits ≡ 0 → (m : ℕ) → m < (w + 1) * word → in_row rows g m ≡ false
    word-empty z m h = elim (dec_le (w * word) m) [
      | yes l ↦ in-word m (m % word) (omega arith) refl ∙ rw z (has-none (m % word))
      | no l ↦ before m (omega arith)
    ]

    pub word_first : (b : ℕ) → Lowest word bits b → FirstIn rows g (w * word + b)
    word_first b f = record {
      none = λ m h. elim (dec_le (w * word) m) [
        | yes l ↦ in-word m (m % word) (omega (arith, f.low)) refl ∙ f.none (m % word) (omega (arith, f.low))
        | no l ↦ before m (omega arith)
      ];
      here = λ h. in-word (w * word + b) b (omega (arith, f.low)) (omega (arith, f.low)) ∙ f.here;
    }

pub row-empty : (rows : List ℕ) (g w : ℕ) → row_words ≤ w → ((m : ℕ) → m < w * word → in_row rows g m ≡ false) → FirstIn rows g capacity
row-empty rows g w h f = record { none = λ m l. f m (omega arith); here = λ l. absurd (omega arith) }

-- ---- the highest

module _ (rows : List ℕ) where
  -- no row above g has m
  abbrev Above : ℕ → ℕ → Type 0
  Above g m = (h : ℕ) → g < h → h ≤ 3 → in_row rows h m ≡ false

  module _ (m : ℕ) where
    is_none : Above 0 m → scores_in rows m ≡ 0
    unfolding scores_in
    is_none a = rw (a 3 (omega arith) (omega arith), a 2 (omega arith) (omega arith), a 1 (omega arith) (omega arith))

    is-score : (g : ℕ) → 1 ≤ g → g ≤ 3 → Above g m → in_row rows g m ≡ true → scores_in rows m ≡ g
    unfolding scores_in
    is-score zero h k a e = absurd (omega arith)
    is-score (suc zero) h k a e = rw (a 3 (omega arith) (omega arith), a 2 (omega arith) (omega arith), e)
    is-score (suc (suc zero)) h k a e = rw (a 3 (omega arith) (omega arith), e)
    is-score (suc (suc (suc zero))) h k a e = rw e
    is-score (suc (suc (suc (suc g)))) h k a e = absurd (omega arith)

    no-more : (g : ℕ) → Above g m → scores_in rows m ≤ g
    unfolding scores_in
    no-more zero a = omega (arith, is_none a)
    no-more (suc zero) a = rw (a 3 (omega arith) (omega arith), a 2 (omega arith) (omega arith)) (cond_both (λ k. k ≤ 1) (in_row rows 1 m) 1 0 (omega arith) (omega arith))
    no-more (suc (suc zero)) a =
        rw (a 3 (omega arith) (omega arith))
        (cond_both (λ k. k ≤ 2) (in_row rows 2 m) 2 _ (omega arith) (cond_both (λ k. k ≤ 2) (in_row rows 1 m) 1 0 (omega arith) (omega arith)))
    no-more (suc (suc (suc g))) a =
        cond_both (λ k. k ≤ suc (suc (suc g))) (in_row rows 3 m) 3 _ (omega arith)
        (cond_both (λ k. k ≤ suc (suc (suc g))) (in_row rows 2 m) 2 _ (omega arith) (cond_both (λ k. k ≤ suc (suc (suc g))) (in_row rows 1 m) 1 0 (omega arith) (omega arith)))

    -- nor does row g have it
    pub above-next : (g : ℕ) → Above g m → in_row rows g m ≡ false → (h : ℕ) → g ≤ h → h ≤ 3 → in_row rows h m ≡ false
    above-next g a e h k l = elim (ℕ_discrete h g) [ yes q ↦ rw q e | no q ↦ a h (omega arith) l ]

  -- a row that has no node
  pub row-none : (g : ℕ) → FirstIn rows g capacity → (m : ℕ) → in_row rows g m ≡ false
  row-none g f m = elim (dec_le capacity m) [
    | yes l ↦ past_row rows g m l
    | no l ↦ f.none m (omega arith)
  ]

  -- the first node of row g, where no row above has any
  pub row-highest : (g n : ℕ) → 1 ≤ g → g ≤ 3 → n < capacity → FirstIn rows g n → ((m : ℕ) → Above g m) → (n ≡ highest (scores_in rows) capacity) × (g ≡ scores_in rows n)
  row-highest (suc g) n h k l f a =
      let e : scores_in rows n ≡ suc g = is-score n (suc g) h k (a n) (f.here l) in (
        highest-is (scores_in rows) capacity n l
            (λ m i. omega (arith, no-more m (suc g) (a m)))
            (λ m i. omega (arith, no-more m g (λ o p q. above-next m (suc g) (a m) (f.none m i) o (omega arith) q))),
        sym e,
      )
  row-highest zero n h k l f a = absurd (omega arith)

  -- no row has any: node 0 is the highest
  pub rows-none : ((m : ℕ) → Above 0 m) → (0 ≡ highest (scores_in rows) capacity) × (0 ≡ scores_in rows 0)
  rows-none a =
      let all : (m : ℕ) → scores_in rows m ≡ 0 = λ m. is_none m (a m) in
      (highest-is (scores_in rows) capacity 0 (omega arith) (λ m i. omega (arith, all m)) (λ m i. absurd (omega arith)), sym (all 0))

-- ---- in empty rows no node scores

blank-row : (g m : ℕ) → in_row (replicate score_words 0) g m ≡ false
blank-row g m = elim (dec_le capacity m) [
  | yes l ↦ past_row (replicate score_words 0) g m l
  | no l ↦ in-row (replicate score_words 0) g m (omega arith) ∙ ap (has (m % word)) (get_d-blank {A = ℕ} score_words (word_of g m) 0) ∙ has-none (m % word)
]

pub blank-scores : (m : ℕ) → scores_in (replicate score_words 0) m ≡ 0
blank-scores m = is_none (replicate score_words 0) m (λ h k l. blank-row h m)
