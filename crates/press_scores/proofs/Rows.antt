-- What a bit that is put changes: its node in its row. And the first node of a row, word by word.
use Prim.Native.Nat.{ℕ, zero, suc, ◌*◌, ◌%◌, ◌^◌, ◌≤◌, ◌<◌}
use mathlib.Core.Path.{◌≡◌, refl, sym, ap, ◌∙◌}
use mathlib.Core.Bool.{Bool, true, false, cond, or-true, or-false, and-true, and-false}
use mathlib.Core.List.{List}
use native.Mathlib.Omega.{arith}
use native.Mathlib.Decide.{ℕ_discrete, dec_le}
use lib.Bits.{bit_and, bit_or, bit_xor}
use lib.Dec.{eqb}
use lib.ListN.{length, get_or, set, length-set}
use lib.Seq.{get_or-set_same, get_or-set_other}
use borrow.Author.Tests.{eq-eqb, ne_eqb, lt-ltb, le-ltb}
use Rattle.clause.specs.Sets.{has, with, without}
use Rattle.clause.specs.Denote.{word}
use Rattle.clause.proofs.Sets.{has-with, has-without}
use Rattle.clause.proofs.Words.{or-with, xor-without}
use Rattle.sheet.specs.Editions.{capacity}
use Rattle.press_nodes.specs.Tables.{changed}
use Rattle.press_scores.specs.Rows.{score_words, word_of, in_row, scores_in, bit_put}

module _ (rows : List ℕ) (g n : ℕ) where
  pub in-row : n < capacity → in_row rows g n ≡ has (n % word) (get_or rows (word_of g n) 0)
  unfolding in_row
  in-row h = rw (lt-ltb n capacity h)

  pub past_row : capacity ≤ n → in_row rows g n ≡ false
  unfolding in_row
  past_row h = rw (le-ltb n capacity h)

-- ---- a bit

module _ (v s : ℕ) where
  put-own : (on : Bool) → has v (cond on (with v s) (without v s)) ≡ on
  put-own true = has-with v v s ∙ rw (eq-eqb v v refl) (or-true (has v s))
  put-own false = has-without v v s ∙ rw (eq-eqb v v refl) (and-false (has v s))

  put_other : (on : Bool) (u : ℕ) → (u ≡ v → ⊥) → has u (cond on (with v s) (without v s)) ≡ has u s
  put_other true u h = has-with u v s ∙ rw (ne_eqb u v h) (or-false (has u s))
  put_other false u h = has-without u v s ∙ rw (ne_eqb u v h) (and-true (has u s))

module _ (s v : ℕ) (on : Bool) where
  pub or-bit : on ≡ true → v < word → bit_or s (1 * 2 ^ v % 2 ^ word) ≡ cond on (with v s) (without v s)
  or-bit e h = rw e (or-with word v s h)

  pub xor-bit : on ≡ false → v < word → bit_xor s (bit_and s (1 * 2 ^ v % 2 ^ word)) ≡ cond on (with v s) (without v s)
  xor-bit e h = rw e (xor-without word v s h)

pub bit-put : (rows : List ℕ) (g n i r : ℕ) (on : Bool) → i ≡ n
    → r ≡ cond on (with (i % word) (get_or rows (word_of g i) 0)) (without (i % word) (get_or rows (word_of g i) 0)) → set rows (word_of g i) r ≡ bit_put rows g n on
unfolding bit_put
bit-put rows g n i r on e q = rw (q, e)

-- n's bit in row g is `on`, and all others are what they were
pub record Put (g n : ℕ) (on : Bool) (rows next : List ℕ) : Type 0 where
  pub long : length next ≡ score_words
  pub own : (m : ℕ) → in_row next g m ≡ cond (eqb m n) on (in_row rows g m)
  pub apart : (h m : ℕ) → 1 ≤ h → (h ≡ g → ⊥) → in_row next h m ≡ in_row rows h m

module _ (g n : ℕ) (on : Bool) (rows : List ℕ) (long : length rows ≡ score_words) (some : 1 ≤ g) (few : g ≤ 3) (fits : n < capacity) where
  abbrev next : List ℕ
  next = bit_put rows g n on

  there : (h m : ℕ) → (word_of h m ≡ word_of g n → ⊥) → m < capacity → in_row next h m ≡ in_row rows h m
  unfolding bit_put
  there h m q l = in-row next h m l ∙ ap (has (m % word)) (get_or-set_other rows (word_of g n) (word_of h m) _ 0 q) ∙ sym (in-row rows h m l)

  here : (m : ℕ) → word_of g m ≡ word_of g n → m < capacity
      → in_row next g m ≡ has (m % word) (cond on (with (n % word) (get_or rows (word_of g n) 0)) (without (n % word) (get_or rows (word_of g n) 0)))
  unfolding bit_put
  here m e l = in-row next g m l ∙ ap (has (m % word)) (rw e (get_or-set_same rows (word_of g n) _ 0 (omega arith)))

  other_row : (h m : ℕ) → 1 ≤ h → (h ≡ g → ⊥) → in_row next h m ≡ in_row rows h m
  other_row h m p q = elim (dec_le capacity m) [
    | yes l ↦ past_row next h m l ∙ sym (past_row rows h m l)
    | no l ↦ there h m (λ e. q (omega arith)) (omega arith)
  ]

  other-node : (m : ℕ) → (m ≡ n → ⊥) → in_row next g m ≡ in_row rows g m
  other-node m q = elim (dec_le capacity m) [
    | yes l ↦ past_row next g m l ∙ sym (past_row rows g m l)
    | no l ↦ elim (ℕ_discrete (word_of g m) (word_of g n)) [
      | yes e ↦ here m e (omega arith) ∙ put_other (n % word) (get_or rows (word_of g n) 0) on (m % word) (λ z. q (omega arith)) ∙ rw (← e) (sym (in-row rows g m (omega arith)))
      | no e ↦ there g m e (omega arith)
    ]
  ]

  own_row : (m : ℕ) → in_row next g m ≡ cond (eqb m n) on (in_row rows g m)
  own_row m = elim (ℕ_discrete m n) [
    | yes q ↦ rw (eq-eqb m n q, q) (here n refl fits ∙ put-own (n % word) (get_or rows (word_of g n) 0) on)
    | no q ↦ rw (ne_eqb m n q) (other-node m q)
  ]

  put : Put g n on rows (bit_put rows g n on)
  put = record { long = unfold bit_put in rw length-set long; own = own_row; apart = other_row }

-- ---- a score

scored : (u : Bool) (a b c : Bool) (score : ℕ) → score ≤ 3
    → cond (cond u (eqb score 3) a) 3 (cond (cond u (eqb score 2) b) 2 (cond (cond u (eqb score 1) c) 1 0)) ≡ cond u score (cond a 3 (cond b 2 (cond c 1 0)))
scored true a b c zero h = refl
scored true a b c (suc zero) h = refl
scored true a b c (suc (suc zero)) h = refl
scored true a b c (suc (suc (suc zero))) h = refl
scored true a b c (suc (suc (suc (suc score)))) h = absurd (omega arith)
scored false a b c score h = refl

module _ (n score : ℕ) (rows one two three : List ℕ) (few : score ≤ 3) (p : Put 1 n (eqb score 1) rows one) (q : Put 2 n (eqb score 2) one two)
    (r : Put 3 n (eqb score 3) two three) (m : ℕ) where
  row_one : in_row three 1 m ≡ cond (eqb m n) (eqb score 1) (in_row rows 1 m)
  row_one = r.apart 1 m (omega arith) (omega arith) ∙ q.apart 1 m (omega arith) (omega arith) ∙ p.own m

  row-two : in_row three 2 m ≡ cond (eqb m n) (eqb score 2) (in_row rows 2 m)
  row-two = r.apart 2 m (omega arith) (omega arith) ∙ q.own m ∙ ap (cond (eqb m n) (eqb score 2)) (p.apart 2 m (omega arith) (omega arith))

  row-three : in_row three 3 m ≡ cond (eqb m n) (eqb score 3) (in_row rows 3 m)
  row-three =
      r.own m ∙ ap (cond (eqb m n) (eqb score 3)) (q.apart 3 m (omega arith) (omega arith) ∙ p.apart 3 m (omega arith) (omega arith))

  rows-put : scores_in three m ≡ changed n score (scores_in rows) m
  unfolding scores_in changed
  rows-put = rw (row_one, row-two, row-three) (scored (eqb m n) (in_row rows 3 m) (in_row rows 2 m) (in_row rows 1 m) score few)

module _ (n score : ℕ) (rows one two three : List ℕ) (long : length rows ≡ score_words) (fits : n < capacity) (few : score ≤ 3)
    (e₁ : one ≡ bit_put rows 1 n (eqb score 1)) (e₂ : two ≡ bit_put one 2 n (eqb score 2)) (e₃ : three ≡ bit_put two 3 n (eqb score 3)) where
  pub score-put : (m : ℕ) → scores_in three m ≡ changed n score (scores_in rows) m
  score-put =
      let p : Put 1 n (eqb score 1) rows one = rw e₁ (put 1 n (eqb score 1) rows long (omega arith) (omega arith) fits) in
      let q : Put 2 n (eqb score 2) one two = rw e₂ (put 2 n (eqb score 2) one p.long (omega arith) (omega arith) fits) in
      let r : Put 3 n (eqb score 3) two three = rw e₃ (put 3 n (eqb score 3) two q.long (omega arith) (omega arith) fits) in
      rows-put n score rows one two three few p q r
