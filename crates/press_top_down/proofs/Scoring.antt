-- The score of a node, by what the code finds in the tables.
use Prim.Native.Nat.{ℕ, suc, ◌+◌, ◌≤◌, ◌<◌}
use mathlib.Core.Path.{◌≡◌, refl, sym, ap, ◌∙◌}
use mathlib.Core.Bool.{Bool, true, false, ◌&&◌, not, cond}
use mathlib.Core.List.{List}
use native.Mathlib.Omega.{arith}
use lib.Dec.{eqb}
use lib.ListN.{length, get_or}
use borrow.Author.Tests.{ne_eqb}
use Rattle.std.proofs.Common.{Option, None, Some, is_some}
use Rattle.sheet.specs.declared.NodeNo.{NodeNo}
use Rattle.base.proofs.Lists.{cond_both}
use Rattle.press_spec.specs.Links.{Link, leaf, join, link_at}
use Rattle.press_spec.specs.TopDown.{gain_by}
use Rattle.press_nodes.specs.Numbers.{number_in, numbers_in}
use Rattle.press_nodes.proofs.Numbers.{numbers-at}
use Rattle.press_top_down.specs.Scores.{marked, parents_marked, score_in}

-- ---- what a node gains

pub at_most_one : (u : Bool) → cond u 1 0 ≤ 1
at_most_one u = cond_both (λ k. k ≤ 1) u 1 0 (omega arith) (omega arith)

module _ (count : ℕ → ℕ) where
  pub gain-few : (x : Link) → gain_by count x ≤ 2
  unfolding gain_by
  gain-few (leaf line) = omega arith
  gain-few (join p l r) =
      cond_both (λ k. k ≤ 2) (eqb l r) _ _ (omega (arith, at_most_one (eqb (count l) 2)))
      (omega (arith, at_most_one (eqb (count l) 1), at_most_one (eqb (count r) 1)))

-- ---- a node that has a place

some-marks : (x : Option NodeNo) → is_some x ≡ not (eqb (number_in x) 0)
unfolding number_in
some-marks None = refl
some-marks (Some n) = sym (ap not (ne_eqb (suc n.0) 0 (omega arith)))

pub place-marks : (t : List (Option NodeNo)) (n i : ℕ) (result : Bool) → i ≡ n → n < length t → result ≡ is_some (get_or t i None) → result ≡ marked (numbers_in t) n
unfolding marked
place-marks t n i result same h e = e ∙ some-marks (get_or t i None) ∙ ap (λ (k : ℕ). not (eqb k 0)) (numbers-at t i n None same h)

-- ---- the score

module _ (s : List Link) (left ahead numbers : List ℕ) (n : ℕ) (unplaced : true ≡ marked left n) where
  pub score-leaf : (line : ℕ) → link_at s n ≡ leaf line → 1 ≡ score_in s left ahead numbers n
  unfolding score_in parents_marked gain_by
  score-leaf line e = rw (← unplaced, e)

  -- a step of l and r
  module _ (p l r : ℕ) (e : link_at s n ≡ join p l r) where
    pub left-waits : false ≡ marked numbers l → 0 ≡ score_in s left ahead numbers n
    unfolding score_in parents_marked
    left-waits z = rw (← unplaced, e, ← z)

    module _ (y : true ≡ marked numbers l) where
      pub right-waits : false ≡ marked numbers r → 0 ≡ score_in s left ahead numbers n
      unfolding score_in parents_marked
      right-waits z = rw (← unplaced, e, ← y, ← z)

      pub score-gain : (g : ℕ) → true ≡ marked numbers r → ((q : ℕ) → g ≡ gain_by (λ m. get_or ahead m 0) (join q l r)) → g + 1 ≡ score_in s left ahead numbers n
      unfolding score_in parents_marked
      score-gain g z f = rw (← unplaced, e, ← y, ← z) (omega (arith, f p))

-- at most both parents can be dropped
pub score-few : (s : List Link) (left ahead numbers : List ℕ) (n : ℕ) → score_in s left ahead numbers n ≤ 3
unfolding score_in
score-few s left ahead numbers n =
    let g = gain_by (λ m. get_or ahead m 0) (link_at s n) in
    cond_both (λ k. k ≤ 3) (marked left n && parents_marked numbers (link_at s n)) (suc g) 0 (omega (arith, gain-few (λ m. get_or ahead m 0) (link_at s n))) (omega arith)
