-- One law for each way through the marking of rule lines.
use mathlib.Core.Path.{◌≡◌, refl, sym, ap, ap₂, ◌∙◌}
use mathlib.Core.List.{List, [], ◌∷◌, ◌++◌}
use Rattle.std.proofs.Common.{sum}
use Rattle.std.proofs.lemmas.List.Recursion.{is_sum_by}
use Rattle.std.proofs.lemmas.List.Sums.{sum_by-cons}
use Prim.Native.Nat.{ℕ, suc, ◌+◌, ◌<◌, ◌≤◌}
use native.Mathlib.Omega.{arith}
use lib.ListN.{length, set, take, replicate, drop_of_length-le}
use lib.ListN.{drop as after}
use lib.Seq.{length-take-le, take_at}
use Rattle.base.proofs.Lists.{Each}
use Rattle.base.specs.Bytes.{put}
use Rattle.press_spec.specs.Links.{Link, leaf, join, link_at}
use Rattle.press_spec.specs.Drops.{mark_link, mark_lines, total}
use Rattle.press_spec.proofs.Marks.{length-marks, each-marks}
use Rattle.press_marks.specs.Marking.{LinesBelow}
use Rattle.press_spec.proofs.Nodes.{links-from}

pub join-unmarked : (t : List Link) (k p l r : ℕ) (marks : List ℕ) → link_at t k ≡ join p l r → marks ≡ mark_link (link_at t k) marks
unfolding mark_link
join-unmarked t k p l r marks e = sym (ap (λ (y : Link). mark_link y marks) e)

module _ (s : List Link) (k line : ℕ) (q : link_at s k ≡ leaf line) where
  pub line-within : (lines : ℕ) → k < length s → LinesBelow lines s → line < lines
  line-within lines h below = rw q at (below k h)

  pub line_marked : (marks : List ℕ) → set marks line 1 ≡ mark_link (link_at s k) marks
  unfolding mark_link
  line_marked marks = sym (ap (λ (y : Link). mark_link y marks) q)

module _ (s : List Link) (k : ℕ) where
  pub mark_on : (marks : List ℕ) → k < length s → mark_lines (after (k + 1) s) (mark_link (link_at s k) marks) ≡ mark_lines (after k s) marks
  unfolding mark_lines
  mark_on marks h = sym (ap (λ (l : List Link). mark_lines l marks) (links-from s k h))

  pub mark-done : (marks : List ℕ) → length s ≤ k → marks ≡ mark_lines (after k s) marks
  unfolding mark_lines
  mark-done marks h = sym (ap (λ (l : List Link). mark_lines l marks) (drop_of_length-le s h))

-- ---- counting

pub total-sum : (l : List ℕ) → total l ≡ sum l
unfolding total
total-sum = is_sum_by total (λ x. x) refl (λ x l. refl)

pub marks-few : (l : List ℕ) → Each 1 l → sum l ≤ length l
marks-few [] f = omega arith
marks-few (x ∷ l) f = omega (arith, sum_by-cons (λ (n : ℕ). n) x l, f 0, marks-few l (λ i. f (suc i)))

-- ---- the part of the marks that is lent

module _ (s : List Link) (marks : List ℕ) (lines : ℕ) (h : lines ≤ length marks) (core : List ℕ)
    (e : core ≡ mark_lines s (replicate (length (take lines marks)) 0)) where
  pub core_is : core ≡ mark_lines s (replicate lines 0)
  core_is = e ∙ ap (λ (n : ℕ). mark_lines s (replicate n 0)) (length-take-le lines marks h)

  pub core-long : length core ≡ lines
  core-long = ap length core_is ∙ length-marks s lines

  pub core-each : Each 1 core
  core-each i = rw core_is (each-marks s lines i)

  pub core-again : take lines (core ++ after lines marks) ≡ core
  core-again = take_at core (after lines marks) lines core-long

  pub core-put : core ++ after lines marks ≡ put marks 0 (mark_lines s (replicate lines 0))
  unfolding put
  core-put =
      let size : 0 + length (mark_lines s (replicate lines 0)) ≡ lines = omega (arith, core-long, ap length core_is) in
      ap₂ (λ (l r : List ℕ). l ++ r) core_is (ap (λ (n : ℕ). after n marks) (sym size))
