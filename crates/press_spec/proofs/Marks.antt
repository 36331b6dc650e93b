-- The marks of rule lines: 1 for each line that a given node has, 0 for each other, and their total is how many are 1.
use Prim.Native.Nat.{ℕ, zero, suc, ◌+◌, ◌≤◌, ◌<◌}
use mathlib.Core.Bool.{Bool, cond}
use mathlib.Core.Path.{◌≡◌, refl, sym, ap, ◌∙◌}
use mathlib.Core.Logic.{◌⊎◌, inl, inr}
use mathlib.Core.List.{List, [], ◌∷◌}
use native.Mathlib.Omega.{arith}
use native.Mathlib.Decide.{ℕ_discrete}
use lib.Dec.{eqb}
use lib.ListN.{length, get_or, set, replicate, length-set, length-replicate, get_or-append}
use lib.Seq.{get_or-set_same, get_or-set_other}
use borrow.Author.Tests.{eq-eqb, ne_eqb}
use Rattle.base.specs.Bytes.{put}
use Rattle.base.proofs.Lists.{Each, set-each, get_d-blank, zeros-each}
use Rattle.press_spec.specs.Links.{Link, leaf, join, link_at}
use Rattle.press_spec.specs.Drops.{mark_link, mark_lines, total}
use Rattle.press_spec.proofs.Playing.{count}

-- ---- marks that are there stay

length-mark_lines : (s : List Link) (marks : List ℕ) → length (mark_lines s marks) ≡ length marks
unfolding mark_lines mark_link
length-mark_lines [] marks = refl
length-mark_lines (leaf line ∷ s) marks = length-mark_lines s _ ∙ length-set marks _ _
length-mark_lines (join p l r ∷ s) marks = length-mark_lines s marks

one-stays : (marks : List ℕ) (k line : ℕ) → get_or marks line 0 ≡ 1 → get_or (set marks k 1) line 0 ≡ 1
one-stays [] k line h = h
one-stays (m ∷ marks) zero zero h = refl
one-stays (m ∷ marks) zero (suc line) h = h
one-stays (m ∷ marks) (suc k) zero h = h
one-stays (m ∷ marks) (suc k) (suc line) h = one-stays marks k line h

marks_stay : (s : List Link) (marks : List ℕ) (line : ℕ) → get_or marks line 0 ≡ 1 → get_or (mark_lines s marks) line 0 ≡ 1
unfolding mark_lines mark_link
marks_stay [] marks line h = h
marks_stay (leaf k ∷ s) marks line h = marks_stay s _ line (one-stays marks _ line h)
marks_stay (join p l r ∷ s) marks line h = marks_stay s marks line h

pub each-mark_lines : (s : List Link) (marks : List ℕ) → Each 1 marks → Each 1 (mark_lines s marks)
unfolding mark_lines mark_link
each-mark_lines [] marks h = h
each-mark_lines (leaf line ∷ s) marks h = each-mark_lines s _ (set-each marks _ _ 1 h (omega arith))
each-mark_lines (join p l r ∷ s) marks h = each-mark_lines s marks h

-- ---- the lines of given nodes

abbrev pub LineOf : List Link → ℕ → Type 0
LineOf s line = (n : ℕ) × (n < length s) × (link_at s n ≡ leaf line)

later-line : (x : Link) (s : List Link) (line : ℕ) → LineOf s line → LineOf (x ∷ s) line
unfolding link_at
later-line x s line (n, h, e) = (suc n, omega arith, e)

marked : (s : List Link) (marks : List ℕ) (line : ℕ) → line < length marks → (n : ℕ) → n < length s
    → link_at s n ≡ leaf line → get_or (mark_lines s marks) line 0 ≡ 1
unfolding mark_lines mark_link link_at
marked [] marks line i n h e = absurd (omega arith)
marked (leaf k ∷ s) marks line i zero h e =
    let q : k ≡ line = cc in
    rw q (marks_stay s (set marks line 1) line (get_or-set_same marks line 1 0 i))
marked (join p l r ∷ s) marks line i zero h e = let z : ◌≡◌ {A = ℕ} 0 1 = cc in absurd (omega arith)
marked (leaf k ∷ s) marks line i (suc n) h e = marked s (set marks k 1) line (rw (length-set marks k 1) i) n (omega arith) e
marked (join p l r ∷ s) marks line i (suc n) h e = marked s marks line i n (omega arith) e

unmarked : (s : List Link) (marks : List ℕ) (line : ℕ) → (get_or (mark_lines s marks) line 0 ≡ 0 → ⊥)
    → LineOf s line ⊎ (get_or marks line 0 ≡ 0 → ⊥)
unfolding mark_lines mark_link
unmarked [] marks line h = inr h
unmarked (leaf k ∷ s) marks line h = elim (unmarked s (set marks k 1) line h) [
  | inl o ↦ inl (later-line (leaf k) s line o)
  | inr f ↦ elim (ℕ_discrete line k) [
    | yes q ↦ inl (0, omega arith, unfold link_at in ap leaf (sym q))
    | no q ↦ inr (λ z. f (get_or-set_other marks k line 1 0 q ∙ z))
  ]
]
unmarked (join p l r ∷ s) marks line h = elim (unmarked s marks line h) [
  | inl o ↦ inl (later-line (join p l r) s line o)
  | inr f ↦ inr f
]

-- ---- how many

count-first : (k : ℕ) (H : ℕ → Bool) → count (suc k) H ≡ cond (H 0) 1 0 + count k (λ i. H (suc i))
unfolding count
count-first zero H = refl
count-first (suc k) H = omega (arith, count-first k H)

one_of : (m : ℕ) → m ≤ 1 → m ≡ cond (eqb m 1) 1 0
one_of m h = elim (ℕ_discrete m 1) [ yes q ↦ rw (eq-eqb m 1 q) q | no q ↦ rw (ne_eqb m 1 q) (omega arith) ]

total-ones : (u : List ℕ) → Each 1 u → total u ≡ count (length u) (λ i. eqb (get_or u i 0) 1)
unfolding total count
total-ones [] h = refl
total-ones (m ∷ u) h =
    omega (arith, count-first (length u) (λ i. eqb (get_or (m ∷ u) i 0) 1), one_of m (h 0), total-ones u (λ i. h (suc i)))

-- ---- from blank marks

module _ (s : List Link) (lines : ℕ) where
  abbrev core : List ℕ
  core = mark_lines s (replicate lines 0)

  pub length-marks : length (mark_lines s (replicate lines 0)) ≡ lines
  length-marks = length-mark_lines s (replicate lines 0) ∙ length-replicate lines 0

  pub line_marked : (line : ℕ) → line < lines → LineOf s line → get_or (mark_lines s (replicate lines 0)) line 0 ≡ 1
  line_marked line i (n, h, e) = marked s (replicate lines 0) line (rw length-replicate i) n h e

  pub marked-line : (line : ℕ) → (get_or (mark_lines s (replicate lines 0)) line 0 ≡ 0 → ⊥) → LineOf s line
  marked-line line f = elim (unmarked s (replicate lines 0) line f) [ inl o ↦ o | inr g ↦ absurd (g (get_d-blank lines line 0)) ]

  pub each-marks : Each 1 (mark_lines s (replicate lines 0))
  each-marks = each-mark_lines s (replicate lines 0) (λ j. omega (arith, zeros-each lines j))

  pub marks-counted : total (mark_lines s (replicate lines 0)) ≡ count lines (λ i. eqb (get_or (mark_lines s (replicate lines 0)) i 0) 1)
  marks-counted = total-ones core each-marks ∙ rw length-marks

  -- ---- put at the front of what is lent

  module _ (lent : List ℕ) (line : ℕ) (h : line < lines) where
    mark-put : get_or (put lent 0 (mark_lines s (replicate lines 0))) line 0 ≡ get_or (mark_lines s (replicate lines 0)) line 0
    unfolding put
    mark-put = get_or-append (mark_lines s (replicate lines 0)) _ 0 line (rw length-marks h)

    pub line-put : LineOf s line → get_or (put lent 0 (mark_lines s (replicate lines 0))) line 0 ≡ 1
    line-put l = mark-put ∙ line_marked line h l

    pub put-line : (get_or (put lent 0 (mark_lines s (replicate lines 0))) line 0 ≡ 0 → ⊥) → LineOf s line
    put-line f = marked-line line (λ z. f (mark-put ∙ z))
