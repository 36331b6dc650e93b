-- How many nodes can be dropped after a node, from a table of the places in unplaced nodes; and what placing a node makes of that table.
use Prim.Native.Nat.{ℕ, zero, suc, ◌+◌, ◌<◌, min, max}
use mathlib.Core.Bool.{Bool, true, false, cond}
use mathlib.Core.Path.{◌≡◌, refl, sym, ◌∙◌}
use mathlib.Core.List.{List, [], ◌∷◌, ◌++◌}
use native.Mathlib.Omega.{arith}
use native.Mathlib.Decide.{dec_le}
use lib.Dec.{eqb}
use lib.ListN.{length, set, length-append}
use borrow.Author.Tests.{eqb-true, eqb-false, eq-eqb, ne_eqb}
use Rattle.sheet.specs.Records.{drop}
use Rattle.press_spec.specs.Links.{Link, leaf, join, link_at}
use Rattle.press_spec.specs.Trim.{trimmed, naming, uses_in, uses}
use Rattle.press_spec.specs.Drops.{drop_last, drops_after}
use Rattle.press_spec.specs.TopDown.{unplaced, gain, gain_by}
use Rattle.press_spec.proofs.Trimmed.{Marked, uses-both}

-- ---- a node less

pub uses-without : (s : List Link) (t : List ℕ) (n q : ℕ) → n < length s → Marked t n
    → uses (trimmed s (set t n 0)) q + uses_in q (link_at s n) ≡ uses (trimmed s t) q
unfolding trimmed uses link_at
uses-without [] t n q h m = absurd (omega arith)
uses-without (x ∷ s) [] n q h m = absurd (omega arith)
uses-without (x ∷ s) (k ∷ t) zero q h m = rw (ne_eqb k 0 (omega arith)) (omega arith)
uses-without (x ∷ s) (k ∷ t) (suc n) q h m = by (eqb k 0) (uses-without s t n q (omega arith) m)
  where
    by : (u : Bool) → uses (trimmed s (set t n 0)) q + uses_in q (link_at s n) ≡ uses (trimmed s t) q
        → uses (cond u (trimmed s (set t n 0)) (x ∷ trimmed s (set t n 0))) q + uses_in q (link_at s n) ≡ uses (cond u (trimmed s t) (x ∷ trimmed s t)) q
    by true e = e
    by false e = omega arith

-- ---- one parent

-- later nodes use q if they do so now in more places than the node's own
last-length : (later : List Link) (q now own : ℕ) → uses later q + own ≡ now → length (drop_last later q) ≡ cond (eqb now own) 1 0
unfolding drop_last
last-length later q now own e = by (eqb now own) refl
  where
    by : (u : Bool) → eqb now own ≡ u → length (cond (eqb (uses later q) 0) (drop q ∷ []) []) ≡ cond u 1 0
    by true a = let z = eqb-true now own a in rw (eq-eqb (uses later q) 0 (omega arith))
    by false a = let z = eqb-false now own a in rw (ne_eqb (uses later q) 0 (λ y. z (omega arith)))

naming-one : (n m : ℕ) → (n ≡ m → ⊥) → naming n m ≡ 0
unfolding naming
naming-one n m h = rw (ne_eqb n m h)

naming-self : (n : ℕ) → naming n n ≡ 1
unfolding naming
naming-self n = rw (eq-eqb n n refl)

module _ (p l r : ℕ) (h : l ≡ r → ⊥) where
  left-once : uses_in l (join p l r) ≡ 1
  unfolding uses_in
  left-once = omega (arith, naming-self l, naming-one l r h)

  right-once : uses_in r (join p l r) ≡ 1
  unfolding uses_in
  right-once = omega (arith, naming-self r, naming-one r l (λ q. h (sym q)))

-- ---- one node

drops-length : (x : Link) (later : List Link) (count : ℕ → ℕ) → ((q : ℕ) → uses later q + uses_in q x ≡ count q) → length (drops_after x later) ≡ gain_by count x
unfolding drops_after gain_by
drops-length (leaf line) later count f = refl
drops-length (join p l r) later count f = by (eqb l r) refl
  where
    by : (u : Bool) → eqb l r ≡ u
        → length (drop_last later (min l r) ++ cond u [] (drop_last later (max l r))) ≡ cond u (cond (eqb (count l) 2) 1 0) (cond (eqb (count l) 1) 1 0 + cond (eqb (count r) 1) 1 0)
    by true a =
        let q = eqb-true l r a in
        let lo : min l r ≡ l = omega arith in
        let two : uses_in l (join p l r) ≡ 2 = rw (← q) (uses-both p l) in
        rw lo (length-append (drop_last later l) [] ∙ omega (arith, last-length later l (count l) 2 (omega (arith, f l))))
    by false a =
        let z = eqb-false l r a in
        let one = last-length later l (count l) 1 (omega (arith, f l, left-once p l r z)) in
        let two = last-length later r (count r) 1 (omega (arith, f r, right-once p l r z)) in
        elim (dec_le l r) [
          | yes h ↦
              let lo : min l r ≡ l = omega arith in
              let hi : max l r ≡ r = omega arith in
              rw (lo, hi) (length-append (drop_last later l) (drop_last later r) ∙ omega arith)
          | no h ↦
              let lo : min l r ≡ r = omega arith in
              let hi : max l r ≡ l = omega arith in
              rw (lo, hi) (length-append (drop_last later r) (drop_last later l) ∙ omega arith)
        ]

-- a node that is unplaced, by the places in all that is unplaced
pub gain-by : (s : List Link) (kept order : List ℕ) (n : ℕ) → n < length s → Marked (unplaced kept order) n
    → gain s kept order n ≡ gain_by (uses (trimmed s (unplaced kept order))) (link_at s n)
unfolding gain unplaced
gain-by s kept order n h m =
    drops-length (link_at s n) (trimmed s (set (unplaced kept order) n 0)) (uses (trimmed s (unplaced kept order))) (λ q. uses-without s (unplaced kept order) n q h m)
