-- "Two drops go by rising number in the pressed sheet."
use Prim.Native.Nat.{ℕ, zero, suc, ◌<◌, min, max}
use mathlib.Core.Bool.{Bool, true, false}
use mathlib.Core.Path.{◌≡◌, refl}
use mathlib.Core.List.{List, [], ◌∷◌, ◌++◌}
use native.Mathlib.Omega.{arith}
use lib.Dec.{eqb}
use borrow.Author.Tests.{eqb-false}
use Rattle.sheet.specs.Records.{Node, Record, node, drop}
use Rattle.sheet.specs.Proper.{record_in}
use Rattle.press_spec.specs.Links.{Link, leaf, join, link, links}
use Rattle.press_spec.specs.Drops.{drops_after, with_drops}
use Rattle.press_spec.proofs.Playing.{used_in}
use Rattle.press_spec.proofs.Drops.{drop_last-used, drop_last-unused}

-- if a drop comes next, it is of a number above i
abbrev Next : ℕ → List Record → Type 0
Next i [] = Unit {0}
Next i (node x ∷ rs) = Unit {0}
Next i (drop j ∷ rs) = i < j

abbrev Rises : List Record → Type 0
Rises [] = Unit {0}
Rises (node x ∷ rs) = Rises rs
Rises (drop i ∷ rs) = Next i rs × Rises rs

rises-after : (x : Link) (later : List Link) (rs : List Record) → ((i : ℕ) → Next i rs) → Rises rs → Rises (drops_after x later ++ rs)
unfolding drops_after
rises-after (leaf line) later rs f g = g
rises-after (join p l r) later rs f g = by (eqb l r) (used_in later (min l r)) (used_in later (max l r)) refl refl refl
  where
    by : (u v w : Bool) → eqb l r ≡ u → used_in later (min l r) ≡ v → used_in later (max l r) ≡ w → Rises (drops_after (join p l r) later ++ rs)
    by false false false e a b =
        let h = eqb-false l r e in
        rw (e, drop_last-unused later (min l r) a, drop_last-unused later (max l r) b) (omega arith, (f (max l r), g))
    by false false true e a b = rw (e, drop_last-unused later (min l r) a, drop_last-used later (max l r) b) (f (min l r), g)
    by false true false e a b = rw (e, drop_last-used later (min l r) a, drop_last-unused later (max l r) b) (f (max l r), g)
    by false true true e a b = rw (e, drop_last-used later (min l r) a, drop_last-used later (max l r) b) g
    by true false w e a b = rw (e, drop_last-unused later (min l r) a) (f (min l r), g)
    by true true w e a b = rw (e, drop_last-used later (min l r) a) g

next-with_drops : (i : ℕ) (s : List Node) → Next i (with_drops s)
unfolding with_drops
next-with_drops i [] = tt
next-with_drops i (x ∷ s) = tt

rises-with_drops : (s : List Node) → Rises (with_drops s)
unfolding with_drops
rises-with_drops [] = tt
rises-with_drops (x ∷ s) = rises-after (link x) (links s) (with_drops s) (λ i. next-with_drops i s) (rises-with_drops s)

next-rises : (rs : List Record) → Rises rs → (k i j : ℕ) → record_in rs k ≡ drop i → record_in rs (suc k) ≡ drop j → i < j
next-rises [] g k i j a b = let z : ◌≡◌ {A = ℕ} 0 1 = cc in absurd (omega arith)
next-rises (node x ∷ rs) g zero i j a b = let z : ◌≡◌ {A = ℕ} 0 1 = cc in absurd (omega arith)
next-rises (drop n ∷ []) g zero i j a b = let z : ◌≡◌ {A = ℕ} 0 1 = cc in absurd (omega arith)
next-rises (drop n ∷ node x ∷ rs) g zero i j a b = let z : ◌≡◌ {A = ℕ} 0 1 = cc in absurd (omega arith)
next-rises (drop n ∷ drop m ∷ rs) g zero i j a b = let p : n ≡ i = cc in let q : m ≡ j = cc in rw (← p, ← q) g.0
next-rises (node x ∷ rs) g (suc k) i j a b = next-rises rs g k i j a b
next-rises (drop n ∷ rs) g (suc k) i j a b = next-rises rs g.1 k i j a b

-- of two drops, one right after the other, the first has the smaller number
pub drops-rise : (s : List Node) (k i j : ℕ) → record_in (with_drops s) k ≡ drop i → record_in (with_drops s) (suc k) ≡ drop j → i < j
drops-rise s = next-rises (with_drops s) (rises-with_drops s)
