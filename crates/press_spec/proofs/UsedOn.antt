-- Which literal a node is used on, and how many uses there are at least.
use Prim.Native.Nat.{ℕ, zero, suc, ◌+◌, ◌≤◌, ◌<◌}
use mathlib.Core.Bool.{Bool, true, false, cond}
use mathlib.Core.Path.{◌≡◌, refl}
use mathlib.Core.List.{List, [], ◌∷◌}
use native.Mathlib.Omega.{arith}
use lib.Dec.{eqb}
use lib.ListN.{length}
use borrow.Author.Tests.{eq-eqb, ne_eqb}
use Rattle.base.proofs.Lists.{cond_both}
use Rattle.clause.specs.Clauses.{Literal, plus, minus, same_literal}
use Rattle.clause.proofs.Clauses.{same-literal-true}
use Rattle.press_spec.specs.Links.{Link, leaf, join, link_at}
use Rattle.press_spec.specs.Trim.{trimmed, naming, uses_in, uses}
use Rattle.press_spec.specs.Univalents.{Used, unused, once, often, mixed, used_too, used_as, used_in, used_on}
use Rattle.press_spec.proofs.Trimmed.{Marked}

-- ---- the literals of uses

-- x is among the literals that the uses are on
abbrev pub Among : Literal → Used → Type 0
Among x unused = ⊥
Among x (once y) = x ≡ y
Among x (often y) = x ≡ y
Among x mixed = Unit {0}

too-often : (x y : Literal) (t : Bool) → same_literal x y ≡ t → Among x (cond t (often y) mixed)
too-often x y true q = same-literal-true x y q
too-often x y false q = tt

too-here : (x : Literal) (u : Used) → Among x (used_too x u)
unfolding used_too
too-here x unused = refl
too-here x (once y) = too-often x y (same_literal x y) refl
too-here x (often y) = too-often x y (same_literal x y) refl
too-here x mixed = tt

too-keeps : (x y : Literal) (u : Used) → Among x u → Among x (used_too y u)
unfolding used_too
too-keeps x y unused h = absurd h
too-keeps x y (once z) h = cond_both (Among x) (same_literal y z) (often z) mixed h tt
too-keeps x y (often z) h = cond_both (Among x) (same_literal y z) (often z) mixed h tt
too-keeps x y mixed h = tt

as-keeps : (n m : ℕ) (x y : Literal) (u : Used) → Among x u → Among x (used_as n m y u)
unfolding used_as
as-keeps n m x y u h = cond_both (Among x) (eqb n m) (used_too y u) u (too-keeps x y u h) h

as-here : (n : ℕ) (x : Literal) (u : Used) → Among x (used_as n n x u)
unfolding used_as
as-here n x u = rw (eq-eqb n n refl) (too-here x u)

used-keeps : (n : ℕ) (m : Link) (x : Literal) (u : Used) → Among x u → Among x (used_in n m u)
unfolding used_in
used-keeps n (leaf line) x u h = h
used-keeps n (join p l r) x u h = as-keeps n l x _ _ (as-keeps n r x _ u h)

used-left : (p l r : ℕ) (u : Used) → Among (plus p) (used_in l (join p l r) u)
unfolding used_in
used-left p l r u = as-here l (plus p) _

used-right : (p l r : ℕ) (u : Used) → Among (minus p) (used_in r (join p l r) u)
unfolding used_in
used-right p l r u = as-keeps r l (minus p) _ _ (as-here r (minus p) u)

-- a step that is kept has its uses among them
pub used-on : (s : List Link) (marks : List ℕ) (n p l r : ℕ) → Marked marks n → link_at s n ≡ join p l r → n < length s
    → Among (plus p) (used_on (trimmed s marks) l) × Among (minus p) (used_on (trimmed s marks) r)
unfolding link_at trimmed used_on
used-on [] marks n p l r h a i = absurd (omega arith)
used-on (x ∷ s) [] n p l r h a i = absurd (omega arith)
used-on (x ∷ s) (k ∷ marks) zero p l r h a i =
    rw (ne_eqb k 0 (omega arith), a) (used-left p l r (used_on (trimmed s marks) l), used-right p l r (used_on (trimmed s marks) r))
used-on (x ∷ s) (k ∷ marks) (suc n) p l r h a i =
    let y = used-on s marks n p l r h a (omega arith) in (
      cond_both (λ t. Among (plus p) (used_on t l)) (eqb k 0) (trimmed s marks) (x ∷ trimmed s marks) y.0
          (used-keeps l x (plus p) (used_on (trimmed s marks) l) y.0),
      cond_both (λ t. Among (minus p) (used_on t r)) (eqb k 0) (trimmed s marks) (x ∷ trimmed s marks) y.1
          (used-keeps r x (minus p) (used_on (trimmed s marks) r) y.1),
    )

-- ---- how many uses there are at least

abbrev pub least : Used → ℕ
least unused = 0
least (once x) = 1
least (often x) = 2
least mixed = 2

too-least : (x : Literal) (u : Used) → least (used_too x u) ≤ 1 + least u
unfolding used_too
too-least x unused = omega arith
too-least x (once y) = cond_both (λ u. least u ≤ 2) (same_literal x y) (often y) mixed (omega arith) (omega arith)
too-least x (often y) = cond_both (λ u. least u ≤ 3) (same_literal x y) (often y) mixed (omega arith) (omega arith)
too-least x mixed = omega arith

as-least : (n m : ℕ) (x : Literal) (u : Used) → least (used_as n m x u) ≤ naming n m + least u
unfolding used_as naming
as-least n m x u = by (eqb n m)
  where
    by : (t : Bool) → least (cond t (used_too x u) u) ≤ cond t 1 0 + least u
    by true = too-least x u
    by false = omega arith

in-least : (n : ℕ) (m : Link) (u : Used) → least (used_in n m u) ≤ uses_in n m + least u
unfolding used_in uses_in
in-least n (leaf line) u = omega arith
in-least n (join p l r) u = omega (arith, as-least n l (plus p) (used_as n r (minus p) u), as-least n r (minus p) u)

pub used-least : (s : List Link) (n : ℕ) → least (used_on s n) ≤ uses s n
unfolding used_on uses
used-least [] n = omega arith
used-least (m ∷ s) n = omega (arith, in-least n m (used_on s n), used-least s n)
