-- Which scores a node that is taken can change; and the highest of a table that has them all.
use Prim.Native.Nat.{ℕ, zero, suc, ◌+◌, ◌≤◌}
use mathlib.Core.Path.{◌≡◌, refl, sym, ◌∙◌}
use mathlib.Core.Logic.{◌⊎◌, inl, inr}
use mathlib.Core.List.{List}
use native.Mathlib.Omega.{arith}
use native.Mathlib.Decide.{ℕ_discrete, dec_le}
use lib.Dec.{eqb}
use lib.ListN.{length, get_or, get_or-eq_default}
use borrow.Author.Tests.{eq-eqb, ne_eqb, le-ltb}
use Rattle.base.specs.Folds.{rise}
use Rattle.press_spec.specs.Links.{Link, leaf, join, link_at}
use Rattle.press_spec.specs.Trim.{uses_in}
use Rattle.press_spec.specs.TopDown.{gain_by, higher, highest}
use Rattle.press_users.specs.Chains.{parent_on}
use Rattle.press_scores.specs.Rows.{scores_in}
use Rattle.press_top_down.specs.Scores.{marked, parents_marked, score_in}
use Rattle.press_top_down.specs.Renewed.{Scored, Names, Touched, itself, user, sharer}

-- ---- what a gain sees of two counts

-- they are equal, or neither is 1 or 2
abbrev Alike : ℕ → ℕ → Type 0
Alike a b = (a ≡ b) ⊎ ((3 ≤ a) × (3 ≤ b))

alike-eqb : (a b own : ℕ) → own ≤ 2 → Alike a b → eqb a own ≡ eqb b own
alike-eqb a b own h (inl e) = rw e
alike-eqb a b own h (inr l) = ne_eqb a own (λ z. omega arith) ∙ sym (ne_eqb b own (λ z. omega arith))

alike-gain : (f g : ℕ → ℕ) (p l r : ℕ) → Alike (f l) (g l) → Alike (f r) (g r) → gain_by f (join p l r) ≡ gain_by g (join p l r)
unfolding gain_by
alike-gain f g p l r a b =
    rw (alike-eqb (f l) (g l) 2 (omega arith) a, alike-eqb (f l) (g l) 1 (omega arith) a, alike-eqb (f r) (g r) 1 (omega arith) b)

-- ---- the parents of a step

module _ (s : List Link) (m p l r : ℕ) (e : link_at s m ≡ join p l r) where
  names-left : (q : ℕ) → l ≡ q → Names s q m
  names-left q h = inl (unfold parent_on in rw (e, h))

  names-right : (q : ℕ) → r ≡ q → Names s q m
  names-right q h = inr (unfold parent_on in rw (e, h))

-- ---- a node is taken

module _ (s : List Link) (left ahead numbers left₁ ahead₁ numbers₁ : List ℕ) (n : ℕ)
    (lefts : (m : ℕ) → (m ≡ n → ⊥) → marked left₁ m ≡ marked left m)
    (marks : (m : ℕ) → (m ≡ n → ⊥) → marked numbers₁ m ≡ marked numbers m)
    (closed : (m : ℕ) → get_or ahead₁ m 0 + uses_in m (link_at s n) ≡ get_or ahead m 0) where
  abbrev Same : ℕ → Type 0
  Same m = score_in s left₁ ahead₁ numbers₁ m ≡ score_in s left ahead numbers m

  -- a parent's count, unless few places are left that name it
  count-alike : (m q : ℕ) → Names s q m → Touched s ahead₁ n m ⊎ Alike (get_or ahead₁ q 0) (get_or ahead q 0)
  count-alike m q names = elim (dec_le 1 (uses_in q (link_at s n))) [
    | yes some ↦ elim (dec_le (get_or ahead₁ q 0) 2) [
      | yes few ↦ inl (sharer q some few names)
      | no many ↦ inr (inr (omega arith, omega (arith, closed q)))
    ]
    | no none ↦ inr (inl (omega (arith, closed q)))
  ]

  module _ (m : ℕ) (other : m ≡ n → ⊥) where
    leaf-same : (line : ℕ) → link_at s m ≡ leaf line → Same m
    unfolding score_in parents_marked gain_by
    leaf-same line e = rw (e, lefts m other)

    module _ (p l r : ℕ) (e : link_at s m ≡ join p l r) (a : l ≡ n → ⊥) (b : r ≡ n → ⊥) where
      join-same : Alike (get_or ahead₁ l 0) (get_or ahead l 0) → Alike (get_or ahead₁ r 0) (get_or ahead r 0) → Same m
      unfolding score_in parents_marked
      join-same x y =
          rw (e, lefts m other, marks l a, marks r b, alike-gain (λ k. get_or ahead₁ k 0) (λ k. get_or ahead k 0) p l r x y)

      counted : Touched s ahead₁ n m ⊎ Alike (get_or ahead₁ l 0) (get_or ahead l 0) → Touched s ahead₁ n m ⊎ Alike (get_or ahead₁ r 0) (get_or ahead r 0)
          → Touched s ahead₁ n m ⊎ Same m
      counted (inl t) y = inl t
      counted (inr x) (inl t) = inl t
      counted (inr x) (inr y) = inr (join-same x y)

      join-touched : Touched s ahead₁ n m ⊎ Same m
      join-touched = counted (count-alike m l (names-left s m p l r e l refl)) (count-alike m r (names-right s m p l r e r refl))

    by-link : (x : Link) → link_at s m ≡ x → Touched s ahead₁ n m ⊎ Same m
    by-link (leaf line) e = inr (leaf-same line e)
    by-link (join p l r) e = elim (ℕ_discrete l n) [
      | yes a ↦ inl (user (names-left s m p l r e n a))
      | no a ↦ elim (ℕ_discrete r n) [ yes b ↦ inl (user (names-right s m p l r e n b)) | no b ↦ join-touched p l r e a b ]
    ]

  pub touched-or-same : (m : ℕ) → Touched s ahead₁ n m ⊎ Same m
  touched-or-same m = elim (ℕ_discrete m n) [ yes e ↦ inl (itself e) | no other ↦ by-link m other (link_at s m) refl ]

-- ---- past the nodes

pub past-none : (s : List Link) (left ahead numbers : List ℕ) (m : ℕ) → length left ≤ m → score_in s left ahead numbers m ≡ 0
unfolding score_in marked
past-none s left ahead numbers m h = rw (eq-eqb (get_or left m 0) 0 (get_or-eq_default left 0 {n = m} h))

module _ (f : ℕ → ℕ) (k : ℕ) (none : (m : ℕ) → k ≤ m → f m ≡ 0) where
  highest-next : (c : ℕ) → k ≤ c → highest f (suc c) ≡ highest f c
  unfolding highest rise higher
  highest-next c h = rw (le-ltb (f (highest f c)) (f c) (omega (arith, none c h)))

  pub highest-wider : (c : ℕ) → k ≤ c → highest f c ≡ highest f k
  highest-wider zero h = let e : k ≡ 0 = omega arith in rw e
  highest-wider (suc c) h = elim (ℕ_discrete k (suc c)) [
    | yes e ↦ rw e
    | no e ↦ highest-next c (omega arith) ∙ highest-wider c (omega arith)
  ]

-- a table that has all scores has the highest
pub table-highest : (f : ℕ → ℕ) (rows : List ℕ) (k c b : ℕ) → ((m : ℕ) → Scored f rows m) → ((m : ℕ) → k ≤ m → f m ≡ 0) → k ≤ c
    → b ≡ highest (scores_in rows) c → b ≡ highest f k
table-highest f rows k c b all none h e =
    let same : scores_in rows ≡ f = λ i m. all m i in
    let wide : b ≡ highest f c = rw same at e in
    wide ∙ highest-wider f k none c h
