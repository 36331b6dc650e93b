-- Lemma 3 of paper 000, from the finished fates and sets alone: a kept node's stand-in has no literal outside its old clause and its set.
-- A pass that cuts edges has only to show `Allowed`.
use Prim.Native.Nat.{ℕ, ◌<◌}
use mathlib.Core.Bool.{Bool, true, false, cond, false≢true}
use mathlib.Core.Path.{◌≡◌, refl, sym, ◌∙◌}
use mathlib.Core.Logic.{◌≢◌, ◌⊎◌, inl, inr}
use mathlib.Core.List.{List}
use native.Mathlib.Omega.{arith}
use lib.ListN.{length, length-map}
use Rattle.clause.specs.Clauses.{Literal, Literals, plus, minus, holds, adding, resolvent, Within}
use Rattle.sheet.specs.declared.edition.Edition.{Edition}
use Rattle.sheet.specs.Records.{Node, given, step, clause, node_at}
use Rattle.press_spec.specs.Links.{Link, leaf, join, link, links, link_at}
use Rattle.press_spec.specs.Recycle.{Cut, cut_left, cut_right, uncut, Fate, kept}
use Rattle.press_spec.specs.Rebuild.{Built, stand_in, standing, take_left, take_right, step_anew, way_of}
use Rattle.press_spec.proofs.Proper.{ProperNode}
use Rattle.press_spec.proofs.Nodes.{link-at, by-rising}
use Rattle.press_spec.proofs.Literals.{literal-same, in-adding, adding-keeps, in-resolvent, resolvent-left, resolvent-right}
use Rattle.press_spec.proofs.Rebuilt.{ByWay, Renewed, Rebuilding, EdgesKept, ParentsKept, Closed, ProperKept}

-- ---- what the sets and the cuts of a pass have to do with each other, however they were found

module _ (says : ℕ → Fate) (S : ℕ → Literals) where
  -- n is kept, and its set lies in what this use of it hands on
  abbrev pub Gets : ℕ → Literals → Type 0
  Gets n X = (z : Cut) × (says n ≡ kept z) × Within (S n) X

  abbrev pub EdgesAllowed : Cut → ℕ → ℕ → ℕ → Literals → Type 0
  EdgesAllowed cut_left p l r X = (holds (minus p) X ≡ true) × Gets r X
  EdgesAllowed cut_right p l r X = (holds (plus p) X ≡ true) × Gets l X
  EdgesAllowed uncut p l r X = Gets l (adding (plus p) X) × Gets r (adding (minus p) X)

  abbrev pub LinkAllowed : Link → Cut → Literals → Type 0
  LinkAllowed (leaf line) z X = Unit {0}
  LinkAllowed (join p l r) z X = EdgesAllowed z p l r X

  abbrev pub Allowed : List Link → Type 0
  Allowed s = (n : ℕ) (z : Cut) → n < length s → says n ≡ kept z → LinkAllowed (link_at s n) z (S n)

  edges-closed : (z : Cut) (p l r : ℕ) (X : Literals) → EdgesAllowed z p l r X → EdgesKept says z l r
  edges-closed cut_left p l r X g = (g.1.0, g.1.1)
  edges-closed cut_right p l r X g = (g.1.0, g.1.1)
  edges-closed uncut p l r X g = ((g.0.0, g.0.1), (g.1.0, g.1.1))

  link-closed : (m : Link) (z : Cut) (X : Literals) → LinkAllowed m z X → ParentsKept says z m
  link-closed (leaf line) z X g = tt
  link-closed (join p l r) z X g = edges-closed z p l r X g

  pub allowed-closed : (s : List Link) → Allowed s → Closed says s
  allowed-closed s g n z h q = link-closed (link_at s n) z (S n) (g n z h q)

-- ---- on clauses alone: R is what the parent got, S what the step has

module _ (p : ℕ) (l r S R : Literals) (x : Literal) where
  from-left : Within R (adding (plus p) S) → x ≢ plus p → (holds x l ≡ true) ⊎ (holds x R ≡ true)
      → (holds x (resolvent p l r) ≡ true) ⊎ (holds x S ≡ true)
  from-left sub n (inl h) = inl (resolvent-left x p l r n h)
  from-left sub n (inr h) = elim (in-adding x (plus p) S (sub x h)) [ inl q ↦ absurd (n q) | inr k ↦ inr k ]

  from-right : Within R (adding (minus p) S) → x ≢ minus p → (holds x r ≡ true) ⊎ (holds x R ≡ true)
      → (holds x (resolvent p l r) ≡ true) ⊎ (holds x S ≡ true)
  from-right sub n (inl h) = inl (resolvent-right x p l r n h)
  from-right sub n (inr h) = elim (in-adding x (minus p) S (sub x h)) [ inl q ↦ absurd (n q) | inr k ↦ inr k ]

  past-right : holds (plus p) S ≡ true → Within R S → (holds x l ≡ true) ⊎ (holds x R ≡ true)
      → (holds x (resolvent p l r) ≡ true) ⊎ (holds x S ≡ true)
  past-right m sub h = elim (literal-same x (plus p)) [
    | inl q ↦ inr (rw q m)
    | inr n ↦ from-left (λ y u. adding-keeps y (plus p) S (sub y u)) n h
  ]

  past-left : holds (minus p) S ≡ true → Within R S → (holds x r ≡ true) ⊎ (holds x R ≡ true)
      → (holds x (resolvent p l r) ≡ true) ⊎ (holds x S ≡ true)
  past-left m sub h = elim (literal-same x (minus p)) [
    | inl q ↦ inr (rw q m)
    | inr n ↦ from-right (λ y u. adding-keeps y (minus p) S (sub y u)) n h
  ]

-- ---- by rising numbers

module _ (e : Edition) (rules : List ℕ) (s : List Node) (says : ℕ → Fate) (proper : ProperKept e rules s says) (S : ℕ → Literals)
    (allowed : Allowed says S (links s)) (b : Built) (f : Rebuilding s says (length s) b) where
  -- a clause that may stand for node n
  abbrev Fits : ℕ → Literals → Type 0
  Fits n c = (x : Literal) → holds x c ≡ true → (holds x (clause (node_at s n)) ≡ true) ⊎ (holds x (S n) ≡ true)

  abbrev FitsAt : ℕ → Type 0
  FitsAt n = (z : Cut) → n < length s → says n ≡ kept z → Fits n (standing b n)

  module _ (n : ℕ) (inside : n < length s) (here : ProperNode e rules s n (node_at s n)) (below : (m : ℕ) → m < n → FitsAt m) where
    takes : (m : ℕ) → stand_in b n ≡ stand_in b m → Fits n (standing b m) → Fits n (standing b n)
    unfolding standing
    takes m q g = rw q g

    module _ (p l r : ℕ) (c : Literals) (a : node_at s n ≡ step p l r c) where
      abbrev A : Literals
      A = clause (node_at s l)

      abbrev B : Literals
      B = clause (node_at s r)

      old : ProperNode e rules s n (step p l r c)
      old = rw a at here

      result : clause (node_at s n) ≡ resolvent p A B
      unfolding clause
      result = rw a old.5

      of_left : (z : Cut) → says l ≡ kept z → Fits l (standing b l)
      of_left z q = below l old.1 z (omega (arith, old.1)) q

      of_right : (z : Cut) → says r ≡ kept z → Fits r (standing b r)
      of_right z q = below r old.2 z (omega (arith, old.2)) q

      uncut-fits : (u v : Bool) → holds (plus p) (standing b l) ≡ u → holds (minus p) (standing b r) ≡ v
          → EdgesAllowed says S uncut p l r (S n) → ByWay b (cond u (cond v step_anew take_right) take_left) n p l r → Fits n (standing b n)
      unfolding standing clause
      uncut-fits true true hu hv g q = λ x t. rw result (
          elim (in-resolvent x p (standing b l) (standing b r) (rw (q.0, q.1) at t)) [
            | inl y ↦ from-left p A B (S n) (S l) x g.0.2 y.0 (of_left g.0.0 g.0.1 x y.1)
            | inr y ↦ from-right p A B (S n) (S r) x g.1.2 y.0 (of_right g.1.0 g.1.1 x y.1)
          ])
      uncut-fits true false hu hv g q = takes r q λ x t. rw result (
          from-right p A B (S n) (S r) x g.1.2 (λ y. false≢true (sym hv ∙ (rw y at t))) (of_right g.1.0 g.1.1 x t))
      uncut-fits false v hu hv g q = takes l q λ x t. rw result (
          from-left p A B (S n) (S l) x g.0.2 (λ y. false≢true (sym hu ∙ (rw y at t))) (of_left g.0.0 g.0.1 x t))

      step_fits : (z : Cut) → EdgesAllowed says S z p l r (S n) → Renewed b n (step p l r c) (kept z) → Fits n (standing b n)
      unfolding way_of
      step_fits cut_left g q =
          takes r q λ x t. rw result (past-left p A B (S n) (S r) x g.0 g.1.2 (of_right g.1.0 g.1.1 x t))
      step_fits cut_right g q =
          takes l q λ x t. rw result (past-right p A B (S n) (S l) x g.0 g.1.2 (of_left g.1.0 g.1.1 x t))
      step_fits uncut g q = uncut-fits (holds (plus p) (standing b l)) (holds (minus p) (standing b r)) refl refl g q

    node-fits : (m : Node) (z : Cut) → node_at s n ≡ m → LinkAllowed says S (link m) z (S n) → Renewed b n m (kept z) → Fits n (standing b n)
    unfolding standing
    node-fits (given line c) z a g q = λ x t. inl (rw a (rw (q.0, q.1) at t))
    node-fits (step p l r c) z a g q = step_fits p l r c a z g q

    fits_next : (z : Cut) → says n ≡ kept z → Fits n (standing b n)
    fits_next z q = node-fits (node_at s n) z refl (rw (link-at s n) at (allowed n z (rw (length-map s link) inside) q)) (rw q at (f.done n inside))

  -- every literal of a kept node's stand-in is one of the old clause or of the node's set
  pub standing-within : (n : ℕ) (z : Cut) → n < length s → says n ≡ kept z → (x : Literal) → holds x (standing b n) ≡ true
      → (holds x (clause (node_at s n)) ≡ true) ⊎ (holds x (S n) ≡ true)
  standing-within n z h q = by-rising FitsAt (λ i g y k p. fits_next i k (proper i y k p) g y p) n z h q
