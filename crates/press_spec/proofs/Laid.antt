-- The nodes of an order, laid out: proper, every node but the last used, and no more nodes or steps than there were.
use Prim.Native.Nat.{ℕ, suc, ◌+◌, ◌≤◌, ◌<◌, pred}
use mathlib.Core.Bool.{true, false, true≢false}
use mathlib.Core.Path.{◌≡◌, refl, sym, ap, ◌∙◌}
use mathlib.Core.Logic.{◌≢◌, inl, inr}
use mathlib.Core.List.{List, [], ◌∷◌, map-append}
use native.Mathlib.Omega.{arith}
use native.Mathlib.Decide.{ℕ_discrete}
use lib.ListN.{length}
use lib.Seq.{ext_get_or}
use borrow.Author.Tests.{eq-eqb, ne_eqb}
use Rattle.clause.specs.Clauses.{none}
use Rattle.sheet.specs.declared.edition.Edition.{Edition}
use Rattle.sheet.specs.Records.{Node, given, step, clause, node_at}
use Rattle.sheet.specs.Counts.{step_of, steps_of}
use Rattle.press_spec.specs.Links.{link, links, sink, Parents}
use Rattle.press_spec.specs.Trim.{uses_in, uses}
use Rattle.press_spec.specs.Order.{placed, number_in, renumber, laid, InOrder}
use Rattle.press_spec.specs.Press.{conclusion}
use Rattle.press_spec.proofs.Proper.{ProperNode, AllProper, AllUsed}
use Rattle.press_spec.proofs.Nodes.{length_more, node_at-before, node_at-end, link-at, uses-more, steps-more, all-proper-more}
use Rattle.press_spec.proofs.Trimmed.{uses-left, uses-right, used-parent}
use Rattle.press_spec.proofs.Ordered.{placed-none, placed-cases, placed-here, placed-there, UsedLater, Ordering, premises-placed}
use Rattle.press_spec.proofs.Counted.{sum_over, sum_below, sum_below-le, steps-below, order_le, order-fits}

-- ---- new numbers

number-here : (n : ℕ) (order : List ℕ) → number_in (n ∷ order) n ≡ length order
unfolding number_in
number-here n order = rw (eq-eqb n n refl)

number-there : (m n : ℕ) (order : List ℕ) → m ≢ n → number_in (n ∷ order) m ≡ number_in order m
unfolding number_in
number-there m n order h = rw (ne_eqb m n h)

placed-other : (m n : ℕ) (order : List ℕ) → m ≢ n → placed m (n ∷ order) ≡ true → placed m order ≡ true
placed-other m n order q h = elim (placed-cases m n order h) [ inl e ↦ absurd (q e) | inr k ↦ k ]

pub number-below : (m : ℕ) (order : List ℕ) → placed m order ≡ true → number_in order m < length order
number-below m [] h = absurd (placed-none m h)
number-below m (n ∷ order) h = elim (ℕ_discrete m n) [
  | yes q ↦ rw (q, number-here n order) (omega arith)
  | no q ↦ rw (number-there m n order q) (omega (arith, number-below m order (placed-other m n order q h)))
]

-- no two that are placed have one number
pub number-once : (order : List ℕ) (m n : ℕ) → placed m order ≡ true → placed n order ≡ true → number_in order m ≡ number_in order n → m ≡ n
number-once [] m n p q e = absurd (placed-none m p)
number-once (k ∷ order) m n p q e = elim (ℕ_discrete m k) [
  | yes a ↦ elim (ℕ_discrete n k) [
    | yes b ↦ a ∙ sym b
    | no b ↦
        let same : length order ≡ number_in order n = sym (number-here k order) ∙ rw a at e ∙ number-there n k order b in
        absurd (omega (arith, number-below n order (placed-other n k order b q)))
  ]
  | no a ↦ elim (ℕ_discrete n k) [
    | yes b ↦
        let same : number_in order m ≡ length order = sym (number-there m k order a) ∙ rw b at e ∙ number-here k order in
        absurd (omega (arith, number-below m order (placed-other m k order a p)))
    | no b ↦
        number-once order m n (placed-other m k order a p) (placed-other n k order b q)
        (sym (number-there m k order a) ∙ e ∙ number-there n k order b)
  ]
]

clause-renumber : (number : ℕ → ℕ) (m : Node) → clause (renumber number m) ≡ clause m
unfolding renumber clause
clause-renumber number (given line c) = refl
clause-renumber number (step p l r c) = refl

step-renumber : (number : ℕ → ℕ) (m : Node) → step_of (renumber number m) ≡ step_of m
unfolding renumber step_of
step-renumber number (given line c) = refl
step-renumber number (step p l r c) = refl

-- ---- the laid-out nodes

module _ (s : List Node) where
  pub length-laid : (order : List ℕ) → length (laid s order) ≡ length order
  unfolding laid
  length-laid [] = refl
  length-laid (n ∷ order) = length_more (laid s order) (renumber (number_in order) (node_at s n)) ∙ ap suc (length-laid order)

  laid-last : (n : ℕ) (order : List ℕ) → node_at (laid s (n ∷ order)) (length order) ≡ renumber (number_in order) (node_at s n)
  unfolding laid
  laid-last n order = rw (← (length-laid order)) (node_at-end (laid s order) (renumber (number_in order) (node_at s n)))

  laid-before : (n : ℕ) (order : List ℕ) (k : ℕ) → k < length order → node_at (laid s (n ∷ order)) k ≡ node_at (laid s order) k
  unfolding laid
  laid-before n order k h = node_at-before (laid s order) (renumber (number_in order) (node_at s n)) k (rw (length-laid order) h)

  -- under its new number a node has its clause
  pub clause-laid : (order : List ℕ) (m : ℕ) → placed m order ≡ true
      → clause (node_at (laid s order) (number_in order m)) ≡ clause (node_at s m)
  clause-laid [] m h = absurd (placed-none m h)
  clause-laid (n ∷ order) m h = elim (ℕ_discrete m n) [
    | yes q ↦ rw (q, number-here n order, laid-last n order) (clause-renumber (number_in order) (node_at s n))
    | no q ↦
        let k = placed-other m n order q h in
        rw (number-there m n order q, laid-before n order (number_in order m) (number-below m order k)) (clause-laid order m k)
  ]

  uses-laid : (n : ℕ) (order : List ℕ) (k : ℕ)
      → uses (links (laid s (n ∷ order))) k ≡ uses (links (laid s order)) k + uses_in k (link (renumber (number_in order) (node_at s n)))
  unfolding laid
  uses-laid n order k = rw (map-append link (laid s order) (renumber (number_in order) (node_at s n) ∷ [])) (uses-more (links (laid s order)) (link (renumber (number_in order) (node_at s n))) k)

  renumber-uses : (order : List ℕ) (m : ℕ) (x : Node) → 1 ≤ uses_in m (link x) → 1 ≤ uses_in (number_in order m) (link (renumber (number_in order) x))
  unfolding renumber
  renumber-uses order m (given line c) h = absurd (unfold uses_in in omega arith)
  renumber-uses order m (step p l r c) h = elim (used-parent m p l r h) [
    | inl e ↦ rw e (uses-left p (number_in order l) (number_in order r))
    | inr e ↦ rw e (uses-right p (number_in order l) (number_in order r))
  ]

  pub steps-laid : (order : List ℕ) → steps_of (laid s order) ≡ sum_over (λ n. step_of (node_at s n)) order
  unfolding laid sum_over
  steps-laid [] = unfold steps_of in refl
  steps-laid (n ∷ order) =
      omega (arith, steps-more (laid s order) (renumber (number_in order) (node_at s n)), step-renumber (number_in order) (node_at s n), steps-laid order)

module _ (s : List Node) (Q : ℕ → Type 0) where
  -- ---- proper

  module _ (e : Edition) (rules : List ℕ) (proper : (n : ℕ) → Q n → ProperNode e rules s n (node_at s n)) where
    renumber-proper : (order : List ℕ) (n : ℕ) (m : Node) → Parents (λ k. placed k order ≡ true) (link m) → ProperNode e rules s n m
        → ProperNode e rules (laid s order) (length (laid s order)) (renumber (number_in order) m)
    unfolding renumber
    renumber-proper order n (given line c) h d = d
    renumber-proper order n (step p l r c) h d =
        rw (length-laid s order, clause-laid s order l h.0, clause-laid s order r h.1)
        (d.0, number-below l order h.0, number-below r order h.1, d.3, d.4, d.5)

    pub laid-proper : (order : List ℕ) → InOrder (links s) Q order → AllProper e rules (laid s order)
    unfolding laid
    laid-proper [] o = λ n h. absurd (omega arith)
    laid-proper (n ∷ order) o =
        all-proper-more e rules (laid s order) (renumber (number_in order) (node_at s n)) (laid-proper order o.3)
        (renumber-proper order n (node_at s n) (rw (link-at s n) at o.2) (proper n o.0))

  -- ---- used, and the conclusion

  used-placed : (order : List ℕ) (m : ℕ) → UsedLater (links s) Q m order → placed m order ≡ true
  used-placed [] m h = absurd h
  used-placed (n ∷ order) m (inl h) = placed-there m n order h.1
  used-placed (n ∷ order) m (inr h) = placed-there m n order (used-placed order m h)

  -- one that is placed is not the one that comes new
  not_new : (n : ℕ) (order : List ℕ) (m : ℕ) → placed n order ≡ false → placed m order ≡ true → m ≢ n
  not_new n order m f t q = true≢false (sym t ∙ ap (λ (k : ℕ). placed k order) q ∙ f)

  used-uses : (order : List ℕ) → InOrder (links s) Q order → (m : ℕ) → UsedLater (links s) Q m order → 1 ≤ uses (links (laid s order)) (number_in order m)
  used-uses [] o m h = absurd h
  used-uses (n ∷ order) o m (inl h) =
      rw (number-there m n order (not_new n order m o.1 h.1))
      (omega (arith, uses-laid s n order (number_in order m), renumber-uses s order m (node_at s n) (rw (link-at s n) at h.0)))
  used-uses (n ∷ order) o m (inr h) =
      rw (number-there m n order (not_new n order m o.1 (used-placed order m h)))
      (omega (arith, uses-laid s n order (number_in order m), used-uses order o.3 m h))

  numbered : (order : List ℕ) → InOrder (links s) Q order → (k : ℕ) → k < length order → (m : ℕ) × (placed m order ≡ true) × (number_in order m ≡ k)
  numbered [] o k h = absurd (omega arith)
  numbered (n ∷ order) o k h = elim (ℕ_discrete k (length order)) [
    | yes q ↦ (n, placed-here n order, number-here n order ∙ sym q)
    | no q ↦
        let (m, t, y) = numbered order o.3 k (omega arith) in
        (m, placed-there m n order t, number-there m n order (not_new n order m o.1 t) ∙ y)
  ]

  -- ---- each under its number

  renumber-later : (n : ℕ) (order : List ℕ) → placed n order ≡ false → (x : Node) → Parents (λ k. placed k order ≡ true) (link x)
      → renumber (number_in (n ∷ order)) x ≡ renumber (number_in order) x
  unfolding renumber
  renumber-later n order f (given line c) h = refl
  renumber-later n order f (step p l r c) h =
      rw (number-there l n order (not_new n order l f h.0), number-there r n order (not_new n order r f h.1))

  pub laid-at : (order : List ℕ) → InOrder (links s) Q order → (m : ℕ) → placed m order ≡ true
      → node_at (laid s order) (number_in order m) ≡ renumber (number_in order) (node_at s m)
  laid-at [] o m h = absurd (placed-none m h)
  laid-at (n ∷ order) o m h = elim (ℕ_discrete m n) [
    | yes q ↦
        rw (q, number-here n order, laid-last s n order)
        (sym (renumber-later n order o.1 (node_at s n) (rw (link-at s n) at o.2)))
    | no q ↦
        let k = placed-other m n order q h in
        rw (number-there m n order q, laid-before s n order (number_in order m) (number-below m order k), laid-at order o.3 m k)
        (sym (renumber-later n order o.1 (node_at s m) (rw (link-at s m) at (premises-placed (links s) Q order o.3 m k))))
  ]

  -- as many nodes as an order has, each under its number, are the nodes laid out
  pub laid-whole : (order : List ℕ) → InOrder (links s) Q order → (t : List Node) → length t ≡ length order
      → ((m : ℕ) → placed m order ≡ true → node_at t (number_in order m) ≡ renumber (number_in order) (node_at s m)) → t ≡ laid s order
  unfolding node_at
  laid-whole order o t long f = ext_get_or (given 0 none) t (laid s order) (long ∙ sym (length-laid s order)) (λ k h.
      let (m, p, q) = numbered order o k (omega arith) in
      rw q at (f m p ∙ sym (laid-at order o m p)))

  module _ (from : ℕ) (order : List ℕ) (o : Ordering (links s) Q from order) where
    laid-length : length (laid s order) ≡ suc (length o.rest)
    laid-length = rw o.ends (length-laid s (from ∷ o.rest))

    pub laid-some : 1 ≤ length (laid s order)
    laid-some = omega (arith, laid-length)

    pub laid-concludes : conclusion (laid s order) ≡ clause (node_at s from)
    unfolding conclusion sink
    laid-concludes =
        let i : pred (length (laid s order)) ≡ length o.rest = omega (arith, laid-length) in
        rw (i, o.ends, laid-last s from o.rest) (clause-renumber (number_in o.rest) (node_at s from))

    last-number : number_in order from ≡ length o.rest
    last-number = rw o.ends (number-here from o.rest)

    pub laid-used : AllUsed (laid s order)
    laid-used k h =
        let (m, t, y) = numbered order o.each k (omega (arith, length-laid s order)) in
        elim (o.used m t) [
          | inl q ↦ absurd (let z : number_in order from ≡ k = rw q at y in omega (arith, laid-length, last-number))
          | inr u ↦ rw y at (used-uses order o.each m u)
        ]

  -- ---- no more than there were

  module _ (k : ℕ) (small : (n : ℕ) → Q n → n < k) where
    pub laid-fits : (order : List ℕ) → InOrder (links s) Q order → length (laid s order) ≤ k
    laid-fits order o = omega (arith, length-laid s order, order-fits (links s) Q k small order o)

    -- s' has k nodes, and a step wherever s has one
    pub laid-shorter : (order : List ℕ) → InOrder (links s) Q order → (s' : List Node) → length s' ≡ k
        → ((n : ℕ) → step_of (node_at s n) ≤ step_of (node_at s' n)) → steps_of (laid s order) ≤ steps_of s'
    laid-shorter order o s' q h =
        let f : ℕ → ℕ = λ n. step_of (node_at s n) in
        let g : ℕ → ℕ = λ n. step_of (node_at s' n) in
        let total : sum_below g k ≡ steps_of s' = rw (← q) (steps-below s') in
        omega (arith, steps-laid s order, order_le f (links s) Q k small order o, sum_below-le f g k (λ n i. h n))
