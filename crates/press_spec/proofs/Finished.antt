-- Any order that has all that a node reaches, each once and after its parents, ends with that node, and every other is used by a later one.
use Prim.Native.Nat.{ℕ, ◌≤◌}
use mathlib.Core.Bool.{true, false, true≢false}
use mathlib.Core.Path.{◌≡◌, refl, sym, ap, ◌∙◌}
use mathlib.Core.Logic.{◌⊎◌, inl, inr}
use mathlib.Core.List.{List, [], ◌∷◌}
use native.Mathlib.Omega.{arith}
use Rattle.press_spec.specs.Links.{Link, leaf, join, link_at, Parents}
use Rattle.press_spec.specs.Trim.{uses_in, Reaches, itself, left, right}
use Rattle.press_spec.specs.Order.{placed, InOrder}
use Rattle.press_spec.proofs.Trimmed.{uses-left, uses-right, used-parent}
use Rattle.press_spec.proofs.Ordered.{placed-none, placed-cases, placed-here, placed-there, premises-placed, UsedLater, Ordering}

-- an order of some nodes is an order of more
pub order-wider : (s : List Link) (P Q : ℕ → Type 0) → ((n : ℕ) → P n → Q n) → (order : List ℕ) → InOrder s P order → InOrder s Q order
order-wider s P Q f [] o = tt
order-wider s P Q f (n ∷ order) o = (f n o.0, o.1, o.2, order-wider s P Q f order o.3)

-- what is reached is in every set that has the start and is closed under parents
pub reached-in : (s : List Link) (Q : ℕ → Type 0) → ((n : ℕ) → Q n → Parents Q (link_at s n)) → (from : ℕ) → Q from → (n : ℕ) → Reaches s from n → Q n
reached-in s Q closed from q n itself = q
reached-in s Q closed from q n (left {n = m} {p} {l} {r} h e) = let b : Q l × Q r = rw e at (closed m (reached-in s Q closed from q m h)) in b.0
reached-in s Q closed from q n (right {n = m} {p} {l} {r} h e) = let b : Q l × Q r = rw e at (closed m (reached-in s Q closed from q m h)) in b.1

-- both parents of what is reached are reached
pub reached-closed : (s : List Link) (from n : ℕ) → Reaches s from n → Parents (Reaches s from) (link_at s n)
reached-closed s from n h = by (link_at s n) refl
  where
    by : (x : Link) → link_at s n ≡ x → Parents (Reaches s from) x
    by (leaf line) e = tt
    by (join p l r) e = (left h e, right h e)

-- what is reached is the start, or a parent of something reached
pub reached-used : (s : List Link) (from n : ℕ) → Reaches s from n → (n ≡ from) ⊎ ((m : ℕ) × Reaches s from m × (1 ≤ uses_in n (link_at s m)))
reached-used s from n itself = inl refl
reached-used s from n (left {n = m} {p} {l} {r} h e) = inr (m, h, rw e (uses-left p l r))
reached-used s from n (right {n = m} {p} {l} {r} h e) = inr (m, h, rw e (uses-right p l r))

module _ (s : List Link) (Q : ℕ → Type 0) where
  parent-placed : (n : ℕ) (order : List ℕ) (x : Link) → Parents (λ k. placed k order ≡ true) x → 1 ≤ uses_in n x → placed n order ≡ true
  parent-placed n order (leaf line) h u = absurd (unfold uses_in in omega arith)
  parent-placed n order (join p l r) h u = elim (used-parent n p l r u) [ inl q ↦ rw q h.0 | inr q ↦ rw q h.1 ]

  -- what a placed node uses is used later
  placed-uses : (order : List ℕ) → InOrder s Q order → (n m : ℕ) → placed m order ≡ true → 1 ≤ uses_in n (link_at s m) → UsedLater s Q n order
  placed-uses [] o n m h u = absurd (placed-none m h)
  placed-uses (k ∷ order) o n m h u = elim (placed-cases m k order h) [
    | inl q ↦ let v : 1 ≤ uses_in n (link_at s k) = rw q at u in inl (v, parent-placed n order (link_at s k) o.2 v)
    | inr y ↦ inr (placed-uses order o.3 n m y u)
  ]

  pub placed-in : (order : List ℕ) → InOrder s Q order → (n : ℕ) → placed n order ≡ true → Q n
  placed-in [] o n h = absurd (placed-none n h)
  placed-in (k ∷ order) o n h = elim (placed-cases n k order h) [ inl q ↦ rw q o.0 | inr y ↦ placed-in order o.3 n y ]

  used-placed : (order : List ℕ) (m : ℕ) → UsedLater s Q m order → placed m order ≡ true
  used-placed [] m h = absurd h
  used-placed (n ∷ order) m (inl h) = placed-there m n order h.1
  used-placed (n ∷ order) m (inr h) = placed-there m n order (used-placed order m h)

  -- no node stands before itself
  not-before : (k : ℕ) (order : List ℕ) → placed k order ≡ false → UsedLater s Q k (k ∷ order) → ⊥
  not-before k order f (inl h) = true≢false (sym h.1 ∙ f)
  not-before k order f (inr h) = true≢false (sym (used-placed order k h) ∙ f)

  pub finished : (from : ℕ) (order : List ℕ) → InOrder s Q order → ((n : ℕ) → placed n order ≡ true → Reaches s from n)
      → ((n : ℕ) → Reaches s from n → placed n order ≡ true) → Ordering s Q from order
  finished from [] o only all = absurd (placed-none from (all from itself))
  finished from (k ∷ order) o only all = record {
    rest = order;
    ends = elim (used k (placed-here k order)) [ inl q ↦ ap (λ (n : ℕ). n ∷ order) q | inr u ↦ absurd (not-before k order o.1 u) ];
    each = o;
    used = used;
  }
    where
      used : (n : ℕ) → placed n (k ∷ order) ≡ true → (n ≡ from) ⊎ UsedLater s Q n (k ∷ order)
      used n h = elim (reached-used s from n (only n h)) [
        | inl q ↦ inl q
        | inr d ↦ inr (placed-uses (k ∷ order) o n d.0 (all d.0 d.1) d.2)
      ]

  -- and conversely: an order that ends with a node has all that it reaches
  both-placed : (order : List ℕ) → InOrder s Q order → (m p l r : ℕ) → link_at s m ≡ join p l r → placed m order ≡ true
      → (placed l order ≡ true) × (placed r order ≡ true)
  both-placed order o m p l r e h = rw e at (premises-placed s Q order o m h)

  pub ordering-reached : (from : ℕ) (order : List ℕ) → Ordering s Q from order → (n : ℕ) → Reaches s from n → placed n order ≡ true
  ordering-reached from order o n itself = rw o.ends (placed-here from o.rest)
  ordering-reached from order o n (left {n = m} {p} {l} {r} h e) = (both-placed order o.each m p l r e (ordering-reached from order o m h)).0
  ordering-reached from order o n (right {n = m} {p} {l} {r} h e) = (both-placed order o.each m p l r e (ordering-reached from order o m h)).1
