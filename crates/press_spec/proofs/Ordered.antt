-- The order: each node once, its premises before it, and every node but the last used by a later one. For any nodes closed under parents.
use Prim.Native.Nat.{ℕ, zero, suc, ◌≤◌, ◌<◌}
use mathlib.Core.Bool.{Bool, true, false, ◌||◌, true≢false, or-true}
use mathlib.Core.Path.{◌≡◌, refl, sym, ap, ◌∙◌}
use mathlib.Core.Logic.{◌⊎◌, inl, inr}
use mathlib.Core.List.{List, [], ◌∷◌}
use native.Mathlib.Omega.{arith}
use lib.Dec.{eqb}
use borrow.Author.Tests.{eqb-true, eq-eqb}
use Rattle.press_spec.specs.Links.{Link, leaf, join, link_at, Parents}
use Rattle.press_spec.specs.Trim.{uses_in, uses_from}
use Rattle.press_spec.specs.Order.{placed, right_first, in_turn, premises, place, order_from, InOrder}
use Rattle.press_spec.proofs.Nodes.{Falling}
use Rattle.press_spec.proofs.Trimmed.{uses-left, uses-right}

-- ---- what is placed

pub placed-none : (n : ℕ) → placed n [] ≡ true → ⊥
unfolding placed
placed-none n h = true≢false (sym h)

pub placed-cases : (m n : ℕ) (order : List ℕ) → placed m (n ∷ order) ≡ true → (m ≡ n) ⊎ (placed m order ≡ true)
unfolding placed
placed-cases m n order = by (eqb m n) refl
  where
    by : (t : Bool) → eqb m n ≡ t → (t || placed m order) ≡ true → (m ≡ n) ⊎ (placed m order ≡ true)
    by true q h = inl (eqb-true m n q)
    by false q h = inr h

pub placed-here : (n : ℕ) (order : List ℕ) → placed n (n ∷ order) ≡ true
unfolding placed
placed-here n order = ap (λ (t : Bool). t || placed n order) (eq-eqb n n refl)

pub placed-there : (m n : ℕ) (order : List ℕ) → placed m order ≡ true → placed m (n ∷ order) ≡ true
unfolding placed
placed-there m n order h = ap (λ (t : Bool). eqb m n || t) h ∙ or-true (eqb m n)

more-placed : (n : ℕ) (order : List ℕ) (x : Link) → Parents (λ k. placed k order ≡ true) x → Parents (λ k. placed k (n ∷ order) ≡ true) x
more-placed n order (leaf line) h = tt
more-placed n order (join p l r) h = (placed-there l n order h.0, placed-there r n order h.1)

-- the premises of one that is placed are placed
pub premises-placed : (s : List Link) (Q : ℕ → Type 0) (order : List ℕ) → InOrder s Q order → (m : ℕ) → placed m order ≡ true
    → Parents (λ k. placed k order ≡ true) (link_at s m)
premises-placed s Q [] o m h = absurd (placed-none m h)
premises-placed s Q (n ∷ order) o m h = more-placed n order (link_at s m) (elim (placed-cases m n order h) [
  | inl e ↦ rw e o.2
  | inr k ↦ premises-placed s Q order o.3 m k
])

not-placed : (n : ℕ) (order : List ℕ) → (placed n order ≡ true → ⊥) → placed n order ≡ false
not-placed n order h = by (placed n order) refl
  where
    by : (t : Bool) → placed n order ≡ t → t ≡ false
    by true q = absurd (h q)
    by false q = refl

-- ---- orders

module _ (s : List Link) (Q : ℕ → Type 0) where
  -- a node that was placed later uses m
  abbrev pub UsedLater : ℕ → List ℕ → Type 0
  UsedLater m [] = ⊥
  UsedLater m (n ∷ order) = ((1 ≤ uses_in m (link_at s n)) × (placed m order ≡ true)) ⊎ UsedLater m order

  -- an order that ends with `from`, in which each other node is used by a later one
  pub record Ordering (from : ℕ) (order : List ℕ) : Type 0 where
    pub rest : List ℕ
    pub ends : order ≡ from ∷ rest
    pub each : InOrder s Q order
    pub used : (n : ℕ) → placed n order ≡ true → (n ≡ from) ⊎ UsedLater n order

  -- what it means to place n
  pub record Placing (n : ℕ) (old new : List ℕ) : Type 0 where
    pub order : InOrder s Q new
    pub here : placed n new ≡ true
    pub grows : (m : ℕ) → placed m old ≡ true → placed m new ≡ true
    pub serves : (m : ℕ) → UsedLater m old → UsedLater m new
    pub bound : (m : ℕ) → placed m new ≡ true → (m ≤ n) ⊎ (placed m old ≡ true)
    pub fresh : (m : ℕ) → placed m new ≡ true → (m ≡ n) ⊎ (UsedLater m new ⊎ (placed m old ≡ true))

  alone : (n : ℕ) (old : List ℕ) → InOrder s Q old → Q n → placed n old ≡ false → Parents (λ k. placed k old ≡ true) (link_at s n)
      → Placing n old (n ∷ old)
  alone n old o q new h = record {
    order = (q, new, h, o);
    here = placed-here n old;
    grows = λ m k. placed-there m n old k;
    serves = λ m k. inr k;
    bound = λ m k. elim (placed-cases m n old k) [ inl e ↦ inl (omega arith) | inr y ↦ inr y ];
    fresh = λ m k. elim (placed-cases m n old k) [ inl e ↦ inl e | inr y ↦ inr (inr y) ];
  }

  -- the node itself, after its premises a and b
  then-itself : (n a b : ℕ) (old one two : List ℕ) → Placing a old one → Placing b one two → a < n → b < n → Q n → placed n old ≡ false
      → 1 ≤ uses_in a (link_at s n) → 1 ≤ uses_in b (link_at s n) → Parents (λ k. placed k two ≡ true) (link_at s n) → Placing n old (n ∷ two)
  then-itself n a b old one two f g ha hb q new na nb h = record {
    order = (q, not-placed n two absent, h, g.order);
    here = placed-here n two;
    grows = λ m k. placed-there m n two (g.grows m (f.grows m k));
    serves = λ m k. inr (g.serves m (f.serves m k));
    bound = λ m k. elim (placed-cases m n two k) [ inl e ↦ inl (omega arith) | inr y ↦ bounded m y ];
    fresh = λ m k. elim (placed-cases m n two k) [ inl e ↦ inl e | inr y ↦ inr (after m y (g.fresh m y)) ];
  }
    where
      bounded : (m : ℕ) → placed m two ≡ true → (m ≤ n) ⊎ (placed m old ≡ true)
      bounded m k = elim (g.bound m k) [
        | inl y ↦ inl (omega arith)
        | inr y ↦ elim (f.bound m y) [ inl w ↦ inl (omega arith) | inr w ↦ inr w ]
      ]

      absent : placed n two ≡ true → ⊥
      absent k = elim (g.bound n k) [
        | inl y ↦ omega arith
        | inr y ↦ elim (f.bound n y) [ inl w ↦ omega arith | inr w ↦ true≢false (sym w ∙ new) ]
      ]

      after : (m : ℕ) → placed m two ≡ true → (m ≡ b) ⊎ (UsedLater m two ⊎ (placed m one ≡ true))
          → UsedLater m (n ∷ two) ⊎ (placed m old ≡ true)
      after m k (inl e) = inl (inl (rw e nb, k))
      after m k (inr (inl u)) = inl (inr u)
      after m k (inr (inr u)) = elim (f.fresh m u) [
        | inl e ↦ inl (inl (rw e na, k))
        | inr d ↦ elim d [ inl y ↦ inl (inr (g.serves m y)) | inr y ↦ inr y ]
      ]

-- ---- placing

module _ (s : List Link) (count : ℕ → ℕ) where
  abbrev by_depth : ℕ → ℕ → List ℕ → List ℕ
  by_depth depth = λ m o. place s count depth m o

  module _ (earlier : Falling s) where
    module _ (Q : ℕ → Type 0) (closed : (n : ℕ) → Q n → Parents Q (link_at s n)) where
      abbrev Places : ℕ → (ℕ → List ℕ → List ℕ) → Type 0
      Places depth go = (n : ℕ) (old : List ℕ) → n < depth → Q n → InOrder s Q old → Placing s Q n old (go n old)

      module _ (go : ℕ → List ℕ → List ℕ) (depth : ℕ) (rec : Places depth go) (n : ℕ) (old : List ℕ) (h : n ≤ depth) (q : Q n)
          (new : placed n old ≡ false) (o : InOrder s Q old) where
        premises-placing : (m : Link) → link_at s n ≡ m → Placing s Q n old (n ∷ premises count go m old)
        unfolding premises in_turn
        premises-placing (leaf line) a = alone s Q n old o q new (rw a tt)
        premises-placing (join p l r) a = by (right_first count l r)
          where
            below : (l < n) × (r < n)
            below = rw a at (earlier n)

            both : Q l × Q r
            both = rw a at (closed n q)

            left : 1 ≤ uses_in l (link_at s n)
            left = rw a (uses-left p l r)

            right : 1 ≤ uses_in r (link_at s n)
            right = rw a (uses-right p l r)

            by : (u : Bool) → Placing s Q n old (n ∷ in_turn u go l r old)
            by true =
                let f = rec r old (omega (arith, below)) both.1 o in
                let g = rec l (go r old) (omega (arith, below)) both.0 f.order in
                then-itself s Q n r l old (go r old) (go l (go r old)) f g below.1 below.0 q new right left
                (rw a (g.here, g.grows r f.here))
            by false =
                let f = rec l old (omega (arith, below)) both.0 o in
                let g = rec r (go l old) (omega (arith, below)) both.1 f.order in
                then-itself s Q n l r old (go l old) (go r (go l old)) f g below.0 below.1 q new left right
                (rw a (g.grows l f.here, g.here))

      -- one that is placed stays where it is, and any other comes after its premises
      placing-next : (depth : ℕ) → Places depth (by_depth depth) → Places (suc depth) (by_depth (suc depth))
      unfolding place
      placing-next depth rec n old h q o = by (placed n old) refl
        where
          by : (u : Bool) → placed n old ≡ u → Placing s Q n old (place s count (suc depth) n old)
          by true e = rw (e, place) (record {
            order = search;
            here = e;
            grows = λ m k. k;
            serves = λ m k. k;
            bound = λ m k. inr k;
            fresh = λ m k. inr (inr k);
          })
          by false e = rw (e, place) (premises-placing (by_depth depth) depth rec n old (omega arith) q e o (link_at s n) refl)

      placing : (depth : ℕ) → Places depth (by_depth depth)
      placing zero = λ n old h q o. absurd (omega arith)
      placing (suc depth) = placing-next depth (placing depth)

      pub place-placing : (depth n : ℕ) (old : List ℕ) → n < depth → Q n → InOrder s Q old → Placing s Q n old (place s count depth n old)
      place-placing depth n old h q o = placing depth n old h q o

  -- ---- placing, said of the definition

  pub place-old : (depth n : ℕ) (o : List ℕ) → placed n o ≡ true → place s count (suc depth) n o ≡ o
  unfolding place
  place-old depth n o q = rw (q, place)

  pub place-new : (depth n : ℕ) (o : List ℕ) → placed n o ≡ false
      → place s count (suc depth) n o ≡ n ∷ premises count (λ m o. place s count depth m o) (link_at s n) o
  unfolding place
  place-new depth n o q = rw (q, place)

-- ---- the order from a node

module _ (s : List Link) (earlier : Falling s) (Q : ℕ → Type 0) (closed : (n : ℕ) → Q n → Parents Q (link_at s n))
    (from : ℕ) (start : Q from) where
  placing-from : Placing s Q from [] (order_from s from)
  unfolding order_from
  placing-from = place-placing s (uses_from s from) earlier Q closed (suc from) from [] (omega arith) start tt

  top : (rest : List ℕ) × (order_from s from ≡ from ∷ rest)
  unfolding order_from place placed
  top = (_, refl)

  pub order_from-ends : Ordering s Q from (order_from s from)
  order_from-ends = record {
    rest = top.0;
    ends = top.1;
    each = placing-from.order;
    used = λ n h. elim (placing-from.fresh n h) [
      | inl k ↦ inl k
      | inr d ↦ elim d [ inl k ↦ inr k | inr k ↦ absurd (placed-none n k) ]
    ];
  }
