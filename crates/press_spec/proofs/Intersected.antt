-- With `intersect`, a node's set is the intersection of what the uncut edges from reached steps hand it.
use Prim.Native.Nat.{ℕ, suc, ◌≤◌, ◌<◌}
use mathlib.Core.Bool.{true}
use mathlib.Core.Path.{◌≡◌, refl, sym, ◌∙◌}
use mathlib.Core.Logic.{◌≢◌, inl, inr}
use mathlib.Core.List.{List}
use native.Mathlib.Omega.{arith}
use native.Mathlib.Decide.{ℕ_discrete}
use lib.ListN.{length, get_or, set, replicate, length-set, length-replicate}
use lib.Seq.{get_or-set_same, get_or-set_other}
use Rattle.base.proofs.Folds.{fall-by}
use Rattle.base.proofs.Lists.{get_d-blank}
use Rattle.clause.specs.Clauses.{Literal, Literals, plus, minus, holds, adding, common}
use Rattle.press_spec.specs.Links.{Link, leaf, join, link_at}
use Rattle.press_spec.specs.Trim.{uses_from}
use Rattle.press_spec.specs.Recycle.{Reach, unreached, reached, intersect, hand, Cut, cut_left, cut_right, uncut, cut_of, hand_on, visit, recycle_turn, recycle, LinkHands, Hands}
use Rattle.press_spec.proofs.Nodes.{Falling}
use Rattle.press_spec.proofs.Literals.{common-of}
use Rattle.press_spec.proofs.Fair.{intersect-fair}
use Rattle.press_spec.proofs.Recycled.{hand-long, hand-other, recycle-hands}

-- x is in whatever set m has
abbrev pub Has : Literal → ℕ → List Reach → Type 0
Has x m table = (R : Literals) → get_or table m unreached ≡ reached R → holds x R ≡ true

hand-gets : (k : ℕ) (X : Literals) (table : List Reach) → k < length table
    → get_or (hand intersect k X table) k unreached ≡ reached (intersect k (get_or table k unreached) X)
unfolding hand
hand-gets k X table inside = get_or-set_same table k _ unreached inside

-- a set that is handed over keeps what it and the set before it have in common
pub hand-has : (x : Literal) (m k : ℕ) (X : Literals) (table : List Reach) → k < length table → Has x m table → (m ≡ k → holds x X ≡ true)
    → Has x m (hand intersect k X table)
unfolding intersect
hand-has x m k X table inside had is R q = elim (ℕ_discrete m k) [
  | yes y ↦ by (get_or table k unreached) refl y
  | no y ↦ had R (sym (hand-other intersect k X table m y) ∙ q)
]
  where
    by : (B : Reach) → get_or table k unreached ≡ B → m ≡ k → holds x R ≡ true
    by unreached e y =
        let u : get_or (hand intersect k X table) k unreached ≡ reached R = rw y at q in
        let v : get_or (hand intersect k X table) k unreached ≡ reached X = rw e at (hand-gets k X table inside) in
        let w : R ≡ X = cc in
        rw w (is y)
    by (reached B) e y =
        let u : get_or (hand intersect k X table) k unreached ≡ reached R = rw y at q in
        let v = rw e at (hand-gets k X table inside) in
        let w : R ≡ common B X = cc in
        rw w (common-of x B X (had B (rw y e)) (is y))

module _ (S₀ : Literals) (s : List Link) (earlier : Falling s) (from : ℕ) (inside : from < length s) where
  -- a node's set has whatever all the edges from i on hand it
  record Met (i : ℕ) (table : List Reach) : Type 0 where
    long : length table ≡ length s
    has : (m : ℕ) (x : Literal) → m ≢ from → ((n : ℕ) (X : Literals) → i ≤ n → Hands s table n m X → holds x X ≡ true) → Has x m table

  module _ (i : ℕ) (low : i ≤ from) (table : List Reach) (t : Met (suc i) table) where
    rests : Met i table
    rests = record { long = t.long; has = λ m x y f. t.has m x y (λ n X o h. f n X (omega arith) h) }

    module _ (p l r : ℕ) (a : link_at s i ≡ join p l r) (S : Literals) (e : get_or table i unreached ≡ reached S) where
      before : (l < i) × (r < i)
      before = rw a at (earlier i)

      room-left : l < length table
      room-left = rw t.long (omega (arith, before))

      room-right : r < length table
      room-right = rw t.long (omega (arith, before))

      -- only parents are handed anything, and they get no more than the common part
      hands : (table' : List Reach) → length table' ≡ length s
          → ((n : ℕ) → n ≢ l → n ≢ r → get_or table' n unreached ≡ get_or table n unreached)
          → ((m : ℕ) (x : Literal) → Has x m table → ((X : Literals) → LinkHands (join p l r) (reached S) m X → holds x X ≡ true) → Has x m table')
          → Met i table'
      hands table' z other g = record {
        long = z;
        has = λ m x y f. g m x
            (t.has m x y (λ n X o h. f n X (omega arith) (rw (other n (omega (arith, before)) (omega (arith, before))) h)))
            (λ X h. f i X (omega arith) (rw (other i (omega (arith, before)) (omega (arith, before)), a, e) h));
      }

      hand_on_lem : (z : Cut) → cut_of p S ≡ z → Met i (hand_on intersect z p l r S table)
      unfolding hand_on
      hand_on_lem cut_left q =
          hands (hand intersect r S table) (hand-long intersect r S table ∙ t.long)
          (λ n y w. hand-other intersect r S table n w)
          (λ m x had f. hand-has x m r S table room-right had (λ y. f S (rw q (y, refl))))
      hand_on_lem cut_right q =
          hands (hand intersect l S table) (hand-long intersect l S table ∙ t.long)
          (λ n y w. hand-other intersect l S table n y)
          (λ m x had f. hand-has x m l S table room-left had (λ y. f S (rw q (y, refl))))
      hand_on_lem uncut q =
          let X = adding (plus p) S in
          let Y = adding (minus p) S in
          let first = hand intersect l X table in
          let room : r < length first = rw (hand-long intersect l X table) room-right in
          hands (hand intersect r Y first) (hand-long intersect r Y first ∙ hand-long intersect l X table ∙ t.long)
          (λ n y w. hand-other intersect r Y first n w ∙ hand-other intersect l X table n y)
          (λ m x had f. hand-has x m r Y first room
          (hand-has x m l X table room-left had (λ y. f X (rw q (inl (y, refl)))))
          (λ y. f Y (rw q (inr (y, refl)))))

    visit-one : (m : Link) (R : Reach) → link_at s i ≡ m → get_or table i unreached ≡ R → Met i (visit intersect m R table)
    unfolding visit
    visit-one m unreached a e = rests
    visit-one (leaf line) (reached S) a e = rests
    visit-one (join p l r) (reached S) a e = hand_on_lem p l r a S e (cut_of p S) refl

  met_start : Met (suc from) (set (replicate (length s) unreached) from (reached S₀))
  met_start = record {
    long = length-set (replicate (length s) unreached) from (reached S₀) ∙ length-replicate (length s) unreached;
    has = λ m x y f R q.
        let u : get_or (replicate (length s) unreached) m unreached ≡ reached R =
        sym (get_or-set_other (replicate (length s) unreached) from m (reached S₀) unreached y) ∙ q in
        let v = get_d-blank (length s) m unreached in
        let z : ◌≡◌ {A = ℕ} 0 1 = cc in
        absurd (omega arith);
  }

  met : Met 0 (recycle intersect S₀ s from)
  unfolding recycle recycle_turn
  met = fall-by Met (recycle_turn intersect s) (suc from) _
      (λ i table h t. visit-one i (omega arith) table t (link_at s i) (get_or table i unreached) refl refl) met_start

  abbrev table : List Reach
  table = recycle intersect S₀ s from

  -- what a node's set is, exactly
  pub intersection : (m : ℕ) (R : Literals) → m ≢ from → get_or table m unreached ≡ reached R → (x : Literal)
      → (holds x R ≡ true → (n : ℕ) (X : Literals) → Hands s table n m X → holds x X ≡ true)
      × (((n : ℕ) (X : Literals) → Hands s table n m X → holds x X ≡ true) → holds x R ≡ true)
  intersection m R y q x = (
    (λ t n X h.
        let g = recycle-hands intersect S₀ s earlier from inside (intersect-fair (uses_from s from)) n m X h in
        let w : R ≡ g.0 = same g.1 in
        g.2 x (rw w at t)),
    (λ f. met.has m x y (λ n X o h. f n X h) R q),
  )
    where
      same : {Z : Literals} → get_or table m unreached ≡ reached Z → R ≡ Z
      same e = cc
