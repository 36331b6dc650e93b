-- Placing in a table: what one store makes of the order that stands there, and what a call of `place` asks and gives.
use Prim.Native.Nat.{ℕ, zero, suc, ◌+◌, ◌≤◌, ◌<◌}
use mathlib.Core.Path.{◌≡◌, refl, sym, ap, ◌∙◌}
use mathlib.Core.Bool.{Bool, true, false, cond}
use mathlib.Core.List.{List, ◌∷◌}
use native.Mathlib.Omega.{arith}
use native.Mathlib.Decide.{ℕ_discrete}
use lib.ListN.{length, get_or, set}
use Rattle.std.proofs.Common.{Option, None, Some, is_some}
use lib.Seq.{get_or-set_same, get_or-set_other}
use borrow.Author.Tests.{lt-ltb, le-ltb, eq-eqb, ne_eqb}
use Rattle.base.proofs.Lists.{cond_both}
use Rattle.sheet.specs.Editions.{capacity}
use Rattle.sheet.specs.declared.NodeNo.{NodeNo}
use Rattle.press_nodes.specs.declared.link.Link.{Link as CodeLink}
use Rattle.press_nodes.specs.Tables.{links_in, Links, Sound}
use Rattle.press_nodes.specs.Numbers.{number_in as code_in, numbers_in}
use Rattle.press_spec.specs.Order.{placed, right_first, in_turn, premises, place, number_in}
use Rattle.press_spec.specs.Links.{Link, leaf, join, link_at, Parents}
use Rattle.press_order.specs.Placing.{Numbered, Stands, Orderly, Placing}
use Rattle.press_spec.proofs.Nodes.{falls-further}
use Rattle.press_nodes.proofs.Tables.{links-falling}
use Rattle.press_nodes.proofs.Numbers.{numbers-length, numbers-set, numbers-at, some-suc}
use Rattle.press_spec.proofs.Ordered.{place-old, place-new, place-placing}
use Rattle.press_spec.proofs.Counted.{order-fits}

-- ---- the premise that goes first

module _ (t : List ℕ) {l r i j : ℕ} (p : i ≡ l) (q : j ≡ r) (x y : ℕ) where
  pub right-goes : get_or t i 0 < get_or t j 0 → x ≡ cond (right_first (λ m. get_or t m 0) l r) x y
  unfolding right_first
  right-goes h = rw (← p, ← q, lt-ltb (get_or t i 0) (get_or t j 0) h)

  pub left-goes : get_or t j 0 ≤ get_or t i 0 → y ≡ cond (right_first (λ m. get_or t m 0) l r) x y
  unfolding right_first
  left-goes h = rw (← p, ← q, le-ltb (get_or t i 0) (get_or t j 0) h)

-- ---- the order that stands in the table

pub stands-more : {numbers order : List ℕ} {n i count : ℕ} → i ≡ n → n < length numbers → Stands numbers count order
    → Stands (set numbers i (count + 1)) (count + 1) (n ∷ order)
unfolding placed number_in
stands-more {numbers} {order} {n} {i} {count} same h f = record {
  numbered = λ m.
      let more : count + 1 ≡ suc (length order) = omega (arith, f.counts) in
      elim (ℕ_discrete m n) [
        | yes e ↦ rw (same, e, eq-eqb n n refl, more) (get_or-set_same numbers n (suc (length order)) 0 h)
        | no e ↦ rw (same, ne_eqb m n e) (get_or-set_other numbers n m (count + 1) 0 e ∙ f.numbered m)
      ];
  counts = omega (arith, f.counts);
}

pub stands-next : (t : List (Option NodeNo)) {order : List ℕ} {n i : ℕ} (k : NodeNo) → i ≡ n → n < length t → Stands (numbers_in t) k.0 order
    → Stands (numbers_in (set t i (Some k))) (k.0 + 1) (n ∷ order)
stands-next t {order} {n} {i} k same h f =
    let more : suc k.0 ≡ k.0 + 1 = omega arith in
    rw (numbers-set t i n (Some k) same, some-suc (Some k) k refl, more) (stands-more refl (rw (numbers-length t) h) f)

-- ---- the entry of a node

some-above : (x : Option NodeNo) → true ≡ is_some x → 1 ≤ code_in x
unfolding code_in
some-above None e = grind arith
some-above (Some k) e = omega arith

none-nought : (x : Option NodeNo) → false ≡ is_some x → code_in x ≡ 0
unfolding code_in
none-nought None e = refl
none-nought (Some k) e = grind arith

module _ (t : List (Option NodeNo)) (n i : ℕ) (same : i ≡ n) (h : n < length t) where
  pub entry-some : true ≡ is_some (get_or t i None) → 1 ≤ get_or (numbers_in t) n 0
  entry-some e = rw (← numbers-at t i n None same h) (some-above (get_or t i None) e)

  pub entry-none : false ≡ is_some (get_or t i None) → get_or (numbers_in t) n 0 ≡ 0
  entry-none e = rw (← numbers-at t i n None same h) (none-nought (get_or t i None) e)

  pub entry-is : (k : NodeNo) → get_or t i None ≡ Some k → get_or (numbers_in t) n 0 ≡ suc k.0
  entry-is k e = sym (numbers-at t i n None same h) ∙ some-suc (get_or t i None) k e

module _ (numbers order : List ℕ) (n : ℕ) (f : Numbered numbers order) where
  pub by_place : (u : Bool) → placed n order ≡ u → get_or numbers n 0 ≡ cond u (suc (number_in order n)) 0
  by_place u e = rw e at (f n)

  pub has-place : 1 ≤ get_or numbers n 0 → placed n order ≡ true
  has-place h = by (placed n order) refl
    where
      by : (u : Bool) → placed n order ≡ u → u ≡ true
      by true q = refl
      by false q = absurd (omega (arith, by_place false q))

  no_place : get_or numbers n 0 ≡ 0 → placed n order ≡ false
  no_place h = by (placed n order) refl
    where
      by : (u : Bool) → placed n order ≡ u → u ≡ false
      by true q = absurd (omega (arith, by_place true q))
      by false q = refl

-- ---- sound tables

module _ (h : List CodeLink) (tables : Links h) where
  -- the nodes are closed under parents
  pub links-closed : (n : ℕ) → n < length h → Parents (λ k. k < length h) (link_at (links_in h) n)
  links-closed n i = falls-further n (length h) (link_at (links_in h) n) (omega arith) (links-falling tables n)

-- ---- what placing makes of an order

in-turn : (u : Bool) (go : ℕ → List ℕ → List ℕ) (l r : ℕ) (o : List ℕ) → go (cond u l r) (go (cond u r l) o) ≡ in_turn u go l r o
unfolding in_turn
in-turn true go l r o = refl
in-turn false go l r o = refl

module _ (s : List Link) (t : List ℕ) where
  abbrev uses : ℕ → ℕ
  uses m = get_or t m 0

  -- from one table and its count to the next, node n is placed
  abbrev pub Places : ℕ → List ℕ → ℕ → List ℕ → ℕ → Type 0
  Places n numbers count numbers' count' =
      (order : List ℕ) (d : ℕ) → Stands numbers count order → n < d → Stands numbers' count' (place s (λ m. get_or t m 0) d n order)

-- the entry of node n, when a call may place it
module _ {h : List CodeLink} {t : List ℕ} {n count : ℕ} (table : List (Option NodeNo)) (P : Placing h t (numbers_in table) n count) where
  pub has-entry : n < length table
  has-entry = omega (arith, P.inside, P.long, numbers-length table)

  module _ {i : ℕ} (same : i ≡ n) where
    pub placed-before : true ≡ is_some (get_or table i None) → 1 ≤ get_or (numbers_in table) n 0
    placed-before = entry-some table n i same has-entry

    pub not-placed : false ≡ is_some (get_or table i None) → get_or (numbers_in table) n 0 ≡ 0
    not-placed = entry-none table n i same has-entry

module _ {h : List CodeLink} {t numbers : List ℕ} {n count : ℕ} (P : Placing h t numbers n count) where
  abbrev s : List Link
  s = links_in h

  -- the order that is made of the one that stands there
  abbrev made : ℕ → List ℕ
  made m = place s (uses s t) (suc m) m P.order

  made_in : (m : ℕ) → m < length h → Orderly h (made m)
  made_in m i =
      (place-placing s (uses s t) (links-falling P.tables) (λ k. k < length h) (links-closed h P.tables) (suc m) m P.order (omega arith) i P.orderly).order

  -- a call for a smaller node
  pub asks-first : (x : ℕ) → x < n → Placing h t numbers x count
  asks-first x i = record {
    tables = P.tables;
    inside = omega (arith, P.inside);
    counted = P.counted;
    long = P.long;
    order = P.order;
    orderly = P.orderly;
    stands = P.stands;
  }

  -- another call, after this one
  pub asks-next : (numbers₁ : List ℕ) (count₁ y : ℕ) → Places s t n numbers count numbers₁ count₁ → length numbers₁ ≡ length numbers → y < length h
      → Placing h t numbers₁ y count₁
  asks-next numbers₁ count₁ y m long i = record {
    tables = P.tables;
    inside = i;
    counted = P.counted;
    long = long ∙ P.long;
    order = made n;
    orderly = made_in n P.inside;
    stands = m P.order (suc n) P.stands (omega arith);
  }

  -- there is room for n
  pub made-fits : (numbers₁ : List ℕ) (count₁ : ℕ) (o : List ℕ) → Stands numbers₁ count₁ o → made n ≡ n ∷ o → count₁ < capacity
  made-fits numbers₁ count₁ o f e =
      omega (
        arith,
        f.counts,
        ap length e,
        order-fits s (λ k. k < length h) (length h) (λ i o. o) (made n) (made_in n P.inside),
        P.tables.few,
      )

  pub places-old : 1 ≤ get_or numbers n 0 → Places s t n numbers count numbers count
  places-old q order zero f o = absurd (omega arith)
  places-old q order (suc d) f o = rw (place-old s (uses s t) d n order (has-place numbers order n f.numbered q)) f

  module _ (z : get_or numbers n 0 ≡ 0) where
    new-place : (order : List ℕ) (d : ℕ) → Stands numbers count order
        → place s (uses s t) (suc d) n order ≡ n ∷ premises (uses s t) (λ m o. place s (uses s t) d m o) (link_at s n) order
    new-place order d f = place-new s (uses s t) d n order (no_place numbers order n f.numbered z)

    module _ {line : ℕ} (e : link_at s n ≡ leaf line) where
      leaf-made : (order : List ℕ) (d : ℕ) → Stands numbers count order → place s (uses s t) (suc d) n order ≡ n ∷ order
      unfolding premises
      leaf-made order d f = new-place order d f ∙ rw e

      pub leaf-fits : count < capacity
      leaf-fits = made-fits numbers count P.order P.stands (leaf-made P.order n P.stands)

      pub places-leaf : {numbers' : List ℕ} {count' : ℕ} → ((order : List ℕ) → Stands numbers count order → Stands numbers' count' (n ∷ order))
          → Places s t n numbers count numbers' count'
      places-leaf put order zero f o = absurd (omega arith)
      places-leaf put order (suc d) f o = rw (leaf-made order d f) (put order f)

    -- node n is a step of l and r
    module _ {p l r : ℕ} (e : link_at s n ≡ join p l r) where
      sound : Sound n (join p l r)
      sound = rw e at (P.tables.sound n P.inside)

      pub left-inside : l < length t
      left-inside = omega (arith, sound.1, P.inside, P.counted)

      pub right-inside : r < length t
      right-inside = omega (arith, sound.2, P.inside, P.counted)

      module _ {x y : ℕ} (first : x ≡ cond (right_first (λ m. get_or t m 0) l r) r l) (second : y ≡ cond (right_first (λ m. get_or t m 0) l r) l r) where
        pub first_below : x < n
        first_below = rw first (cond_both (λ m. m < n) (right_first (λ m. get_or t m 0) l r) r l sound.2 sound.1)

        pub second_below : y < n
        second_below = rw second (cond_both (λ m. m < n) (right_first (λ m. get_or t m 0) l r) l r sound.1 sound.2)

        step-made : (order : List ℕ) (d : ℕ) → Stands numbers count order
            → place s (uses s t) (suc d) n order ≡ n ∷ place s (uses s t) d y (place s (uses s t) d x order)
        unfolding premises
        step-made order d f =
            let go : ℕ → List ℕ → List ℕ = λ m o. place s (uses s t) d m o in
            let turns : go y (go x order) ≡ in_turn (right_first (uses s t) l r) go l r order = rw (first, second) (in-turn (right_first (uses s t) l r) go l r order) in
            new-place order d f ∙ rw e (ap (λ (z : List ℕ). n ∷ z) (sym turns))

        module _ {numbers₁ numbers₂ : List ℕ} {count₁ count₂ : ℕ}
            (Placed-first : Places s t x numbers count numbers₁ count₁) (placed-second : Places s t y numbers₁ count₁ numbers₂ count₂) where
          both : (order : List ℕ) (d : ℕ) → Stands numbers count order → n < suc d
              → Stands numbers₂ count₂ (place s (uses s t) d y (place s (uses s t) d x order))
          both order d f o = placed-second _ d (Placed-first order d f (omega (arith, first_below))) (omega (arith, second_below))

          pub step_fits : count₂ < capacity
          step_fits = made-fits numbers₂ count₂ _ (both P.order n P.stands (omega arith)) (step-made P.order n P.stands)

          pub places-step : {numbers' : List ℕ} {count' : ℕ}
              → ((order : List ℕ) → Stands numbers₂ count₂ order → Stands numbers' count' (n ∷ order))
              → Places s t n numbers count numbers' count'
          places-step put order zero f o = absurd (omega arith)
          places-step put order (suc d) f o = rw (step-made order d f) (put _ (both order d f o))
