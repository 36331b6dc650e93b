-- The walk down that recycles pivots gives sets and cuts that are Allowed, for every fair way to fit a set to a node.
use Prim.Native.Nat.{ℕ, suc, ◌+◌, ◌≤◌, ◌<◌}
use mathlib.Core.Bool.{Bool, true, false, cond}
use mathlib.Core.Path.{◌≡◌, refl, sym, ◌∙◌}
use mathlib.Core.Logic.{◌≢◌, inl, inr}
use mathlib.Core.List.{List}
use native.Mathlib.Omega.{arith}
use native.Mathlib.Decide.{ℕ_discrete}
use lib.ListN.{length, get_or, set, replicate, length-set, length-replicate}
use lib.Seq.{get_or-set_same, get_or-set_other}
use Rattle.base.proofs.Folds.{fall-by}
use Rattle.base.proofs.Lists.{get_d-blank}
use Rattle.clause.specs.Clauses.{Literals, plus, minus, none, holds, adding, Within}
use Rattle.press_spec.specs.Links.{Link, leaf, join, link_at}
use Rattle.press_spec.specs.Trim.{trim, uses_in, uses_from}
use Rattle.press_spec.specs.Recycle.{Reach, unreached, reached, Fit, hand, Cut, cut_left, cut_right, uncut, cut_of, hand_on, visit, recycle_turn, recycle, kept, fate, fates, EdgeHands, LinkHands, Hands}
use Rattle.press_spec.proofs.Nodes.{Falling}
use Rattle.press_spec.proofs.Fair.{Fair}
use Rattle.press_spec.proofs.Trimmed.{Marked, trim-keeps, trim-closed, uses_after, uses-fewer, uses-all, uses-here, uses-left, uses-right, uses-both}
use Rattle.press_spec.proofs.Rebuilt.{IsKept}
use Rattle.press_spec.proofs.Allowed.{Gets, EdgesAllowed, LinkAllowed, Allowed}

-- ---- what the table says of a node

abbrev pub Handed : List Reach → ℕ → Literals → Type 0
Handed table n X = (R : Literals) × (get_or table n unreached ≡ reached R) × Within R X

abbrev HandedOn : List Reach → Cut → ℕ → ℕ → ℕ → Literals → Type 0
HandedOn table cut_left p l r S = Handed table r S
HandedOn table cut_right p l r S = Handed table l S
HandedOn table uncut p l r S = Handed table l (adding (plus p) S) × Handed table r (adding (minus p) S)

abbrev Visited : List Reach → Link → Literals → Type 0
Visited table (leaf line) S = Unit {0}
Visited table (join p l r) S = HandedOn table (cut_of p S) p l r S

-- whatever a node was handed, it still has no more than that
abbrev Tighter : List Reach → List Reach → Type 0
Tighter table table' = (n : ℕ) (X : Literals) → Handed table n X → Handed table' n X

visited-keeps : (table table' : List Reach) → Tighter table table' → (m : Link) (S : Literals) → Visited table m S → Visited table' m S
visited-keeps table table' tight (leaf line) S g = tt
visited-keeps table table' tight (join p l r) S g = by (cut_of p S) g
  where
    by : (z : Cut) → HandedOn table z p l r S → HandedOn table' z p l r S
    by cut_left h = tight r S h
    by cut_right h = tight l S h
    by uncut h = (tight l (adding (plus p) S) h.0, tight r (adding (minus p) S) h.1)

module _ (fit : Fit) (n : ℕ) (X : Literals) (table : List Reach) where
  pub hand-long : length (hand fit n X table) ≡ length table
  unfolding hand
  hand-long = length-set table n _

  pub hand-other : (k : ℕ) → k ≢ n → get_or (hand fit n X table) k unreached ≡ get_or table k unreached
  unfolding hand
  hand-other k h = get_or-set_other table n k _ unreached h

  module _ (count : ℕ → ℕ) (fair : Fair count fit) (inside : n < length table) where
    hand-gets : Handed (hand fit n X table) n X
    unfolding hand
    hand-gets = (fit n (get_or table n unreached) X, get_or-set_same table n _ unreached inside, fair.once n (get_or table n unreached) X)

    hand-tightens : ((R : Literals) → get_or table n unreached ≡ reached R → 2 ≤ count n) → Tighter table (hand fit n X table)
    unfolding hand
    hand-tightens twice k Y g = elim (ℕ_discrete k n) [
      | yes q ↦
          let before : get_or table n unreached ≡ reached g.0 = rw (← q) g.1 in (
            fit n (get_or table n unreached) X,
            rw q (get_or-set_same table n _ unreached inside),
            λ x t. g.2 x (fair.again n g.0 X (twice g.0 before) x (rw before at t)),
          )
      | no q ↦ (g.0, get_or-set_other table n k _ unreached q ∙ g.1, g.2)
    ]

-- ---- the walk from `from` down

module _ (fit : Fit) (S₀ : Literals) (s : List Link) (earlier : Falling s) (from : ℕ) (inside : from < length s)
    (fair : Fair (uses_from s from) fit) where
  abbrev later : ℕ → ℕ → ℕ
  later i n = uses_after s (trim s from) i n

  uses-later : (i n : ℕ) → later i n ≤ uses_from s from n
  unfolding uses_from
  uses-later i n = uses-all s (trim s from) i n

  -- the nodes from i on are visited; a node below i that is reached is a parent of one of them
  record Walked (i : ℕ) (table : List Reach) : Type 0 where
    long : length table ≡ length s
    start : get_or table from unreached ≡ reached S₀
    visited : (n : ℕ) (S : Literals) → i ≤ n → get_or table n unreached ≡ reached S → Visited table (link_at s n) S
    marked : (n : ℕ) (S : Literals) → get_or table n unreached ≡ reached S → Marked (trim s from) n
    named : (n : ℕ) (S : Literals) → n < i → n ≢ from → get_or table n unreached ≡ reached S → 1 ≤ later i n

  module _ (i : ℕ) (low : i ≤ from) (table : List Reach) (t : Walked (suc i) table) where
    -- nothing is handed on
    rests : ((S : Literals) → get_or table i unreached ≡ reached S → Visited table (link_at s i) S) → Walked i table
    rests g = record {
      long = t.long;
      start = t.start;
      visited = λ n S o e. elim (ℕ_discrete n i) [ yes q ↦ rw q (g S (rw (← q) e)) | no q ↦ t.visited n S (omega arith) e ];
      marked = t.marked;
      named = λ n S o k e. omega (arith, t.named n S (omega arith) k e, uses-fewer s (trim s from) i n);
    }

    module _ (p l r : ℕ) (a : link_at s i ≡ join p l r) (S : Literals) (e : get_or table i unreached ≡ reached S) where
      before : (l < i) × (r < i)
      before = rw a at (earlier i)

      kept-parents : Marked (trim s from) l × Marked (trim s from) r
      kept-parents = rw a at (trim-closed s earlier from inside i (t.marked i S e))

      later-here : (n : ℕ) → later i n ≡ uses_in n (join p l r) + later (suc i) n
      later-here n = rw (← a) (uses-here s (trim s from) i n (omega arith) (t.marked i S e))

      -- a parent that was reached before has two or more uses
      twice-left : (R : Literals) → get_or table l unreached ≡ reached R → 2 ≤ uses_from s from l
      twice-left R q =
          omega (arith, later-here l, uses-left p l r, uses-later i l, t.named l R (omega (arith, before)) (omega (arith, before)) q)

      twice-right : (R : Literals) → get_or table r unreached ≡ reached R → 2 ≤ uses_from s from r
      twice-right R q =
          omega (arith, later-here r, uses-right p l r, uses-later i r, t.named r R (omega (arith, before)) (omega (arith, before)) q)

      twice_both : l ≡ r → 2 ≤ uses_from s from r
      twice_both q =
          let two : uses_in r (join p l r) ≡ 2 = rw q (uses-both p r) in
          omega (arith, later-here r, uses-later i r)

      -- only parents are handed anything
      hands : (table' : List Reach) → length table' ≡ length s → Tighter table table'
          → ((n : ℕ) → n ≢ l → n ≢ r → get_or table' n unreached ≡ get_or table n unreached)
          → HandedOn table' (cut_of p S) p l r S → Walked i table'
      hands table' z tight other g = record {
        long = z;
        start = other from (omega (arith, before)) (omega (arith, before)) ∙ t.start;
        visited = λ n R o q. elim (ℕ_discrete n i) [ yes y ↦ visited-here n R y q | no y ↦ visited-later n R o y q ];
        marked = λ n R q. elim (ℕ_discrete n l) [
          | yes y ↦ rw y kept-parents.0
          | no y ↦ elim (ℕ_discrete n r) [ yes w ↦ rw w kept-parents.1 | no w ↦ t.marked n R (sym (other n y w) ∙ q) ]
        ];
        named = λ n R o k q. elim (ℕ_discrete n l) [
          | yes y ↦ rw y (omega (arith, later-here l, uses-left p l r))
          | no y ↦ elim (ℕ_discrete n r) [
            | yes w ↦ rw w (omega (arith, later-here r, uses-right p l r))
            | no w ↦ omega (arith, t.named n R (omega arith) k (sym (other n y w) ∙ q), uses-fewer s (trim s from) i n)
          ]
        ];
      }
        where
          visited-here : (n : ℕ) (R : Literals) → n ≡ i → get_or table' n unreached ≡ reached R → Visited table' (link_at s n) R
          visited-here n R y q =
              let same : get_or table' i unreached ≡ get_or table i unreached = other i (omega (arith, before)) (omega (arith, before)) in
              let u : get_or table' i unreached ≡ reached R = rw (← y) q in
              let v : R ≡ S = cc in
              rw (y, a, v) g

          visited-later : (n : ℕ) (R : Literals) → i ≤ n → n ≢ i → get_or table' n unreached ≡ reached R → Visited table' (link_at s n) R
          visited-later n R o y q =
              let same : get_or table' n unreached ≡ get_or table n unreached = other n (omega (arith, before)) (omega (arith, before)) in
              visited-keeps table table' tight (link_at s n) R (t.visited n R (omega arith) (sym same ∙ q))

      room-left : l < length table
      room-left = rw t.long (omega (arith, before))

      room-right : r < length table
      room-right = rw t.long (omega (arith, before))

      hand_on_lem : (z : Cut) → cut_of p S ≡ z → Walked i (hand_on fit z p l r S table)
      unfolding hand_on
      hand_on_lem cut_left q =
          hands (hand fit r S table) (hand-long fit r S table ∙ t.long)
          (hand-tightens fit r S table (uses_from s from) fair room-right twice-right)
          (λ n y w. hand-other fit r S table n w)
          (rw q (hand-gets fit r S table (uses_from s from) fair room-right))
      hand_on_lem cut_right q =
          hands (hand fit l S table) (hand-long fit l S table ∙ t.long)
          (hand-tightens fit l S table (uses_from s from) fair room-left twice-left)
          (λ n y w. hand-other fit l S table n y)
          (rw q (hand-gets fit l S table (uses_from s from) fair room-left))
      hand_on_lem uncut q =
          let X = adding (plus p) S in
          let Y = adding (minus p) S in
          let first = hand fit l X table in
          let room : r < length first = rw (hand-long fit l X table) room-right in
          let twice : (R : Literals) → get_or first r unreached ≡ reached R → 2 ≤ uses_from s from r = λ R u. elim (ℕ_discrete r l) [
            | yes y ↦ twice_both (sym y)
            | no y ↦ twice-right R (sym (hand-other fit l X table r y) ∙ u)
          ] in
          let tight₁ = hand-tightens fit l X table (uses_from s from) fair room-left twice-left in
          let tight₂ = hand-tightens fit r Y first (uses_from s from) fair room twice in
          hands (hand fit r Y first) (hand-long fit r Y first ∙ hand-long fit l X table ∙ t.long)
          (λ n Z g. tight₂ n Z (tight₁ n Z g))
          (λ n y w. hand-other fit r Y first n w ∙ hand-other fit l X table n y)
          (rw q (
            tight₂ l X (hand-gets fit l X table (uses_from s from) fair room-left),
            hand-gets fit r Y first (uses_from s from) fair room,
          ))

    visit-one : (m : Link) (R : Reach) → link_at s i ≡ m → get_or table i unreached ≡ R → Walked i (visit fit m R table)
    unfolding visit
    visit-one m unreached a e = rests (λ S q. let z : ◌≡◌ {A = ℕ} 0 1 = cc in absurd (omega arith))
    visit-one (leaf line) (reached S) a e = rests (λ R q. rw a tt)
    visit-one (join p l r) (reached S) a e = hand_on_lem p l r a S e (cut_of p S) refl

  walk_start : Walked (suc from) (set (replicate (length s) unreached) from (reached S₀))
  walk_start = record {
    long = length-set (replicate (length s) unreached) from (reached S₀) ∙ length-replicate (length s) unreached;
    start = get_or-set_same (replicate (length s) unreached) from (reached S₀) unreached (rw length-replicate inside);
    visited = λ n S o q. absurd (only n S (omega arith) q);
    marked = λ n S q. elim (ℕ_discrete n from) [ yes y ↦ rw y (trim-keeps s earlier from inside) | no y ↦ absurd (only n S y q) ];
    named = λ n S o y q. absurd (only n S y q);
  }
    where
      only : (n : ℕ) (S : Literals) → n ≢ from → get_or (set (replicate (length s) unreached) from (reached S₀)) n unreached ≡ reached S → ⊥
      only n S y q =
          let u : get_or (replicate (length s) unreached) n unreached ≡ reached S =
          sym (get_or-set_other (replicate (length s) unreached) from n (reached S₀) unreached y) ∙ q in
          let v = get_d-blank (length s) n unreached in
          let z : ◌≡◌ {A = ℕ} 0 1 = cc in
          omega arith

  recycles : Walked 0 (recycle fit S₀ s from)
  unfolding recycle recycle_turn
  recycles = fall-by Walked (recycle_turn fit s) (suc from) _
      (λ i table h t. visit-one i (omega arith) table t (link_at s i) (get_or table i unreached) refl refl) walk_start

-- ---- from the table to sets and cuts

unfoldable pub set_of : Reach → Literals
set_of unreached = none
set_of (reached S) = S

unfoldable pub sets_in : List Reach → ℕ → Literals
sets_in table n = set_of (get_or table n unreached)

pub cut_left_lem : (p : ℕ) (S : Literals) → cut_of p S ≡ cut_left → holds (minus p) S ≡ true
unfolding cut_of
cut_left_lem p S = by (holds (minus p) S) (holds (plus p) S)
  where
    by : (u v : Bool) → cond u cut_left (cond v cut_right uncut) ≡ cut_left → u ≡ true
    by true v q = refl
    by false true q = cc
    by false false q = cc

pub cut_right_lem : (p : ℕ) (S : Literals) → cut_of p S ≡ cut_right → holds (plus p) S ≡ true
unfolding cut_of
cut_right_lem p S = by (holds (minus p) S) (holds (plus p) S)
  where
    by : (u v : Bool) → cond u cut_left (cond v cut_right uncut) ≡ cut_right → v ≡ true
    by true v q = cc
    by false true q = refl
    by false false q = cc

module _ (s : List Link) (table : List Reach) where
  pub set_is : (n : ℕ) (S : Literals) → get_or table n unreached ≡ reached S → sets_in table n ≡ S
  unfolding sets_in set_of
  set_is n S e = rw e

  pub is-kept : (n : ℕ) (S : Literals) → get_or table n unreached ≡ reached S → IsKept (fates s table) n
  unfolding fates
  is-kept n S e = rw e (by (link_at s n))
    where
      by : (m : Link) → (z : Cut) × (fate m (reached S) ≡ kept z)
      by (leaf line) = (uncut, unfold fate in refl)
      by (join p l r) = (cut_of p S, unfold fate in refl)

  gets : (n : ℕ) (X : Literals) → Handed table n X → Gets (fates s table) (sets_in table) n X
  gets n X h = let y = is-kept n h.0 h.1 in (y.0, y.1, λ x t. h.2 x (rw (set_is n h.0 h.1) at t))

  edges-allowed : (p l r : ℕ) (S : Literals) (z : Cut) → cut_of p S ≡ z → HandedOn table z p l r S
      → EdgesAllowed (fates s table) (sets_in table) z p l r S
  edges-allowed p l r S cut_left q h = (cut_left_lem p S q, gets r S h)
  edges-allowed p l r S cut_right q h = (cut_right_lem p S q, gets l S h)
  edges-allowed p l r S uncut q h = (gets l (adding (plus p) S) h.0, gets r (adding (minus p) S) h.1)

  node-allowed : (n : ℕ) (m : Link) (R : Reach) (z : Cut) → get_or table n unreached ≡ R → fate m R ≡ kept z
      → ((S : Literals) → R ≡ reached S → Visited table m S) → LinkAllowed (fates s table) (sets_in table) m z (sets_in table n)
  unfolding fate
  node-allowed n m unreached z e q f = let y : ◌≡◌ {A = ℕ} 0 1 = cc in absurd (omega arith)
  node-allowed n (leaf line) (reached S) z e q f = tt
  node-allowed n (join p l r) (reached S) z e q f =
      let y : cut_of p S ≡ z = cc in
      rw (set_is n S e) (edges-allowed p l r S z y (rw y at (f S refl)))

  table-allowed : ((n : ℕ) (S : Literals) → get_or table n unreached ≡ reached S → Visited table (link_at s n) S)
      → Allowed (fates s table) (sets_in table) s
  unfolding fates
  table-allowed f n z h q = node-allowed n (link_at s n) (get_or table n unreached) z refl q (λ S e. f n S e)

module _ (fit : Fit) (S₀ : Literals) (s : List Link) (earlier : Falling s) (from : ℕ) (inside : from < length s)
    (fair : Fair (uses_from s from) fit) where
  walked : Walked fit S₀ s earlier from inside fair 0 (recycle fit S₀ s from)
  walked = recycles fit S₀ s earlier from inside fair

  pub recycle-allowed : Allowed (fates s (recycle fit S₀ s from)) (sets_in (recycle fit S₀ s from)) s
  recycle-allowed = table-allowed s (recycle fit S₀ s from) (λ n S e. walked.visited n S (omega arith) e)

  pub recycle-keeps : IsKept (fates s (recycle fit S₀ s from)) from
  recycle-keeps = is-kept s (recycle fit S₀ s from) from S₀ walked.start

  pub recycle-starts : sets_in (recycle fit S₀ s from) from ≡ S₀
  recycle-starts = set_is s (recycle fit S₀ s from) from S₀ walked.start

  -- a node's set lies in what each uncut edge from a reached step hands it
  pub recycle-hands : (n m : ℕ) (X : Literals) → Hands s (recycle fit S₀ s from) n m X → Handed (recycle fit S₀ s from) m X
  recycle-hands n m X h =
      by (link_at s n) (get_or table n unreached) (λ S e. walked.visited n S (omega arith) e) h
    where
      table : List Reach
      table = recycle fit S₀ s from

      edge : (z : Cut) (p l r : ℕ) (S : Literals) → HandedOn table z p l r S → EdgeHands z p l r S m X → Handed table m X
      edge cut_left p l r S g (i, y) = rw (i, y) g
      edge cut_right p l r S g (i, y) = rw (i, y) g
      edge uncut p l r S g (inl (i, y)) = rw (i, y) g.0
      edge uncut p l r S g (inr (i, y)) = rw (i, y) g.1

      by : (d : Link) (R : Reach) → ((S : Literals) → R ≡ reached S → Visited table d S) → LinkHands d R m X → Handed table m X
      by (join p l r) (reached S) f k = edge (cut_of p S) p l r S (f S refl) k
      by (leaf line) (reached S) f k = absurd k
      by (leaf line) unreached f k = absurd k
      by (join p l r) unreached f k = absurd k
