-- The units show `Lowers`: a unit's clause is its literal, and the opposite of a collected literal is never collected. Cutting units loses nothing,
-- so a rebuilt unit still holds its literal.
use Prim.Native.Nat.{ℕ, suc, ◌≤◌, ◌<◌}
use mathlib.Core.Bool.{Bool, true, false, not, ◌&&◌, cond, false≢true, and-eq-true_iff}
use mathlib.Core.Path.{◌≡◌, refl, sym, ◌∙◌}
use mathlib.Core.Logic.{inl, inr}
use mathlib.Core.List.{List}
use native.Mathlib.Omega.{arith}
use lib.Dec.{leb}
use lib.ListN.{length}
use borrow.Author.Tests.{leb-true, not-true}
use Rattle.base.proofs.Folds.{fall-by}
use Rattle.clause.specs.Clauses.{Literal, Literals, plus, minus, none, holds, adding, resolvent, Within}
use Rattle.sheet.specs.declared.edition.Edition.{Edition}
use Rattle.sheet.specs.Records.{Node, given, step, clause, node_at}
use Rattle.press_spec.specs.Links.{join, link, links, link_at}
use Rattle.press_spec.specs.Trim.{trim, uses_from}
use Rattle.press_spec.specs.Recycle.{Cut, cut_left, cut_right, uncut, Fate, kept}
use Rattle.press_spec.specs.Rebuild.{Built, stand_in, standing, step_anew, way_of, rebuild, ended}
use Rattle.press_spec.specs.Lower.{opposite, Lowered, staying, lowered, single, LoweredOnes, none_lowered, lower, low_at, cut_by, fates_by}
use Rattle.press_spec.specs.Units.{collect, collect_turn, collected}
use Rattle.press_spec.proofs.Proper.{ProperNode}
use Rattle.press_spec.proofs.Nodes.{link-at, by-rising}
use Rattle.press_spec.proofs.Literals.{in-resolvent, resolvent-left, resolvent-right, adding-keeps, adding-has}
use Rattle.press_spec.proofs.Trimmed.{Marked}
use Rattle.press_spec.proofs.Rebuilt.{ByWay, Renewed, Rebuilding, rebuilt}
use Rattle.press_spec.proofs.Allowed.{standing-within}
use Rattle.press_spec.proofs.Owed.{opposite-twice, opposite-other, owed_below, marked-fate, OnOwn, Concludes, marked-node, marked-parents, used-node, lowering-proper, lowering-allowed}
use Rattle.press_spec.proofs.Singles.{only_one, single-is, none-lowered, none-long, never-lowered, lower_long, lower-cases, cut_left_lem, cut_right_lem}
use Rattle.press_spec.proofs.Returned.{Lowers}

-- ---- what is collected

module _ (v : ℕ) (s : List Node) (from : ℕ) (inside : from < length s) where
  abbrev Low : LoweredOnes → ℕ → Literal → Type 0
  Low w n x = low_at w.low n ≡ lowered x

  record Collecting (i : ℕ) (w : LoweredOnes) : Type 0 where
    long : length w.low ≡ length s
    unit : (n : ℕ) (x : Literal) → Low w n x → clause (node_at s n) ≡ adding x none
    twice : (n : ℕ) (x : Literal) → Low w n x → 2 ≤ uses_from (links s) from n
    owes : (n : ℕ) (x : Literal) → Low w n x → holds (opposite x) w.owed ≡ true
    apart : (m n : ℕ) (x y : Literal) → Low w m x → Low w n y → x ≡ opposite y → ⊥

  module _ (i : ℕ) (low : i ≤ from) (w : LoweredOnes) (c : Collecting (suc i) w) where
    rests : Collecting i w
    rests = record { long = c.long; unit = c.unit; twice = c.twice; owes = c.owes; apart = c.apart }

    module _ (x : Literal) (u : clause (node_at s i) ≡ adding x none) (two : 2 ≤ uses_from (links s) from i) (free : holds x w.owed ≡ false) where
      room : i < length w.low
      room = rw c.long (omega arith)

      -- no collected literal is the opposite of x
      not-x : (n : ℕ) (y : Literal) → Low w n y → x ≡ opposite y → ⊥
      not-x n y q e = false≢true (sym free ∙ (rw (← e) at (c.owes n y q)))

      collects : Collecting i (lower i x w)
      collects = record {
        long = lower_long i x w ∙ c.long;
        unit = λ n y q. elim (lower-cases i x w room n y q) [ inl e ↦ rw (e.0, e.1) u | inr e ↦ c.unit n y e.1 ];
        twice = λ n y q. elim (lower-cases i x w room n y q) [ inl e ↦ rw e.0 two | inr e ↦ c.twice n y e.1 ];
        owes = λ n y q. elim (lower-cases i x w room n y q) [
          | inl e ↦ unfold lower in rw e.1 (adding-has (opposite x) w.owed)
          | inr e ↦ unfold lower in adding-keeps (opposite y) (opposite x) w.owed (c.owes n y e.1)
        ];
        apart = λ m n y z q k o. elim (lower-cases i x w room m y q) [
          | inl e ↦ elim (lower-cases i x w room n z k) [
            | inl d ↦ opposite-other x (let a : x ≡ opposite x = cc in a)
            | inr d ↦ not-x n z d.1 (let a : x ≡ opposite z = cc in a)
          ]
          | inr e ↦ elim (lower-cases i x w room n z k) [
            | inl d ↦ not-x m y e.1 (let a : x ≡ opposite y = cc (opposite-twice z) in a)
            | inr d ↦ c.apart m n y z e.1 d.1 o
          ]
        ];
      }

    collect-one : (k : Lowered) → single v (clause (node_at s i)) ≡ k → Collecting i (collect i (uses_from (links s) from i) k w)
    unfolding collect
    collect-one staying q = rests
    collect-one (lowered x) q = by (leb 2 (uses_from (links s) from i) && not (holds x w.owed)) refl
      where
        by : (u : Bool) → (leb 2 (uses_from (links s) from i) && not (holds x w.owed)) ≡ u → Collecting i (cond u (lower i x w) w)
        by false h = rests
        by true h =
            let both = (and-eq-true_iff (leb 2 (uses_from (links s) from i)) (not (holds x w.owed))).0 h in
            collects x (single-is v (clause (node_at s i)) x q) (leb-true 2 (uses_from (links s) from i) both.0) (not-true (holds x w.owed) both.1)

  collecting-start : Collecting (suc from) (none_lowered (length s))
  collecting-start = record {
    long = none-long (length s);
    unit = λ n x q. absurd (never-lowered _ x (none-lowered (length s) n) q);
    twice = λ n x q. absurd (never-lowered _ x (none-lowered (length s) n) q);
    owes = λ n x q. absurd (never-lowered _ x (none-lowered (length s) n) q);
    apart = λ m n x y q k e. never-lowered _ x (none-lowered (length s) m) q;
  }

  collects-all : Collecting 0 (collected v (ended s from))
  unfolding collected collect_turn
  collects-all = fall-by Collecting (collect_turn v s (uses_from (links s) from)) (suc from) _
      (λ i w h c. collect-one i (omega arith) w c (single v (clause (node_at s i))) refl) collecting-start

-- ---- cutting units loses nothing

module _ (e : Edition) (rules : List ℕ) (s : List Node) (from : ℕ) (good : Concludes e rules s from) (low : ℕ → Lowered)
    (unit : (n : ℕ) (x : Literal) → low n ≡ lowered x → clause (node_at s n) ≡ adding x none) where
  abbrev marks : List ℕ
  marks = trim (links s) from

  abbrev old : ℕ → Literals
  old n = clause (node_at s n)

  -- a unit that is resolved is resolved on its literal
  step-own : (n p l r : ℕ) (c : Literals) → ProperNode e rules s n (step p l r c) → (x : Literal)
      → (low l ≡ lowered x → x ≡ plus p) × (low r ≡ lowered x → x ≡ minus p)
  step-own n p l r c d x =
      ((λ q. sym (only_one x (plus p) (rw (unit l x q) at d.3))), (λ q. sym (only_one x (minus p) (rw (unit r x q) at d.4))))

  units-own : OnOwn (links s) from low
  units-own n p l r m a x = by (node_at s n) refl (sym (link-at s n) ∙ a)
    where
      by : (y : Node) → node_at s n ≡ y → link y ≡ join p l r → (low l ≡ lowered x → x ≡ plus p) × (low r ≡ lowered x → x ≡ minus p)
      by (given line c) q j = let z : ◌≡◌ {A = ℕ} 0 1 = cc in absurd (omega arith)
      by (step p' l' r' c) q j =
          let d : ProperNode e rules s n (step p' l' r' c) = rw q at (good.proper n m) in
          let i : p' ≡ p = cc in
          let k : l' ≡ l = cc in
          let o : r' ≡ r = cc in
          rw (i, k, o) at (step-own n p' l' r' c d x)

  module _ (b : Built) (f : Rebuilding s (fates_by (trim (links s) from) low (links s)) (length s) b) where
    abbrev HoldsAt : ℕ → Type 0
    HoldsAt n = Marked marks n → Within (old n) (standing b n)

    module _ (n : ℕ) (here : Marked marks n) (below : (m : ℕ) → m < n → HoldsAt m) where
      takes : (m : ℕ) → stand_in b n ≡ stand_in b m → Within (old n) (standing b m) → Within (old n) (standing b n)
      unfolding standing
      takes m q g = rw q g

      module _ (p l r : ℕ) (c : Literals) (a : node_at s n ≡ step p l r c) where
        proper : ProperNode e rules s n (step p l r c)
        proper = rw a at (good.proper n here)

        result : old n ≡ resolvent p (old l) (old r)
        unfolding clause
        result = rw a proper.5

        both : Marked marks l × Marked marks r
        both = marked-parents e rules s from good n p l r c a here

        of_left : Within (old l) (standing b l)
        of_left = below l proper.1 both.0

        of_right : Within (old r) (standing b r)
        of_right = below r proper.2 both.1

        cut-left-holds : (x : Literal) → low l ≡ lowered x → Within (old n) (standing b r)
        cut-left-holds x q y h = elim (in-resolvent y p (old l) (old r) (rw result at h)) [
          | inl k ↦ absurd (k.0 (only_one x y (rw (unit l x q) at k.1) ∙ (step-own n p l r c proper x).0 q))
          | inr k ↦ of_right y k.1
        ]

        cut-right-holds : (x : Literal) → low r ≡ lowered x → Within (old n) (standing b l)
        cut-right-holds x q y h = elim (in-resolvent y p (old l) (old r) (rw result at h)) [
          | inl k ↦ of_left y k.1
          | inr k ↦ absurd (k.0 (only_one x y (rw (unit r x q) at k.1) ∙ (step-own n p l r c proper x).1 q))
        ]

        both_hold : Within (old n) (resolvent p (standing b l) (standing b r))
        both_hold y h = elim (in-resolvent y p (old l) (old r) (rw result at h)) [
          | inl k ↦ resolvent-left y p (standing b l) (standing b r) k.0 (of_left y k.1)
          | inr k ↦ resolvent-right y p (standing b l) (standing b r) k.0 (of_right y k.1)
        ]

        uncut-holds : ByWay b (way_of uncut p (standing b l) (standing b r)) n p l r → Within (old n) (standing b n)
        unfolding way_of
        uncut-holds q = new (rw (of_left (plus p) proper.3, of_right (minus p) proper.4) at q)
          where
            new : ByWay b step_anew n p l r → Within (old n) (standing b n)
            new w = unfold standing clause in rw (w.0, w.1) both_hold

        step-holds : (z : Cut) → cut_by low (join p l r) ≡ z → Renewed b n (step p l r c) (kept z) → Within (old n) (standing b n)
        unfolding way_of
        step-holds cut_left k q = let y = cut_left_lem low p l r k in takes r q (cut-left-holds y.0 y.1)
        step-holds cut_right k q = let y = cut_right_lem low p l r k in takes l q (cut-right-holds y.0 y.1)
        step-holds uncut k q = uncut-holds q

      node-holds : (m : Node) → node_at s n ≡ m → Renewed b n m (kept (cut_by low (link m))) → Within (old n) (standing b n)
      unfolding standing
      node-holds (given line c) a q = λ y h. rw (q.0, q.1) (rw a at h)
      node-holds (step p l r c) a q = step-holds p l r c a (cut_by low (join p l r)) refl q

      holds-next : Within (old n) (standing b n)
      holds-next = node-holds (node_at s n) refl (rw (marked-fate marks low (links s) n here, link-at s n) at (f.done n (marked-node e rules s from good n here)))

    pub units-hold : (n : ℕ) → Marked (trim (links s) from) n → Within (clause (node_at s n)) (standing b n)
    units-hold n h = by-rising HoldsAt (λ i g y. holds-next i y g) n h

-- ---- a pass of lowering

module _ (e : Edition) (rules : List ℕ) (v : ℕ) (s : List Node) (from : ℕ) (good : Concludes e rules s from) where
  abbrev low : ℕ → Lowered
  low = low_at (collected v (ended s from)).low

  abbrev says : ℕ → Fate
  says = fates_by (trim (links s) from) low (links s)

  all : Collecting v s from good.inside 0 (collected v (ended s from))
  all = collects-all v s from good.inside

  own : OnOwn (links s) from low
  own = units-own e rules s from good low all.unit

  walk : Rebuilding s says (length s) (rebuild s says)
  walk = rebuilt s says good.earlier

  marked : (n : ℕ) (x : Literal) → low n ≡ lowered x → Marked (trim (links s) from) n
  marked n x q = used-node e rules s from good n (omega (arith, all.twice n x q))

  unit-rest : (n : ℕ) (x : Literal) → low n ≡ lowered x → Within (standing (rebuild s says) n) (adding x (owed_below low n))
  unit-rest n x q y h =
      let m = marked n x q in
      elim (standing-within e rules s says (lowering-proper e rules s from good low) (owed_below low) (lowering-allowed e rules s from good low own)
      (rebuild s says) walk n (cut_by low (link_at (links s) n)) (marked-node e rules s from good n m) (marked-fate (trim (links s) from) low (links s) n m) y h) [
        | inl k ↦ rw (only_one x y (rw (all.unit n x q) at k)) (adding-has x (owed_below low n))
        | inr k ↦ adding-keeps y x (owed_below low n) k
      ]

  pub units-lower : Lowers s from (low_at (collected v (ended s from)).low)
      (rebuild s (fates_by (trim (links s) from) (low_at (collected v (ended s from)).low) (links s)))
  units-lower = record {
    walk = walk;
    twice = all.twice;
    own = own;
    apart = all.apart;
    carries = λ n x q. units-hold e rules s from good low all.unit (rebuild s says) walk n (marked n x q) x (rw (all.unit n x q) (adding-has x none));
    rest = unit-rest;
  }
