-- With the sink's own literals and `intersect`, a reached node's set holds its clause; so a step that names one node on both sides is always
-- cut, and no sheet tells whether it hands on one set or two.
use Prim.Native.Nat.{ℕ, suc, ◌≤◌, ◌<◌}
use mathlib.Core.Bool.{true}
use mathlib.Core.Path.{◌≡◌, refl, sym, ◌∙◌}
use mathlib.Core.Logic.{◌⊎◌, inl, inr}
use mathlib.Core.List.{List}
use native.Mathlib.Omega.{arith}
use native.Mathlib.Decide.{ℕ_discrete}
use lib.ListN.{length, get_or, set, replicate, length-set, length-replicate, length-map}
use lib.Seq.{get_or-set_same, get_or-set_other}
use Rattle.base.proofs.Folds.{fall-by}
use Rattle.base.proofs.Lists.{get_d-blank}
use Rattle.clause.specs.Clauses.{Literal, Literals, plus, minus, holds, adding, resolvent, Within}
use Rattle.sheet.specs.declared.edition.Edition.{Edition}
use Rattle.sheet.specs.Records.{Node, given, step, clause, node_at}
use Rattle.press_spec.specs.Links.{link, links}
use Rattle.press_spec.specs.Recycle.{Reach, unreached, reached, intersect, hand, Cut, cut_left, cut_right, uncut, cut_of, hand_on, visit, recycle_turn, recycle}
use Rattle.press_spec.proofs.Nodes.{link-at}
use Rattle.press_spec.proofs.Proper.{ProperNode, AllProper}
use Rattle.press_spec.proofs.Literals.{literal-same, adding-keeps, adding-has, resolvent-left, resolvent-right}
use Rattle.press_spec.proofs.Recycled.{hand-long, cut_left_lem, cut_right_lem}
use Rattle.press_spec.proofs.Intersected.{Has, hand-has}

module _ (e : Edition) (rules : List ℕ) (s : List Node) (proper : AllProper e rules s) (S₀ : Literals) (from : ℕ) (inside : from < length s)
    (sub : Within (clause (node_at s from)) S₀) where
  record Owning (i : ℕ) (table : List Reach) : Type 0 where
    long : length table ≡ length s
    owns : (m : ℕ) (x : Literal) → holds x (clause (node_at s m)) ≡ true → Has x m table

  module _ (i : ℕ) (low : i ≤ from) (table : List Reach) (t : Owning (suc i) table) where
    module _ (p l r : ℕ) (c : Literals) (a : node_at s i ≡ step p l r c) (S : Literals) (q : get_or table i unreached ≡ reached S) where
      old : ProperNode e rules s i (step p l r c)
      old = rw a at (proper i (omega arith))

      room-left : l < length table
      room-left = rw t.long (omega (arith, old.1))

      room-right : r < length table
      room-right = rw t.long (omega (arith, old.2))

      -- a literal of the result is in the step's set
      result : (x : Literal) → holds x (resolvent p (clause (node_at s l)) (clause (node_at s r))) ≡ true → holds x S ≡ true
      unfolding clause
      result x h = t.owns i x (rw (a, old.5) h) S q

      of_left : (x : Literal) → holds x (clause (node_at s l)) ≡ true → (x ≡ plus p) ⊎ (holds x S ≡ true)
      of_left x h = elim (literal-same x (plus p)) [ inl y ↦ inl y | inr y ↦ inr (result x (resolvent-left x p _ _ y h)) ]

      of_right : (x : Literal) → holds x (clause (node_at s r)) ≡ true → (x ≡ minus p) ⊎ (holds x S ≡ true)
      of_right x h = elim (literal-same x (minus p)) [ inl y ↦ inl y | inr y ↦ inr (result x (resolvent-right x p _ _ y h)) ]

      hand_on_lem : (z : Cut) → cut_of p S ≡ z → Owning i (hand_on intersect z p l r S table)
      unfolding hand_on
      hand_on_lem cut_left y = record {
        long = hand-long intersect r S table ∙ t.long;
        owns = λ m x h. hand-has x m r S table room-right (t.owns m x h) (λ w.
            elim (of_right x (rw w at h)) [ inl v ↦ rw v (cut_left_lem p S y) | inr v ↦ v ]);
      }
      hand_on_lem cut_right y = record {
        long = hand-long intersect l S table ∙ t.long;
        owns = λ m x h. hand-has x m l S table room-left (t.owns m x h) (λ w.
            elim (of_left x (rw w at h)) [ inl v ↦ rw v (cut_right_lem p S y) | inr v ↦ v ]);
      }
      hand_on_lem uncut y =
          let X = adding (plus p) S in
          let Y = adding (minus p) S in
          let first = hand intersect l X table in
          let room : r < length first = rw (hand-long intersect l X table) room-right in
          record {
            long = hand-long intersect r Y first ∙ hand-long intersect l X table ∙ t.long;
            owns = λ m x h. hand-has x m r Y first room
                (hand-has x m l X table room-left (t.owns m x h) (λ w. in_left x (of_left x (rw w at h))))
                (λ w. in_right x (of_right x (rw w at h)));
          }
        where
          in_left : (x : Literal) → (x ≡ plus p) ⊎ (holds x S ≡ true) → holds x (adding (plus p) S) ≡ true
          in_left x (inl v) = rw v (adding-has (plus p) S)
          in_left x (inr v) = adding-keeps x (plus p) S v

          in_right : (x : Literal) → (x ≡ minus p) ⊎ (holds x S ≡ true) → holds x (adding (minus p) S) ≡ true
          in_right x (inl v) = rw v (adding-has (minus p) S)
          in_right x (inr v) = adding-keeps x (minus p) S v

    own-one : (m : Node) (R : Reach) → node_at s i ≡ m → get_or table i unreached ≡ R → Owning i (visit intersect (link m) R table)
    unfolding visit
    own-one m unreached a q = record { long = t.long; owns = t.owns }
    own-one (given line c) (reached S) a q = record { long = t.long; owns = t.owns }
    own-one (step p l r c) (reached S) a q = hand_on_lem p l r c a S q (cut_of p S) refl

  abbrev blank : List Reach
  blank = replicate (length (links s)) unreached

  blank-long : length blank ≡ length s
  blank-long = length-replicate (length (links s)) unreached ∙ length-map s link

  own-start : Owning (suc from) (set blank from (reached S₀))
  own-start = record {
    long = length-set blank from (reached S₀) ∙ blank-long;
    owns = λ m x h R q. elim (ℕ_discrete m from) [
      | yes y ↦
          let u : get_or (set blank from (reached S₀)) from unreached ≡ reached R = rw y at q in
          let v = get_or-set_same blank from (reached S₀) unreached (rw blank-long inside) in
          let w : R ≡ S₀ = cc in
          rw w (sub x (rw y at h))
      | no y ↦
          let u : get_or blank m unreached ≡ reached R = sym (get_or-set_other blank from m (reached S₀) unreached y) ∙ q in
          let v = get_d-blank (length (links s)) m unreached in
          let z : ◌≡◌ {A = ℕ} 0 1 = cc in
          absurd (omega arith)
    ];
  }

  owning : Owning 0 (recycle intersect S₀ (links s) from)
  unfolding recycle recycle_turn
  owning = fall-by Owning (recycle_turn intersect (links s)) (suc from) _
      (λ i table h t. rw (link-at s i) (own-one i (omega arith) table t (node_at s i) (get_or table i unreached) refl refl)) own-start

  pub holds-own : (n : ℕ) (R : Literals) → get_or (recycle intersect S₀ (links s) from) n unreached ≡ reached R → Within (clause (node_at s n)) R
  holds-own n R q x h = owning.owns n x h R q

  pub both-sides-cut : (n p m : ℕ) (c R : Literals) → n < length s → node_at s n ≡ step p m m c
      → get_or (recycle intersect S₀ (links s) from) n unreached ≡ reached R → cut_of p R ≡ cut_left
  unfolding cut_of clause
  both-sides-cut n p m c R h a q =
      let d : ProperNode e rules s n (step p m m c) = rw a at (proper n h) in
      rw (holds-own n R q (minus p) (rw (a, d.5) (resolvent-left (minus p) p _ _ (λ y. absurd (apart y)) d.4)))
    where
      apart : minus p ≡ plus p → ⊥
      apart y = let z : ◌≡◌ {A = ℕ} 0 1 = cc in omega arith
