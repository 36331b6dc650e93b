-- The turns of the top-down order: what the tables hold after each, and when there are no more.
use Prim.Native.Nat.{ℕ, suc, ◌+◌, ◌≤◌, ◌<◌}
use mathlib.Core.Path.{◌≡◌, refl, sym, ap, ◌∙◌}
use mathlib.Core.Logic.{◌⊎◌, inl, inr}
use mathlib.Core.Bool.{Bool, true, false, ◌&&◌, not, cond}
use mathlib.Core.List.{List, [], ◌∷◌}
use native.Mathlib.Omega.{arith}
use native.Mathlib.Decide.{dec_lt}
use lib.Dec.{eqb}
use lib.ListN.{length, get_or, set, replicate, get_or-eq_default}
use lib.Seq.{get_or-set_other}
use borrow.Author.Tests.{eqb-false, eq-eqb, ne_eqb}
use Rattle.std.proofs.Common.{Option, None}
use Rattle.base.specs.Folds.{rise}
use Rattle.sheet.specs.declared.NodeNo.{NodeNo}
use Rattle.sheet.specs.Editions.{capacity}
use Rattle.press_spec.specs.Links.{Link, leaf, join, link_at}
use Rattle.press_spec.specs.Trim.{trim, trimmed, uses_in, uses, uses_from}
use Rattle.press_spec.specs.Drops.{total}
use Rattle.press_spec.specs.Order.{placed}
use Rattle.press_spec.specs.TopDown.{unplaced, parents_placed, ready, gain, score, highest, take_turn, top_down, gain_by}
use Rattle.press_spec.proofs.Nodes.{Falling}
use Rattle.press_spec.proofs.Trimmed.{Marked}
use Rattle.press_spec.proofs.Gains.{uses-without, gain-by}
use Rattle.press_spec.proofs.TopDown.{kept-few, turns-over, turn-left, turn_more}
use Rattle.press_nodes.specs.declared.link.Link.{Link as CodeLink}
use Rattle.press_nodes.specs.Tables.{links_in, Links}
use Rattle.press_nodes.proofs.Tables.{links-length, links-falling}
use Rattle.press_nodes.specs.Numbers.{numbers_in}
use Rattle.press_order.specs.Placing.{Numbered, Stands}
use Rattle.press_order.proofs.Placing.{by_place}
use Rattle.press_order.proofs.Arranging.{none-stand}
use Rattle.press_top_down.specs.Scores.{marked, parents_marked, score_in}
use Rattle.press_top_down.specs.Renewed.{Scored, Renewed, Touched}
use Rattle.press_top_down.proofs.Changing.{touched-or-same}

-- the order after so many turns
abbrev pub order_at : List Link → List ℕ → ℕ → List ℕ
order_at s kept i = rise (take_turn s kept) i []

-- what the tables hold after `count` turns
pub record Turning (s : List Link) (kept left ahead numbers : List ℕ) (count : ℕ) : Type 0 where
  pub few : count ≤ total kept
  pub stands : Stands numbers count (order_at s kept count)
  pub remain : left ≡ unplaced kept (order_at s kept count)
  pub names : (m : ℕ) → get_or ahead m 0 ≡ uses (trimmed s (unplaced kept (order_at s kept count))) m

pub turns-start : (s : List Link) (from : ℕ) (left ahead : List ℕ) (numbers cleared : List (Option NodeNo)) → ((m : ℕ) → get_or ahead m 0 ≡ uses_from s from m)
    → left ≡ trim s from → cleared ≡ replicate (length numbers) None → Turning s left left ahead (numbers_in cleared) 0
unfolding rise unplaced uses_from
turns-start s from left ahead numbers cleared f e z = record {
  few = omega arith;
  stands = none-stand numbers cleared z;
  remain = refl;
  names = λ m. rw e (f m);
}

-- ---- the tables have the scores

module _ (numbers order : List ℕ) (f : Numbered numbers order) where
  mark-placed : (n : ℕ) → marked numbers n ≡ placed n order
  unfolding marked
  mark-placed n = by (placed n order) refl
    where
      by : (u : Bool) → placed n order ≡ u → not (eqb (get_or numbers n 0) 0) ≡ placed n order
      by true e = rw (e, ne_eqb (get_or numbers n 0) 0 (λ z. omega (arith, z, by_place numbers order n f true e)))
      by false e = rw (e, eq-eqb (get_or numbers n 0) 0 (by_place numbers order n f false e))

  parents-same : (x : Link) → parents_marked numbers x ≡ parents_placed x order
  unfolding parents_marked parents_placed
  parents-same (leaf line) = refl
  parents-same (join p l r) = rw (mark-placed l, mark-placed r)

module _ (s : List Link) (kept order left ahead numbers : List ℕ) (long : length left ≡ length s) (placing : Numbered numbers order)
    (remain : left ≡ unplaced kept order) (names : (m : ℕ) → get_or ahead m 0 ≡ uses (trimmed s (unplaced kept order)) m) where
  score-same : (n : ℕ) → score_in s left ahead numbers n ≡ score s kept order n
  unfolding score_in score ready marked
  score-same n = rw (parents-same numbers order placing (link_at s n), ← remain) (by (eqb (get_or left n 0) 0) refl)
    where
      counts : (λ m. get_or ahead m 0) ≡ uses (trimmed s (unplaced kept order))
      counts = λ i m. names m i

      by : (u : Bool) → eqb (get_or left n 0) 0 ≡ u
          → cond (not u && parents_placed (link_at s n) order) (suc (gain_by (λ m. get_or ahead m 0) (link_at s n))) 0
          ≡ cond (not u && parents_placed (link_at s n) order) (suc (gain s kept order n)) 0
      by true e = refl
      by false e = elim (dec_lt n (length left)) [
        | yes h ↦ rw (counts, ← gain-by s kept order n (omega arith) (rw (← remain) (omega (arith, eqb-false (get_or left n 0) 0 e))))
        | no h ↦ absurd (eqb-false (get_or left n 0) 0 e (get_or-eq_default left 0 {n = n} (omega arith)))
      ]

-- ---- one turn

-- after `count` turns, `best` is the node that scores most
pub record Turn (h : List CodeLink) (from : ℕ) (kept left ahead numbers : List ℕ) (count best most : ℕ) : Type 0 where
  pub tables : Links h
  pub inside : from < length h
  pub marks : kept ≡ trim (links_in h) from
  pub long : length left ≡ length h
  pub turning : Turning (links_in h) kept left ahead numbers count
  pub found : best ≡ highest (score_in (links_in h) left ahead numbers) (length h)
  pub scores : most ≡ score_in (links_in h) left ahead numbers best

module _ {h : List CodeLink} {from : ℕ} {kept left ahead numbers : List ℕ} {count best most : ℕ} (T : Turn h from kept left ahead numbers count best most) where
  abbrev s : List Link
  s = links_in h

  abbrev order : List ℕ
  order = order_at s kept count

  abbrev t : Turning s kept left ahead numbers count
  t = T.turning

  falling : Falling (links_in h)
  falling = links-falling T.tables

  from_in : from < length (links_in h)
  from_in = rw (links-length h) T.inside

  few : count ≤ total (trim (links_in h) from)
  few = rw (← T.marks) t.few

  same : score_in s left ahead numbers ≡ score s kept order
  same = λ i n. score-same s kept order left ahead numbers (T.long ∙ sym (links-length h)) t.stands.numbered t.remain t.names n i

  best-is : best ≡ highest (score s kept order) (length s)
  best-is = rw (links-length h, ← same) T.found

  most-is : most ≡ score s kept order (highest (score s kept order) (length s))
  most-is = rw (← best-is, ← same) T.scores

  -- no node scores: the order is whole
  pub turns-end : most ≡ 0 → Stands numbers count (top_down (links_in h) from)
  unfolding top_down
  turns-end z =
      let none : score s kept order (highest (score s kept order) (length s)) ≡ 0 = sym most-is ∙ z in
      let e : count ≡ total (trim s from) = turns-over s falling from from_in count few (rw (← T.marks) none) in
      let o : order_at s kept count ≡ order_at s (trim s from) (total (trim s from)) = rw (T.marks, e) in
      rw (← o) t.stands

  module _ (some : most ≡ 0 → ⊥) where
    scored : 1 ≤ score s (trim s from) (order_at s (trim s from) count) (highest (score s (trim s from) (order_at s (trim s from) count)) (length s))
    scored = let o : 1 ≤ score s kept order (highest (score s kept order) (length s)) = rw (← most-is) (omega arith) in rw (← T.marks) o

    more : count < total kept
    more = rw T.marks (turn_more s falling from from_in count few scored)

    at-hand : (best < length s) × Marked (unplaced kept order) best
    at-hand = rw (best-is, T.marks) (turn-left s falling from from_in count few scored)

    pub best-inside : best < length h
    best-inside = rw (links-length h) at at-hand.0

    pub turn-fits : (count < length h) × (count < capacity)
    turn-fits =
        let f : total kept ≤ length h = rw (T.marks, ← links-length h) (kept-few s falling from from_in) in
        (omega (arith, more), omega (arith, more, T.tables.few))

    without : (m : ℕ) → uses (trimmed s (unplaced kept (best ∷ order))) m + uses_in m (link_at s best) ≡ get_or ahead m 0
    unfolding unplaced
    without m = uses-without s (unplaced kept order) best m at-hand.0 at-hand.1 ∙ sym (t.names m)

    pub uses-left : (m : ℕ) → uses_in m (link_at (links_in h) best) ≤ get_or ahead m 0
    uses-left m = omega (arith, without m)

    -- the node is taken
    module _ {numbers₁ : List ℕ} {count₁ : ℕ} (put : (o : List ℕ) → Stands numbers count o → Stands numbers₁ count₁ (best ∷ o)) where
      pub one_more : count₁ ≡ suc count
      one_more = (put order t.stands).counts ∙ ap suc (sym t.stands.counts)

      next : best ∷ order ≡ order_at s kept count₁
      unfolding rise take_turn
      next = rw (one_more, best-is)

      pub turn-next : (left₁ ahead₁ : List ℕ) → left₁ ≡ set left best 0 → ((m : ℕ) → get_or ahead₁ m 0 + uses_in m (link_at (links_in h) best) ≡ get_or ahead m 0)
          → Turning (links_in h) kept left₁ ahead₁ numbers₁ count₁
      unfolding unplaced
      turn-next left₁ ahead₁ gone closed = record {
        few = omega (arith, one_more, more);
        stands = rw (← next) (put order t.stands);
        remain = rw (← next) (gone ∙ rw t.remain);
        names = λ m. rw (← next) (omega (arith, closed m, without m));
      }

      -- and the scores that this can change are worked out anew
      pub turn-scored : (left₁ ahead₁ : List ℕ) {rows next : List ℕ} → left₁ ≡ set left best 0
          → ((m : ℕ) → get_or ahead₁ m 0 + uses_in m (link_at (links_in h) best) ≡ get_or ahead m 0) → ((m : ℕ) → Scored (score_in (links_in h) left ahead numbers) rows m)
          → Renewed (score_in (links_in h) left₁ ahead₁ numbers₁) (Touched (links_in h) ahead₁ best) rows next
          → (m : ℕ) → Scored (score_in (links_in h) left₁ ahead₁ numbers₁) next m
      turn-scored left₁ ahead₁ {rows} {next} gone closed all renewed m = by (touched-or-same s left ahead numbers left₁ ahead₁ numbers₁ best lefts marks closed m)
        where
          lefts : (m : ℕ) → (m ≡ best → ⊥) → marked left₁ m ≡ marked left m
          lefts m other = unfold marked in rw (gone, get_or-set_other left best m 0 0 other)

          marks : (m : ℕ) → (m ≡ best → ⊥) → marked numbers₁ m ≡ marked numbers m
          marks m other =
              mark-placed numbers₁ (best ∷ order) (put order t.stands).numbered m ∙ unfold placed in rw (ne_eqb m best other) (sym (mark-placed numbers order t.stands.numbered m))

          by : Touched s ahead₁ best m ⊎ (score_in s left₁ ahead₁ numbers₁ m ≡ score_in s left ahead numbers m) → Scored (score_in s left₁ ahead₁ numbers₁) next m
          by (inl touched) = renewed.now-right m touched
          by (inr same) = renewed.still-right m (all m ∙ sym same)
