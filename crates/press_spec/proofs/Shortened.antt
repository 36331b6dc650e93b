-- The steps and the nodes that are left after lowering, for any pass that shows `Lowers`: with k nodes lowered, at least k fewer of each, and no
-- number beyond half as many again as there were.
use Prim.Native.Nat.{ℕ, suc, ◌+◌, ◌-◌, ◌*◌, ◌≤◌, ◌<◌}
use mathlib.Core.Bool.{Bool, true, false, cond}
use mathlib.Core.Path.{◌≡◌, refl, sym, ap, ◌∙◌}
use mathlib.Core.Logic.{inl, inr}
use mathlib.Core.List.{List}
use native.Mathlib.Omega.{arith}
use native.Mathlib.Decide.{dec_lt}
use lib.Dec.{eqb, ltb}
use lib.ListN.{length, get_or, length-map}
use borrow.Author.Tests.{lt-ltb, le-ltb, eqb-false}
use Rattle.base.proofs.Lists.{cond_both}
use Rattle.clause.specs.Clauses.{Literal, Literals, plus, minus, holds}
use Rattle.sheet.specs.declared.edition.Edition.{Edition}
use Rattle.sheet.specs.Records.{Node, given, step, node_at}
use Rattle.sheet.specs.Counts.{step_of, steps_of}
use Rattle.press_spec.specs.Links.{Link, leaf, join, link, links, link_at}
use Rattle.press_spec.specs.Trim.{trim, trimmed, uses_from}
use Rattle.press_spec.specs.Recycle.{Cut, cut_left, cut_right, uncut, Fate, kept}
use Rattle.press_spec.specs.Rebuild.{Built, stand_in, standing, take_left, take_right, step_anew, way_of, Ended}
use Rattle.press_spec.specs.Order.{InOrder, laid}
use Rattle.press_spec.specs.Lower.{opposite, Lowered, staying, lowered, is_lowered, cut_by, fates_by, come_back_all}
use Rattle.press_spec.proofs.Nodes.{link-at, by-rising}
use Rattle.press_spec.proofs.Trimmed.{Marked}
use Rattle.press_spec.proofs.Rebuilt.{ByWay, Renewed, StandsIn, stand_in-below}
use Rattle.press_spec.proofs.Counted.{sum_over, sum_below, sum_below-le, sum_below-ones, sum_below-add, sum_over-ones, order_le}
use Rattle.press_spec.proofs.Laid.{steps-laid}
use Rattle.press_spec.proofs.Owed.{marked-fate, fate-marked, Concludes, marked-node, marked-parents, marks-long}
use Rattle.press_spec.proofs.Returned.{Lowers, one, lowered_below, IsLeft, Returning, returned}
use Rattle.press_spec.proofs.Lessened.{sum-beyond, over-up, if_marked, marked-counts, sum-trimmed, cuts_in, twice_cut}

one-small : (t : Lowered) → one t ≤ 1
unfolding one
one-small staying = omega arith
one-small (lowered x) = omega arith

-- an uncut step has no lowered parent
uncut-none : (low : ℕ → Lowered) (m : Link) → cut_by low m ≡ uncut → cuts_in low m ≡ 0
unfolding cut_by cuts_in
uncut-none low (leaf line) q = refl
uncut-none low (join p l r) q = by (low l) (low r) q
  where
    by : (a b : Lowered) → cond (is_lowered a) cut_left (cond (is_lowered b) cut_right uncut) ≡ uncut → one a + one b ≡ 0
    by staying staying h = unfold one in refl
    by staying (lowered x) h = let z : cut_right ≡ uncut = unfold is_lowered in h in let y : ◌≡◌ {A = ℕ} 0 1 = cc in absurd (omega arith)
    by (lowered x) b h = let z : cut_left ≡ uncut = unfold is_lowered in h in let y : ◌≡◌ {A = ℕ} 0 1 = cc in absurd (omega arith)

step_small : (m : Node) → step_of m ≤ 1
unfolding step_of
step_small (given line c) = omega arith
step_small (step p l r c) = omega arith

module _ (e : Edition) (rules : List ℕ) (s : List Node) (from : ℕ) (good : Concludes e rules s from) (low : ℕ → Lowered) (b : Built)
    (lo : Lowers s from low b) where
  abbrev marks : List ℕ
  marks = trim (links s) from

  abbrev says : ℕ → Fate
  says = fates_by marks low (links s)

  -- ---- no step has both edges cut

  pub never_both : (n p l r : ℕ) → Marked (trim (links s) from) n → link_at (links s) n ≡ join p l r → (x y : Literal)
      → low l ≡ lowered x → low r ≡ lowered y → ⊥
  unfolding opposite
  never_both n p l r m a x y u v = lo.apart l r x y u v ((lo.own n p l r m a x).0 u ∙ ap opposite (sym ((lo.own n p l r m a y).1 v)))

  cuts : ℕ → ℕ
  cuts n = cuts_in low (link_at (links s) n)

  cuts-few : (n : ℕ) → Marked marks n → cuts n ≤ step_of (node_at s n)
  unfolding cuts
  cuts-few n k = rw (link-at s n) (by (node_at s n) refl)
    where
      both : (p l r : ℕ) → link_at (links s) n ≡ join p l r → (u v : Lowered) → low l ≡ u → low r ≡ v → one u + one v ≤ 1
      both p l r a staying v f g = unfold one in omega (arith, one-small v)
      both p l r a (lowered x) staying f g = unfold one in omega arith
      both p l r a (lowered x) (lowered y) f g = absurd (never_both n p l r k a x y f g)

      by : (m : Node) → node_at s n ≡ m → cuts_in low (link m) ≤ step_of m
      by (given line c) a = unfold cuts_in step_of in omega arith
      by (step p l r c) a = unfold cuts_in step_of in both p l r (link-at s n ∙ ap link a) (low l) (low r) refl refl

  -- ---- a stand-in is a node of the old proof that is not cut

  abbrev Uncut : ℕ → Type 0
  Uncut m = Marked marks m × (cut_by low (link_at (links s) m) ≡ uncut)

  abbrev UncutAt : ℕ → Type 0
  UncutAt n = Marked marks n → Uncut (stand_in b n)

  module _ (n : ℕ) (here : Marked marks n) (below : (m : ℕ) → m < n → UncutAt m) where
    takes : (m : ℕ) → m < n → Marked marks m → stand_in b n ≡ stand_in b m → Uncut (stand_in b n)
    takes m h k q = rw q (below m h k)

    module _ (p l r : ℕ) (c : Literals) (a : node_at s n ≡ step p l r c) where
      before : (l < n) × (r < n)
      before = rw a at (good.earlier n)

      both : Marked marks l × Marked marks r
      both = marked-parents e rules s from good n p l r c a here

      uncut-ways : (u v : Bool) → cut_by low (link_at (links s) n) ≡ uncut → ByWay b (cond u (cond v step_anew take_right) take_left) n p l r
          → Uncut (stand_in b n)
      uncut-ways true true z q = rw q.0 (here, z)
      uncut-ways true false z q = takes r before.1 both.1 q
      uncut-ways false v z q = takes l before.0 both.0 q

      step-uncut : (z : Cut) → cut_by low (link_at (links s) n) ≡ z → Renewed b n (step p l r c) (kept z) → Uncut (stand_in b n)
      unfolding way_of
      step-uncut cut_left k q = takes r before.1 both.1 q
      step-uncut cut_right k q = takes l before.0 both.0 q
      step-uncut uncut k q = uncut-ways (holds (plus p) (standing b l)) (holds (minus p) (standing b r)) k q

    node-uncut : (m : Node) (z : Cut) → node_at s n ≡ m → cut_by low (link_at (links s) n) ≡ z → Renewed b n m (kept z) → Uncut (stand_in b n)
    unfolding cut_by
    node-uncut (given line c) z a k q = rw q.0 (here, rw (link-at s n, a))
    node-uncut (step p l r c) z a k q = step-uncut p l r c a z k q

    uncut-next : Uncut (stand_in b n)
    uncut-next = node-uncut (node_at s n) (cut_by low (link_at (links s) n)) refl refl
        (rw (marked-fate marks low (links s) n here) at (lo.walk.done n (marked-node e rules s from good n here)))

  stand_in-uncut : (m : ℕ) → StandsIn s says b m → Uncut m
  stand_in-uncut m (n, h, (z, k), q) =
      rw (← q) (by-rising UncutAt (λ i g y. uncut-next i y g) n (fate-marked marks low (links s) n z k).0)

  -- ---- what is left

  abbrev t : Ended
  t = come_back_all low b from

  back : Returning e rules s from good low b lo 0 t
  back = returned e rules s from good low b lo

  abbrev I : ℕ → Type 0
  I = IsLeft s from low b t

  pub all_small : (m : ℕ) → IsLeft s from low b (come_back_all low b from) m → m < length (come_back_all low b from).nodes
  all_small m (inl q) = omega (arith, back.long, stand_in-below s says b lo.walk m q)
  all_small m (inr q) = q.1

  abbrev k : ℕ
  k = lowered_below low (suc from)

  few-new : length t.nodes ≤ length s + k
  unfolding lowered_below sum_below
  few-new = omega (arith, back.few)

  cut_twice : k + k ≤ sum_below (if_marked marks cuts) (length s)
  unfolding uses_from cuts
  cut_twice = omega (
    arith,
    twice_cut low (trimmed (links s) marks) (suc from) lo.twice,
    rw (length-map s link) at (sum-trimmed (cuts_in low) (links s) marks (marks-long e rules s from good)),
  )

  cuts-once : (n : ℕ) → if_marked marks cuts n ≤ 1
  unfolding if_marked
  cuts-once n = by (eqb (get_or marks n 0) 0) refl
    where
      by : (u : Bool) → eqb (get_or marks n 0) 0 ≡ u → cond u 0 (cuts n) ≤ 1
      by true q = omega arith
      by false q = omega (arith, cuts-few n (omega (arith, eqb-false (get_or marks n 0) 0 q)), step_small (node_at s n))

  -- what each old node counts for, v, and each node that is left, v'
  module _ (v v' : ℕ → ℕ) (small : (n : ℕ) → v n ≤ 1) (small' : (n : ℕ) → v' n ≤ 1) (step_Counts : (n : ℕ) → step_of (node_at s n) ≤ v n)
      (keeps : (n : ℕ) → n < length s → v' n ≤ v n) where
    left : ℕ → ℕ
    left n = v n - cuts n

    g : ℕ → ℕ
    g n = cond (ltb n (length s)) (if_marked marks left n) 1

    g-old : (n : ℕ) → n < length s → g n ≡ if_marked marks left n
    unfolding g
    g-old n h = rw (lt-ltb n (length s) h)

    g-new : (n : ℕ) → length s ≤ n → g n ≡ 1
    unfolding g
    g-new n h = rw (le-ltb n (length s) h)

    pointwise : (n : ℕ) → if_marked marks left n + if_marked marks cuts n ≤ if_marked marks v n
    unfolding if_marked left
    pointwise n = by (eqb (get_or marks n 0) 0) refl
      where
        by : (u : Bool) → eqb (get_or marks n 0) 0 ≡ u → cond u 0 (v n - cuts n) + cond u 0 (cuts n) ≤ cond u 0 (v n)
        by true q = omega arith
        by false q = omega (arith, cuts-few n (omega (arith, eqb-false (get_or marks n 0) 0 q)), step_Counts n)

    marked-small : (n : ℕ) → if_marked marks v n ≤ 1
    unfolding if_marked
    marked-small n = cond_both (λ x. x ≤ 1) (eqb (get_or marks n 0) 0) 0 (v n) (omega arith) (small n)

    g-small : (n : ℕ) → g n ≤ 1
    g-small n = elim (dec_lt n (length s)) [
      | yes h ↦ omega (arith, g-old n h, pointwise n, marked-small n)
      | no h ↦ omega (arith, g-new n (omega arith))
    ]

    each : (m : ℕ) → I m → v' m ≤ g m
    unfolding left cuts
    each m (inl q) =
        let h = stand_in-below s says b lo.walk m q in
        let u = stand_in-uncut m q in
        rw (g-old m h, marked-counts marks left m u.0, uncut-none low (link_at (links s) m) u.1) (omega (arith, keeps m h))
    each m (inr q) = rw (g-new m q.0) (small' m)

    left_over : (order : List ℕ) → InOrder (links t.nodes) I order → sum_over v' order + k ≤ sum_below (if_marked marks v) (length s)
    left_over order o = omega (
      arith,
      over-up (links t.nodes) I v' g each order o,
      order_le g (links t.nodes) I (length t.nodes) all_small order o,
      sum-beyond g (length s) (length t.nodes) back.long g-small,
      sum_below-le g (if_marked marks left) (length s) (λ n h. omega (arith, g-old n h)),
      sum_below-add (if_marked marks left) (if_marked marks cuts) (length s),
      sum_below-le (λ n. if_marked marks left n + if_marked marks cuts n) (if_marked marks v) (length s) (λ n h. pointwise n),
      cut_twice,
      few-new,
    )

  -- with k nodes lowered, at least k steps fewer
  pub fewer-steps : (order : List ℕ) → InOrder (links (come_back_all low b from).nodes) (IsLeft s from low b (come_back_all low b from)) order
      → steps_of (laid (come_back_all low b from).nodes order) + lowered_below low (suc from)
      ≤ sum_below (if_marked (trim (links s) from) (λ n. step_of (node_at s n))) (length s)
  fewer-steps order o = omega (
    arith,
    steps-laid t.nodes order,
    left_over (λ n. step_of (node_at s n)) (λ n. step_of (node_at t.nodes n)) (λ n. step_small (node_at s n)) (λ n. step_small (node_at t.nodes n))
        (λ n. omega arith) (λ n h. rw (back.old n h) (lo.walk.steps n)) order o,
  )

  -- and k nodes fewer
  pub fewer-nodes : (order : List ℕ) → InOrder (links (come_back_all low b from).nodes) (IsLeft s from low b (come_back_all low b from)) order
      → length order + lowered_below low (suc from) ≤ sum_below (if_marked (trim (links s) from) (λ n. 1)) (length s)
  fewer-nodes order o = omega (
    arith,
    sum_over-ones order,
    left_over (λ n. 1) (λ n. 1) (λ n. omega arith) (λ n. omega arith) (λ n. step_small (node_at s n)) (λ n h. omega arith) order o,
  )

  -- numbers stay below half as many again
  pub half-more : 2 * length (come_back_all low b from).nodes ≤ 3 * length s
  half-more = omega (
    arith,
    few-new,
    cut_twice,
    sum_below-le (if_marked marks cuts) (λ n. 1) (length s) (λ n h. cuts-once n),
    sum_below-ones (length s),
  )
