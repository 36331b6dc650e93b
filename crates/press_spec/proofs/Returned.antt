-- Lowered nodes come back: for any pass of lowering that shows `Lowers`, (i) and (xi) among them, every node of the result is proper, the
-- conclusion has no literal outside the old one, and of the three ways to return the middle one never comes up.
use Prim.Native.Nat.{ℕ, suc, ◌+◌, ◌≤◌, ◌<◌}
use mathlib.Core.Bool.{Bool, true, false, cond, false≢true}
use mathlib.Core.Path.{◌≡◌, refl, sym, ap, ◌∙◌}
use mathlib.Core.Logic.{◌≢◌, ◌⊎◌, inl, inr}
use mathlib.Core.List.{List, [], ◌∷◌, ◌++◌}
use native.Mathlib.Omega.{arith}
use native.Mathlib.Decide.{ℕ_discrete}
use lib.ListN.{length}
use Rattle.base.proofs.Folds.{fall-by}
use Rattle.clause.specs.Clauses.{Literal, plus, minus, Literals, holds, adding, Within}
use Rattle.clause.proofs.Clauses.{variable}
use Rattle.sheet.specs.declared.edition.Edition.{Edition}
use Rattle.sheet.specs.Editions.{variables}
use Rattle.sheet.specs.Records.{Node, given, step, clause, node_at}
use Rattle.press_spec.specs.Links.{Link, leaf, join, link, links, link_at, Parents}
use Rattle.press_spec.specs.Trim.{trim, uses_in, uses_from}
use Rattle.press_spec.specs.Recycle.{Fate}
use Rattle.press_spec.specs.Rebuild.{Built, stand_in, standing, Ended, ended, ended_at}
use Rattle.press_spec.specs.Lower.{opposite, Lowered, staying, lowered, cut_by, fates_by, conclusion_stays, unit_concludes, resolves, return_of, resolving, by_return, come_back, return_turn, come_back_all, Back, none_back, one_back}
use Rattle.press_spec.proofs.Proper.{ProperNode}
use Rattle.press_spec.proofs.Nodes.{Falls, Earlier, link-at, length_more, node_at-before, node_at-end, proper-more, everywhere}
use Rattle.press_spec.proofs.Literals.{in-adding, in-resolvent}
use Rattle.press_spec.proofs.Trimmed.{Marked, used-parent}
use Rattle.press_spec.proofs.Rebuilt.{Rebuilding, IsKept, StandsIn, stand_in-sound, stand_in-below}
use Rattle.press_spec.proofs.Allowed.{Allowed, allowed-closed, standing-within}
use Rattle.press_spec.proofs.Counted.{sum_below}
use Rattle.press_spec.proofs.Owed.{owed_below, owed_more, owed-staying, owed-lowered, used-named, marked-fate, OnOwn, Concludes, last-marked, used-node, lowering-proper, lowering-allowed}

-- ---- what a pass of lowering shows, of the nodes that it lowers and what the rebuild made of them

pub record Lowers (s : List Node) (from : ℕ) (low : ℕ → Lowered) (b : Built) : Type 0 where
  pub walk : Rebuilding s (fates_by (trim (links s) from) low (links s)) (length s) b
  pub twice : (n : ℕ) (x : Literal) → low n ≡ lowered x → 2 ≤ uses_from (links s) from n
  pub own : OnOwn (links s) from low
  pub apart : (m n : ℕ) (x y : Literal) → low m ≡ lowered x → low n ≡ lowered y → x ≡ opposite y → ⊥
  pub carries : (n : ℕ) (x : Literal) → low n ≡ lowered x → holds x (standing b n) ≡ true
  pub rest : (n : ℕ) (x : Literal) → low n ≡ lowered x → Within (standing b n) (adding x (owed_below low n))

-- ---- the new step

module _ (s : List Node) (u n : ℕ) where
  resolving-parents : (Q : ℕ → Type 0) (x : Literal) → Q u → Q n → Parents Q (link (resolving x s u n))
  unfolding resolving
  resolving-parents Q (plus p) a b = (a, b)
  resolving-parents Q (minus p) a b = (b, a)

  resolving-proper : (e : Edition) (rules : List ℕ) (k : ℕ) (x : Literal) → variable x < variables e → u < k → n < k
      → holds x (clause (node_at s u)) ≡ true → holds (opposite x) (clause (node_at s n)) ≡ true → ProperNode e rules s k (resolving x s u n)
  unfolding resolving opposite
  resolving-proper e rules k (plus p) v a b h o = (v, a, b, h, o, refl)
  resolving-proper e rules k (minus p) v a b h o = (v, b, a, o, h, refl)

  -- a literal of the result comes from the unit and is not x, or from the conclusion and is not the opposite of x
  resolving-from : (x y : Literal) → holds y (clause (resolving x s u n)) ≡ true
      → ((y ≢ x) × (holds y (clause (node_at s u)) ≡ true)) ⊎ ((y ≢ opposite x) × (holds y (clause (node_at s n)) ≡ true))
  unfolding resolving opposite clause
  resolving-from (plus p) y h = in-resolvent y p (clause (node_at s u)) (clause (node_at s n)) h
  resolving-from (minus p) y h = elim (in-resolvent y p (clause (node_at s n)) (clause (node_at s u)) h) [ inl q ↦ inr q | inr q ↦ inl q ]

-- ---- the walk down

unfoldable pub one : Lowered → ℕ
one staying = 0
one (lowered x) = 1

one-lowered : (x : Literal) → one (lowered x) ≡ 1
unfolding one
one-lowered x = refl

-- how many nodes below n are lowered
unfoldable pub lowered_below : (ℕ → Lowered) → ℕ → ℕ
lowered_below low n = sum_below (λ k. one (low k)) n

counted_next : (low : ℕ → Lowered) (i : ℕ) → lowered_below low (suc i) ≡ one (low i) + lowered_below low i
unfolding lowered_below sum_below
counted_next low i = refl

abbrev conclusion_of : Ended → Literals
conclusion_of t = clause (node_at t.nodes t.last)

-- node m of t is the stand-in of a node of s, or one of the new steps
abbrev pub IsLeft : List Node → ℕ → (ℕ → Lowered) → Built → Ended → ℕ → Type 0
IsLeft s from low b t m = StandsIn s (fates_by (trim (links s) from) low (links s)) b m ⊎ ((length s ≤ m) × (m < length t.nodes))

module _ (e : Edition) (rules : List ℕ) (s : List Node) (from : ℕ) (good : Concludes e rules s from) (low : ℕ → Lowered) (b : Built)
    (lo : Lowers s from low b) where
  abbrev says : ℕ → Fate
  says = fates_by (trim (links s) from) low (links s)

  abbrev In : Ended → ℕ → Type 0
  In t m = IsLeft s from low b t m

  -- no literal outside the old conclusion but what is still owed below i
  abbrev Outstanding : ℕ → Literals → Type 0
  Outstanding i c = (y : Literal) → holds y c ≡ true → (holds y (clause (node_at s from)) ≡ true) ⊎ (holds y (owed_below low i) ≡ true)

  -- the nodes from i on are back
  pub record Returning (i : ℕ) (t : Ended) : Type 0 where
    pub long : length s ≤ length t.nodes
    pub old : (m : ℕ) → m < length s → node_at t.nodes m ≡ node_at b.nodes m
    pub earlier : Earlier t.nodes
    pub sound : (m : ℕ) → IsLeft s from low b t m → ProperNode e rules t.nodes m (node_at t.nodes m) × Parents (IsLeft s from low b t) (link (node_at t.nodes m))
    pub last : IsLeft s from low b t t.last
    pub within : Outstanding i (conclusion_of t)
    pub few : length t.nodes + lowered_below low i ≤ length s + lowered_below low (suc from)

  lowered-marked : (n : ℕ) (x : Literal) → low n ≡ lowered x → Marked (trim (links s) from) n
  lowered-marked n x q = used-node e rules s from good n (omega (arith, lo.twice n x q))

  -- the literal of a lowered node is one of the edition's
  literal-small : (n : ℕ) (x : Literal) → low n ≡ lowered x → variable x < variables e
  unfolding uses_from
  literal-small n x q =
      let (k, m, u) = used-named (links s) (trim (links s) from) n (omega (arith, lo.twice n x q)) in
      by k m (node_at s k) refl (rw (link-at s k) at u)
    where
      by : (k : ℕ) → Marked (trim (links s) from) k → (y : Node) → node_at s k ≡ y → 1 ≤ uses_in n (link y) → variable x < variables e
      by k m (given line c) a u = absurd (unfold uses_in in omega arith)
      by k m (step p l r c) a u =
          let d : ProperNode e rules s k (step p l r c) = rw a at (good.proper k m) in
          let j : link_at (links s) k ≡ join p l r = link-at s k ∙ ap link a in
          elim (used-parent n p l r u) [
            | inl y ↦ rw ((lo.own k p l r m j x).0 (rw (← y) q)) d.0
            | inr y ↦ rw ((lo.own k p l r m j x).1 (rw (← y) q)) d.0
          ]

  start-kept : IsKept says from
  start-kept = (
    cut_by low (link_at (links s) from),
    marked-fate (trim (links s) from) low (links s) from (last-marked e rules s from good),
  )

  allowed : Allowed says (owed_below low) (links s)
  allowed = lowering-allowed e rules s from good low lo.own

  start-within : Outstanding from (conclusion_of (ended_at b from))
  unfolding standing ended_at
  start-within y h = standing-within e rules s says (lowering-proper e rules s from good low) (owed_below low) allowed
      b lo.walk from start-kept.0 good.inside start-kept.1 y h

  returning-start : Returning (suc from) (ended_at b from)
  returning-start = record {
    long = unfold ended_at in omega (arith, lo.walk.nodes-long);
    old = λ m h. unfold ended_at in refl;
    earlier = unfold ended_at in lo.walk.falling;
    sound = λ m q. elim q [
      | inl y ↦ unfold ended_at in let z = stands m y in (z.0, up (link (node_at b.nodes m)) z.1)
      | inr y ↦ absurd (unfold ended_at in omega (arith, lo.walk.nodes-long, y))
    ];
    last = unfold ended_at in inl (from, good.inside, start-kept, refl);
    within = λ y h. elim (start-within y h) [ inl k ↦ inl k | inr k ↦ inr (owed_more low from (suc from) (omega arith) y k) ];
    few = unfold ended_at in omega (arith, lo.walk.nodes-long);
  }
    where
      stands : (m : ℕ) → StandsIn s says b m
          → ProperNode e rules b.nodes m (node_at b.nodes m) × Parents (StandsIn s says b) (link (node_at b.nodes m))
      stands = stand_in-sound e rules s says (lowering-proper e rules s from good low) (allowed-closed says (owed_below low) (links s) allowed) b lo.walk

      up : (x : Link) → Parents (StandsIn s says b) x → Parents (In (ended_at b from)) x
      up (leaf line) d = tt
      up (join p l r) d = (inl d.0, inl d.1)

  -- ---- one more is back

  in_small : (t : Ended) → length s ≤ length t.nodes → (m : ℕ) → In t m → m < length t.nodes
  in_small t h m (inl q) = omega (arith, stand_in-below s says b lo.walk m q)
  in_small t h m (inr q) = q.1

  module _ (i : ℕ) (inside : i < length s) (t : Ended) (so : Returning (suc i) t) where
    -- the nodes stay
    same : Outstanding i (conclusion_of t) → Returning i t
    same g = record {
      long = so.long;
      old = so.old;
      earlier = so.earlier;
      sound = so.sound;
      last = so.last;
      within = g;
      few = omega (arith, so.few, counted_next low i);
    }

    module _ (x : Literal) (q : low i ≡ lowered x) where
      abbrev unit : ℕ
      unit = stand_in b i

      abbrev unit_clause : Literals
      unit_clause = clause (node_at t.nodes unit)

      unit-clause : unit_clause ≡ standing b i
      unfolding standing
      unit-clause = ap clause (so.old unit (omega (arith, lo.walk.low i)))

      unit-in : In t unit
      unit-in = inl (i, inside, (cut_by low (link_at (links s) i), marked-fate (trim (links s) from) low (links s) i (lowered-marked i x q)), refl)

      unit-holds : holds x unit_clause ≡ true
      unit-holds = rw unit-clause (lo.carries i x q)

      -- the middle way is dead: "the rebuilt unit lacks l" never holds when it comes back
      never-concludes : return_of x (clause (node_at t.nodes (stand_in b i))) (clause (node_at t.nodes t.last)) ≡ unit_concludes → ⊥
      unfolding return_of
      never-concludes = by (holds (opposite x) (conclusion_of t)) (holds x unit_clause) unit-holds
        where
          by : (u v : Bool) → v ≡ true → cond u (cond v resolves unit_concludes) conclusion_stays ≡ unit_concludes → ⊥
          by true true h e = let z : ◌≡◌ {A = ℕ} 0 1 = cc in omega arith
          by true false h e = false≢true h
          by false v h e = let z : ◌≡◌ {A = ℕ} 0 1 = cc in omega arith

      -- what is left of the conclusion and of the unit
      conclusion-rest : (y : Literal) → y ≢ opposite x → holds y (conclusion_of t) ≡ true
          → (holds y (clause (node_at s from)) ≡ true) ⊎ (holds y (owed_below low i) ≡ true)
      conclusion-rest y n h = elim (so.within y h) [
        | inl k ↦ inl k
        | inr k ↦ elim (in-adding y (opposite x) (owed_below low i) (rw (owed-lowered low i x q) at k)) [ inl z ↦ absurd (n z) | inr z ↦ inr z ]
      ]

      unit-rest : (y : Literal) → y ≢ x → holds y unit_clause ≡ true → holds y (owed_below low i) ≡ true
      unit-rest y n h = elim (in-adding y x (owed_below low i) (lo.rest i x q y (rw unit-clause at h))) [ inl z ↦ absurd (n z) | inr z ↦ z ]

      abbrev new : Node
      new = resolving x t.nodes unit t.last

      abbrev t' : Ended
      t' = ended (t.nodes ++ (new ∷ [])) (length t.nodes)

      in-more : (m : ℕ) → In t m → In t' m
      in-more m (inl y) = inl y
      in-more m (inr y) = inr (y.0, omega (arith, y.1, length_more t.nodes new))

      parents-more : (y : Link) → Parents (In t) y → Parents (In t') y
      parents-more (leaf line) d = tt
      parents-more (join p l r) d = (in-more l d.0, in-more r d.1)

      in-less : (m : ℕ) → m ≢ length t.nodes → In t' m → In t m
      in-less m n (inl y) = inl y
      in-less m n (inr y) = inr (y.0, omega (arith, y.1, length_more t.nodes new))

      falls-more : (m : ℕ) → m < length t'.nodes → Falls m (link (node_at t'.nodes m))
      falls-more m h = elim (ℕ_discrete m (length t.nodes)) [
        | yes z ↦ rw (z, node_at-end t.nodes new) (resolving-parents t.nodes unit t.last (λ k. k < length t.nodes) x
            (in_small t so.long unit unit-in) (in_small t so.long t.last so.last))
        | no z ↦ rw (node_at-before t.nodes new m (omega (arith, length_more t.nodes new))) (so.earlier m)
      ]

      sound_more : holds (opposite x) (conclusion_of t) ≡ true → (m : ℕ) → In t' m
          → ProperNode e rules t'.nodes m (node_at t'.nodes m) × Parents (In t') (link (node_at t'.nodes m))
      sound_more o m g = elim (ℕ_discrete m (length t.nodes)) [
        | yes z ↦ rw (z, node_at-end t.nodes new) (
          proper-more e rules t.nodes new (length t.nodes) (omega arith) new (
              resolving-proper t.nodes unit t.last e rules (length t.nodes) x (literal-small i x q)
              (in_small t so.long unit unit-in) (in_small t so.long t.last so.last) unit-holds o),
          resolving-parents t.nodes unit t.last (In t') x (in-more unit unit-in) (in-more t.last so.last),
        )
        | no z ↦
            let k = in-less m z g in
            let small = in_small t so.long m k in
            let d = so.sound m k in
            rw (node_at-before t.nodes new m small) (
              proper-more e rules t.nodes new m (omega (arith, small)) (node_at t.nodes m) d.0,
              parents-more (link (node_at t.nodes m)) d.1,
            )
      ]

      new-within : Outstanding i (conclusion_of t')
      new-within y h = elim (resolving-from t.nodes unit t.last x y (rw (node_at-end t.nodes new) at h)) [
        | inl k ↦ inr (unit-rest y k.0 k.1)
        | inr k ↦ conclusion-rest y k.0 k.1
      ]

      resolved : holds (opposite x) (conclusion_of t) ≡ true → Returning i t'
      resolved o = record {
        long = omega (arith, so.long, length_more t.nodes new);
        old = λ m h. node_at-before t.nodes new m (omega (arith, so.long)) ∙ so.old m h;
        earlier = everywhere (λ m y. Falls m (link y)) t'.nodes (λ m. tt) falls-more;
        sound = sound_more o;
        last = inr (so.long, omega (arith, length_more t.nodes new));
        within = new-within;
        few = omega (arith, so.few, counted_next low i, one-lowered x, ap one q, length_more t.nodes new);
      }

      by-return : (u v : Bool) → holds (opposite x) (conclusion_of t) ≡ u → holds x unit_clause ≡ v
          → Returning i (by_return (cond u (cond v resolves unit_concludes) conclusion_stays) x unit t)
      unfolding by_return
      by-return true true o h = resolved o
      by-return true false o h = absurd (false≢true (sym h ∙ unit-holds))
      by-return false v o h = same (λ y k. conclusion-rest y (λ z. false≢true (sym o ∙ (rw z at k))) k)

    come-back : (k : Lowered) → low i ≡ k → Returning i (come_back k (stand_in b i) t)
    unfolding come_back return_of
    come-back staying q = same (λ y h. rw (owed-staying low i q) at (so.within y h))
    come-back (lowered x) q = by-return x q (holds (opposite x) (conclusion_of t)) (holds x (clause (node_at t.nodes (stand_in b i)))) refl refl

  -- every node that stands for one or is new is proper, and the conclusion has no literal outside the old one
  pub returned : Returning 0 (come_back_all low b from)
  unfolding come_back_all return_turn
  returned = fall-by Returning (return_turn low b) (suc from) _ (λ i t h so. come-back i (omega (arith, good.inside)) t so (low i) refl) returning-start

  -- so on the way
  back-returning : {i : ℕ} {t : Ended} → Back low b from i t → (i ≤ suc from) × Returning i t
  unfolding return_turn
  back-returning none_back = (omega arith, returning-start)
  back-returning (one_back {n = i} {t = t} w) = let (h, so) = back-returning w in (omega (arith, h), come-back i (omega (arith, h, good.inside)) t so (low i) refl)

  -- and of the three ways to return the middle one never comes up
  pub unit-never-concludes : (i : ℕ) (t : Ended) (x : Literal) → Back low b from (suc i) t → low i ≡ lowered x
      → return_of x (clause (node_at t.nodes (stand_in b i))) (clause (node_at t.nodes t.last)) ≡ unit_concludes → ⊥
  unit-never-concludes i t x w q = let (h, so) = back-returning w in never-concludes i (omega (arith, h, good.inside)) t so x q
