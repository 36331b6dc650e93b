-- Laws of the tables of reaches. For `search` in the proofs of their functions and in the turns of recycling.
use Prim.Native.Nat.{ℕ, zero, suc, ◌<◌}
use mathlib.Core.Path.{◌≡◌, refl, ap, ◌∙◌}
use mathlib.Core.List.{List, [], ◌∷◌}
use lib.ListN.{length, get_or, set, replicate}
use Rattle.std.specs.Prelude.{Option, None}
use Rattle.clause.specs.Clauses.{Literals}
use Rattle.clause.specs.declared.Clause.{Clause}
use Rattle.press_spec.specs.Recycle.{Reach, unreached, reached}
use Rattle.press_nodes.specs.declared.fate.Side.{Side}
use Rattle.press_nodes.specs.declared.fate.Fate.{Fate}
use Rattle.press_nodes.specs.declared.fate.Fate.TheVariants.{Lost, Kept}
use Rattle.press_nodes.specs.Tables.{clauses_in, beside, changed}
use Rattle.press_nodes.proofs.Tables.{beside-length, beside_at, beside-set}
use Rattle.press_reach.specs.Reaches.{reach_of, reaches_in}

-- every node lost: nothing is reached, whatever the sets hold
blank : (n : ℕ) (g : ℕ → Literals) → beside reach_of (replicate n Lost) g ≡ replicate n unreached
unfolding beside reach_of
blank zero g = refl
blank (suc n) g = ap (λ (t : List Reach). unreached ∷ t) (blank n (λ m. g (suc m)))

pub reach_start : (fates cleared : List Fate) (sets : List Clause) (n : ℕ) (S : Literals) (next : List Reach)
    → cleared ≡ replicate (length fates) Lost → next ≡ set (reaches_in cleared sets) n (reached S)
    → next ≡ set (replicate (length fates) unreached) n (reached S)
unfolding reaches_in
reach_start fates cleared sets n S next e d = d ∙ rw (e, blank (length fates) (clauses_in sets))

-- a node that is kept, by another cut
same-marks : (t : List Fate) (g : ℕ → Literals) (n : ℕ) (old new : Option Side) → get_or t n Lost ≡ Kept old
    → beside reach_of (set t n (Kept new)) g ≡ beside reach_of t g
unfolding beside reach_of
same-marks [] g n old new o = refl
same-marks (y ∷ t) g zero old new o = rw o
same-marks (y ∷ t) g (suc n) old new o = ap (λ (u : List Reach). reach_of y (g 0) ∷ u) (same-marks t (λ m. g (suc m)) n old new o)

module _ (fates : List Fate) (sets : List Clause) where
  pub reaches-length : length (reaches_in fates sets) ≡ length fates
  unfolding reaches_in
  reaches-length = beside-length reach_of fates (clauses_in sets)

  pub reaches_same : (n : ℕ) (old new : Option Side) → get_or fates n Lost ≡ Kept old → reaches_in (set fates n (Kept new)) sets ≡ reaches_in fates sets
  unfolding reaches_in
  reaches_same n old new o = same-marks fates (clauses_in sets) n old new o

  module _ (n : ℕ) where
    pub reach_put : (sets' : List Clause) (c : Literals) → clauses_in sets' ≡ changed n c (clauses_in sets)
        → reaches_in (set fates n (Kept None)) sets' ≡ set (reaches_in fates sets) n (reached c)
    unfolding reaches_in reach_of
    reach_put sets' c e = beside-set reach_of fates (clauses_in sets) (clauses_in sets') n (Kept None) c e

    module _ (inside : n < length fates) where
      pub reach_here : get_or (reaches_in fates sets) n unreached ≡ reach_of (get_or fates n Lost) (clauses_in sets n)
      unfolding reaches_in
      reach_here = beside_at reach_of fates (clauses_in sets) n Lost unreached inside

      pub reach-none : get_or fates n Lost ≡ Lost → unreached ≡ get_or (reaches_in fates sets) n unreached
      unfolding reach_of
      reach-none h = rw (reach_here, h)

      pub reach-some : (c : Literals) (cut : Option Side) → get_or fates n Lost ≡ Kept cut → c ≡ clauses_in sets n
          → reached c ≡ get_or (reaches_in fates sets) n unreached
      unfolding reach_of
      reach-some c cut h e = rw (reach_here, h, e)
