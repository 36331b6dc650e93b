-- What is lowered has room in a set.
use Prim.Native.Nat.{ℕ, suc, ◌≤◌, ◌<◌}
use mathlib.Core.Bool.{Bool, true, false, cond, ◌&&◌, not}
use mathlib.Core.Logic.{inl, inr}
use mathlib.Core.List.{List, [], ◌∷◌}
use mathlib.Core.Path.{◌≡◌, refl, ◌∙◌}
use native.Mathlib.Omega.{arith}
use lib.Dec.{eqb, leb}
use lib.ListN.{length}
use Rattle.base.proofs.Folds.{rise-by, fall-by}
use Rattle.base.proofs.Lists.{cond_both}
use Rattle.clause.specs.Clauses.{Literal, plus, minus, same_literal, Literals, holds}
use Rattle.clause.specs.Denote.{width}
use Rattle.sheet.specs.Records.{Node, clause, node_at}
use Rattle.press_spec.specs.Links.{Link, leaf, join, link, links, link_at}
use Rattle.press_spec.specs.Trim.{trim, trimmed, uses_from}
use Rattle.press_spec.specs.Rebuild.{Ended, ended}
use Rattle.press_spec.specs.Lower.{Lowered, staying, lowered, single, LoweredOnes, none_lowered, lower, low_at}
use Rattle.press_spec.specs.Units.{collect, collect_turn, collected}
use Rattle.press_spec.specs.Univalents.{Used, unused, once, often, mixed, used_too, used_as, used_in, used_on, lowerable, weigh, renew_turn, weigh_turn, rise_turn, risen_by, risen}
use Rattle.press_spec.proofs.Nodes.{link-at, everywhere}
use Rattle.press_spec.proofs.Singles.{none-lowered, none-long, never-lowered, lower_long, lower-cases}
use Rattle.press_nodes.specs.Tables.{Sound}
use Rattle.press_rebuild.proofs.Sounds.{SoundNodes}
use Rattle.press_reach.specs.Literals.{Narrow}
use Rattle.press_lowered.proofs.Searched.{single-narrow}

-- of k nodes
record AllNarrow (k : ℕ) (w : LoweredOnes) : Type 0 where
  long : length w.low ≡ k
  narrow : (n : ℕ) (x : Literal) → low_at w.low n ≡ lowered x → Narrow x

none-narrow : (k : ℕ) → AllNarrow k (none_lowered k)
none-narrow k = record {
  long = none-long k;
  narrow = λ n x q. absurd (never-lowered (low_at (none_lowered k).low n) x (none-lowered k n) q);
}

lower-narrow : (k i : ℕ) (x : Literal) (w : LoweredOnes) → i < k → Narrow x → AllNarrow k w → AllNarrow k (lower i x w)
lower-narrow k i x w h o d = record {
  long = lower_long i x w ∙ d.long;
  narrow = λ n y q. elim (lower-cases i x w (rw d.long h) n y q) [ inl e ↦ rw e.1 o | inr e ↦ d.narrow n y e.1 ];
}

-- ---- the units

module _ (v : ℕ) (t : Ended) (fits : v ≤ width) (inside : t.last < length t.nodes) where
  abbrev k : ℕ
  k = length t.nodes

  collect-narrow : (i uses : ℕ) (m : Lowered) (w : LoweredOnes) → i < k → ((x : Literal) → m ≡ lowered x → Narrow x) → AllNarrow k w
      → AllNarrow k (collect i uses m w)
  unfolding collect
  collect-narrow i uses staying w h o d = d
  collect-narrow i uses (lowered x) w h o d = by (leb 2 uses && not (holds x w.owed))
    where
      by : (b : Bool) → AllNarrow k (cond b (lower i x w) w)
      by true = lower-narrow k i x w h (o x refl) d
      by false = d

  all-narrow : AllNarrow k (collected v t)
  unfolding collected collect_turn
  all-narrow =
      fall-by (λ i w. AllNarrow k w) (collect_turn v t.nodes (uses_from (links t.nodes) t.last)) (suc t.last) (none_lowered k)
      (λ i w h d. collect-narrow i _ (single v (clause (node_at t.nodes i))) w (omega arith) (λ x q. single-narrow v (clause (node_at t.nodes i)) x fits q) d)
      (none-narrow k)

  pub collected-narrow : (n : ℕ) (x : Literal) → low_at (collected v t).low n ≡ lowered x → Narrow x
  collected-narrow = all-narrow.narrow

-- ---- the univalents: a pivot is a variable

abbrev NarrowUse : Used → Type 0
NarrowUse unused = Unit {0}
NarrowUse (once x) = Narrow x
NarrowUse (often x) = Narrow x
NarrowUse mixed = Unit {0}

too-narrow : (x : Literal) (u : Used) → Narrow x → NarrowUse u → NarrowUse (used_too x u)
unfolding used_too
too-narrow x unused h g = h
too-narrow x (once y) h g = cond_both NarrowUse (same_literal x y) (often y) mixed g tt
too-narrow x (often y) h g = cond_both NarrowUse (same_literal x y) (often y) mixed g tt
too-narrow x mixed h g = tt

abbrev Pivot : Link → Type 0
Pivot (leaf line) = Unit {0}
Pivot (join p l r) = p < width

in-narrow : (n : ℕ) (m : Link) (u : Used) → Pivot m → NarrowUse u → NarrowUse (used_in n m u)
unfolding used_in used_as
in-narrow n (leaf line) u h g = g
in-narrow n (join p l r) u h g =
    let right : NarrowUse (cond (eqb n r) (used_too (minus p) u) u) =
    cond_both NarrowUse (eqb n r) (used_too (minus p) u) u (too-narrow (minus p) u h g) g in
    cond_both NarrowUse (eqb n l) (used_too (plus p) (cond (eqb n r) (used_too (minus p) u) u)) (cond (eqb n r) (used_too (minus p) u) u)
    (too-narrow (plus p) (cond (eqb n r) (used_too (minus p) u) u) h right) right

used-narrow : (s : List Link) (marks : List ℕ) (n : ℕ) → ((i : ℕ) → Pivot (link_at s i)) → NarrowUse (used_on (trimmed s marks) n)
unfolding used_on trimmed link_at
used-narrow [] marks n f = tt
used-narrow (m ∷ s) [] n f = tt
used-narrow (m ∷ s) (k ∷ marks) n f =
    let rest = used-narrow s marks n (λ i. f (suc i)) in
    cond_both (λ t. NarrowUse (used_on t n)) (eqb k 0) (trimmed s marks) (m ∷ trimmed s marks) rest
    (in-narrow n m (used_on (trimmed s marks) n) (f 0) rest)

sound-pivot : (n : ℕ) (m : Link) → Sound n m → Pivot m
sound-pivot n (leaf line) h = tt
sound-pivot n (join p l r) h = h.0

module _ (s : List Node) (from : ℕ) (sound : SoundNodes s) where
  pivots : (i : ℕ) → Pivot (link_at (links s) i)
  pivots i = rw (link-at s i) (everywhere (λ n m. Pivot (link m)) s (λ n. tt) (λ n h. sound-pivot n (link (node_at s n)) (sound n h)) i)

  weigh-narrow : (k i : ℕ) (u : Used) (c : Literals) (w : LoweredOnes) → i < k → NarrowUse u → AllNarrow k w → AllNarrow k (weigh i u c w)
  unfolding weigh
  weigh-narrow k i unused c w h o d = d
  weigh-narrow k i (once x) c w h o d = d
  weigh-narrow k i (often x) c w h o d = cond_both (AllNarrow k) (lowerable x c w.owed) (lower i x w) w (lower-narrow k i x w h o d) d
  weigh-narrow k i mixed c w h o d = d

  pub risen-narrow : (n : ℕ) (x : Literal) → low_at (risen (ended s from)).ones.low n ≡ lowered x → Narrow x
  unfolding risen risen_by rise_turn weigh_turn renew_turn
  risen-narrow =
      (rise-by (λ i x. AllNarrow (length s) x.ones) (rise_turn (trim (links s) from) s (used_on (trimmed (links s) (trim (links s) from)))) (length s) _
      (λ i x h d. weigh-narrow (length s) i _ _ x.ones h (used-narrow (links s) (trim (links s) from) i pivots) d) (none-narrow (length s))).narrow
