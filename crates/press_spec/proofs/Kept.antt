-- What every press keeps: step 4 leaves an `Ending`, by any cuts that are Allowed, and so does each pass of lowering. And the press of the scope document as
-- one of these.
use Rattle.std.proofs.Common.{None, Some}
use Prim.Native.Nat.{ℕ, suc, ◌*◌, ◌≤◌, ◌<◌, pred}
use mathlib.Core.Path.{◌≡◌, refl, ap}
use mathlib.Core.Bool.{true}
use mathlib.Core.Logic.{◌⊎◌, inl, inr}
use mathlib.Core.List.{List}
use native.Mathlib.Omega.{arith}
use lib.ListN.{length, get_or, length-map}
use Rattle.clause.specs.Clauses.{Literal, Literals, none, holds, Within}
use Rattle.sheet.specs.declared.edition.Edition.{Edition}
use Rattle.sheet.specs.Editions.{variables}
use Rattle.sheet.specs.Records.{Node, clause, node_at}
use Rattle.sheet.specs.Counts.{steps_of}
use Rattle.press_spec.specs.declared.Recycling.{Recycling}
use Rattle.press_spec.specs.declared.Lowerable.{Lowerable}
use Rattle.press_spec.specs.declared.Lowerable.TheVariants.{Units, Univalents}
use Rattle.press_spec.specs.declared.Plan.{Plan}
use Rattle.press_spec.specs.Links.{link, links, sink}
use Rattle.press_spec.specs.Trim.{uses_from}
use Rattle.press_spec.specs.Plans.{plan, Lowering}
use Rattle.press_spec.specs.Recycle.{Reach, unreached, reached, Fit, fit_of, Fate, fates}
use Rattle.press_spec.specs.Rebuild.{Built, stand_in, standing, rebuild, Ended, ended_at}
use Rattle.press_spec.specs.Lower.{Lowered, lowered, low_at, unit_concludes, return_of, Back}
use Rattle.press_spec.specs.Units.{units_built}
use Rattle.press_spec.specs.Lowerings.{lows_of, built_of, lower_of, lower_by}
use Rattle.press_spec.specs.Press.{conclusion, reaches, recycled, shortened, arranged, chosen_fit, concluded, pressed_from, pressed}
use Rattle.press_spec.proofs.Proper.{AllProper, Kept}
use Rattle.press_spec.proofs.Nodes.{Falling, links-falling, proper-falling}
use Rattle.press_spec.proofs.Rebuilt.{Rebuilding, rebuilt, IsKept, StandsIn, stand_in-sound, stand_in-below}
use Rattle.press_spec.proofs.Allowed.{Allowed, allowed-closed, standing-within}
use Rattle.press_spec.proofs.Fair.{Fair, chosen-fair}
use Rattle.press_spec.proofs.Recycled.{sets_in, set_is, is-kept, recycle-allowed, recycle-keeps, recycle-starts}
use Rattle.press_spec.proofs.Counted.{order-fits}
use Rattle.press_spec.proofs.Laid.{laid-shorter}
use Rattle.press_spec.proofs.Owed.{Concludes}
use Rattle.press_spec.proofs.Ending.{Ending, ending-kept, ending-concludes}
use Rattle.press_spec.proofs.Returned.{Lowers, unit-never-concludes}
use Rattle.press_spec.proofs.Shortened.{half-more}
use Rattle.press_spec.proofs.Lowered.{lowering-ending, lowering-shortens}
use Rattle.press_spec.proofs.Units.{units-lower}
use Rattle.press_spec.proofs.Univalents.{univalents-lower}

pub sink-inside : (s : List Node) → 1 ≤ length s → sink s < length s
unfolding sink
sink-inside s h = let k : pred (length s) < length s = omega arith in k

-- ---- any cuts that are Allowed, and the rebuild

module _ (e : Edition) (rules : List ℕ) (s : List Node) (proper : AllProper e rules s) (full : 1 ≤ length s)
    (says : ℕ → Fate) (S : ℕ → Literals) (allowed : Allowed says S (links s)) (sinks : IsKept says (sink s)) where
  abbrev b : Built
  b = rebuild s says

  walk : Rebuilding s says (length s) b
  walk = rebuilt s says (proper-falling e rules s proper)

  small : (m : ℕ) → StandsIn s says b m → m < length s
  small = stand_in-below s says b walk

  within : Within (S (sink s)) (conclusion s) → Within (standing b (sink s)) (conclusion s)
  unfolding conclusion
  within sub x h =
      elim (standing-within e rules s says (λ n z h q. proper n h) S allowed b walk (sink s) sinks.0 (sink-inside s full) sinks.1 x h) [
        | inl k ↦ k
        | inr k ↦ sub x k
      ]

  pub cuts-ending : Within (S (sink s)) (conclusion s) → Ending e rules s (ended_at (rebuild s says) (sink s)) (StandsIn s says (rebuild s says))
  unfolding ended_at
  cuts-ending sub = record {
    earlier = walk.falling;
    small = λ m q. rw walk.nodes-long (small m q);
    last = (sink s, sink-inside s full, sinks, refl);
    sound = stand_in-sound e rules s says (λ n z h q. proper n h) (allowed-closed says S (links s) allowed) b walk;
    within = unfold standing in within sub;
    fits = λ order o. order-fits (links b.nodes) (StandsIn s says b) (length s) small order o;
    shorter = λ order o. laid-shorter b.nodes (StandsIn s says b) (length s) small order o s refl walk.steps;
  }

-- ---- recycling

-- a node that stands for one that recycling reached
abbrev pub IsReached : Fit → Literals → List Node → ℕ → Type 0
IsReached fit S s n = StandsIn s (fates (links s) (reaches fit S s)) (recycled fit S s) n

module _ (e : Edition) (rules : List ℕ) (s : List Node) (proper : AllProper e rules s) (full : 1 ≤ length s) (fit : Fit)
    (fair : Fair (uses_from (links s) (sink s)) fit) (S₀ : Literals) where
  abbrev table : List Reach
  table = reaches fit S₀ s

  abbrev says : ℕ → Fate
  says = fates (links s) table

  falling : Falling (links s)
  falling = links-falling s (proper-falling e rules s proper)

  inside : sink s < length (links s)
  inside = rw (length-map s link) (sink-inside s full)

  allowed : Allowed says (sets_in table) (links s)
  allowed = recycle-allowed fit S₀ (links s) falling (sink s) inside fair

  pub recycled-ending : Within S₀ (conclusion s) → Ending e rules s (shortened fit S₀ s) (IsReached fit S₀ s)
  unfolding shortened recycled
  recycled-ending sub =
      cuts-ending e rules s proper full says (sets_in table) allowed (recycle-keeps fit S₀ (links s) falling (sink s) inside fair)
      (rw (recycle-starts fit S₀ (links s) falling (sink s) inside fair) sub)

  -- The fact that every recycling is proved from: "the new clause has no literal outside the old one and S".
  pub recycled-within : (n : ℕ) (R : Literals) → n < length s → get_or (reaches fit S₀ s) n unreached ≡ reached R
      → (x : Literal) → holds x (standing (recycled fit S₀ s) n) ≡ true → (holds x (clause (node_at s n)) ≡ true) ⊎ (holds x R ≡ true)
  unfolding recycled
  recycled-within n R h q x t =
      let (z, y) = is-kept (links s) table n R q in
      rw (set_is (links s) table n R q) at
      (standing-within e rules s says (λ k z h q. proper k h) (sets_in table) allowed (rebuild s says) (rebuilt s says (proper-falling e rules s proper)) n z h y x t)

-- ---- the press: "the sink's S is its clause", which is within the conclusion, being just that

module _ (e : Edition) (how : Recycling) (rules : List ℕ) (s : List Node) (proper : AllProper e rules s) (full : 1 ≤ length s) where
  abbrev count : ℕ → ℕ
  count = uses_from (links s) (sink s)

  -- what 1 to 4 leave
  abbrev four : Ended
  four = shortened (fit_of how count) (conclusion s) s

  four-ending : Ending e rules s four (IsReached (fit_of how count) (conclusion s) s)
  four-ending = recycled-ending e rules s proper full (fit_of how count) (chosen-fair how count) (conclusion s) (λ x h. h)

  four-long : length four.nodes ≡ length s
  unfolding shortened recycled ended_at
  four-long = (rebuilt s _ (proper-falling e rules s proper)).nodes-long

  abbrev low : Lowerable → ℕ → Lowered
  low which = low_at (lows_of which (variables e) four)

  abbrev so : Lowerable → Built
  so which = built_of which (variables e) four

  -- each pass of lowering is one
  lowers : (which : Lowerable) → Lowers four.nodes four.last (low which) (so which)
  unfolding lows_of built_of units_built
  lowers Units = units-lower e rules (variables e) four.nodes four.last (ending-concludes e rules s four _ four-ending)
  lowers Univalents = univalents-lower e rules four.nodes four.last (ending-concludes e rules s four _ four-ending)

  low-kept : (w : Lowering) → Kept e rules s (arranged (lower_by w (variables e) four))
  unfolding lower_by lower_of
  low-kept None = ending-kept e rules s four _ four-ending
  low-kept (Some which) = ending-kept e rules s _ _ (lowering-ending e rules s four _ four-ending (low which) (so which) (lowers which))

  low-concludes : (w : Lowering) → Concludes e rules (lower_by w (variables e) four).nodes (lower_by w (variables e) four).last
  unfolding lower_by lower_of
  low-concludes None = ending-concludes e rules s four _ four-ending
  low-concludes (Some which) = ending-concludes e rules s _ _ (lowering-ending e rules s four _ four-ending (low which) (so which) (lowers which))

  low-shorter : (w : Lowering) → steps_of (arranged (lower_by w (variables e) four)) ≤ steps_of (arranged four)
  unfolding lower_by lower_of
  low-shorter None = omega arith
  low-shorter (Some which) = omega (arith, lowering-shortens e rules s four _ four-ending (low which) (so which) (lowers which))

  low-numbers : (w : Lowering) → 2 * length (lower_by w (variables e) four).nodes ≤ 3 * length s
  unfolding lower_by lower_of
  low-numbers None = omega (arith, four-long)
  low-numbers (Some which) = omega (
    arith,
    half-more e rules four.nodes four.last (ending-concludes e rules s four _ four-ending) (low which) (so which) (lowers which),
    four-long,
  )

  -- the middle case of the return never comes up
  pub no-unit-concludes : (which : Lowerable) (i : ℕ) (t : Ended) (x : Literal)
      → let four = shortened (fit_of how (uses_from (links s) (sink s))) (conclusion s) s in
      let low = low_at (lows_of which (variables e) four) in
      let b = built_of which (variables e) four in
      Back low b four.last (suc i) t → low i ≡ lowered x
      → return_of x (clause (node_at t.nodes (stand_in b i))) (clause (node_at t.nodes t.last)) ≡ unit_concludes → ⊥
  no-unit-concludes which =
      unit-never-concludes e rules four.nodes four.last (ending-concludes e rules s four _ four-ending) (low which) (so which) (lowers which)

module _ (plan : Plan) (rules : List ℕ) (s : List Node) (proper : AllProper plan.edition rules s) (full : 1 ≤ length s) where
  -- "Demand 3 holds for each choice."
  pub pressed-kept : Kept plan.edition rules s (pressed plan s)
  unfolding pressed pressed_from concluded
  pressed-kept = low-kept plan.edition plan.recycling rules s proper full plan.lowering

  -- what step 5 orders
  pub pressed-concludes : let t = concluded plan (conclusion s) s in Concludes plan.edition rules t.nodes t.last
  unfolding concluded
  pressed-concludes = low-concludes plan.edition plan.recycling rules s proper full plan.lowering

  -- numbers stay below half as many again as there are records
  pub concluded-numbers : 2 * length (concluded plan (conclusion s) s).nodes ≤ 3 * length s
  unfolding concluded
  concluded-numbers = low-numbers plan.edition plan.recycling rules s proper full plan.lowering

-- no choice of lowering has more steps than none
pub lowering-shorter : (e : Edition) (how : Recycling) (w : Lowering) (rules : List ℕ) (s : List Node) → AllProper e rules s → 1 ≤ length s
    → steps_of (pressed (plan e how w) s) ≤ steps_of (pressed (plan e how None) s)
unfolding pressed pressed_from concluded lower_by
lowering-shorter e how w rules s proper full = low-shorter e how rules s proper full w

-- "The program goes on without it.": with nothing lowered, step 5 arranges what step 4 leaves
pub nothing-as-before : (e : Edition) (how : Recycling) (s : List Node)
    → pressed (plan e how None) s ≡ arranged (shortened (chosen_fit (plan e how None) s) (conclusion s) s)
unfolding pressed pressed_from concluded lower_by
nothing-as-before e how s = refl

-- "Sheets with an empty conclusion press as before.": as with an empty set for the sink
pub empty-as-before : (plan : Plan) (s : List Node) → conclusion s ≡ none → pressed plan s ≡ pressed_from plan none s
unfolding pressed
empty-as-before plan s e = ap (λ (S : Literals). pressed_from plan S s) e
