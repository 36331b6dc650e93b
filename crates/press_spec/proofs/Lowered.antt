-- Lowering keeps what every press keeps, for any pass that shows `Lowers`: what it leaves is an `Ending` again. With k nodes lowered it has at least k
-- steps fewer than without lowering.
use Prim.Native.Nat.{ℕ, suc, ◌+◌, ◌≤◌}
use mathlib.Core.Logic.{inl, inr}
use mathlib.Core.List.{List}
use native.Mathlib.Omega.{arith}
use lib.ListN.{length}
use Rattle.sheet.specs.declared.edition.Edition.{Edition}
use Rattle.sheet.specs.Records.{Node, node_at}
use Rattle.sheet.specs.Counts.{step_of, steps_of}
use Rattle.press_spec.specs.Links.{links}
use Rattle.press_spec.specs.Trim.{trim}
use Rattle.press_spec.specs.Rebuild.{Built, Ended}
use Rattle.press_spec.specs.Better.{better}
use Rattle.press_spec.specs.Lower.{Lowered, come_back_all}
use Rattle.press_spec.specs.Press.{arranged}
use Rattle.press_spec.proofs.Literals.{in-none}
use Rattle.press_spec.proofs.Counted.{sum_over, sum_below, sum_over-ones}
use Rattle.press_spec.proofs.Laid.{steps-laid}
use Rattle.press_spec.proofs.Owed.{owed_below, Concludes}
use Rattle.press_spec.proofs.Returned.{Lowers, lowered_below, IsLeft, Returning, returned}
use Rattle.press_spec.proofs.Lessened.{if_marked}
use Rattle.press_spec.proofs.Shortened.{all_small, fewer-steps, fewer-nodes}
use Rattle.press_spec.proofs.Covered.{order-covers}
use Rattle.press_spec.proofs.Ending.{Ending, ending-ordered, ending-concludes}

module _ (e : Edition) (rules : List ℕ) (s : List Node) (t : Ended) (Q : ℕ → Type 0) (d : Ending e rules s t Q) (low : ℕ → Lowered) (b : Built)
    (lo : Lowers t.nodes t.last low b) where
  abbrev t' : Ended
  t' = come_back_all low b t.last

  good : Concludes e rules t.nodes t.last
  good = ending-concludes e rules s t Q d

  back : Returning e rules t.nodes t.last good low b lo 0 t'
  back = returned e rules t.nodes t.last good low b lo

  abbrev order : List ℕ
  order = better t.nodes t.last

  -- what is laid out without lowering is all that the trim keeps
  covered : (v : ℕ → ℕ) → sum_below (if_marked (trim (links t.nodes) t.last) v) (length t.nodes) ≤ sum_over v order
  covered v = order-covers t.nodes Q t.last order (ending-ordered e rules s t Q d) v (length t.nodes) d.small

  pub lowering-ending : Ending e rules s (come_back_all low b t.last) (IsLeft t.nodes t.last low b (come_back_all low b t.last))
  lowering-ending = record {
    earlier = back.earlier;
    small = all_small e rules t.nodes t.last good low b lo;
    last = back.last;
    sound = back.sound;
    within = λ x h. elim (back.within x h) [ inl k ↦ d.within x k | inr k ↦ absurd (in-none x (unfold owed_below in k)) ];
    fits = λ o i. omega (
      arith,
      fewer-nodes e rules t.nodes t.last good low b lo o i,
      covered (λ n. 1),
      sum_over-ones order,
      d.fits order (ending-ordered e rules s t Q d).each,
    );
    shorter = λ o i. omega (
      arith,
      fewer-steps e rules t.nodes t.last good low b lo o i,
      covered (λ n. step_of (node_at t.nodes n)),
      steps-laid t.nodes order,
      d.shorter order (ending-ordered e rules s t Q d).each,
    );
  }

  pub lowering-shortens : steps_of (arranged (come_back_all low b t.last)) + lowered_below low (suc t.last) ≤ steps_of (arranged t)
  unfolding arranged
  lowering-shortens = omega (
    arith,
    fewer-steps e rules t.nodes t.last good low b lo (better t'.nodes t'.last) (ending-ordered e rules s t' _ lowering-ending).each,
    covered (λ n. step_of (node_at t.nodes n)),
    steps-laid t.nodes order,
  )
