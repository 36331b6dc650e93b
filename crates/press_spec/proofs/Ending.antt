-- What a pass leaves of a sheet, before it is laid out, and that laying it out in any order that ends with its conclusion keeps what every press keeps.
use Prim.Native.Nat.{ℕ, ◌≤◌, ◌<◌}
use mathlib.Core.List.{List}
use native.Mathlib.Omega.{arith}
use lib.ListN.{length, length-map}
use Rattle.clause.specs.Clauses.{Within}
use Rattle.sheet.specs.declared.edition.Edition.{Edition}
use Rattle.sheet.specs.Records.{Node, clause, node_at}
use Rattle.sheet.specs.Counts.{steps_of}
use Rattle.press_spec.specs.Links.{link, links, Parents}
use Rattle.press_spec.specs.Trim.{Reaches}
use Rattle.press_spec.specs.Rebuild.{Ended}
use Rattle.press_spec.specs.Order.{laid, InOrder}
use Rattle.press_spec.specs.Better.{better}
use Rattle.press_spec.specs.Press.{conclusion, arranged}
use Rattle.press_spec.proofs.Proper.{ProperNode, Kept}
use Rattle.press_spec.proofs.Nodes.{Earlier, link-at, links-falling}
use Rattle.press_spec.proofs.Ordered.{Ordering}
use Rattle.press_spec.proofs.Finished.{reached-in}
use Rattle.press_spec.proofs.Better.{better-ends}
use Rattle.press_spec.proofs.Laid.{length-laid, laid-some, laid-proper, laid-used, laid-concludes}
use Rattle.press_spec.proofs.Reached.{marked-reached}
use Rattle.press_spec.proofs.Owed.{Concludes}

-- Nodes of a kind, the conclusion among them, that are proper and have parents of that kind. An order of such nodes has no more nodes and no more
-- steps than the sheet s.
pub record Ending (e : Edition) (rules : List ℕ) (s : List Node) (t : Ended) (In : ℕ → Type 0) : Type 0 where
  pub earlier : Earlier t.nodes
  pub small : (n : ℕ) → In n → n < length t.nodes
  pub last : In t.last
  pub sound : (n : ℕ) → In n → ProperNode e rules t.nodes n (node_at t.nodes n) × Parents In (link (node_at t.nodes n))
  pub within : Within (clause (node_at t.nodes t.last)) (conclusion s)
  pub fits : (order : List ℕ) → InOrder (links t.nodes) In order → length order ≤ length s
  pub shorter : (order : List ℕ) → InOrder (links t.nodes) In order → steps_of (laid t.nodes order) ≤ steps_of s

module _ (e : Edition) (rules : List ℕ) (s : List Node) (t : Ended) (In : ℕ → Type 0) (d : Ending e rules s t In) where
  pub ending-laid : (order : List ℕ) → Ordering (links t.nodes) In t.last order → Kept e rules s (laid t.nodes order)
  ending-laid order o = record {
    proper = laid-proper t.nodes In e rules (λ n q. (d.sound n q).0) order o.each;
    used = laid-used t.nodes In t.last order o;
    some = laid-some t.nodes In t.last order o;
    fits = omega (arith, length-laid t.nodes order, d.fits order o.each);
    smaller = λ x h. d.within x (rw (laid-concludes t.nodes In t.last order o) at h);
    shorter = d.shorter order o.each;
  }

  -- the better of the two orders
  pub ending-ordered : Ordering (links t.nodes) In t.last (better t.nodes t.last)
  ending-ordered =
      better-ends
      t.nodes
      (links-falling t.nodes d.earlier)
      t.last
      (rw (length-map t.nodes link) (d.small t.last d.last))
      In
      (λ n q. rw (link-at t.nodes n) (d.sound n q).1)
      d.last

  pub ending-kept : Kept e rules s (arranged t)
  unfolding arranged
  ending-kept = ending-laid (better t.nodes t.last) ending-ordered

  -- ---- for a further pass: what the conclusion reaches is proper

  all_in : (n : ℕ) → Reaches (links t.nodes) t.last n → In n
  all_in = reached-in (links t.nodes) In (λ n q. rw (link-at t.nodes n) (d.sound n q).1) t.last d.last

  pub ending-concludes : Concludes e rules t.nodes t.last
  ending-concludes = record {
    earlier = d.earlier;
    inside = d.small t.last d.last;
    proper = λ n h. (d.sound n (all_in n (marked-reached (links t.nodes) t.last n h))).0;
  }
