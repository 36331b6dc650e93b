-- What recycling makes of a proper sheet.
use Prim.Native.Nat.{◌<◌}
use lib.ListN.{length, length-map}
use Rattle.sheet.specs.Counts.{nodes_of}
use Rattle.press_spec.specs.Links.{link, links, sink}
use Rattle.press_spec.specs.Trim.{uses_from}
use Rattle.press_spec.specs.Recycle.{fit_of}
use Rattle.press_spec.specs.Press.{chosen_fit, conclusion}
use Rattle.press_spec.proofs.Nodes.{links-falling, proper-falling}
use Rattle.press_spec.proofs.Fair.{chosen-fair}
use Rattle.press_spec.proofs.Intersected.{intersection}
use Rattle.press_spec.proofs.Owned.{both-sides-cut}
use Rattle.press_spec.proofs.Kept.{sink-inside, recycled-within}
use Rattle.press_spec.proofs.Accepts.{proper-nodes}
use Rattle.demands.specs.Passes.{NothingNew, AllAllow, NamedTwice}

pub nothing-new : NothingNew
nothing-new plan sheet rules rs n S x p inside q h =
    let s = nodes_of rs in
    let e = plan.edition in
    let (proper, some) = proper-nodes e rules sheet rs p in
    recycled-within e rules s proper some (chosen_fit plan s) (chosen-fair plan.recycling (uses_from (links s) (sink s))) (conclusion s) n S inside q x h

pub all-allow : AllAllow
unfolding fit_of
all-allow plan sheet rules rs m S x p chosen other q =
    let s = nodes_of rs in
    let e = plan.edition in
    let (proper, some) = proper-nodes e rules sheet rs p in
    let earlier = links-falling s (proper-falling e rules s proper) in
    let inside : sink s < length (links s) = rw (length-map s link) (sink-inside s some) in
    rw chosen (intersection (conclusion s) (links s) earlier (sink s) inside m S other (rw chosen at q) x)

pub named-twice : NamedTwice
unfolding fit_of conclusion
named-twice plan sheet rules rs n p m c S q chosen inside is r =
    let s = nodes_of rs in
    let e = plan.edition in
    let (proper, some) = proper-nodes e rules sheet rs q in
    both-sides-cut e rules s proper (conclusion s) (sink s) (sink-inside s some) (λ x h. h) n p m c S inside is (rw chosen at r)
