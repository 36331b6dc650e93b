-- What the trim keeps of a proper sheet.
use Prim.Native.Nat.{◌<◌}
use lib.ListN.{length, length-map}
use Rattle.sheet.specs.Counts.{nodes_of}
use Rattle.press_spec.specs.Links.{link, links, sink}
use Rattle.press_spec.proofs.Nodes.{links-falling, proper-falling}
use Rattle.press_spec.proofs.Kept.{sink-inside}
use Rattle.press_spec.proofs.Reached.{one-reached, reached-one, unreached-zero}
use Rattle.press_spec.proofs.Accepts.{proper-nodes}
use Rattle.demands.specs.Passes.{TrimKeeps}

pub trim-keeps : TrimKeeps
trim-keeps e sheet rules rs n p =
    let s = nodes_of rs in
    let (proper, some) = proper-nodes e rules sheet rs p in
    let earlier = links-falling s (proper-falling e rules s proper) in
    let inside : sink s < length (links s) = rw (length-map s link) (sink-inside s some) in (
      reached-one (links s) earlier (sink s) inside n,
      one-reached (links s) earlier (sink s) inside n,
      unreached-zero (links s) earlier (sink s) inside n,
    )
