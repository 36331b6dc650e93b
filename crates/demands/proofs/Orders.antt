-- The two orders of a proper sheet.
use Prim.Native.Nat.{ℕ, ◌<◌}
use mathlib.Core.List.{List}
use lib.ListN.{length, length-map}
use Rattle.sheet.specs.Records.{Record}
use Rattle.sheet.specs.Counts.{nodes_of}
use Rattle.sheet.specs.Proper.{Proper}
use Rattle.sheet.specs.Editions.{press_records}
use mathlib.Core.Bool.{false}
use Rattle.press_spec.specs.declared.Plan.{Plan}
use Rattle.press_spec.specs.Links.{link, links}
use Rattle.press_spec.proofs.Nodes.{Falling, links-falling}
use Rattle.press_spec.proofs.Owed.{Concludes}
use Rattle.press_spec.proofs.TopDown.{top_down-takes}
use Rattle.press_spec.proofs.Better.{order_by-reached}
use Rattle.press_spec.proofs.Kept.{pressed-concludes}
use Rattle.press_spec.proofs.Accepts.{proper-nodes}
use Rattle.demands.specs.Passes.{ordered, BothInOrder, TakesMost}

module _ (plan : Plan) (sheet rules : List ℕ) (rs : List Record) (p : Proper plan.edition (press_records plan.edition) false rules sheet rs) where
  concludes : Concludes plan.edition rules (ordered plan rs).nodes (ordered plan rs).last
  concludes =
      let (proper, some) = proper-nodes plan.edition rules sheet rs p in
      pressed-concludes plan rules (nodes_of rs) proper some

  falling : Falling (links (ordered plan rs).nodes)
  falling = links-falling (ordered plan rs).nodes concludes.earlier

  inside : (ordered plan rs).last < length (links (ordered plan rs).nodes)
  inside = rw (length-map (ordered plan rs).nodes link) concludes.inside

pub both-in-order : BothInOrder
both-in-order plan which sheet rules rs p =
    order_by-reached (ordered plan rs).nodes (falling plan sheet rules rs p) (ordered plan rs).last (inside plan sheet rules rs p) which

pub takes-most : TakesMost
takes-most plan sheet rules rs newer before n p =
    top_down-takes (links (ordered plan rs).nodes) (falling plan sheet rules rs p) (ordered plan rs).last (inside plan sheet rules rs p) newer before n
