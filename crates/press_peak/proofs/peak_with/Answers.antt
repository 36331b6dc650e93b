use Rattle.std.proofs.Common.{◌<◌, length, arith, refl}
use Rattle.press_nodes.specs.Tables.{links_in}
use Rattle.press_nodes.proofs.Tables.{links-length}
use Rattle.press_peak.proofs.Peaking.{peak-next, peak-done}
use Rattle.press_peak.proofs.peak_with.Goals as goal

pub loop-k-preserved : goal.loop-k-preserved
loop-k-preserved c =
    let l = c.loop-k in
    let s = links_in c.args.links.now in
    let h : l.k < length s = rw (links-length c.args.links.now) (omega arith) in
    (omega arith, peak-next s l.k l.held l.peak _ _ _ _ _ h l.invariant.1 refl c.dropped_after-gone.ensures c.saturating_sub-held.ensures c.max-peak.ensures)

pub returns : goal.returns
returns c = let l = c.loop-k in peak-done (links_in c.args.links.now) l.k l.held l.peak _ (rw (links-length c.args.links.now) (omega arith)) l.invariant.1
