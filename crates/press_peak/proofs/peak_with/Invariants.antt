use Rattle.std.proofs.Common.{◌≡◌, ◌≤◌, max, drop as after}
use Rattle.press_nodes.specs.Tables.{links_in}
use Rattle.press_peak.specs.Peaks.{peak_of_links}
use Rattle.press_peak.proofs.peak_with.Given as goal

abbrev pub invariant-loop-k : goal.invariant-loop-k
invariant-loop-k l = (l.held ≤ l.k) × (max l.peak (peak_of_links l.held (after l.k (links_in l.links))) ≡ peak_of_links 0 (links_in l.links))
