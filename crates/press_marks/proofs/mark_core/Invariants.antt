use Rattle.std.proofs.Common.{◌≡◌, drop as after}
use Rattle.press_spec.specs.Drops.{mark_lines}
use Rattle.press_nodes.specs.Tables.{links_in}
use Rattle.press_marks.proofs.mark_core.Given as goal

abbrev pub invariant-loop-k : goal.invariant-loop-k
invariant-loop-k l = mark_lines (after l.k (links_in l.links)) l.core ≡ mark_lines (links_in l.links) l.initial.core
