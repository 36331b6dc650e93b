use Rattle.std.proofs.Common.{◌≡◌}
use Rattle.base.specs.Folds.{fall}
use Rattle.press_nodes.specs.Tables.{links_in}
use Rattle.press_nodes.specs.Numbers.{numbers_in}
use Rattle.press_last.specs.LastUses.{last_turn, last_uses}
use Rattle.press_last.proofs.last_uses.Given as goal

abbrev pub invariant-loop-i : goal.invariant-loop-i
invariant-loop-i l = fall (last_turn (links_in l.links)) l.i (numbers_in l.last) ≡ last_uses (links_in l.links)
