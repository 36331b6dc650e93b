use Rattle.std.proofs.Common.{length}
use Rattle.press_top_down.specs.Renewed.{score_of}
use Rattle.press_top_down.proofs.Renewing.{ScoredTo}
use Rattle.press_top_down.proofs.score.State.renew_all.Given as goal

abbrev pub invariant-loop-i : goal.invariant-loop-i
invariant-loop-i l = ScoredTo (score_of l.self) (length l.self.links.now) l.i l.rows
