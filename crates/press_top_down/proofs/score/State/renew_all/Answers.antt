use native.Mathlib.Omega.{arith}
use Rattle.press_top_down.proofs.Changing.{past-none}
use Rattle.press_top_down.proofs.Renewing.{scored-none, scored-more, scored-all}
use Rattle.press_top_down.proofs.score.State.renew_all.Goals as goal

pub loop-i-init : goal.loop-i-init
loop-i-init c = scored-none _ _ _ (λ m h. past-none _ c.args.self.now.left.now _ _ m (omega (arith, c.requires.tables.lefts))) c.requires.by_index

pub loop-i-preserved : goal.loop-i-preserved
loop-i-preserved c = scored-more _ _ c.loop-i.invariant c.renew.ensures

pub returns : goal.returns
returns c = scored-all _ _ _ _ (omega arith) c.loop-i.invariant
