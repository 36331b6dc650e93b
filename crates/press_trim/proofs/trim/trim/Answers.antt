use Rattle.press_trim.proofs.Trims.{trim-done}
use Rattle.base.proofs.Folds.{fall-next}
use borrow.Author.Rules.{rules}
use Rattle.press_trim.proofs.trim.trim.Goals as goal

pub loop-i-preserved : goal.loop-i-preserved
loop-i-preserved c = (search rules, search rules, search fall-next)

pub returns : goal.returns
returns c = let cleared = c.fill.ensures.after (λ y q. q) in search trim-done
