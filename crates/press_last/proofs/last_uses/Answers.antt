use Rattle.std.proofs.Common.{◌≡◌, length, replicate, None, rules}
use Rattle.base.proofs.Folds.{fall-all, fall-next}
use Rattle.press_last.proofs.Noting.{last_begun}
use Rattle.press_last.proofs.last_uses.Goals as goal

pub loop-i-init : goal.loop-i-init
loop-i-init c = let e : c.fill.new.self ≡ replicate (length c.args.last.now) None = search rules in last_begun _ _ _ e c.requires.last_len

pub loop-i-preserved : goal.loop-i-preserved
loop-i-preserved c = search fall-next

pub returns : goal.returns
returns c = search fall-all
