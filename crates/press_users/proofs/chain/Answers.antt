use Rattle.std.proofs.Common.{◌≡◌, length, replicate, None, rules}
use Rattle.press_users.proofs.Chains.{none-chained}
use Rattle.press_users.proofs.chain.Goals as goal

pub loop-n-init : goal.loop-n-init
loop-n-init c = let e : c.fill.new.self ≡ replicate (length c.args.heads.now) None = search rules in none-chained _ _ _ c.args.nexts.now e
