use Rattle.std.proofs.Common.{◌≡◌, ◌<◌, ◌∙◌, sym, sum, rules, arith}
use Rattle.press_marks.proofs.Cores.{total-sum, marks-few}
use Rattle.press_marks.proofs.count_marks.Goals as goal

pub sum-requires-clause-fits : goal.sum-requires-clause-fits
sum-requires-clause-fits c = let few : sum c.args.core.now < 65536 = omega (arith, marks-few c.args.core.now c.requires.1) in search rules

pub returns : goal.returns
returns c = let e : c.sum.result ≡ sum c.args.core.now = search rules in e ∙ sym (total-sum c.args.core.now)
