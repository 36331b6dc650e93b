use Rattle.std.proofs.Common.{List, ℕ, ◌++◌, drop, ap, ◌∙◌}
use Rattle.c_report.proofs.Filled.{filled}
use Rattle.c_report.proofs.fill.Goals as goal

pub returns : goal.returns
returns c = ap (λ (l : List ℕ). l ++ drop c.min-n.result c.args.report.now) c.copy_from_slice.ensures.after ∙ filled c.args.words.now c.args.report.now c.min-n.result c.min-n.ensures
