use mathlib.Core.Path.{sym, ◌∙◌}
use Rattle.press_nodes.specs.Numbers.{numbers_in}
use Rattle.press_nodes.proofs.Numbers.{numbers-length}
use Rattle.press_lay.proofs.Laying.{all_laid}
use Rattle.press_lay.proofs.lay.Goals as goal

pub returns : goal.returns
returns c = λ order orderly numbered room.
    all_laid c.args.links.now order orderly (numbers_in c.args.numbers.now) numbered (numbers-length c.args.numbers.now ∙ c.requires.numbers_len.0) _ (c.lay_links.auto.laid ∙ sym room)
    (c.lay_links.ensures order orderly numbered room) c.args.clauses.now _ c.lay_clauses.ensures
