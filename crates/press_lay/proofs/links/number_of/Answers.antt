use Rattle.press_lay.proofs.Laying.{some-place, place-is}
use Rattle.press_lay.proofs.links.number_of.Goals as goal

pub unwrap-requires : goal.unwrap-requires
unwrap-requires c = some-place c.args.numbers.now _ _ c.index.ensures c.requires.0 c.requires.1

pub returns : goal.returns
returns c = place-is c.args.numbers.now _ _ c.index.ensures c.requires.0 _ c.unwrap.ensures
