use native.Mathlib.Omega.{arith}
use Rattle.base.proofs.Folds.{fall-next}
use Rattle.press_units.proofs.Collects.{collects-all}
use borrow.Author.Rules.{rules}
use Rattle.press_units.proofs.collect.collect_units.Goals as goal

pub loop-i-preserved : goal.loop-i-preserved
loop-i-preserved c = let v = c.loop-i.invariant in
    (omega (arith, v.0), omega (arith, v.1), fall-next _ _ _ _ _ (omega arith) v.2 c.collect_turn-owed.ensures)

pub returns : goal.returns
returns c =
    collects-all _ _ _ c.args.low.now _ _ _ _ _ _ c.requires.clauses_len.2 c.requires.clauses_len.1 (c.fill.ensures.after (λ y q. search rules)) c.nothing-owed.ensures (omega arith) c.loop-i.invariant.2
