use native.Mathlib.Omega.{arith}
use Rattle.press_trim.proofs.Used.{uses-start, uses-next, uses-few, uses-done}
use borrow.Author.Rules.{rules}
use Rattle.press_trim.proofs.uses.count_uses.Goals as goal

pub loop-i-init : goal.loop-i-init
loop-i-init c = let cleared = c.fill.ensures.after (λ y q. q) in
    (search rules, search rules, λ m. search uses-start)

pub loop-i-preserved : goal.loop-i-preserved
loop-i-preserved c = let l = c.loop-i in
    (search rules, search rules, λ m. uses-next _ _ c.requires.links l.i l.counts c.use_turn.new.counts m (omega arith) (omega arith) c.requires.kept_len.0 l.invariant.2 c.use_turn.ensures)

pub returns : goal.returns
returns c = λ m. search uses-done

pub use_turn-requires-clause-by_index : goal.use_turn-requires-clause-by_index
use_turn-requires-clause-by_index c = λ m. uses-few _ _ c.requires.links _ c.loop-i.counts m c.loop-i.invariant.2
