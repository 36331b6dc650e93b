use native.Mathlib.Omega.{arith}
use Rattle.press_rebuild.proofs.Sounds.{rebuild-start, link-sound, stand_ins-low, rebuild-next, rebuild-done}
use borrow.Author.Rules.{rules}
use Rattle.press_rebuild.proofs.rebuild.Goals as goal

pub loop-i-init : goal.loop-i-init
loop-i-init c = let cleared = c.fill.ensures.after (λ y q. q) in
    (search rules, search rules, omega arith, omega arith, search rebuild-start)

pub loop-i-preserved : goal.loop-i-preserved
loop-i-preserved c = (search rules, omega arith, omega arith, omega arith, search rebuild-next)

pub returns : goal.returns
returns c = search rebuild-done

pub rebuild_turn-requires-clause-clauses_len : goal.rebuild_turn-requires-clause-clauses_len
rebuild_turn-requires-clause-clauses_len c = (omega arith, search stand_ins-low)

pub rebuild_turn-requires-clause-n_in_bounds : goal.rebuild_turn-requires-clause-n_in_bounds
rebuild_turn-requires-clause-n_in_bounds c = (omega arith, search link-sound, omega arith)
