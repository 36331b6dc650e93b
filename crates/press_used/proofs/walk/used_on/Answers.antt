use native.Mathlib.Omega.{arith}
use Rattle.press_used.proofs.Walked.{used_start, used-next, used-done}
use borrow.Author.Rules.{rules}
use Rattle.press_used.proofs.walk.used_on.Goals as goal

pub loop-i-init : goal.loop-i-init
loop-i-init c = let cleared = c.fill.ensures.after (λ y q. q) in
    (search rules, search rules, λ m. search used_start)

pub loop-i-preserved : goal.loop-i-preserved
loop-i-preserved c = let l = c.loop-i in
    let u = c.use_turn in
    (search rules, search rules, λ m. used-next _ _ l.i l.used u.new.used m (omega arith) (omega arith) c.requires.kept_len.0 l.invariant.2 u.ensures)

pub returns : goal.returns
returns c = λ m. search used-done
