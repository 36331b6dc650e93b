use mathlib.Core.Path.{sym, ap, ◌∙◌}
use mathlib.Core.Bool.{Bool, ◌&&◌}
use native.Mathlib.Omega.{arith}
use lib.Bits.{bit_or}
use borrow.Author.Tests.{eq-eqb, ne_eqb}
use Rattle.clause.specs.Sets.{subset}
use Rattle.clause.proofs.Blocks.{subset-block}
use Rattle.clause.proofs.subset.Goals as goal

pub returns-then-a-b : goal.returns-then-a-b
unfolding subset
returns-then-a-b c = let x = c.args in
    sym (subset-block 64 x.a.high x.b.high x.a.low x.b.low (omega arith) (omega arith)
    ∙ ap (λ (t : Bool). t && subset x.a.high x.b.high) (eq-eqb _ _ c.if-a-b.true))

pub returns-else-a-b : goal.returns-else-a-b
unfolding subset
returns-else-a-b c = let x = c.args in
    let e = ne_eqb (bit_or x.a.low x.b.low) x.b.low c.if-a-b.false in
    e ∙ sym (subset-block 64 x.a.high x.b.high x.a.low x.b.low (omega arith) (omega arith)
    ∙ ap (λ (t : Bool). t && subset x.a.high x.b.high) e)
