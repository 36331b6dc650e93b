use Prim.Native.Nat.{ℕ, ◌+◌, ◌*◌, ◌^◌, ◌-◌, ◌<◌}
use mathlib.Core.Path.{sym, ap, ◌∙◌}
use native.Mathlib.Omega.{arith}
use Rattle.clause.specs.Denote.{width}
use Rattle.clause.proofs.Words.{or-with, with_below-with, with_below-past}
use Rattle.clause.proofs.Blocks.{with-low, with-from}
use Rattle.clause.proofs.with.Goals as goal

pub returns-then-v-lt-WORD : goal.returns-then-v-lt-WORD
returns-then-v-lt-WORD c = let a = c.args in
    let h : a.v < width = omega (arith, c.if-v-lt-WORD.true) in
    ap (λ (n : ℕ). a.s.high * 2 ^ 64 + n) (or-with 64 a.v a.s.low c.if-v-lt-WORD.true)
    ∙ sym (with-low 64 a.s.high a.s.low (omega arith) a.v c.if-v-lt-WORD.true)
    ∙ sym (with_below-with width a.v _ h)

pub returns-then-v-lt-WIDTH : goal.returns-then-v-lt-WIDTH
returns-then-v-lt-WIDTH c = let a = c.args in
    ap (λ (n : ℕ). n * 2 ^ 64 + a.s.low) (or-with 64 (a.v - 64) a.s.high (omega arith))
    ∙ sym (with-from 64 a.s.high a.s.low (omega arith) a.v c.if-v-lt-WORD.false)
    ∙ sym (with_below-with width a.v _ c.if-v-lt-WIDTH.true)

pub returns : goal.returns
returns c = sym (with_below-past width _ _ c.if-v-lt-WIDTH.false)
