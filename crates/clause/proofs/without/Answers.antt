use Prim.Native.Nat.{ℕ, ◌+◌, ◌*◌, ◌^◌, ◌-◌}
use mathlib.Core.Path.{sym, ap, ◌∙◌}
use native.Mathlib.Omega.{arith}
use Rattle.clause.specs.Denote.{width, set_of}
use Rattle.clause.proofs.Words.{xor-without, without-past}
use Rattle.clause.proofs.Blocks.{without-low, without_from, pair_lt}
use Rattle.clause.proofs.without.Goals as goal

pub returns-then-v-lt-WORD : goal.returns-then-v-lt-WORD
returns-then-v-lt-WORD c = let a = c.args in
    ap (λ (n : ℕ). a.s.high * 2 ^ 64 + n) (xor-without 64 a.v a.s.low c.if-v-lt-WORD.true)
    ∙ sym (without-low 64 a.s.high a.s.low (omega arith) a.v c.if-v-lt-WORD.true)

pub returns-then-v-lt-WIDTH : goal.returns-then-v-lt-WIDTH
returns-then-v-lt-WIDTH c = let a = c.args in
    ap (λ (n : ℕ). n * 2 ^ 64 + a.s.low) (xor-without 64 (a.v - 64) a.s.high (omega arith))
    ∙ sym (without_from 64 a.s.high a.s.low (omega arith) a.v c.if-v-lt-WORD.false)

pub returns : goal.returns
returns c = let a = c.args in sym (without-past width a.v (set_of a.s) (pair_lt 64 64 a.s.high a.s.low (omega arith) (omega arith)) c.if-v-lt-WIDTH.false)
