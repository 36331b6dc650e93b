use Prim.Native.Nat.{ℕ, ◌+◌, ◌*◌, ◌^◌}
use mathlib.Core.Path.{◌≡◌, sym, ap, ap₂, ◌∙◌}
use native.Mathlib.Omega.{arith}
use Rattle.base.specs.Bytes.{value_at}
use Rattle.base.proofs.Bytes.{value_at-add}
use Rattle.sheet.specs.declared.edition.Edition.{Edition}
use Rattle.sheet.specs.Editions.{set_bytes}
use Rattle.sheet_read.proofs.sets.set_at.Goals as goal

high-then-low : (high low : ℕ) → high * 2 ^ 64 + low ≡ low + 256 ^ 8 * high
high-then-low high low = omega arith

pub returns-in-Wide : goal.returns-in-Wide
returns-in-Wide c =
    let a = c.args in
    let b = a.b.now in
    let told = c.in-Wide.is in
    ap₂ (λ (high low : ℕ). high * 2 ^ 64 + low) c.word_at-in-Wide-2.ensures c.word_at-in-Wide.ensures
    ∙ high-then-low (value_at 8 b (a.at + 8)) (value_at 8 b a.at)
    ∙ sym (value_at-add 8 8 b a.at (omega (arith, ap set_bytes told)))
    ∙ sym (ap (λ (e : Edition). value_at (set_bytes e) b a.at) told)
