use Prim.Native.Nat.{ℕ, ◌+◌, ◌*◌, ◌^◌, ◌<◌}
use mathlib.Core.Path.{◌≡◌, sym, ap, ap₂, ◌∙◌}
use mathlib.Core.List.{List, ◌++◌}
use native.Mathlib.Omega.{arith}
use lib.Pow.{high, low}
use Rattle.base.specs.Bytes.{bytes, put}
use Rattle.base.proofs.Bytes.{length-bytes, bytes-add, bytes-mod, then}
use Rattle.sheet_write.proofs.put_two_words.Goals as goal

two-words : (hi lo : ℕ) → lo < 2 ^ 64 → bytes 8 lo ++ bytes 8 hi ≡ bytes 16 (hi * 2 ^ 64 + lo)
two-words hi lo h =
    let w = hi * 2 ^ 64 + lo in
    sym (bytes-add 8 8 w ∙ ap₂ (λ (low-bytes : List ℕ) (n : ℕ). low-bytes ++ bytes 8 n) (sym (bytes-mod 8 w) ∙ ap (bytes 8) (low hi 64 h)) (high hi 64 h))

pub returns : goal.returns
returns c =
    let second = c in
    let first = second in
    let a = first.args in
    let s = a.s in
    then a.d.now a.at (bytes 8 s.low) (bytes 8 s.high) (a.at + 8) first.put_word.ensures second.put_word-2.ensures
    (ap (λ (n : ℕ). a.at + n) (sym (length-bytes 8 s.low))) (omega arith)
    ∙ ap (put a.d.now a.at) (two-words s.high s.low (omega arith))
