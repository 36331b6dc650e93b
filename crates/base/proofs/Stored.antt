-- What std's copies and chunks of a slice are, in the words of the definitions.
use Rattle.std.proofs.Common.{◌≡◌, ℕ, ◌+◌, ◌-◌, ◌≤◌, List, ◌++◌, length, take, drop, sym, ap, ◌∙◌, arith}
use mathlib.Core.List.{append_assoc}
use borrow.Rule.Slice.PartMut.{put_mid}
use lib.Seq.{drop-drop, length-take-le}
use lib.ListN.{length-drop}
use Rattle.base.specs.Bytes.{put, part}

pub part-long : (n at : ℕ) (d : List ℕ) → at + n ≤ length d → length (take (at + n - at) (drop at d)) ≡ n
part-long n at d h =
    let k : at + n - at ≡ n = omega arith in
    ap (λ (m : ℕ). length (take m (drop at d))) k ∙ length-take-le n (drop at d) (rw length-drop (omega arith))

pub part-found : (n at : ℕ) (s e : List ℕ) → e ≡ take (at + n - at) (drop at s) → e ≡ part n s at
unfolding part
part-found n at s e h = let k : at + n - at ≡ n = omega arith in h ∙ ap (λ (m : ℕ). take m (drop at s)) k

pub part-copied : (n at : ℕ) (d x e : List ℕ) → at + n ≤ length d → length e ≡ length (take (at + n - at) (drop at d)) → e ≡ x
    → put_mid at (at + n - at) d e ≡ put d at x
unfolding put
part-copied n at d x e h long same =
    let k : at + n - at ≡ length x = omega (arith, long, part-long n at d h, ap length same) in
    ap (λ (l : List ℕ). take at d ++ (l ++ drop (at + n - at) (drop at d))) same
    ∙ ap (λ (m : ℕ). take at d ++ (x ++ drop m (drop at d))) k
    ∙ ap (λ (l : List ℕ). take at d ++ (x ++ l)) (drop-drop (length x) at d)
    ∙ sym (append_assoc (take at d) x (drop (at + length x) d))
