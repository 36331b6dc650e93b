-- The zeros below a word's lowest digit that is set count its place.
use Prim.Native.Nat.{ℕ, zero, suc, ◌/◌, ◌%◌, ◌^◌, ◌<◌}
use mathlib.Core.Path.{◌≡◌, refl, ◌∙◌}
use mathlib.Core.Bool.{false}
use native.Mathlib.Nat.{mod-lt, zero-lt-suc, div-one, div-add-mod', div-lt_iff_lt-mul, pow-suc}
use native.Mathlib.Omega.{arith}
use lib.Arith.{lt-one}
use lib.Count.{under, count_trailing_zeros}
use lib.Dec.{eqb}
use Rattle.clause.specs.Sets.{has}
use Rattle.clause.proofs.Sets.{has-suc}
use Rattle.press_scores.specs.Rows.{Lowest}

first-digit : (s d : ℕ) → s % 2 ≡ d → has 0 s ≡ eqb d 1
unfolding has
first-digit s d e = rw (div-one, e)

half_lt : (k s : ℕ) → s < 2 ^ suc k → s / 2 < 2 ^ k
half_lt k s h = (div-lt_iff_lt-mul (zero-lt-suc 1)).1 (rw pow-suc at h)

lowest-next : (k s v : ℕ) → s % 2 ≡ 0 → Lowest k (s / 2) v → Lowest (suc k) s (suc v)
lowest-next k s v even half = record { low = omega (arith, half.low); here = has-suc v s ∙ half.here; none = none }
  where
    none : (u : ℕ) → u < suc v → has u s ≡ false
    none zero h = first-digit s 0 even
    none (suc u) h = has-suc u s ∙ half.none u (omega arith)

pub trailing-lowest : (k s : ℕ) → s < 2 ^ k → (s ≡ 0 → ⊥) → Lowest k s (count_trailing_zeros k s)
unfolding count_trailing_zeros
trailing-lowest zero s h some = absurd (some (lt-one h))
trailing-lowest (suc k) s h some = by (s % 2) refl (mod-lt s (zero-lt-suc 1)) (trailing-lowest k (s / 2) (half_lt k s h))
  where
    by : (d : ℕ) → s % 2 ≡ d → d < 2 → ((s / 2 ≡ 0 → ⊥) → Lowest k (s / 2) (count_trailing_zeros k (s / 2))) → Lowest (suc k) s (under d (count_trailing_zeros k (s / 2)))
    by zero e l half = lowest-next k s (count_trailing_zeros k (s / 2)) e (half (λ z. some (omega (arith, div-add-mod' s 2))))
    by (suc zero) e l half = record { low = omega arith; here = first-digit s 1 e; none = λ u h. absurd (omega arith) }
    by (suc (suc d)) e l half = absurd (omega arith)
