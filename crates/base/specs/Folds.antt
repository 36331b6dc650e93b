-- Walks over the numbers below n.
use Rattle.std.specs.Prelude.{ℕ, zero, suc}

-- rising numbers: turn 0 first, turn n - 1 last
unfoldable pub rise : {S : Type 0} → (ℕ → S → S) → ℕ → S → S
rise f zero s = s
rise f (suc n) s = f n (rise f n s)

-- falling numbers: turn n - 1 first, turn 0 last
unfoldable pub fall : {S : Type 0} → (ℕ → S → S) → ℕ → S → S
fall f zero s = s
fall f (suc n) s = fall f n (f n s)
