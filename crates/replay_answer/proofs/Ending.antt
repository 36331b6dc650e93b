-- The last node, where there is one; and what a replay ends with in a state, or where a record is refused.
use Rattle.std.proofs.Common.{Ok}
use mathlib.Core.Path.{◌≡◌, refl, ap}
use Prim.Native.Nat.{ℕ, zero, suc, ◌-◌}
use native.Mathlib.Omega.{arith}
use Rattle.replay_spec.specs.Slots.{holder, look, last_of}
use Rattle.replay_spec.specs.Step.{State}
use Rattle.replay_spec.specs.Replay.{ending}
use Rattle.replay_answer.specs.Answers.{ended}

pub last_is : (n : ℕ) → (n ≡ 0 → ⊥) → holder (n - 1) ≡ last_of n
unfolding last_of
last_is zero h = absurd (h refl)
last_is (suc n) h = let e : suc n - 1 ≡ n = omega arith in ap holder e

pub ends-in : (k : ℕ) (s : State) → ended (Ok tt) k s.tally (look (last_of s.tally.next) s.slots) ≡ ending k s
unfolding ended ending
ends-in k s = refl
