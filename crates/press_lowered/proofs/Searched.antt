-- The literal that the search for the only one of a clause finds has room in a set.
use Prim.Native.Nat.{ℕ, zero, suc, ◌≤◌, ◌<◌}
use mathlib.Core.Bool.{Bool, true, false, cond}
use mathlib.Core.Path.{◌≡◌}
use native.Mathlib.Omega.{arith}
use Rattle.clause.specs.Clauses.{Literal, plus, minus, Literals, none, adding, alike}
use Rattle.clause.specs.Denote.{width}
use Rattle.press_spec.specs.Lower.{opposite, lowered, single}
use Rattle.press_reach.specs.Literals.{Narrow}

narrow-cases : (w : ℕ) (c : Literals) (x : Literal) (u v : Bool) → w < width → (single w c ≡ lowered x → Narrow x)
    → cond u (lowered (plus w)) (cond v (lowered (minus w)) (single w c)) ≡ lowered x → Narrow x
narrow-cases w c x true v h f q = let z : plus w ≡ x = cc in rw (← z) h
narrow-cases w c x false true h f q = let z : minus w ≡ x = cc in rw (← z) h
narrow-cases w c x false false h f q = f q

pub single-narrow : (w : ℕ) (c : Literals) (x : Literal) → w ≤ width → single w c ≡ lowered x → Narrow x
unfolding single
single-narrow zero c x h q = let z : ◌≡◌ {A = ℕ} 0 1 = cc in absurd (omega arith)
single-narrow (suc w) c x h q =
    narrow-cases w c x (alike c (adding (plus w) none)) (alike c (adding (minus w) none)) (omega arith) (single-narrow w c x (omega arith)) q

pub opposite-narrow : (x : Literal) → Narrow x → Narrow (opposite x)
unfolding opposite
opposite-narrow (plus v) h = h
opposite-narrow (minus v) h = h
