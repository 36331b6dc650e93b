use Prim.Native.Nat.{◌≤◌}
use mathlib.Core.Path.{◌≡◌}
use Rattle.clause.specs.Denote.{literals_of}
use Rattle.press_spec.specs.Lower.{single}
use Rattle.press_lowered.proofs.single.single.Given as goal

abbrev pub invariant-loop-v : goal.invariant-loop-v
invariant-loop-v l = (l.v ≤ l.variables) × (single l.v (literals_of l.c) ≡ single l.variables (literals_of l.c))
