-- What one use more makes of the table of uses.
use Prim.Native.Nat.{ℕ, ◌<◌}
use mathlib.Core.List.{List}
use mathlib.Core.Path.{◌≡◌, refl}
use native.Mathlib.Omega.{arith}
use native.Mathlib.Decide.{ℕ_discrete}
use lib.ListN.{length, get_or, set}
use lib.Seq.{get_or-set_same, get_or-set_other}
use borrow.Author.Tests.{eq-eqb, ne_eqb}
use Rattle.std.proofs.lemmas.List.{get_or_default}
use Rattle.clause.specs.Clauses.{Literal}
use Rattle.press_spec.specs.Univalents.{used_too, used_as}
use Rattle.press_used.specs.declared.table.Used.{Used}
use Rattle.press_used.specs.declared.table.Used.TheVariants.{Unused}
use Rattle.press_used.specs.Table.{use_in, use_at}

-- x stands in the place of what was at n
pub used-more : (t : List Used) (i n : ℕ) (x z : Used) (l : Literal) → i ≡ n → n < length t → use_in x ≡ used_too l (use_in (get_or t i z))
    → (m : ℕ) → use_at (set t i x) m ≡ used_as m n l (use_at t m)
unfolding use_at used_as
used-more t i n x z l same h q m = elim (ℕ_discrete m n) [
  | yes o ↦ rw (o, same, eq-eqb n n refl, get_or-set_same t n x Unused h, q, same, get_or_default t n z Unused h)
  | no o ↦ rw (ne_eqb m n o, get_or-set_other t i m x Unused (omega arith))
]
