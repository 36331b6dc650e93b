-- Laws of the table of lowered nodes: what stands in it, and what stores make of it. For `search`.
use Prim.Native.Nat.{ℕ, zero, suc, ◌<◌}
use mathlib.Core.List.{List, ◌∷◌}
use mathlib.Core.Path.{◌≡◌, refl, sym, ap}
use lib.ListN.{length, get_or, set, replicate}
use Rattle.std.specs.Prelude.{Option, None}
use Rattle.std.proofs.lemmas.List.{get_or-map}
use Rattle.base.proofs.Lists.{map-set}
use Rattle.press_spec.specs.Lower.{Lowered, staying, low_at}
use Rattle.press_reach.specs.declared.literal.Literal.{Literal}
use Rattle.press_lowered.specs.Table.{lowered_in, low_in}

module _ (t : List (Option Literal)) where
  pub low_set : (i n : ℕ) (x : Option Literal) → i ≡ n → low_in (set t i x) ≡ set (low_in t) n (lowered_in x)
  unfolding low_in
  low_set i n x e = rw (← e) (map-set lowered_in t i x)

  pub low_found : (i n : ℕ) (z : Option Literal) → i ≡ n → n < length t → lowered_in (get_or t i z) ≡ low_at (low_in t) n
  unfolding low_in low_at
  low_found i n z e inside = rw e (sym (get_or-map lowered_in t n z staying inside))

-- nothing is lowered
pub low-blank : (n : ℕ) → low_in (replicate n None) ≡ replicate n staying
unfolding low_in lowered_in
low-blank zero = refl
low-blank (suc n) = ap (λ (t : List Lowered). staying ∷ t) (low-blank n)
