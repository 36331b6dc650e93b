-- What is lowered has room in a set.
use mathlib.Core.Bool.{true, false≢true}
use mathlib.Core.Path.{◌≡◌, sym, ◌∙◌}
use native.Mathlib.Decide.{dec_lt}
use native.Mathlib.Omega.{arith}
use Rattle.clause.specs.Clauses.{Literal, plus, minus, Literals, holds}
use Rattle.clause.specs.Denote.{word, width, set_of, literals_of, ClauseFits}
use Rattle.clause.specs.declared.Clause.{Clause}
use Rattle.clause.proofs.Sets.{has-past}
use Rattle.clause.proofs.Blocks.{pair_lt}
use Rattle.press_spec.specs.Univalents.{lowerable}
use Rattle.press_spec.proofs.Univalents.{lowerable-parts}
use Rattle.press_reach.specs.Literals.{Narrow}

-- a literal that a clause holds has room in a set
holds-narrow : (c : Clause) → ClauseFits c → (x : Literal) → holds x (literals_of c) ≡ true → Narrow x
unfolding holds
holds-narrow c f (plus v) h = elim (dec_lt v width) [
  | yes k ↦ k
  | no k ↦ absurd (false≢true (sym (has-past width v (set_of c.positive) (pair_lt word word _ _ f.0.1 f.0.0) (omega arith)) ∙ h))
]
holds-narrow c f (minus v) h = elim (dec_lt v width) [
  | yes k ↦ k
  | no k ↦ absurd (false≢true (sym (has-past width v (set_of c.negative) (pair_lt word word _ _ f.1.1 f.1.0) (omega arith)) ∙ h))
]

pub lowerable-narrow : (c : Clause) → ClauseFits c → (x : Literal) (D : Literals) → lowerable x (literals_of c) D ≡ true → Narrow x
lowerable-narrow c f x D h = holds-narrow c f x (lowerable-parts x (literals_of c) D h).0
