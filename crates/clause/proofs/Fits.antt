-- Sets and clauses whose words the machine can hold are equal where the numbers that they stand for are.
use mathlib.Core.Path.{◌≡◌, sym, ap, ap₂, ◌∙◌}
use Prim.Native.Nat.{ℕ, ◌/◌, ◌%◌, ◌^◌}
use lib.Pow.{high, low}
use Rattle.clause.specs.declared.Set.{Set}
use Rattle.clause.specs.declared.Clause.{Clause}
use Rattle.clause.specs.Clauses.{Literals}
use Rattle.clause.specs.Denote.{set_of, literals_of, SetFits, ClauseFits}

pub set_of-injective : (a b : Set) → SetFits a → SetFits b → set_of a ≡ set_of b → a ≡ b
set_of-injective a b f g e =
    ap₂ (λ (l h : ℕ). record { low = l; high = h })
    (sym (low a.high 64 f.0) ∙ ap (λ (n : ℕ). n % 2 ^ 64) e ∙ low b.high 64 g.0)
    (sym (high a.high 64 f.0) ∙ ap (λ (n : ℕ). n / 2 ^ 64) e ∙ high b.high 64 g.0)

pub literals_of-injective : (a b : Clause) → ClauseFits a → ClauseFits b → literals_of a ≡ literals_of b → a ≡ b
literals_of-injective a b f g e =
    ap₂ (λ (p n : Set). record { positive = p; negative = n })
    (set_of-injective a.positive b.positive f.0 g.0 (ap (λ (c : Literals). c.positive) e))
    (set_of-injective a.negative b.negative f.1 g.1 (ap (λ (c : Literals). c.negative) e))
