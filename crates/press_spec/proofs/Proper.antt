-- What every pass keeps of a list of nodes, and what the drops need of it.
use Prim.Native.Nat.{ℕ, suc, ◌<◌, ◌≤◌}
use mathlib.Core.Path.{◌≡◌}
use mathlib.Core.Bool.{true}
use mathlib.Core.List.{List}
use lib.ListN.{length}
use Rattle.clause.specs.Clauses.{Literal, plus, minus, holds, BothWays, resolvent}
use Rattle.sheet.specs.declared.edition.Edition.{Edition}
use Rattle.sheet.specs.Editions.{variables}
use Rattle.sheet.specs.Records.{Node, given, step, clause, node_at}
use Rattle.sheet.specs.Fields.{rule_lines, rule_line}
use Rattle.sheet.specs.Counts.{steps_of}
use Rattle.press_spec.specs.Links.{links}
use Rattle.press_spec.specs.Trim.{uses}
use Rattle.press_spec.specs.Press.{conclusion}

-- node n of the nodes s passes the checks: a given is its rule line and holds no variable both ways, a step a resolution of earlier nodes
abbrev pub ProperNode : Edition → List ℕ → List Node → ℕ → Node → Type 0
ProperNode e rules s n (given line c) = (line < rule_lines e rules) × (c ≡ rule_line e rules line) × (BothWays c → ⊥)
ProperNode e rules s n (step p l r c) =
    (p < variables e)
    × (l < n)
    × (r < n)
    × (holds (plus p) (clause (node_at s l)) ≡ true)
    × (holds (minus p) (clause (node_at s r)) ≡ true)
    × (c ≡ resolvent p (clause (node_at s l)) (clause (node_at s r)))

abbrev pub AllProper : Edition → List ℕ → List Node → Type 0
AllProper e rules s = (n : ℕ) → n < length s → ProperNode e rules s n (node_at s n)

-- every node but the last is used
abbrev pub AllUsed : List Node → Type 0
AllUsed s = (n : ℕ) → suc n < length s → 1 ≤ uses (links s) n

-- what the press makes of a proper sheet
pub record Kept (e : Edition) (rules : List ℕ) (s out : List Node) : Type 0 where
  pub proper : AllProper e rules out
  pub used : AllUsed out
  pub some : 1 ≤ length out
  pub fits : length out ≤ length s
  pub smaller : (x : Literal) → holds x (conclusion out) ≡ true → holds x (conclusion s) ≡ true
  pub shorter : steps_of out ≤ steps_of s
