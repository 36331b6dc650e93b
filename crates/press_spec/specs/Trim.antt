-- 1. Trim: "The sink is the last record. Keep what the sink reaches through parents." And the uses of a node in what is kept.
use Rattle.std.specs.Prelude.{ℕ, suc, ◌+◌, ◌≡◌, cond, List, [], ◌∷◌, eqb, length, get_or, set, replicate}
use Rattle.base.specs.Folds.{fall}
use Rattle.press_spec.specs.Links.{Link, leaf, join, link_at}

-- a node that is kept keeps its parents
unfoldable pub keep_parents : Link → List ℕ → List ℕ
keep_parents (leaf line) kept = kept
keep_parents (join p l r) kept = set (set kept l 1) r 1

unfoldable pub trim_turn : List Link → ℕ → List ℕ → List ℕ
trim_turn s n kept = cond (eqb (get_or kept n 0) 0) kept (keep_parents (link_at s n) kept)

-- 1 for each node that `from` reaches, 0 for each other
unfoldable pub trim : List Link → ℕ → List ℕ
trim s from = fall (trim_turn s) (suc from) (set (replicate (length s) 0) from 1)

-- what `from` reaches, with no word of how it is found: itself, and both parents of each step that it reaches
pub data Reaches (s : List Link) (from : ℕ) : ℕ → Type 0 where
  itself : Reaches s from from
  left : {n p l r : ℕ} → Reaches s from n → link_at s n ≡ join p l r → Reaches s from l
  right : {n p l r : ℕ} → Reaches s from n → link_at s n ≡ join p l r → Reaches s from r

-- the nodes that are kept
unfoldable pub trimmed : List Link → List ℕ → List Link
trimmed [] kept = []
trimmed (n ∷ s) [] = []
trimmed (n ∷ s) (k ∷ kept) = let rest = trimmed s kept in cond (eqb k 0) rest (n ∷ rest)

-- "Uses of a node are the places naming it in the trimmed sheet, so one step naming it twice counts two."
unfoldable pub naming : ℕ → ℕ → ℕ
naming n m = cond (eqb n m) 1 0

unfoldable pub uses_in : ℕ → Link → ℕ
uses_in n (leaf line) = 0
uses_in n (join p l r) = naming n l + naming n r

unfoldable pub uses : List Link → ℕ → ℕ
uses [] n = 0
uses (m ∷ s) n = uses_in n m + uses s n

-- the uses of each node in what `from` reaches
unfoldable pub uses_from : List Link → ℕ → ℕ → ℕ
uses_from s from = uses (trimmed s (trim s from))
