-- What the code's table of counts is, and what recycling keeps of fates on its way.
use Rattle.std.specs.Prelude.{ℕ, ◌≤◌, ◌≡◌, List, get_or}
use Rattle.clause.specs.declared.Clause.{Clause}
use Rattle.press_spec.specs.Links.{Link}
use Rattle.press_spec.specs.Recycle.{fates}
use Rattle.press_nodes.specs.declared.fate.Fate.{Fate as CodeFate}
use Rattle.press_nodes.specs.Fates.{fates_in}
use Rattle.press_reach.specs.Reaches.{reaches_in}

-- the uses of n
unfoldable pub count_in : List ℕ → ℕ → ℕ
count_in counts n = get_or counts n 0

-- the nodes from i on have their fates
abbrev pub Fated : List Link → List CodeFate → List Clause → ℕ → Type 0
Fated t known sets i = (m : ℕ) → i ≤ m → fates_in known m ≡ fates t (reaches_in known sets) m
