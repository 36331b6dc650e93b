-- The nodes among records, one run after another.
use mathlib.Core.Path.{◌≡◌, refl, ap}
use mathlib.Core.List.{List, [], ◌∷◌, ◌++◌}
use Rattle.sheet.specs.Records.{Node, Record, node, drop}
use Rattle.sheet.specs.Counts.{nodes_of}

pub nodes-append : (xs ys : List Record) → nodes_of (xs ++ ys) ≡ nodes_of xs ++ nodes_of ys
unfolding nodes_of
nodes-append [] ys = refl
nodes-append (node x ∷ xs) ys = ap (λ (t : List Node). x ∷ t) (nodes-append xs ys)
nodes-append (drop n ∷ xs) ys = nodes-append xs ys
