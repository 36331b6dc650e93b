-- The peak of nodes with their drops, from their links alone: no clause and no record is looked at.
use Rattle.std.specs.Prelude.{ℕ, suc, ◌-◌, max, List, [], ◌∷◌, length}
use Rattle.press_spec.specs.Links.{Link}
use Rattle.press_spec.specs.Drops.{drops_after}

-- with `held` nodes before the first: a node is held, and then what it uses last is dropped
unfoldable pub peak_of_links : ℕ → List Link → ℕ
peak_of_links held [] = 0
peak_of_links held (x ∷ later) = max (suc held) (peak_of_links (suc held - length (drops_after x later)) later)
