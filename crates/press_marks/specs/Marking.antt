-- What marking the rule lines of given nodes may assume.
use Rattle.std.specs.Prelude.{ℕ, ◌<◌, List, length}
use Rattle.press_spec.specs.Links.{Link, leaf, join, link_at}

-- every given node names one of so many lines
abbrev pub LineBelow : ℕ → Link → Type 0
LineBelow lines (leaf line) = line < lines
LineBelow lines (join p l r) = Unit {0}

abbrev pub LinesBelow : ℕ → List Link → Type 0
LinesBelow lines s = (n : ℕ) → n < length s → LineBelow lines (link_at s n)
