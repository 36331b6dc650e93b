-- 5. Order, in tables: each node that has a place in the order, at that place.
use Rattle.std.specs.Prelude.{ℕ, ◌-◌, ◌≤◌, ◌≡◌, List, [], ◌∷◌, ◌++◌, length, get_or}
use Rattle.press_spec.specs.Links.{Link, leaf, join, link_at}
use Rattle.press_spec.specs.Order.{number_in}
use Rattle.press_nodes.specs.declared.link.Link.{Link as CodeLink}
use Rattle.press_order.specs.Placing.{Numbered, Orderly}

-- a link whose parents go by new numbers
unfoldable pub relink : (ℕ → ℕ) → Link → Link
relink number (leaf line) = leaf line
relink number (join p l r) = join p (number l) (number r)

-- the links of an order, the oldest first
unfoldable pub laid_links : List Link → List ℕ → List Link
laid_links t [] = []
laid_links t (n ∷ order) = laid_links t order ++ (relink (number_in order) (link_at t n) ∷ [])

-- a node that has a place, and its new number
abbrev pub HasPlace : List ℕ → ℕ → Type 0
HasPlace numbers n = 1 ≤ get_or numbers n 0

abbrev pub place_in : List ℕ → ℕ → ℕ
place_in numbers n = get_or numbers n 0 - 1

-- what laying out may assume: some order stands in the table, with as many nodes as there is room for
pub record Laying (links : List CodeLink) (numbers : List ℕ) (room : ℕ) : Type 0 where
  pub order : List ℕ
  pub orderly : Orderly links order
  pub numbered : Numbered numbers order
  pub fills : length order ≡ room
