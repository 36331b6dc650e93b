-- A node's score in a turn of the top-down order, from tables: `left` has 1 for each node that is unplaced, `ahead` for each node the places in
-- unplaced nodes that name it, `numbers` for each node its place plus 1, or 0 while it is not placed.
use Rattle.std.specs.Prelude.{ℕ, suc, Bool, true, ◌&&◌, not, cond, List, eqb, get_or}
use Rattle.press_spec.specs.Links.{Link, leaf, join, link_at}
use Rattle.press_spec.specs.TopDown.{gain_by}

unfoldable pub marked : List ℕ → ℕ → Bool
marked t n = not (eqb (get_or t n 0) 0)

unfoldable pub parents_marked : List ℕ → Link → Bool
parents_marked numbers (leaf line) = true
parents_marked numbers (join p l r) = marked numbers l && marked numbers r

-- 0 for a node that is not ready
unfoldable pub score_in : List Link → List ℕ → List ℕ → List ℕ → ℕ → ℕ
score_in s left ahead numbers n =
    cond (marked left n && parents_marked numbers (link_at s n)) (suc (gain_by (λ m. get_or ahead m 0) (link_at s n))) 0
