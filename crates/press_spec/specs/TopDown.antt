-- 5, a second order (002, top-down pebbling): "At each turn, of the unplaced nodes whose parents are all placed, take the one after which
-- most nodes can be dropped at once; ties go to the smallest number, as nodes were numbered when the order began."
use Rattle.std.specs.Prelude.{ℕ, suc, ◌+◌, ◌≤◌, ◌<◌, ◌≡◌, Bool, true, ◌&&◌, not, cond, List, [], ◌∷◌, eqb, ltb, length, get_or, set}
use Rattle.base.specs.Folds.{rise}
use Rattle.press_spec.specs.Links.{Link, leaf, join, link_at}
use Rattle.press_spec.specs.Trim.{trim, trimmed}
use Rattle.press_spec.specs.Order.{placed}
use Rattle.press_spec.specs.Drops.{drops_after, total}

-- 1 for each node of `kept` that is not placed
unfoldable pub unplaced : List ℕ → List ℕ → List ℕ
unplaced kept [] = kept
unplaced kept (n ∷ order) = set (unplaced kept order) n 0

unfoldable pub parents_placed : Link → List ℕ → Bool
parents_placed (leaf line) order = true
parents_placed (join p l r) order = placed l order && placed r order

-- "of the unplaced nodes whose parents are all placed"
unfoldable pub ready : List Link → List ℕ → List ℕ → ℕ → Bool
ready s kept order n = not (eqb (get_or (unplaced kept order) n 0) 0) && parents_placed (link_at s n) order

-- how many "nodes can be dropped at once" after n: the drops of the drop rule, where all that is not placed comes later
unfoldable pub gain : List Link → List ℕ → List ℕ → ℕ → ℕ
gain s kept order n = length (drops_after (link_at s n) (trimmed s (unplaced kept (n ∷ order))))

-- 0 for a node that is not ready
unfoldable pub score : List Link → List ℕ → List ℕ → ℕ → ℕ
score s kept order n = cond (ready s kept order n) (suc (gain s kept order n)) 0

-- "ties go to the smallest number": a later number is taken only if it scores more
unfoldable pub higher : (ℕ → ℕ) → ℕ → ℕ → ℕ
higher f n best = cond (ltb (f best) (f n)) n best

unfoldable pub highest : (ℕ → ℕ) → ℕ → ℕ
highest f k = rise (higher f) k 0

unfoldable pub take_turn : List Link → List ℕ → ℕ → List ℕ → List ℕ
take_turn s kept i order = highest (score s kept order) (length s) ∷ order

-- a turn for each node that `from` reaches; newest first
unfoldable pub top_down : List Link → ℕ → List ℕ
top_down s from = let kept = trim s from in rise (take_turn s kept) (total kept) []

-- What a turn takes, with no word of how it is found: a node that is ready, no ready one lets more be dropped, and of those that let as many it is
-- the smallest.
pub record Taken (s : List Link) (kept order : List ℕ) (n : ℕ) : Type 0 where
  pub can : ready s kept order n ≡ true
  pub most : (m : ℕ) → m < length s → ready s kept order m ≡ true → gain s kept order m ≤ gain s kept order n
  pub first : (m : ℕ) → ready s kept order m ≡ true → gain s kept order m ≡ gain s kept order n → n ≤ m

-- the same from the number of places in unplaced nodes that name each node: a parent can be dropped if all of them are in this node
unfoldable pub gain_by : (ℕ → ℕ) → Link → ℕ
gain_by count (leaf line) = 0
gain_by count (join p l r) = cond (eqb l r) (cond (eqb (count l) 2) 1 0) (cond (eqb (count l) 1) 1 0 + cond (eqb (count r) 1) 1 0)
