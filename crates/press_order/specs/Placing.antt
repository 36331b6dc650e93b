-- 5. Order, in a table: "the premises are placed first, then the node itself, each node once." The table has for each node its place in the
-- order plus 1, or 0 while it is not placed.
use Rattle.std.specs.Prelude.{ℕ, suc, ◌<◌, ◌≡◌, cond, List, length, get_or}
use Rattle.press_spec.specs.Order.{placed, number_in, InOrder}
use Rattle.press_nodes.specs.declared.link.Link.{Link as CodeLink}
use Rattle.press_nodes.specs.Tables.{links_in, Links}

abbrev pub Numbered : List ℕ → List ℕ → Type 0
Numbered numbers order = (n : ℕ) → get_or numbers n 0 ≡ cond (placed n order) (suc (number_in order n)) 0

-- the order stands in the table, and so many nodes are placed
pub record Stands (numbers : List ℕ) (count : ℕ) (order : List ℕ) : Type 0 where
  pub numbered : Numbered numbers order
  pub counts : count ≡ length order

-- an order of nodes of the table of links
abbrev pub Orderly : List CodeLink → List ℕ → Type 0
Orderly links order = InOrder (links_in links) (λ n. n < length links) order

-- what a call that places node n may assume: some order stands in the table
pub record Placing (links : List CodeLink) (counts numbers : List ℕ) (n count : ℕ) : Type 0 where
  pub tables : Links links
  pub inside : n < length links
  pub counted : length counts ≡ length links
  pub long : length numbers ≡ length links
  pub order : List ℕ
  pub orderly : Orderly links order
  pub stands : Stands numbers count order
