-- 5. Order (002, bottom-up pebbling, children heuristic): "Starting from the sink, the premises are placed first, then the node itself,
-- each node once."
use Rattle.std.specs.Prelude.{ℕ, zero, suc, ◌≡◌, Bool, true, false, ◌||◌, cond, List, [], ◌∷◌, ◌++◌, eqb, ltb, length}
use Rattle.sheet.specs.Records.{Node, given, step, node_at}
use Rattle.press_spec.specs.Links.{Link, leaf, join, link_at, Parents}
use Rattle.press_spec.specs.Trim.{uses_from}

unfoldable pub placed : ℕ → List ℕ → Bool
placed n [] = false
placed n (m ∷ order) = eqb n m || placed n order

-- "Of two premises the one with more uses in the pressed proof goes first; equal: left."
unfoldable pub right_first : (ℕ → ℕ) → ℕ → ℕ → Bool
right_first count l r = ltb (count l) (count r)

unfoldable pub in_turn : Bool → (ℕ → List ℕ → List ℕ) → ℕ → ℕ → List ℕ → List ℕ
in_turn true place l r order = place l (place r order)
in_turn false place l r order = place r (place l order)

unfoldable pub premises : (ℕ → ℕ) → (ℕ → List ℕ → List ℕ) → Link → List ℕ → List ℕ
premises count place (leaf line) order = order
premises count place (join p l r) order = in_turn (right_first count l r) place l r order

-- The order is newest first. Parents have smaller numbers, so a depth above n is enough to place n.
unfoldable pub place : List Link → (ℕ → ℕ) → ℕ → ℕ → List ℕ → List ℕ
place s count zero n order = order
place s count (suc depth) n order =
    elim (placed n order) [ true ↦ order | false ↦ n ∷ premises count (λ m o. place s count depth m o) (link_at s n) order ]

unfoldable pub order_from : List Link → ℕ → List ℕ
order_from s from = place s (uses_from s from) (suc from) from []

-- the new number of n: how many were placed before it
unfoldable pub number_in : List ℕ → ℕ → ℕ
number_in [] n = 0
number_in (m ∷ order) n = cond (eqb n m) (length order) (number_in order n)

-- a node whose parents go by new numbers
unfoldable pub renumber : (ℕ → ℕ) → Node → Node
renumber number (given line c) = given line c
renumber number (step p l r c) = step p (number l) (number r) c

-- the nodes of an order, the oldest first
unfoldable pub laid : List Node → List ℕ → List Node
laid s [] = []
laid s (n ∷ order) = laid s order ++ (renumber (number_in order) (node_at s n) ∷ [])

-- ---- "The premises are placed first, then the node itself, each node once", said of an order.

-- newest first: each of the kind Q, each once, each after its premises
abbrev pub InOrder : List Link → (ℕ → Type 0) → List ℕ → Type 0
InOrder s Q [] = Unit {0}
InOrder s Q (n ∷ order) = Q n × (placed n order ≡ false) × Parents (λ k. placed k order ≡ true) (link_at s n) × InOrder s Q order
