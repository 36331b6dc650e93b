-- The press's tables: of each node its link, and its clause.
use Rattle.std.specs.Prelude.{ℕ, suc, ◌<◌, ◌≤◌, ◌≡◌, cond, List, [], ◌∷◌, map, eqb, length, get_or}
use Rattle.clause.specs.Clauses.{Literals}
use Rattle.clause.specs.Denote.{width, literals_of}
use Rattle.clause.specs.declared.Clause.{Clause}
use Rattle.sheet.specs.Editions.{capacity, most_lines}
use Rattle.sheet.specs.Records.{Node, given, step}
use Rattle.press_spec.specs.Links.{Link, leaf, join, link_at}
use Rattle.press_nodes.specs.declared.link.Link.{Link as CodeLink}
use Rattle.press_nodes.specs.declared.link.Link.TheVariants.{Leaf, Join}

-- ---- links

unfoldable pub link_in : CodeLink → Link
link_in (Leaf line) = leaf line.0
link_in (Join p l r) = join p l.0 r.0

unfoldable pub links_in : List CodeLink → List Link
links_in table = map link_in table

-- a leaf's line is one that a table can have; a join's pivot is a variable, and its parents are smaller than it
abbrev pub Sound : ℕ → Link → Type 0
Sound n (leaf line) = line < most_lines
Sound n (join p l r) = (p < width) × (l < n) × (r < n)

-- links that are sound, and no more than there is room for
pub record Links (links : List CodeLink) : Type 0 where
  pub few : length links ≤ capacity
  pub sound : (n : ℕ) → n < length links → Sound n (link_at (links_in links) n)

-- ---- clauses

-- beyond the end of a table the empty clause
abbrev pub nothing : Clause
nothing = record { positive = record { low = 0; high = 0 }; negative = record { low = 0; high = 0 } }

unfoldable pub clauses_in : List Clause → ℕ → Literals
clauses_in table n = literals_of (get_or table n nothing)

-- at n there is x, elsewhere what was there
unfoldable pub changed : {A : Type 0} → ℕ → A → (ℕ → A) → ℕ → A
changed n x there m = cond (eqb m n) x (there m)

-- f of each entry of a list and the clause at its place
unfoldable pub beside : {A B : Type 0} → (A → Literals → B) → List A → (ℕ → Literals) → List B
beside f [] clauses = []
beside f (x ∷ xs) clauses = f x (clauses 0) ∷ beside f xs (λ n. clauses (suc n))

-- ---- nodes

unfoldable pub node_of : Link → Literals → Node
node_of (leaf line) c = given line c
node_of (join p l r) c = step p l r c

unfoldable pub nodes_in : List CodeLink → List Clause → List Node
nodes_in links clauses = beside node_of (links_in links) (clauses_in clauses)

-- sound links, and a clause for each
pub record Nodes (links : List CodeLink) (clauses : List Clause) : Type 0 where
  pub linked : Links links
  pub size : length clauses ≡ length links
