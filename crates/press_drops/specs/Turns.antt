-- What is emitted at a node's turn.
use Rattle.std.specs.Prelude.{ℕ, ◌+◌, List, ◌∷◌, drop as after}
use Rattle.sheet.specs.Records.{Node, Record, node, node_at}
use Rattle.press_spec.specs.Links.{link, links}
use Rattle.press_spec.specs.Drops.{drops_after}

-- node k of the nodes s, and the drops after it
unfoldable pub records_at : List Node → ℕ → List Record
records_at s k = node (node_at s k) ∷ drops_after (link (node_at s k)) (after (k + 1) (links s))
