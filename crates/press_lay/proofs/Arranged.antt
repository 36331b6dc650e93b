-- Nodes that are sound are so again when they are laid out, under new numbers.
use Prim.Native.Nat.{ℕ, ◌<◌}
use mathlib.Core.Path.{◌≡◌}
use mathlib.Core.Bool.{true}
use mathlib.Core.List.{List, [], ◌∷◌}
use native.Mathlib.Omega.{arith}
use native.Mathlib.Decide.{ℕ_discrete}
use lib.ListN.{length}
use Rattle.sheet.specs.Records.{Node, given, step, node_at}
use Rattle.press_nodes.specs.Tables.{Sound}
use Rattle.press_spec.specs.Order.{placed, number_in, renumber, laid, InOrder}
use Rattle.press_spec.specs.Links.{link, links, Parents}
use Rattle.press_spec.proofs.Nodes.{length_more, node_at-before, node_at-end, link-at}
use Rattle.press_spec.proofs.Laid.{number-below, length-laid}

renumber-sound : (order : List ℕ) (n : ℕ) (m : Node) → Parents (λ k. placed k order ≡ true) (link m) → Sound n (link m) → Sound (length order) (link (renumber (number_in order) m))
unfolding renumber
renumber-sound order n (given line c) h d = d
renumber-sound order n (step p l r c) h d = (d.0, number-below l order h.0, number-below r order h.1)

module _ (s : List Node) (Q : ℕ → Type 0) (sound : (n : ℕ) → Q n → Sound n (link (node_at s n))) where
  pub laid-sound : (order : List ℕ) → InOrder (links s) Q order → (n : ℕ) → n < length (laid s order) → Sound n (link (node_at (laid s order) n))
  unfolding laid
  laid-sound [] o n h = absurd (omega arith)
  laid-sound (m ∷ order) o n h =
      let x = renumber (number_in order) (node_at s m) in
      elim (ℕ_discrete n (length (laid s order))) [
        | yes q ↦ rw (q, node_at-end (laid s order) x, length-laid s order) (renumber-sound order m (node_at s m) (rw (link-at s m) at o.2) (sound m o.0))
        | no q ↦
            let k : n < length (laid s order) = omega (arith, length_more (laid s order) x) in
            rw (node_at-before (laid s order) x n k) (laid-sound order o.3 n k)
      ]
