-- The first k nodes of wider tables.
use Prim.Native.Nat.{ℕ, ◌≤◌}
use mathlib.Core.List.{List}
use mathlib.Core.Path.{◌≡◌, sym, ◌∙◌}
use native.Mathlib.Omega.{arith}
use lib.ListN.{length, take}
use lib.Seq.{length-take-le}
use Rattle.clause.specs.declared.Clause.{Clause}
use Rattle.sheet.specs.Editions.{capacity}
use Rattle.press_nodes.specs.declared.link.Link.{Link}
use Rattle.press_nodes.specs.Tables.{nodes_in, Nodes}
use Rattle.press_nodes.proofs.Tables.{nodes-length, link-in, nodes-front}
use Rattle.press_rebuild.proofs.Sounds.{SoundNodes}

module _ (k : ℕ) (h : List Link) (c : List Clause) where
  pub front-nodes : k ≤ length h → k ≤ capacity → length c ≡ length h → SoundNodes (take k (nodes_in h c)) → Nodes (take k h) (take k c)
  front-nodes inside few size sound =
      let long : length (take k h) ≡ k = length-take-le k h inside in
      record {
        linked = record {
          few = rw long few;
          sound = λ n i.
              rw (link-in (take k h) (take k c) n i, nodes-front k h c)
              (sound n (rw (← nodes-front k h c, nodes-length (take k h) (take k c)) i));
        };
        size = length-take-le k c (omega (arith, size)) ∙ sym long;
      }
