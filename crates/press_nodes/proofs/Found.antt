-- What the link that `link_at` finds says of its node, and what sound links say of a join's parents. For `search` in the turns of the passes.
use Prim.Native.Nat.{ℕ, ◌<◌}
use mathlib.Core.Path.{◌≡◌}
use mathlib.Core.List.{List}
use lib.ListN.{length}
use Rattle.clause.specs.Denote.{literals_of}
use Rattle.clause.specs.declared.Clause.{Clause}
use Rattle.sheet.specs.declared.LineNo.{LineNo}
use Rattle.sheet.specs.declared.NodeNo.{NodeNo}
use Rattle.sheet.specs.declared.Record.TheVariants.{Given, Step}
use Rattle.sheet.specs.Records.{node, node_at}
use Rattle.sheet.specs.Denote.{record_of}
use Rattle.press_spec.specs.Links.{Link, leaf, join, link_at}
use Rattle.press_nodes.specs.declared.link.Link.{Link as CodeLink}
use Rattle.press_nodes.specs.declared.link.Link.TheVariants.{Leaf, Join}
use Rattle.press_nodes.specs.Tables.{link_in, links_in, clauses_in, node_of, nodes_in, Links, Sound}
use Rattle.press_nodes.proofs.Tables.{nodes-at}

pub found-leaf : (x : CodeLink) (m : Link) (line : LineNo) → link_in x ≡ m → x ≡ Leaf line → m ≡ leaf line.0
unfolding link_in
found-leaf x m line e q = let f : link_in (Leaf line) ≡ m = rw q at e in cc

pub found-join : (x : CodeLink) (m : Link) (p : ℕ) (l r : NodeNo) → link_in x ≡ m → x ≡ Join p l r → m ≡ join p l.0 r.0
unfolding link_in
found-join x m p l r e q = let f : link_in (Join p l r) ≡ m = rw q at e in cc

-- the join's pivot is a variable, and its parents are smaller than it
pub found-sound : (h : List CodeLink) (n : ℕ) (x : CodeLink) (p : ℕ) (l r : NodeNo) → Links h → n < length h
    → link_in x ≡ link_at (links_in h) n → x ≡ Join p l r → Sound n (join p l.0 r.0)
found-sound h n x p l r t i e q = rw (found-join x (link_at (links_in h) n) p l r e q) at (t.sound n i)

-- the record of a node, from its link and its clause
module _ (h : List CodeLink) (t : List Clause) (n : ℕ) (x : CodeLink) (d : Clause) (inside : n < length h) (told : link_in x ≡ link_at (links_in h) n)
    (same : literals_of d ≡ clauses_in t n) where
  pub reads_leaf : (line : LineNo) → x ≡ Leaf line → record_of (Given line d) ≡ node (node_at (nodes_in h t) n)
  unfolding record_of node_of
  reads_leaf line q = rw (nodes-at h t n inside, found-leaf x (link_at (links_in h) n) line told q, ← same)

  pub reads_join : (p : ℕ) (l r : NodeNo) → x ≡ Join p l r → record_of (Step p l r d) ≡ node (node_at (nodes_in h t) n)
  unfolding record_of node_of
  reads_join p l r q = rw (nodes-at h t n inside, found-join x (link_at (links_in h) n) p l r told q, ← same)
