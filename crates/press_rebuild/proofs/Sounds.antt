-- Sound nodes stay sound in the rebuild. And its loop over the tables: node i is still the old one at turn i, and no stand-in is later.
use Prim.Native.Nat.{ℕ, zero, suc, ◌+◌, ◌≤◌, ◌<◌}
use mathlib.Core.Path.{◌≡◌, sym, ap, ◌∙◌}
use mathlib.Core.List.{List, [], ◌∷◌}
use native.Mathlib.Omega.{arith}
use lib.ListN.{length, set, replicate}
use Rattle.base.specs.Folds.{rise}
use Rattle.base.proofs.Folds.{rise-by, rise-next}
use Rattle.sheet.specs.Editions.{most_lines}
use Rattle.sheet.specs.Records.{Node, given, step, node_at}
use Rattle.clause.specs.Denote.{width}
use Rattle.clause.specs.declared.Clause.{Clause}
use Rattle.press_nodes.specs.declared.link.Link.{Link as CodeLink}
use Rattle.press_spec.specs.Links.{link, link_at}
use Rattle.press_spec.specs.Recycle.{Fate, lost, kept}
use Rattle.press_spec.specs.Rebuild.{Built, built, stand_in, Way, take_left, take_right, step_anew, way_of, standing, stands_for, new_step, by_way, renew, rebuild_turn, rebuild}
use Rattle.press_nodes.specs.Tables.{links_in, nodes_in, Sound, Nodes}
use Rattle.press_rebuild.specs.Ways.{StandIns}
use Rattle.press_spec.proofs.Nodes.{Falls, Earlier, everywhere}
use Rattle.press_nodes.proofs.Tables.{nodes-length, link-in, sound-falls}
use Rattle.press_spec.proofs.Rebuilt.{Rebuilding, rebuilding, rebuilt}

-- ---- a sound node is of sound numbers, and its parents are smaller

-- of nodes: each link is sound
abbrev pub SoundNodes : List Node → Type 0
SoundNodes s = (n : ℕ) → n < length s → Sound n (link (node_at s n))

abbrev Numbers : Node → Type 0
Numbers (given line c) = line < most_lines
Numbers (step p l r c) = p < width

sound-numbers : (n : ℕ) (m : Node) → Sound n (link m) → Numbers m
sound-numbers n (given line c) h = h
sound-numbers n (step p l r c) h = h.0

parts-sound : (n : ℕ) (m : Node) → Numbers m → Falls n (link m) → Sound n (link m)
parts-sound n (given line c) h f = h
parts-sound n (step p l r c) h f = (h, f.0, f.1)

all-numbers : (s : List Node) → SoundNodes s → (n : ℕ) → Numbers (node_at s n)
all-numbers s f = everywhere (λ n m. Numbers m) s (λ n. omega arith) (λ n h. sound-numbers n (node_at s n) (f n h))

pub sound-earlier : (s : List Node) → SoundNodes s → Earlier s
sound-earlier s f = everywhere (λ n m. Falls n (link m)) s (λ n. tt) (λ n h. sound-falls n (link (node_at s n)) (f n h))

pub nodes-sound : {h : List CodeLink} {c : List Clause} → Nodes h c → SoundNodes (nodes_in h c)
nodes-sound {h} {c} t n i = let o : n < length h = rw (nodes-length h c) at i in rw (← (link-in h c n o)) (t.linked.sound n o)

-- ---- the rebuild

numbers-set : (s : List Node) (i : ℕ) (x : Node) → ((n : ℕ) → Numbers (node_at s n)) → Numbers x → (n : ℕ) → Numbers (node_at (set s i x) n)
unfolding node_at
numbers-set [] i x f h n = f n
numbers-set (y ∷ s) zero x f h zero = h
numbers-set (y ∷ s) zero x f h (suc n) = f (suc n)
numbers-set (y ∷ s) (suc i) x f h zero = f zero
numbers-set (y ∷ s) (suc i) x f h (suc n) = numbers-set s i x (λ k. f (suc k)) h n

numbers-renewed : (i : ℕ) (m : Node) (z : Fate) (b : Built) → Numbers m → ((n : ℕ) → Numbers (node_at b.nodes n))
    → (n : ℕ) → Numbers (node_at (renew i m z b).nodes n)
unfolding renew stands_for
numbers-renewed i m lost b h f = f
numbers-renewed i (given line c) (kept z) b h f = f
numbers-renewed i (step p l r c) (kept z) b h f = by (way_of z p (standing b l) (standing b r))
  where
    by : (w : Way) (n : ℕ) → Numbers (node_at (by_way w i p l r b).nodes n)
    by take_left = unfold by_way stands_for in f
    by take_right = unfold by_way stands_for in f
    by step_anew = unfold by_way new_step in numbers-set b.nodes i _ f h

module _ (s : List Node) (says : ℕ → Fate) (sound : SoundNodes s) where
  pub rebuilt-sound : SoundNodes (rebuild s says).nodes
  unfolding rebuild rebuild_turn
  rebuilt-sound n h =
      parts-sound n (node_at (rebuild s says).nodes n)
      (rise-by (λ i b. (k : ℕ) → Numbers (node_at b.nodes k)) (rebuild_turn s says) (length s) (built s (replicate (length s) 0))
      (λ i b l f. numbers-renewed i (node_at s i) (says i) b (all-numbers s sound i) f) (all-numbers s sound) n)
      ((rebuilt s says (sound-earlier s sound)).falling n)

-- ---- its loop over the tables

module _ (h : List CodeLink) (c : List Clause) (tables : Nodes h c) (says : ℕ → Fate) where
  abbrev s : List Node
  s = nodes_in h c

  abbrev after : ℕ → Built
  after i = rise (rebuild_turn s says) i (built s (replicate (length s) 0))

  long : length s ≡ length h
  long = nodes-length h c

  so_far : (i : ℕ) → i ≤ length h → Rebuilding s says i (after i)
  so_far i o = rebuilding s says (sound-earlier s (nodes-sound tables)) i (rw long o)

  pub rebuild-start : (u cleared : List ℕ) → length u ≡ length h → cleared ≡ replicate (length u) 0 → built s cleared ≡ after 0
  unfolding rise
  rebuild-start u cleared q e = rw (e, q, long)

  module _ (i : ℕ) (t : List Node) (u : List ℕ) (e : built t u ≡ after i) where
    pub same-node : i < length h → node_at t i ≡ node_at s i
    same-node o = ap (λ (b : Built). node_at b.nodes i) e ∙ (so_far i (omega arith)).ahead i (omega arith)

    pub stand_ins-low : (n : ℕ) → i ≤ length h → n ≡ length h → StandIns n u
    unfolding stand_in
    stand_ins-low n o q = record {
      long = ap (λ (b : Built). length b.stand_ins) e ∙ (so_far i o).stand_ins-long ∙ long ∙ sym q;
      low = λ m. omega (arith, ap (λ (b : Built). stand_in b m) e, (so_far i o).low m);
    }

    pub rebuild-next : (next : Built) → i < length h → next ≡ rebuild_turn t says i (built t u) → next ≡ after (i + 1)
    unfolding rebuild_turn
    rebuild-next next o q =
        rise-next (rebuild_turn s says) i (built t u) (built s (replicate (length s) 0)) next e (q ∙ rw (same-node o))

    pub rebuild-done : i ≤ length h → length h ≤ i → built t u ≡ rebuild s says
    unfolding rebuild
    rebuild-done p q = let n : i ≡ length s = omega (arith, long) in e ∙ rw n

  module _ (i : ℕ) (h' : List CodeLink) (c' : List Clause) (u : List ℕ) (e : built (nodes_in h' c') u ≡ after i) where
    pub link-sound : i < length h → length h' ≡ length h → Sound i (link_at (links_in h') i)
    link-sound o q =
        let o' : i < length h' = omega arith in
        rw (link-in h' c' i o', same-node i (nodes_in h' c') u e o) (nodes-sound tables i (rw long o))

-- ---- rebuilt tables are tables of sound nodes again

pub rebuilt-nodes : (says : ℕ → Fate) (h : List CodeLink) (c : List Clause) (h' : List CodeLink) (c' : List Clause) (u : List ℕ) → Nodes h c → length h' ≡ length h → length c' ≡ length c
    → built (nodes_in h' c') u ≡ rebuild (nodes_in h c) says → Nodes h' c'
rebuilt-nodes says h c h' c' u tables p q e = record {
  linked = record {
    few = rw p tables.linked.few;
    sound = λ n i.
        let same : nodes_in h' c' ≡ (rebuild (nodes_in h c) says).nodes = ap (λ (b : Built). b.nodes) e in
        rw (link-in h' c' n i, same) (rebuilt-sound (nodes_in h c) says (nodes-sound tables) n (rw (← same, nodes-length h' c') i));
  };
  size = q ∙ tables.size ∙ sym p;
}
