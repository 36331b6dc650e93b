-- One turn of the walk up, in the tables, and its loop: node i is still the old one at turn i, and no stand-in is later.
use Prim.Native.Nat.{ℕ, zero, suc, ◌+◌, ◌≤◌, ◌<◌}
use mathlib.Core.List.{List, [], ◌∷◌}
use mathlib.Core.Path.{◌≡◌, refl, sym, ap, ◌∙◌}
use native.Mathlib.Omega.{arith}
use lib.ListN.{length, get_or, set, replicate}
use Rattle.base.specs.Folds.{rise}
use Rattle.base.proofs.Folds.{rise-next}
use Rattle.std.specs.Prelude.{Option, None}
use Rattle.clause.specs.Clauses.{Literals, none}
use Rattle.clause.specs.declared.Clause.{Clause}
use Rattle.press_nodes.specs.declared.link.Link.{Link as CodeLink}
use Rattle.press_reach.specs.declared.literal.Literal.{Literal}
use Rattle.sheet.specs.Records.{Node, given, step, node_at}
use Rattle.press_spec.specs.Links.{link, links, link_at}
use Rattle.press_spec.specs.Recycle.{Fate, lost, kept}
use Rattle.press_spec.specs.Rebuild.{Built, built, stand_in, standing, Way, take_left, take_right, step_anew, way_of, stands_for, new_step, by_way, renew, rebuild_turn}
use Rattle.press_spec.specs.Lower.{Lowered, LoweredOnes, lowered_ones, none_lowered, low_at, fates_by}
use Rattle.press_spec.specs.Univalents.{Used, weigh, Risen, risen_to, renew_turn, weigh_turn, rise_turn, risen_by}
use Rattle.press_spec.proofs.Nodes.{Falls, link-at}
use Rattle.press_spec.proofs.OnTheWay.{on-the-way}
use Rattle.press_nodes.specs.Tables.{links_in, clauses_in, nodes_in, Sound, Nodes}
use Rattle.press_nodes.proofs.Tables.{nodes-length, link-in, clauses-at, sound-falls}
use Rattle.press_rebuild.specs.Ways.{StandIns}
use Rattle.press_rebuild.proofs.Sounds.{nodes-sound, sound-earlier, same-node, stand_ins-low, link-sound}
use Rattle.press_lowered.specs.Table.{low_in}
use Rattle.press_lowered.proofs.Tabled.{low-blank}

-- ---- no stand-in is later

at_set : (t : List ℕ) (i k b : ℕ) → k ≤ b → get_or t i 0 ≤ b → get_or (set t i k) i 0 ≤ b
at_set [] i k b h g = g
at_set (x ∷ t) zero k b h g = h
at_set (x ∷ t) (suc i) k b h g = at_set t i k b h g

module _ (n : ℕ) (b : Built) (low : (k : ℕ) → stand_in b k ≤ k) where
  way-low : (w : Way) (p l r : ℕ) → l < n → r < n → stand_in (by_way w n p l r b) n ≤ n
  unfolding by_way stands_for new_step stand_in
  way-low take_left p l r h g = at_set b.stand_ins n (stand_in b l) n (omega (arith, low l)) (low n)
  way-low take_right p l r h g = at_set b.stand_ins n (stand_in b r) n (omega (arith, low r)) (low n)
  way-low step_anew p l r h g = at_set b.stand_ins n n n (omega arith) (low n)

  renew-low : (m : Node) (z : Fate) → Falls n (link m) → stand_in (renew n m z b) n ≤ n
  unfolding renew stands_for stand_in
  renew-low m lost f = low n
  renew-low (given line c) (kept z) f = at_set b.stand_ins n n n (omega arith) (low n)
  renew-low (step p l r c) (kept z) f = way-low (way_of z p (standing b l) (standing b r)) p l r f.0 f.1

-- ---- one turn

module _ (h : List CodeLink) (c : List Clause) (n : ℕ) (inside : n < length h) where
  abbrev t : List Node
  t = nodes_in h c

  same-link : link_at (links t) n ≡ link_at (links_in h) n
  same-link = link-at t n ∙ sym (link-in h c n inside)

  module _ (marks u : List ℕ) (low : ℕ → Lowered) {t' : List Node} {u' : List ℕ}
      (e : built t' u' ≡ renew n (node_at t n) (fates_by marks low (links_in h) n) (built t u)) where
    pub stands-low : StandIns (length h) u → Sound n (link_at (links_in h) n) → get_or u' n 0 ≤ n
    unfolding stand_in
    stands-low so sound =
        let f : Falls n (link (node_at t n)) = rw (link-in h c n inside) at (sound-falls n (link_at (links_in h) n) sound) in
        omega (arith, ap (λ (b : Built). stand_in b n) e, renew-low n (built t u) so.low (node_at t n) (fates_by marks low (links_in h) n) f)

    renewed : (w : LoweredOnes) → low_at w.low ≡ low → risen_to (built t' u') w ≡ renew_turn marks t n (risen_to (built t u) w)
    unfolding renew_turn fates_by
    renewed w q = rw (e, q, same-link)

module _ (h : List CodeLink) (c : List Clause) (n : ℕ) (inside : n < length h) (marks u : List ℕ) (used : ℕ → Used) (w : LoweredOnes) (h' : List CodeLink) (c' : List Clause) (u' : List ℕ)
    (e : built (nodes_in h' c') u' ≡ renew n (node_at (nodes_in h c) n) (fates_by marks (low_at w.low) (links_in h) n) (built (nodes_in h c) u)) where
  pub rises-once : (w' : LoweredOnes) → get_or u' n 0 < length h' → w' ≡ weigh n (used n) (clauses_in c' (get_or u' n 0)) w
      → risen_to (built (nodes_in h' c') u') w' ≡ rise_turn marks (nodes_in h c) used n (risen_to (built (nodes_in h c) u) w)
  unfolding rise_turn weigh_turn standing stand_in
  rises-once w' o q =
      rw (← renewed h c n inside marks u (low_at w.low) e w refl, ← clauses-at h' c' (get_or u' n 0) o) (ap (risen_to (built (nodes_in h' c') u')) q)

-- ---- the loop

module _ (h : List CodeLink) (c : List Clause) (tables : Nodes h c) (marks : List ℕ) (used : ℕ → Used) where
  abbrev s : List Node
  s = nodes_in h c

  abbrev start : Risen
  start = risen_to (built s (replicate (length s) 0)) (none_lowered (length s))

  abbrev after : ℕ → Risen
  after i = rise (rise_turn marks s used) i start

  abbrev says : ℕ → ℕ → Fate
  says i = fates_by marks (low_at (after i).ones.low) (links s)

  pub rise-start : (low low₀ : List (Option Literal)) (u u₀ : List ℕ) (D : Literals) → length low ≡ length h → length u ≡ length h
      → low₀ ≡ replicate (length low) None → u₀ ≡ replicate (length u) 0 → D ≡ none → risen_to (built s u₀) (lowered_ones (low_in low₀) D) ≡ after 0
  unfolding rise none_lowered
  rise-start low low₀ u u₀ D p q e f d = rw (e, f, d, p, q, nodes-length h c, low-blank (length h))

  module _ (i : ℕ) (t : List Node) (u : List ℕ) (w : LoweredOnes) (e : risen_to (built t u) w ≡ after i) where
    so : built t u ≡ rise (rebuild_turn s (says i)) i (built s (replicate (length s) 0))
    so = ap (λ (x : Risen). x.so) e ∙ on-the-way marks s used (sound-earlier s (nodes-sound tables)) i

    here : i < length h → node_at t i ≡ node_at s i
    here o = same-node h c tables (says i) i t u so o

    pub rising-low : (k : ℕ) → i ≤ length h → k ≡ length h → StandIns k u
    rising-low k o q = stand_ins-low h c tables (says i) i t u so k o q

    pub rise-again : (next : Risen) → i < length h → next ≡ rise_turn marks t used i (risen_to (built t u) w) → next ≡ after (i + 1)
    unfolding rise_turn renew_turn fates_by
    rise-again next o q =
        rise-next (rise_turn marks s used) i (risen_to (built t u) w) start next e
        (q ∙ rw (link-at t i, link-at s i, here o))

    pub rise-low : i ≤ length h → length h ≤ i → w.low ≡ (risen_by marks used s).ones.low
    unfolding risen_by
    rise-low o p = let n : i ≡ length s = omega (arith, nodes-length h c) in ap (λ (x : Risen). x.ones.low) e ∙ rw n

    pub rise-built : i ≤ length h → length h ≤ i → built t u ≡ (risen_by marks used s).so
    unfolding risen_by
    rise-built o p = let n : i ≡ length s = omega (arith, nodes-length h c) in ap (λ (x : Risen). x.so) e ∙ rw n

  module _ (i : ℕ) (h' : List CodeLink) (c' : List Clause) (u : List ℕ) (w : LoweredOnes) (e : risen_to (built (nodes_in h' c') u) w ≡ after i) where
    pub rising-sound : i < length h → length h' ≡ length h → Sound i (link_at (links_in h') i)
    rising-sound o q = link-sound h c tables (says i) i h' c' u (so i (nodes_in h' c') u w e) o q
