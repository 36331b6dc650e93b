-- The rebuild: stand-in numbers never rise, parents stay earlier, no given becomes a step, and every stand-in of a kept node is proper.
use Prim.Native.Nat.{ℕ, suc, ◌≤◌, ◌<◌}
use mathlib.Core.Bool.{Bool, true, false, cond}
use mathlib.Core.Path.{◌≡◌, refl, sym, ap, ◌∙◌}
use mathlib.Core.Logic.{◌≢◌}
use mathlib.Core.List.{List}
use native.Mathlib.Omega.{arith}
use native.Mathlib.Decide.{ℕ_discrete}
use lib.ListN.{length, replicate, length-map, length-set, length-replicate}
use lib.Seq.{get_or-set_same, get_or-set_other}
use Rattle.base.specs.Folds.{rise}
use Rattle.base.proofs.Folds.{rise-by}
use Rattle.base.proofs.Lists.{get_d-blank}
use Rattle.clause.specs.Clauses.{Literals, plus, minus, holds}
use Rattle.sheet.specs.declared.edition.Edition.{Edition}
use Rattle.sheet.specs.Records.{Node, given, step, clause, node_at}
use Rattle.sheet.specs.Counts.{step_of}
use Rattle.press_spec.specs.Recycle.{Cut, cut_left, cut_right, uncut, Fate, lost, kept}
use Rattle.press_spec.specs.Rebuild.{Built, built, stand_in, standing, Way, take_left, take_right, step_anew, way_of, stands_for, step_made, new_step, by_way, renew, rebuild_turn, rebuild}
use Rattle.press_spec.specs.Links.{Link, leaf, join, link, links, link_at, Parents}
use Rattle.press_spec.proofs.Proper.{ProperNode}
use Rattle.press_spec.proofs.Nodes.{Falls, Earlier, link-at, by-rising}

-- ---- what the finished tables say of a node

abbrev pub ByWay : Built → Way → ℕ → ℕ → ℕ → ℕ → Type 0
ByWay b take_left n p l r = stand_in b n ≡ stand_in b l
ByWay b take_right n p l r = stand_in b n ≡ stand_in b r
ByWay b step_anew n p l r = (stand_in b n ≡ n) × (node_at b.nodes n ≡ step_made p l r b)

abbrev pub Renewed : Built → ℕ → Node → Fate → Type 0
Renewed b n m lost = Unit {0}
Renewed b n (given line c) (kept z) = (stand_in b n ≡ n) × (node_at b.nodes n ≡ given line c)
Renewed b n (step p l r c) (kept z) = ByWay b (way_of z p (standing b l) (standing b r)) n p l r

-- ---- what a change at number i leaves alone

pub record Changes (i : ℕ) (b b' : Built) : Type 0 where
  nodes-long : length b'.nodes ≡ length b.nodes
  stand_ins-long : length b'.stand_ins ≡ length b.stand_ins
  stand_in-other : (n : ℕ) → n ≢ i → stand_in b' n ≡ stand_in b n
  node-other : (n : ℕ) → n ≢ i → node_at b'.nodes n ≡ node_at b.nodes n

changes-none : (i : ℕ) (b : Built) → Changes i b b
changes-none i b = record { nodes-long = refl; stand_ins-long = refl; stand_in-other = λ n h. refl; node-other = λ n h. refl }

changes-stands_for : (i m : ℕ) (b : Built) → Changes i b (stands_for i m b)
unfolding stands_for stand_in
changes-stands_for i m b = record {
  nodes-long = refl;
  stand_ins-long = length-set b.stand_ins i m;
  stand_in-other = λ n h. get_or-set_other b.stand_ins i n m 0 h;
  node-other = λ n h. refl;
}

changes-new_step : (i p l r : ℕ) (b : Built) → Changes i b (new_step i p l r b)
unfolding new_step stand_in node_at
changes-new_step i p l r b = record {
  nodes-long = length-set b.nodes i _;
  stand_ins-long = length-set b.stand_ins i i;
  stand_in-other = λ n h. get_or-set_other b.stand_ins i n i 0 h;
  node-other = λ n h. get_or-set_other b.nodes i n _ _ h;
}

changes-way : (w : Way) (i p l r : ℕ) (b : Built) → Changes i b (by_way w i p l r b)
unfolding by_way
changes-way take_left i p l r b = changes-stands_for i (stand_in b l) b
changes-way take_right i p l r b = changes-stands_for i (stand_in b r) b
changes-way step_anew i p l r b = changes-new_step i p l r b

-- a turn changes nothing but its own number
pub changes-renew : (i : ℕ) (m : Node) (z : Fate) (b : Built) → Changes i b (renew i m z b)
unfolding renew
changes-renew i m lost b = changes-none i b
changes-renew i (given line c) (kept z) b = changes-stands_for i i b
changes-renew i (step p l r c) (kept z) b = changes-way (way_of z p (standing b l) (standing b r)) i p l r b

module _ (i : ℕ) (b b' : Built) (ch : Changes i b b') (low : (n : ℕ) → stand_in b n ≤ n) where
  pub standing-other : (n : ℕ) → n < i → standing b' n ≡ standing b n
  unfolding standing
  standing-other n h = rw (ch.stand_in-other n (omega arith)) (ap clause (ch.node-other (stand_in b n) (omega (arith, low n))))

  way-keeps : (w : Way) (n p l r : ℕ) → n < i → l < n → r < n → ByWay b w n p l r → ByWay b' w n p l r
  way-keeps take_left n p l r h hl hr q = rw (ch.stand_in-other n (omega arith), ch.stand_in-other l (omega arith)) q
  way-keeps take_right n p l r h hl hr q = rw (ch.stand_in-other n (omega arith), ch.stand_in-other r (omega arith)) q
  way-keeps step_anew n p l r h hl hr q = (
    ch.stand_in-other n (omega arith) ∙ q.0,
    rw (
      ch.node-other n (omega arith),
      ch.stand_in-other l (omega arith),
      ch.stand_in-other r (omega arith),
      standing-other l (omega arith),
      standing-other r (omega arith),
    ) q.1,
  )

  renewed-keeps : (n : ℕ) (m : Node) (z : Fate) → n < i → Falls n (link m) → Renewed b n m z → Renewed b' n m z
  renewed-keeps n m lost h f q = tt
  renewed-keeps n (given line c) (kept z) h f q = (ch.stand_in-other n (omega arith) ∙ q.0, ch.node-other n (omega arith) ∙ q.1)
  renewed-keeps n (step p l r c) (kept z) h f q =
      rw (standing-other l (omega (arith, f.0)), standing-other r (omega (arith, f.1)))
      (way-keeps (way_of z p (standing b l) (standing b r)) n p l r h f.0 f.1 q)

-- ---- the walk

steps-same : (p l r l' r' : ℕ) (c c' : Literals) → step_of (step p l r c) ≤ step_of (step p l' r' c')
unfolding step_of
steps-same p l r l' r' c c' = omega arith

-- the nodes below i are renewed, those from i on are the old ones
pub record Rebuilding (s : List Node) (says : ℕ → Fate) (i : ℕ) (b : Built) : Type 0 where
  pub nodes-long : length b.nodes ≡ length s
  pub stand_ins-long : length b.stand_ins ≡ length s
  pub low : (n : ℕ) → stand_in b n ≤ n
  pub falling : Earlier b.nodes
  pub steps : (n : ℕ) → step_of (node_at b.nodes n) ≤ step_of (node_at s n)
  pub ahead : (n : ℕ) → i ≤ n → node_at b.nodes n ≡ node_at s n
  pub done : (n : ℕ) → n < i → Renewed b n (node_at s n) (says n)

module _ (s : List Node) (says : ℕ → Fate) (earlier : Earlier s) where
  rebuilding-start : Rebuilding s says 0 (built s (replicate (length s) 0))
  unfolding stand_in
  rebuilding-start = record {
    nodes-long = refl;
    stand_ins-long = length-replicate (length s) 0;
    low = λ n. omega (arith, get_d-blank {A = ℕ} (length s) n 0);
    falling = earlier;
    steps = λ n. omega arith;
    ahead = λ n h. refl;
    done = λ n h. absurd (omega arith);
  }

  module _ (i : ℕ) (b : Built) (inside : i < length s) (f : Rebuilding s says i b) where
    extend : (b' : Built) → Changes i b b' → stand_in b' i ≤ i → Falls i (link (node_at b'.nodes i))
        → step_of (node_at b'.nodes i) ≤ step_of (node_at s i) → Renewed b' i (node_at s i) (says i) → Rebuilding s says (suc i) b'
    extend b' ch low' falls' steps' done' = record {
      nodes-long = ch.nodes-long ∙ f.nodes-long;
      stand_ins-long = ch.stand_ins-long ∙ f.stand_ins-long;
      low = λ n. elim (ℕ_discrete n i) [ yes q ↦ rw q low' | no q ↦ rw (ch.stand_in-other n q) (f.low n) ];
      falling = λ n. elim (ℕ_discrete n i) [ yes q ↦ rw q falls' | no q ↦ rw (ch.node-other n q) (f.falling n) ];
      steps = λ n. elim (ℕ_discrete n i) [ yes q ↦ rw q steps' | no q ↦ rw (ch.node-other n q) (f.steps n) ];
      ahead = λ n h. ch.node-other n (omega arith) ∙ f.ahead n (omega arith);
      done = λ n h. elim (ℕ_discrete n i) [
        | yes q ↦ rw q done'
        | no q ↦ renewed-keeps i b b' ch f.low n (node_at s n) (says n) (omega arith) (earlier n) (f.done n (omega arith))
      ];
    }

    stand_in-stands_for : (m : ℕ) → stand_in (stands_for i m b) i ≡ m
    unfolding stands_for stand_in
    stand_in-stands_for m = get_or-set_same b.stand_ins i m 0 (rw f.stand_ins-long inside)

    stand_in-new_step : (p l r : ℕ) → stand_in (new_step i p l r b) i ≡ i
    unfolding new_step stand_in
    stand_in-new_step p l r = get_or-set_same b.stand_ins i i 0 (rw f.stand_ins-long inside)

    node-new_step : (p l r : ℕ) → node_at (new_step i p l r b).nodes i ≡ step_made p l r b
    unfolding new_step node_at
    node-new_step p l r = get_or-set_same b.nodes i _ _ (rw f.nodes-long inside)

    -- i gets a stand-in that is no later, and stays what it was
    stands : (m : ℕ) → m ≤ i → Renewed (stands_for i m b) i (node_at s i) (says i) → Rebuilding s says (suc i) (stands_for i m b)
    unfolding stands_for
    stands m h d = extend (stands_for i m b) (changes-stands_for i m b) (rw (stand_in-stands_for m) h) (f.falling i) (f.steps i) d

    module _ (p l r : ℕ) (c : Literals) (z : Cut) (a : node_at s i ≡ step p l r c) (e : says i ≡ kept z) where
      before : (l < i) × (r < i)
      before = rw a at (earlier i)

      -- the way was found from the old tables, and holds of the new ones
      same_way : (b' : Built) → Changes i b b' → (w : Way) → way_of z p (standing b l) (standing b r) ≡ w → ByWay b' w i p l r
          → Renewed b' i (node_at s i) (says i)
      same_way b' ch w q d =
          rw (a, e, standing-other i b b' ch f.low l before.0, standing-other i b b' ch f.low r before.1, q) d

      by_way_lem : (w : Way) → way_of z p (standing b l) (standing b r) ≡ w → Rebuilding s says (suc i) (by_way w i p l r b)
      unfolding by_way
      by_way_lem take_left q =
          let ch = changes-stands_for i (stand_in b l) b in
          stands (stand_in b l) (omega (arith, f.low l, before))
          (same_way _ ch take_left q (stand_in-stands_for (stand_in b l) ∙ sym (ch.stand_in-other l (omega (arith, before)))))
      by_way_lem take_right q =
          let ch = changes-stands_for i (stand_in b r) b in
          stands (stand_in b r) (omega (arith, f.low r, before))
          (same_way _ ch take_right q (stand_in-stands_for (stand_in b r) ∙ sym (ch.stand_in-other r (omega (arith, before)))))
      by_way_lem step_anew q =
          let b' = new_step i p l r b in
          let ch = changes-new_step i p l r b in
          let n = node-new_step p l r in
          extend b' ch (omega (arith, stand_in-new_step p l r))
          (rw n (omega (arith, f.low l, f.low r, before)))
          (rw (n, a) (steps-same p _ _ l r _ c))
          (same_way b' ch step_anew q (
            stand_in-new_step p l r,
            rw (
              n,
              ch.stand_in-other l (omega (arith, before)),
              ch.stand_in-other r (omega (arith, before)),
              standing-other i b b' ch f.low l before.0,
              standing-other i b b' ch f.low r before.1,
            ),
          ))

    renew-one : (m : Node) (z : Fate) → node_at s i ≡ m → says i ≡ z → Rebuilding s says (suc i) (renew i m z b)
    unfolding renew
    renew-one m lost a e = extend b (changes-none i b) (f.low i) (f.falling i) (f.steps i) (rw e tt)
    renew-one (given line c) (kept z) a e =
        stands i (omega arith) (rw (a, e) (stand_in-stands_for i, unfold stands_for in (f.ahead i (omega arith) ∙ a)))
    renew-one (step p l r c) (kept z) a e = by_way_lem p l r c z a e (way_of z p (standing b l) (standing b r)) refl

  -- after i turns
  pub rebuilding : (i : ℕ) → i ≤ length s → Rebuilding s says i (rise (rebuild_turn s says) i (built s (replicate (length s) 0)))
  unfolding rebuild_turn
  rebuilding i h = rise-by (Rebuilding s says) (rebuild_turn s says) i _
      (λ n b k f. renew-one n b (omega arith) f (node_at s n) (says n) refl refl) rebuilding-start

  pub rebuilt : Rebuilding s says (length s) (rebuild s says)
  unfolding rebuild
  rebuilt = rebuilding (length s) (omega arith)

-- ---- kept nodes

abbrev pub IsKept : (ℕ → Fate) → ℕ → Type 0
IsKept says n = (z : Cut) × (says n ≡ kept z)

-- an edge that is not cut leads to a node that is kept
abbrev pub EdgesKept : (ℕ → Fate) → Cut → ℕ → ℕ → Type 0
EdgesKept says cut_left l r = IsKept says r
EdgesKept says cut_right l r = IsKept says l
EdgesKept says uncut l r = IsKept says l × IsKept says r

abbrev pub ParentsKept : (ℕ → Fate) → Cut → Link → Type 0
ParentsKept says z (leaf line) = Unit {0}
ParentsKept says z (join p l r) = EdgesKept says z l r

abbrev pub Closed : (ℕ → Fate) → List Link → Type 0
Closed says s = (n : ℕ) (z : Cut) → n < length s → says n ≡ kept z → ParentsKept says z (link_at s n)

-- the kept nodes are proper; after an earlier rebuild the others need not be
abbrev pub ProperKept : Edition → List ℕ → List Node → (ℕ → Fate) → Type 0
ProperKept e rules s says = (n : ℕ) (z : Cut) → n < length s → says n ≡ kept z → ProperNode e rules s n (node_at s n)

-- m is the stand-in of a kept node
abbrev pub StandsIn : List Node → (ℕ → Fate) → Built → ℕ → Type 0
StandsIn s says b m = (n : ℕ) × (n < length s) × IsKept says n × (stand_in b n ≡ m)

pub stand_in-below : (s : List Node) (says : ℕ → Fate) (b : Built) → Rebuilding s says (length s) b
    → (m : ℕ) → StandsIn s says b m → m < length s
stand_in-below s says b f m (n, h, k, q) = omega (arith, f.low n)

module _ (e : Edition) (rules : List ℕ) (s : List Node) (says : ℕ → Fate) (proper : ProperKept e rules s says) (closed : Closed says (links s))
    (b : Built) (f : Rebuilding s says (length s) b) where
  abbrev Sound : ℕ → Type 0
  Sound m = ProperNode e rules b.nodes m (node_at b.nodes m) × Parents (StandsIn s says b) (link (node_at b.nodes m))

  abbrev SoundAt : ℕ → Type 0
  SoundAt n = n < length s → IsKept says n → Sound (stand_in b n)

  module _ (n : ℕ) (inside : n < length s) (here : ProperNode e rules s n (node_at s n)) (below : (m : ℕ) → m < n → SoundAt m) where
    takes : (m : ℕ) → m < n → IsKept says m → stand_in b n ≡ stand_in b m → Sound (stand_in b n)
    takes m h k q = rw q (below m h (omega arith) k)

    module _ (p l r : ℕ) (c : Literals) (a : node_at s n ≡ step p l r c) where
      old : ProperNode e rules s n (step p l r c)
      old = rw a at here

      uncut-sound : (u v : Bool) → holds (plus p) (standing b l) ≡ u → holds (minus p) (standing b r) ≡ v → EdgesKept says uncut l r
          → ByWay b (cond u (cond v step_anew take_right) take_left) n p l r → Sound (stand_in b n)
      unfolding standing
      uncut-sound true true hu hv k q =
          let o = old in
          rw (q.0, q.1) (
            (o.0, omega (arith, f.low l, f.low r, o.1, o.2), omega (arith, f.low l, f.low r, o.1, o.2), hu, hv, refl),
            ((l, omega (arith, o.1), k.0, refl), (r, omega (arith, o.2), k.1, refl)),
          )
      uncut-sound true false hu hv k q = takes r old.2 k.1 q
      uncut-sound false v hu hv k q = takes l old.1 k.0 q

      step-sound : (z : Cut) → EdgesKept says z l r → Renewed b n (step p l r c) (kept z) → Sound (stand_in b n)
      unfolding way_of
      step-sound cut_left k q = takes r old.2 k q
      step-sound cut_right k q = takes l old.1 k q
      step-sound uncut k q = uncut-sound (holds (plus p) (standing b l)) (holds (minus p) (standing b r)) refl refl k q

    node-sound : (m : Node) (z : Cut) → node_at s n ≡ m → ParentsKept says z (link m) → Renewed b n m (kept z) → Sound (stand_in b n)
    node-sound (given line c) z a k q =
        let d : ProperNode e rules s n (given line c) = rw a at here in
        rw (q.0, q.1) (d, tt)
    node-sound (step p l r c) z a k q = step-sound p l r c a z k q

    sound-next : (z : Cut) → says n ≡ kept z → Sound (stand_in b n)
    sound-next z q = node-sound (node_at s n) z refl (rw (link-at s n) at (closed n z (rw (length-map s link) inside) q)) (rw q at (f.done n inside))

  -- every stand-in of a kept node is proper among the rebuilt nodes, and its parents are such stand-ins again
  pub stand_in-sound : (m : ℕ) → StandsIn s says b m
      → ProperNode e rules b.nodes m (node_at b.nodes m) × Parents (StandsIn s says b) (link (node_at b.nodes m))
  stand_in-sound m (n, h, k, q) = rw (← q) (by-rising SoundAt (λ i g h k. sound-next i h (proper i k.0 h k.1) g k.0 k.1) n h k)
