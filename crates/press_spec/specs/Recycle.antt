-- 2. Recycle pivots (000, algorithm 3): "From the sink down by number, each reached node has a set S. The sink is reached, and so is each
-- parent on an uncut edge of a reached step."
use Rattle.std.specs.Prelude.{ℕ, suc, cond, ◌≡◌, ◌⊎◌, List, ltb, length, get_or, set, replicate}
use Rattle.base.specs.Folds.{fall}
use Rattle.clause.specs.Clauses.{Literals, none, plus, minus, holds, adding, common}
use Rattle.press_spec.specs.declared.Recycling.{Recycling}
use Rattle.press_spec.specs.declared.Recycling.TheVariants.{Reset, Intersection}
use Rattle.press_spec.specs.Links.{Link, leaf, join, link_at}

pub data Reach : Type 0 where
  unreached : Reach
  reached : Literals → Reach

-- How a set is fitted to the node that it is handed to, which was unreached or reached before. `reset` has no use for what the node had before,
-- `intersect` none for which node it is.
abbrev pub Fit : Type 0
Fit = ℕ → Reach → Literals → Literals

-- "A node with two or more uses has S empty. Otherwise S comes from its only use."
unfoldable pub reset : (ℕ → ℕ) → Fit
reset count n before S = cond (ltb (count n) 2) S none

-- "A node's S is the intersection over all its uncut edges from reached steps of what each would hand it" (003, RecyclePivotsWithIntersection).
unfoldable pub intersect : Fit
intersect n unreached S = S
intersect n (reached R) S = common R S

-- "Keep the old pass selectable."
unfoldable pub fit_of : Recycling → (ℕ → ℕ) → Fit
fit_of Reset count = reset count
fit_of Intersection count = intersect

unfoldable pub hand : Fit → ℕ → Literals → List Reach → List Reach
hand fit n S table = set table n (reached (fit n (get_or table n unreached) S))

pub data Cut : Type 0 where
  cut_left cut_right uncut : Cut

-- "If -p is in S, the left edge is cut ..; else if +p is in S, the right edge is cut .."
unfoldable pub cut_of : ℕ → Literals → Cut
cut_of p S = cond (holds (minus p) S) cut_left (cond (holds (plus p) S) cut_right uncut)

-- "The left edge is cut and the right parent gets S; .. the right edge is cut and the left parent gets S; else left gets S with +p, right gets S
-- with -p."
unfoldable pub hand_on : Fit → Cut → ℕ → ℕ → ℕ → Literals → List Reach → List Reach
hand_on fit cut_left p l r S table = hand fit r S table
hand_on fit cut_right p l r S table = hand fit l S table
hand_on fit uncut p l r S table = hand fit r (adding (minus p) S) (hand fit l (adding (plus p) S) table)

unfoldable pub visit : Fit → Link → Reach → List Reach → List Reach
visit fit n unreached table = table
visit fit (leaf line) (reached S) table = table
visit fit (join p l r) (reached S) table = hand_on fit (cut_of p S) p l r S table

unfoldable pub recycle_turn : Fit → List Link → ℕ → List Reach → List Reach
recycle_turn fit s n table = visit fit (link_at s n) (get_or table n unreached) table

-- from the sink, whose set is S
unfoldable pub recycle : Fit → Literals → List Link → ℕ → List Reach
recycle fit S s from = fall (recycle_turn fit s) (suc from) (set (replicate (length s) unreached) from (reached S))

-- What a pass says of each node: it is lost, or kept with an edge cut or none.
pub data Fate : Type 0 where
  lost : Fate
  kept : Cut → Fate

unfoldable pub fate : Link → Reach → Fate
fate n unreached = lost
fate (leaf line) (reached S) = kept uncut
fate (join p l r) (reached S) = kept (cut_of p S)

unfoldable pub fates : List Link → List Reach → ℕ → Fate
fates s table n = fate (link_at s n) (get_or table n unreached)

-- ---- "What each would hand it", said of the finished table.

-- a step on p whose set is S hands X to its parent m, on an edge that is not cut
abbrev pub EdgeHands : Cut → ℕ → ℕ → ℕ → Literals → ℕ → Literals → Type 0
EdgeHands cut_left p l r S m X = (m ≡ r) × (X ≡ S)
EdgeHands cut_right p l r S m X = (m ≡ l) × (X ≡ S)
EdgeHands uncut p l r S m X = ((m ≡ l) × (X ≡ adding (plus p) S)) ⊎ ((m ≡ r) × (X ≡ adding (minus p) S))

abbrev pub LinkHands : Link → Reach → ℕ → Literals → Type 0
LinkHands n unreached m X = ⊥
LinkHands (leaf line) (reached S) m X = ⊥
LinkHands (join p l r) (reached S) m X = EdgeHands (cut_of p S) p l r S m X

-- node n, a reached step, hands X to node m
abbrev pub Hands : List Link → List Reach → ℕ → ℕ → Literals → Type 0
Hands s table n m X = LinkHands (link_at s n) (get_or table n unreached) m X
