-- What each pass makes of a proper sheet. A statement that names no edition and no choice holds for all of them.
use Rattle.press_spec.specs.Plans.{Lowering}
use Rattle.std.specs.Prelude.{ℕ, suc, ◌<◌, ◌≤◌, ◌≡◌, true, false, ◌⊎◌, List, ◌∷◌, ◌++◌, length, get_or, None}
use Rattle.clause.specs.Clauses.{Literal, Literals, none, holds}
use Rattle.sheet.specs.declared.edition.Edition.{Edition}
use Rattle.sheet.specs.Editions.{variables, press_records}
use Rattle.sheet.specs.Records.{step, Record, clause, node_at}
use Rattle.sheet.specs.Counts.{nodes_of, steps_of}
use Rattle.sheet.specs.Proper.{conclusion_of, Proper}
use Rattle.press_spec.specs.declared.Recycling.{Recycling}
use Rattle.press_spec.specs.declared.Recycling.TheVariants.{Intersection}
use Rattle.press_spec.specs.declared.Lowerable.{Lowerable}
use Rattle.press_spec.specs.declared.Order.{Order}
use Rattle.press_spec.specs.declared.Plan.{Plan}
use Rattle.press_spec.specs.Plans as Plans
use Rattle.press_spec.specs.Links.{links, sink}
use Rattle.press_spec.specs.Trim.{trim, Reaches}
use Rattle.press_spec.specs.Recycle.{Reach, unreached, reached, cut_left, cut_of, Hands}
use Rattle.press_spec.specs.Rebuild.{stand_in, standing, Ended}
use Rattle.press_spec.specs.Lower.{lowered, low_at, unit_concludes, return_of, Back}
use Rattle.press_spec.specs.Lowerings.{lows_of, built_of}
use Rattle.press_spec.specs.Order.{placed, InOrder}
use Rattle.press_spec.specs.TopDown.{top_down, Taken}
use Rattle.press_spec.specs.Better.{order_by}
use Rattle.press_spec.specs.Press.{conclusion, reaches, recycled, shortened, chosen_fit, concluded, pressed_from, pressed}

-- "Keep what the sink reaches through parents": of every proper sheet the trim has 1 for each node that the sink reaches, and 0 for each other
abbrev pub TrimKeeps : Type 0
TrimKeeps =
    (e : Edition) (sheet rules : List ℕ) (rs : List Record) (n : ℕ)
    → Proper e (press_records e) false rules sheet rs
    → let s = nodes_of rs in
    let kept = get_or (trim (links s) (sink s)) n 0 in
    (Reaches (links s) (sink s) n → kept ≡ 1) × (kept ≡ 1 → Reaches (links s) (sink s) n) × ((Reaches (links s) (sink s) n → ⊥) → kept ≡ 0)

-- "Sheets with an empty conclusion press as before": as they did when the sink's set was empty, whatever the sheet
abbrev pub EmptyAsBefore : Type 0
EmptyAsBefore = (plan : Plan) (rs : List Record) → conclusion_of rs ≡ none → pressed plan (nodes_of rs) ≡ pressed_from plan none (nodes_of rs)

-- ---- Recycling. What it finds of each node is whether it is reached, and its set S.

abbrev pub found : Plan → List Record → List Reach
found plan rs = reaches (chosen_fit plan (nodes_of rs)) (conclusion (nodes_of rs)) (nodes_of rs)

-- the clause of what stands for node n after the rebuild
abbrev pub new_clause : Plan → List Record → ℕ → Literals
new_clause plan rs n = standing (recycled (chosen_fit plan (nodes_of rs)) (conclusion (nodes_of rs)) (nodes_of rs)) n

-- "Both are proved from one fact: the new clause has no literal outside the old one and S."
abbrev pub NothingNew : Type 0
NothingNew =
    (plan : Plan) (sheet rules : List ℕ) (rs : List Record) (n : ℕ) (S : Literals) (x : Literal)
    → Proper plan.edition (press_records plan.edition) false rules sheet rs
    → n < length (nodes_of rs)
    → get_or (found plan rs) n unreached ≡ reached S
    → holds x (new_clause plan rs n) ≡ true
    → (holds x (clause (node_at (nodes_of rs) n)) ≡ true) ⊎ (holds x S ≡ true)

-- "A node's S is the intersection over all its uncut edges from reached steps of what each would hand it": a literal is in S exactly when it is in
-- every set that a reached step hands the node on an uncut edge. The sink is named by no step, and its S is its clause.
abbrev pub AllAllow : Type 0
AllAllow =
    (plan : Plan) (sheet rules : List ℕ) (rs : List Record) (m : ℕ) (S : Literals) (x : Literal)
    → Proper plan.edition (press_records plan.edition) false rules sheet rs
    → plan.recycling ≡ Intersection
    → (m ≡ sink (nodes_of rs) → ⊥)
    → get_or (found plan rs) m unreached ≡ reached S
    → let allow = (n : ℕ) (X : Literals) → Hands (links (nodes_of rs)) (found plan rs) n m X → holds x X ≡ true in
    (holds x S ≡ true → allow) × (allow → holds x S ≡ true)

-- "A step naming a node on both sides contributes both edges." Since the sink's S is its clause, a reached node's S has its whole clause; so such a
-- step is always cut when it is reached, on the left, and no sheet shows how many edges it would contribute.
abbrev pub NamedTwice : Type 0
NamedTwice =
    (plan : Plan) (sheet rules : List ℕ) (rs : List Record) (n p m : ℕ) (c S : Literals)
    → Proper plan.edition (press_records plan.edition) false rules sheet rs
    → plan.recycling ≡ Intersection
    → n < length (nodes_of rs)
    → node_at (nodes_of rs) n ≡ step p m m c
    → get_or (found plan rs) n unreached ≡ reached S
    → cut_of p S ≡ cut_left

-- ---- Lowering.

-- No choice of lowering leaves more resolution steps than none does.
abbrev pub NoMoreSteps : Type 0
NoMoreSteps =
    (e : Edition) (how : Recycling) (low : Lowering) (sheet rules : List ℕ) (rs : List Record)
    → Proper e (press_records e) false rules sheet rs
    → steps_of (pressed (Plans.plan e how low) (nodes_of rs)) ≤ steps_of (pressed (Plans.plan e how None) (nodes_of rs))

-- what step 4 leaves
abbrev pub four : Plan → List Record → Ended
four plan rs = shortened (chosen_fit plan (nodes_of rs)) (conclusion (nodes_of rs)) (nodes_of rs)

-- "Else if the rebuilt unit lacks l, that unit becomes the conclusion": whichever are back already, this never comes up, since no rebuilt unit lacks its
-- literal.
abbrev pub NoUnitConcludes : Type 0
NoUnitConcludes =
    (plan : Plan) (which : Lowerable) (sheet rules : List ℕ) (rs : List Record) (n : ℕ) (l : Literal) (t : Ended)
    → Proper plan.edition (press_records plan.edition) false rules sheet rs
    → let v = variables plan.edition in
    let low = low_at (lows_of which v (four plan rs)) in
    let b = built_of which v (four plan rs) in
    Back low b (four plan rs).last (suc n) t
    → low n ≡ lowered l
    → return_of l (clause (node_at t.nodes (stand_in b n))) (clause (node_at t.nodes t.last)) ≡ unit_concludes
    → ⊥

-- ---- The two orders.

-- what step 5 orders, from its conclusion
abbrev pub ordered : Plan → List Record → Ended
ordered plan rs = concluded plan (conclusion (nodes_of rs)) (nodes_of rs)

-- "The premises are placed first, then the node itself, each node once": in both orders, which have what the conclusion reaches and nothing else
abbrev pub BothInOrder : Type 0
BothInOrder =
    (plan : Plan) (which : Order) (sheet rules : List ℕ) (rs : List Record)
    → Proper plan.edition (press_records plan.edition) false rules sheet rs
    → let t = ordered plan rs in
    let reached = Reaches (links t.nodes) t.last in
    let order = order_by which t.nodes t.last in
    InOrder (links t.nodes) reached order × ((n : ℕ) → reached n → placed n order ≡ true)

-- "Of the unplaced nodes whose parents are all placed, take the one after which most nodes can be dropped at once; ties go to the smallest number": so
-- was every node of the top-down order taken, when those that stand before it were placed
abbrev pub TakesMost : Type 0
TakesMost =
    (plan : Plan) (sheet rules : List ℕ) (rs : List Record) (newer before : List ℕ) (n : ℕ)
    → Proper plan.edition (press_records plan.edition) false rules sheet rs
    → let t = ordered plan rs in
    top_down (links t.nodes) t.last ≡ newer ++ (n ∷ before)
    → Taken (links t.nodes) (trim (links t.nodes) t.last) before n
