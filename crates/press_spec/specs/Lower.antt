-- Lowering (001), after step 4: nodes with a literal each lose their uses, the rest is rebuilt, and the lowered ones come back at the conclusion.
use Rattle.std.specs.Prelude.{ℕ, zero, suc, Bool, true, false, cond, List, [], ◌∷◌, ◌++◌, eqb, length, get_or, set, replicate}
use Rattle.base.specs.Folds.{fall}
use Rattle.clause.specs.Clauses.{Literal, plus, minus, Literals, none, holds, adding, alike, resolvent}
use Rattle.sheet.specs.Records.{Node, step, clause, node_at}
use Rattle.press_spec.specs.Links.{Link, leaf, join, link_at}
use Rattle.press_spec.specs.Recycle.{Cut, cut_left, cut_right, uncut, Fate, lost, kept}
use Rattle.press_spec.specs.Rebuild.{Built, stand_in, Ended, ended, ended_at}

unfoldable pub opposite : Literal → Literal
opposite (plus v) = minus v
opposite (minus v) = plus v

-- ---- the lowered ones

-- whether a node is lowered, and with which literal
pub data Lowered : Type 0 where
  staying : Lowered
  lowered : Literal → Lowered

-- "A single literal": what a clause of one literal is lowered with, of the variables below w
unfoldable pub single : ℕ → Literals → Lowered
single zero c = staying
single (suc v) c =
    let smaller = single v c in
    cond (alike c (adding (plus v) none)) (lowered (plus v)) (cond (alike c (adding (minus v) none)) (lowered (minus v)) smaller)

-- what is lowered so far, by node, and the opposites of its literals
pub record LoweredOnes : Type 0 where
  pub low : List Lowered
  pub owed : Literals

abbrev pub lowered_ones : List Lowered → Literals → LoweredOnes
lowered_ones t D = record { low = t; owed = D }

-- of n nodes
unfoldable pub none_lowered : ℕ → LoweredOnes
none_lowered n = lowered_ones (replicate n staying) none

unfoldable pub lower : ℕ → Literal → LoweredOnes → LoweredOnes
lower n l w = lowered_ones (set w.low n (lowered l)) (adding (opposite l) w.owed)

unfoldable pub low_at : List Lowered → ℕ → Lowered
low_at t n = get_or t n staying

-- ---- "Uses of collected nodes are cut; the rebuild rule of 01 follows, over all nodes."

unfoldable pub is_lowered : Lowered → Bool
is_lowered staying = false
is_lowered (lowered l) = true

unfoldable pub cut_by : (ℕ → Lowered) → Link → Cut
cut_by low (leaf line) = uncut
cut_by low (join p l r) = cond (is_lowered (low l)) cut_left (cond (is_lowered (low r)) cut_right uncut)

-- all nodes that step 4 left: those that the trim marked
unfoldable pub fate_by : List ℕ → (ℕ → Lowered) → Link → ℕ → Fate
fate_by marks low m n = cond (eqb (get_or marks n 0) 0) lost (kept (cut_by low m))

unfoldable pub fates_by : List ℕ → (ℕ → Lowered) → List Link → ℕ → Fate
fates_by marks low s n = fate_by marks low (link_at s n) n

-- ---- the return

pub data Return : Type 0 where
  conclusion_stays unit_concludes resolves : Return

-- "If the conclusion lacks the opposite of l it stays; else if the rebuilt unit lacks l, that unit becomes the conclusion; else resolve the two .."
unfoldable pub return_of : Literal → Literals → Literals → Return
return_of l unit conclusion = cond (holds (opposite l) conclusion) (cond (holds l unit) resolves unit_concludes) conclusion_stays

-- ".. on l's variable, the unit on the left if l is positive, else on the right .."
unfoldable pub resolving : Literal → List Node → ℕ → ℕ → Node
resolving (plus p) s u n = step p u n (resolvent p (clause (node_at s u)) (clause (node_at s n)))
resolving (minus p) s u n = step p n u (resolvent p (clause (node_at s n)) (clause (node_at s u)))

-- ".. the new step numbered above all so far."
unfoldable pub by_return : Return → Literal → ℕ → Ended → Ended
by_return conclusion_stays l u t = t
by_return unit_concludes l u t = ended t.nodes u
by_return resolves l u t = ended (t.nodes ++ (resolving l t.nodes u t.last ∷ [])) (length t.nodes)

unfoldable pub come_back : Lowered → ℕ → Ended → Ended
come_back staying u t = t
come_back (lowered l) u t = by_return (return_of l (clause (node_at t.nodes u)) (clause (node_at t.nodes t.last))) l u t

unfoldable pub return_turn : (ℕ → Lowered) → Built → ℕ → Ended → Ended
return_turn low b n t = come_back (low n) (stand_in b n) t

-- From the conclusion down: what is collected on the way down comes back "in order of collection", and what is lowered on the way up comes back
-- "last lowered first".
unfoldable pub come_back_all : (ℕ → Lowered) → Built → ℕ → Ended
come_back_all low b from = fall (return_turn low b) (suc from) (ended_at b from)

-- what stands on the way: the nodes from n on are back
pub data Back (low : ℕ → Lowered) (b : Built) (from : ℕ) : ℕ → Ended → Type 0 where
  none_back : Back low b from (suc from) (ended_at b from)
  one_back : {n : ℕ} {t : Ended} → Back low b from (suc n) t → Back low b from n (return_turn low b n t)
