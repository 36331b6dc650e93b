-- 3. Rebuild, "rising numbers, reached nodes only. A given node stands for itself. A cut step is replaced by its kept parent's stand-in."
use Rattle.std.specs.Prelude.{ℕ, cond, List, length, get_or, set, replicate}
use Rattle.base.specs.Folds.{rise}
use Rattle.clause.specs.Clauses.{Literals, plus, minus, holds, resolvent}
use Rattle.sheet.specs.Records.{Node, given, step, clause, node_at}
use Rattle.press_spec.specs.Recycle.{Cut, cut_left, cut_right, uncut, Fate, lost, kept}

-- the nodes as they are now, and of each node the number of its stand-in
pub record Built : Type 0 where
  pub nodes : List Node
  pub stand_ins : List ℕ

abbrev pub built : List Node → List ℕ → Built
built s t = record { nodes = s; stand_ins = t }

unfoldable pub stand_in : Built → ℕ → ℕ
stand_in b n = get_or b.stand_ins n 0

unfoldable pub standing : Built → ℕ → Literals
standing b n = clause (node_at b.nodes (stand_in b n))

pub data Way : Type 0 where
  take_left take_right step_anew : Way

-- "Left stand-in lacks +p, take it; else right lacks -p, take that; else a new step."
unfoldable pub way_of : Cut → ℕ → Literals → Literals → Way
way_of cut_left p l r = take_right
way_of cut_right p l r = take_left
way_of uncut p l r = cond (holds (plus p) l) (cond (holds (minus p) r) step_anew take_right) take_left

unfoldable pub stands_for : ℕ → ℕ → Built → Built
stands_for n m b = built b.nodes (set b.stand_ins n m)

-- "A new step, which keeps the old one's number, pivot and sides."
abbrev pub step_made : ℕ → ℕ → ℕ → Built → Node
step_made p l r b = step p (stand_in b l) (stand_in b r) (resolvent p (standing b l) (standing b r))

unfoldable pub new_step : ℕ → ℕ → ℕ → ℕ → Built → Built
new_step n p l r b = built (set b.nodes n (step_made p l r b)) (set b.stand_ins n n)

unfoldable pub by_way : Way → ℕ → ℕ → ℕ → ℕ → Built → Built
by_way take_left n p l r b = stands_for n (stand_in b l) b
by_way take_right n p l r b = stands_for n (stand_in b r) b
by_way step_anew n p l r b = new_step n p l r b

unfoldable pub renew : ℕ → Node → Fate → Built → Built
renew n m lost b = b
renew n (given line c) (kept z) b = stands_for n n b
renew n (step p l r c) (kept z) b = by_way (way_of z p (standing b l) (standing b r)) n p l r b

unfoldable pub rebuild_turn : List Node → (ℕ → Fate) → ℕ → Built → Built
rebuild_turn s says n b = renew n (node_at s n) (says n) b

unfoldable pub rebuild : List Node → (ℕ → Fate) → Built
rebuild s says = rise (rebuild_turn s says) (length s) (built s (replicate (length s) 0))

-- a proof, and the number of its conclusion
pub record Ended : Type 0 where
  pub nodes : List Node
  pub last : ℕ

abbrev pub ended : List Node → ℕ → Ended
ended s n = record { nodes = s; last = n }

-- the rebuilt nodes, with n's stand-in for a conclusion
unfoldable pub ended_at : Built → ℕ → Ended
ended_at b n = ended b.nodes (stand_in b n)
