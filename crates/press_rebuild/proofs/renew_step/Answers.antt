use Prim.Native.Nat.{ℕ, ◌<◌}
use mathlib.Core.Path.{◌≡◌, ◌∙◌}
use mathlib.Core.List.{List}
use native.Mathlib.Omega.{arith}
use lib.ListN.{length, get_or}
use Rattle.clause.specs.Denote.{literals_of}
use Rattle.clause.specs.declared.Clause.{Clause}
use Rattle.press_nodes.specs.Tables.{nodes_in, clauses_in}
use Rattle.press_nodes.specs.Fates.{cut_in}
use Rattle.std.specs.Prelude.{Option}
use Rattle.press_nodes.specs.declared.fate.Side.{Side}
use Rattle.press_nodes.specs.declared.link.Link.{Link}
use Rattle.press_nodes.proofs.Tables.{clauses-at}
use Rattle.press_spec.specs.Rebuild.{way_of}
use Rattle.press_rebuild.specs.Ways.{way_in, StandIns}
use Rattle.press_rebuild.specs.declared.Way.{Way}
use Rattle.press_rebuild.proofs.Rebuilds.{clause-standing, Ways, takes-left, takes-right, makes-step}
use Rattle.press_rebuild.proofs.renew_step.Goals as goal

-- what is known once the way is chosen
ways : (h : List Link) (c : List Clause) (z : Option Side) (C D : Clause) {t : List ℕ} {p l r x y : ℕ} {w : Way} → StandIns (length h) t → l < length h → r < length h
    → x ≡ get_or t l 0 → y ≡ get_or t r 0 → literals_of C ≡ clauses_in c x → literals_of D ≡ clauses_in c y
    → way_in w ≡ way_of (cut_in z) p (literals_of C) (literals_of D)
    → Ways (nodes_in h c) t p l r (cut_in z) x y (literals_of C) (literals_of D) w
ways h c z C D {t = t} {l = l} {r = r} s il ir e f g k told = record {
  left = e;
  right = f;
  left-clause = clause-standing _ _ _ _ _ e (g ∙ clauses-at _ _ _ (omega (arith, s.low l)));
  right-clause = clause-standing _ _ _ _ _ f (k ∙ clauses-at _ _ _ (omega (arith, s.low r)));
  told = told;
}

pub returns-in-TakeLeft : goal.returns-in-TakeLeft
returns-in-TakeLeft c =
    takes-left
    (ways c.args.links.now c.args.clauses.now c.args.cut _ _ c.requires.clauses_len.1 c.requires.n_in_bounds.1 c.requires.n_in_bounds.2 c.stand_in-left.ensures c.stand_in-right.ensures c.clause_at-left_clause.ensures c.clause_at-right_clause.ensures c.way_of.ensures)
    _ c.in-TakeLeft.is c.stands_for.ensures

pub returns-in-TakeRight : goal.returns-in-TakeRight
returns-in-TakeRight c =
    takes-right
    (ways c.args.links.now c.args.clauses.now c.args.cut _ _ c.requires.clauses_len.1 c.requires.n_in_bounds.1 c.requires.n_in_bounds.2 c.stand_in-left.ensures c.stand_in-right.ensures c.clause_at-left_clause.ensures c.clause_at-right_clause.ensures c.way_of.ensures)
    _ c.in-TakeRight.is c.stands_for-in-TakeRight.ensures

pub returns-in-StepAnew : goal.returns-in-StepAnew
returns-in-StepAnew c =
    makes-step
    (ways c.args.links.now c.args.clauses.now c.args.cut _ _ c.requires.clauses_len.1 c.requires.n_in_bounds.1 c.requires.n_in_bounds.2 c.stand_in-left.ensures c.stand_in-right.ensures c.clause_at-left_clause.ensures c.clause_at-right_clause.ensures c.way_of.ensures)
    _ c.in-StepAnew.is c.resolve-result.ensures c.put_step.ensures c.stands_for-in-StepAnew.ensures
