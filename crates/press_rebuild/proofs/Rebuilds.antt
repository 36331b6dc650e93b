-- One turn of the rebuild in the tables, by what the code finds at the node.
use Prim.Native.Nat.{ℕ}
use mathlib.Core.Path.{◌≡◌, sym}
use mathlib.Core.List.{List}
use lib.ListN.{get_or, set}
use Rattle.clause.specs.Clauses.{Literals, none, resolvent}
use Rattle.sheet.specs.Records.{Node, given, step, clause, node_at}
use Rattle.press_rebuild.specs.declared.Way.{Way as CodeWay}
use Rattle.press_rebuild.specs.declared.Way.TheVariants.{TakeLeft, TakeRight, StepAnew}
use Rattle.press_spec.specs.Recycle.{Cut, kept}
use Rattle.press_spec.specs.Rebuild.{Built, built, stand_in, standing, way_of, stands_for, new_step, by_way, renew}
use Rattle.press_rebuild.specs.Ways.{way_in}

-- ---- the clause of a node's stand-in

pub clause-standing : (s : List Node) (t : List ℕ) (n m : ℕ) (c : Literals) → m ≡ get_or t n 0 → c ≡ clause (node_at s m) → c ≡ standing (built s t) n
unfolding standing stand_in
clause-standing s t n m c q e = rw (← q) e

-- ---- a step that is kept

-- the stand-ins x and y of the parents l and r, their clauses, and the way that the code goes
pub record Ways (s : List Node) (t : List ℕ) (p l r : ℕ) (z : Cut) (x y : ℕ) (C D : Literals) (w : CodeWay) : Type 0 where
  pub left : x ≡ get_or t l 0
  pub right : y ≡ get_or t r 0
  pub left-clause : C ≡ standing (built s t) l
  pub right-clause : D ≡ standing (built s t) r
  pub told : way_in w ≡ way_of z p C D

module _ {s : List Node} {t : List ℕ} {p l r : ℕ} {z : Cut} {x y : ℕ} {C D : Literals} {w : CodeWay} (d : Ways s t p l r z x y C D w) (n : ℕ) where
  abbrev b : Built
  b = built s t

  abbrev renewed : Built
  renewed = renew n (step p l r none) (kept z) b

  the-way : way_of z p (standing b l) (standing b r) ≡ way_in w
  the-way = rw (← d.left-clause, ← d.right-clause) (sym d.told)

  pub takes-left : {t' : List ℕ} → w ≡ TakeLeft → t' ≡ set t n x → built s t' ≡ renewed
  unfolding renew way_in by_way stands_for stand_in
  takes-left q h = rw (the-way, q, h, d.left)

  pub takes-right : {t' : List ℕ} → w ≡ TakeRight → t' ≡ set t n y → built s t' ≡ renewed
  unfolding renew way_in by_way stands_for stand_in
  takes-right q h = rw (the-way, q, h, d.right)

  step-made : {s' : List Node} {t' : List ℕ} {R : Literals} → R ≡ resolvent p C D → s' ≡ set s n (step p x y R) → t' ≡ set t n n → built s' t' ≡ new_step n p l r b
  unfolding new_step stand_in
  step-made e g h = rw (g, h, e, d.left-clause, d.right-clause, d.left, d.right)

  pub makes-step : {s' : List Node} {t' : List ℕ} {R : Literals} → w ≡ StepAnew → R ≡ resolvent p C D → s' ≡ set s n (step p x y R) → t' ≡ set t n n
      → built s' t' ≡ renewed
  unfolding renew way_in by_way
  makes-step q e g h = rw (the-way, q) (step-made e g h)

-- ---- a node

module _ (s : List Node) (t : List ℕ) (n : ℕ) (z : Cut) where
  pub node-stands : (line : ℕ) (c : Literals) (t' : List ℕ) → node_at s n ≡ given line c → t' ≡ set t n n
      → built s t' ≡ renew n (node_at s n) (kept z) (built s t)
  unfolding renew stands_for
  node-stands line c t' e h = rw (e, h)

  pub node-renews : (p l r : ℕ) (c : Literals) (next : Built) → node_at s n ≡ step p l r c
      → next ≡ renew n (step p l r none) (kept z) (built s t) → next ≡ renew n (node_at s n) (kept z) (built s t)
  unfolding renew
  node-renews p l r c next e h = rw e h
