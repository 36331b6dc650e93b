-- The walk of the return: it only adds nodes, so where all have room at the end there is room at each turn.
use Prim.Native.Nat.{ℕ, suc, ◌-◌, ◌≤◌, ◌<◌}
use mathlib.Core.List.{List, [], ◌∷◌}
use mathlib.Core.Path.{◌≡◌, sym, ap, ◌∙◌}
use native.Mathlib.Omega.{arith}
use lib.ListN.{length, get_or, length-append}
use Rattle.base.specs.Folds.{fall}
use Rattle.base.proofs.Folds.{fall-more, fall-keeps}
use Rattle.clause.specs.Clauses.{Literal}
use Rattle.sheet.specs.Records.{Node, clause, node_at}
use Rattle.press_spec.specs.Rebuild.{Built, built, stand_in, Ended, ended, ended_at}
use Rattle.press_spec.specs.Lower.{Lowered, staying, lowered, Return, conclusion_stays, unit_concludes, resolves, return_of, resolving, by_return, come_back, return_turn, come_back_all}

by-grows : (how : Return) (x : Literal) (u : ℕ) (t : Ended) → length t.nodes ≤ length (by_return how x u t).nodes
unfolding by_return
by-grows conclusion_stays x u t = omega arith
by-grows unit_concludes x u t = omega arith
by-grows resolves x u t = omega (arith, length-append t.nodes (resolving x t.nodes u t.last ∷ []))

back-grows : (m : Lowered) (u : ℕ) (t : Ended) → length t.nodes ≤ length (come_back m u t).nodes
unfolding come_back
back-grows staying u t = omega arith
back-grows (lowered x) u t = by-grows (return_of x (clause (node_at t.nodes u)) (clause (node_at t.nodes t.last))) x u t

module _ (low : ℕ → Lowered) (b : Built) where
  walk-grows : (i : ℕ) (t : Ended) → length t.nodes ≤ length (fall (return_turn low b) i t).nodes
  unfolding return_turn
  walk-grows i t =
      fall-keeps (λ u. length t.nodes ≤ length u.nodes) (return_turn low b)
      (λ n u h. omega (arith, back-grows (low n) (stand_in b n) u)) i t (omega arith)

  pub room-left : (i m : ℕ) (t z : Ended) → 0 < i → fall (return_turn low b) i t ≡ z → length z.nodes ≤ m
      → length (come_back (low (i - 1)) (stand_in b (i - 1)) t).nodes ≤ m
  unfolding return_turn
  room-left i m t z some e h =
      let more = walk-grows (i - 1) (come_back (low (i - 1)) (stand_in b (i - 1)) t) in
      omega (arith, more, ap (λ (y : Ended). length y.nodes) (sym (fall-more (return_turn low b) i t some) ∙ e))

-- the walk's start is what is said of the whole
pub walk-whole : (low : ℕ → Lowered) (s : List Node) (stand_ins : List ℕ) (from last : ℕ) → last ≡ get_or stand_ins from 0
    → fall (return_turn low (built s stand_ins)) (suc from) (ended s last) ≡ come_back_all low (built s stand_ins) from
unfolding come_back_all ended_at stand_in
walk-whole low s stand_ins from last e = rw e
