use Prim.Native.Nat.{ℕ, ◌<◌}
use mathlib.Core.Path.{refl, ap, ◌∙◌}
use native.Mathlib.Omega.{arith}
use lib.ListN.{length}
use Rattle.std.proofs.Common.{None}
use Rattle.clause.specs.Denote.{literals_of}
use Rattle.press_nodes.specs.Tables.{clauses_in, changed}
use Rattle.press_nodes.specs.Numbers.{numbers_in}
use Rattle.press_nodes.proofs.Numbers.{none-zero, numbers-at}
use Rattle.press_order.proofs.Placing.{entry-is}
use Rattle.press_lay.proofs.Laying.{entry-inside, place-is, fits, turn-none, clause-turn}
use Rattle.press_lay.proofs.clauses.lay_clauses.Goals as goal
use Rattle.press_lay.proofs.clauses.lay_clauses.Goals.{in-Some, in_default}

pub put_clause-requires : goal.put_clause-requires
put_clause-requires c = let p = c.requires.by_index in
    let table = c.args.numbers.now in
    let i : c.loop-i.i < length table = omega arith in
    omega (arith, entry-is table _ _ refl i _ c.in-Some.is, fits (numbers_in table) p.0 p.1 c.loop-i.i, p.2, c.loop-i.auto.laid)

pub loop-i-preserved : goal.loop-i-preserved
loop-i-preserved c =
    let p = c.requires.by_index in
    let table = c.args.numbers.now in
    let numbers = numbers_in table in
    let t = c.args.clauses.now in
    let l = c.loop-i in
    let i : l.i < length table = omega arith in
    elim c.match-place.branch [
      | in-Some w ↦
          let number = entry-is table _ _ refl i _ w.in-Some.is in
          rw w.laid-is
          (clause-turn numbers p.0 p.1 l.i (omega (arith, number)) t l.laid _ l.invariant _ w.clause_at-clause.ensures
          (w.put_clause.ensures ∙ ap (λ (k : ℕ). changed k (literals_of w.clause_at-clause.result) (clauses_in l.laid)) (place-is table _ _ refl i _ w.in-Some.is)))
      | in_default w ↦
          rw w.laid-is (turn-none numbers (clauses_in t) (clauses_in l.laid) l.i l.invariant (omega (arith, none-zero _ w.in_default.is, numbers-at table _ _ None refl i)))
    ]

pub returns : goal.returns
returns c = λ n p. c.loop-i.invariant n (omega (arith, entry-inside c.args.numbers.now n p)) p
