use native.Mathlib.Omega.{arith}
use Rattle.press_univalents.proofs.Rises.{rise-start, rising-low, rising-sound, rise-again, rise-low, rise-built}
use borrow.Author.Rules.{rules}
use Rattle.press_univalents.proofs.rise.rise.Goals as goal

pub loop-i-init : goal.loop-i-init
loop-i-init c = (omega arith, omega arith, omega arith, omega (arith, c.fill.ensures.len, c.requires.kept_len), omega (arith, c.fill-2.ensures.len, c.requires.kept_len), rise-start _ _ c.requires.nodes _ _ c.args.low.now _ c.args.stand_ins.now _ _ c.requires.kept_len.2 c.requires.kept_len.3 (c.fill.ensures.after (λ y q. search rules)) (c.fill-2.ensures.after (λ y q. q)) c.nothing-owed.ensures)

pub loop-i-preserved : goal.loop-i-preserved
loop-i-preserved c = let v = c.loop-i.invariant in
    (omega arith, omega (arith, v.1), omega (arith, v.2), omega (arith, v.3), omega (arith, v.4), rise-again _ _ c.requires.nodes _ _ _ _ _ _ v.5 _ (omega (arith, v.0)) c.rise_turn-owed.ensures)

pub rise_turn-owed-requires-clause-clauses_len : goal.rise_turn-owed-requires-clause-clauses_len
rise_turn-owed-requires-clause-clauses_len c =
    let v = c.loop-i.invariant in
    (omega (arith, v.1, v.2, c.requires.nodes.size), rising-low _ _ c.requires.nodes _ _ _ _ _ _ v.5 _ v.0 v.1)

pub rise_turn-owed-requires-clause-n_in_bounds : goal.rise_turn-owed-requires-clause-n_in_bounds
rise_turn-owed-requires-clause-n_in_bounds c =
    let v = c.loop-i.invariant in (
      omega (arith, v.1),
      rising-sound _ _ c.requires.nodes _ _ _ _ _ _ _ v.5 (omega (arith, v.0)) v.1,
      omega (arith, v.1, c.requires.kept_len),
      omega (arith, v.1, c.requires.kept_len),
      omega (arith, v.1, v.3),
    )

pub returns-clause-low : goal.returns-clause-low
returns-clause-low c = let v = c.loop-i.invariant in rise-low _ _ c.requires.nodes _ _ _ _ _ _ v.5 v.0 (omega arith)

pub returns-clause-built : goal.returns-clause-built
returns-clause-built c = let v = c.loop-i.invariant in rise-built _ _ c.requires.nodes _ _ _ _ _ _ v.5 v.0 (omega arith)
