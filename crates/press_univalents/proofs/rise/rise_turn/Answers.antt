use native.Mathlib.Omega.{arith}
use Rattle.press_univalents.proofs.Rises.{stands-low, rises-once}
use Rattle.press_univalents.proofs.rise.rise_turn.Goals as goal

pub weigh_turn-requires : goal.weigh_turn-requires
weigh_turn-requires c =
    let low = stands-low _ _ _ c.requires.n_in_bounds.0 _ _ _ c.renew_turn.ensures c.requires.clauses_len.1 c.requires.n_in_bounds.1 in
    (omega (arith, c.requires.n_in_bounds), omega (arith, c.requires.n_in_bounds), omega (arith, c.requires.n_in_bounds), omega (arith, low, c.requires.n_in_bounds.0, c.requires.clauses_len.0))

pub returns : goal.returns
returns c =
    let low = stands-low _ _ _ c.requires.n_in_bounds.0 _ _ _ c.renew_turn.ensures c.requires.clauses_len.1 c.requires.n_in_bounds.1 in
    rises-once _ _ _ c.requires.n_in_bounds.0 _ _ _ _ _ _ _ c.renew_turn.ensures _ (omega (arith, low, c.requires.n_in_bounds.0)) c.weigh_turn.ensures
