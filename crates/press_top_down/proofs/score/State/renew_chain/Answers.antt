use Prim.Native.Nat.{◌<◌}
use native.Mathlib.Omega.{arith}
use lib.ListN.{length}
use Rattle.std.proofs.Common.{None}
use Rattle.press_nodes.proofs.Numbers.{numbers-at, none-zero, some-suc}
use Rattle.press_top_down.proofs.Renewing.{walk_start, here_in, walk-falls, walk-next, walk_end, past-no-parent}
use Rattle.press_top_down.proofs.score.State.renew_chain.Goals as goal

pub loop-user-init : goal.loop-user-init
loop-user-init c =
    let chains = c.requires.chains in
    let inside : c.args.q.0 < length c.args.chains.now.heads.now = omega (arith, chains.headed, c.requires.q_in_bounds) in
    walk_start _ _ _ _ chains.chained _ (numbers-at _ _ _ None c.index.ensures inside) (past-no-parent c.args.chains.now.side c.args.self.now.links.now)

pub renew-requires-clause-n_in_bounds : goal.renew-requires-clause-n_in_bounds
renew-requires-clause-n_in_bounds c = here_in _ _ _ _ c.requires.chains.chained c.loop-user.invariant (some-suc _ _ c.in-Some.is)

pub bounds-chains-index-in-Some : goal.bounds-chains-index-in-Some
bounds-chains-index-in-Some c =
    omega (arith, c.index-in-Some.ensures, c.requires.chains.followed, here_in _ _ _ _ c.requires.chains.chained c.loop-user.invariant (some-suc _ _ c.in-Some.is))

pub loop-user-preserved : goal.loop-user-preserved
loop-user-preserved c =
    let chains = c.requires.chains in
    let here = some-suc _ _ c.in-Some.is in
    let inside : c.in-Some.n.0 < length c.args.chains.now.nexts.now = omega (arith, chains.followed, here_in _ _ _ _ chains.chained c.loop-user.invariant here) in
    walk-next _ _ _ _ chains.chained c.loop-user.invariant here c.renew.ensures (numbers-at _ _ _ None c.index-in-Some.ensures inside)

pub loop-user-smaller : goal.loop-user-smaller
loop-user-smaller c =
    let chains = c.requires.chains in
    let here = some-suc _ _ c.in-Some.is in
    let inside : c.in-Some.n.0 < length c.args.chains.now.nexts.now = omega (arith, chains.followed, here_in _ _ _ _ chains.chained c.loop-user.invariant here) in
    walk-falls _ _ _ _ chains.chained c.loop-user.invariant here (numbers-at _ _ _ None c.index-in-Some.ensures inside)

pub returns : goal.returns
returns c = walk_end c.loop-user.invariant (none-zero _ c.in_default.is)
