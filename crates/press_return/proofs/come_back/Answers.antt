use Prim.Native.Nat.{ℕ, ◌≤◌, ◌<◌}
use mathlib.Core.Path.{◌≡◌, ◌∙◌}
use mathlib.Core.List.{List}
use native.Mathlib.Omega.{arith}
use lib.ListN.{length}
use Rattle.clause.specs.Clauses.{Literal}
use Rattle.clause.specs.Denote.{literals_of}
use Rattle.clause.specs.declared.Clause.{Clause}
use Rattle.press_nodes.specs.declared.link.Link.{Link}
use Rattle.press_nodes.specs.Tables.{nodes_in, clauses_in}
use Rattle.press_nodes.proofs.Tables.{clauses-at, nodes-length}
use Rattle.press_spec.specs.Lower.{return_of}
use Rattle.press_reach.specs.Literals.{literal_in}
use Rattle.press_return.specs.Returns.{return_in}
use Rattle.press_return.specs.declared.Return.{Return}
use Rattle.press_return.proofs.Backs.{Comes, back-stays, back-concludes, back-room, back-resolves}
use Rattle.press_return.proofs.come_back.Goals as goal

-- what is known of the unit and the conclusion
comes : (h : List Link) (c : List Clause) (k last u : ℕ) (x : Literal) (C D : Clause) (how : Return) → k ≤ length h → last < k → u < k
    → literals_of C ≡ clauses_in c u → literals_of D ≡ clauses_in c last → return_in how ≡ return_of x (literals_of C) (literals_of D)
    → Comes (nodes_in h c) k last u x (literals_of C) (literals_of D) how
comes h c k last u x C D how i il iu e f told = record {
  inside = rw nodes-length i;
  last-inside = il;
  unit-inside = iu;
  unit = e ∙ clauses-at _ _ _ (omega arith);
  conclusion = f ∙ clauses-at _ _ _ (omega arith);
  told = told;
}

pub returns-in-ConclusionStays-clause-clauses_after : goal.returns-in-ConclusionStays-clause-clauses_after
returns-in-ConclusionStays-clause-clauses_after c =
    let a = c.args in
    let b = c.requires.nodes_in_bounds in
    back-stays (comes a.links.now a.clauses.now _ _ _ (literal_in a.l) _ _ _ b.0 b.1 b.2 c.clause_at-unit.ensures c.clause_at-conclusion.ensures c.return_of.ensures) c.in-ConclusionStays.is

pub returns-in-UnitConcludes-clause-clauses_after : goal.returns-in-UnitConcludes-clause-clauses_after
returns-in-UnitConcludes-clause-clauses_after c =
    let a = c.args in
    let b = c.requires.nodes_in_bounds in
    back-concludes (comes a.links.now a.clauses.now _ _ _ (literal_in a.l) _ _ _ b.0 b.1 b.2 c.clause_at-unit.ensures c.clause_at-conclusion.ensures c.return_of.ensures) c.in-UnitConcludes.is

pub put_resolving-requires : goal.put_resolving-requires
put_resolving-requires c =
    let a = c.args in
    let b = c.requires.nodes_in_bounds in
    let d = comes a.links.now a.clauses.now _ _ _ (literal_in a.l) _ _ _ b.0 b.1 b.2 c.clause_at-unit.ensures c.clause_at-conclusion.ensures c.return_of.ensures in
    (c.requires.clauses_len.0, back-room d c.in-Resolves.is _ c.requires.clauses_in_bounds, omega arith, omega arith)

pub returns-in-Resolves-clause-clauses_after : goal.returns-in-Resolves-clause-clauses_after
returns-in-Resolves-clause-clauses_after c =
    let a = c.args in
    let b = c.requires.nodes_in_bounds in
    let d = comes a.links.now a.clauses.now _ _ _ (literal_in a.l) _ _ _ b.0 b.1 b.2 c.clause_at-unit.ensures c.clause_at-conclusion.ensures c.return_of.ensures in
    let room = back-room d c.in-Resolves.is _ c.requires.clauses_in_bounds in
    back-resolves d c.in-Resolves.is _ (rw nodes-length room) c.put_resolving.ensures

pub returns-in-Resolves-clause-fits : goal.returns-in-Resolves-clause-fits
returns-in-Resolves-clause-fits c =
    let a = c.args in
    let b = c.requires.nodes_in_bounds in
    let d = comes a.links.now a.clauses.now _ _ _ (literal_in a.l) _ _ _ b.0 b.1 b.2 c.clause_at-unit.ensures c.clause_at-conclusion.ensures c.return_of.ensures in
    let room = back-room d c.in-Resolves.is _ c.requires.clauses_in_bounds in
    (omega arith, omega arith, omega arith)
