use Rattle.std.proofs.Common.{◌≡◌, ℕ, ◌≤◌, List, length, sym, ap₂, ◌∙◌, arith}
use Rattle.std.proofs.lemmas.Result.{err_from_is_err_and}
use Rattle.clause.specs.Clauses.{Literals}
use Rattle.clause.specs.Denote.{literals_of}
use Rattle.clause.specs.declared.Clause.{Clause}
use Rattle.sheet.specs.Checks.{check_step}
use Rattle.sheet.proofs.Fine.{earlier-fine}
use Rattle.press_nodes.specs.declared.link.Link.{Link as CodeLink}
use Rattle.press_nodes.specs.Tables.{nodes_in}
use Rattle.press_nodes.proofs.Tables.{nodes-length, clauses-at}
use Rattle.press_record.proofs.Turning.{left-late, right-late, both-early}
use Rattle.press_record.proofs.check_step.Goals as goal

inside : (next : ℕ) (links : List CodeLink) (clauses : List Clause) → next ≤ length links → next ≤ length (nodes_in links clauses)
inside next links clauses fits = rw (nodes-length links clauses) fits

pub returns-in_err-check_earlier : goal.returns-in_err-check_earlier
returns-in_err-check_earlier c = λ edition rules links fits. let a = c.args in
    let p = err_from_is_err_and c.from_residual.result c.from_residual.ensures.1 in
    rw (p.1, p.2) (sym (left-late edition _ a.next.0 (inside _ links a.clauses.now fits) rules a.pivot a.left.0 a.right.0 (literals_of a.written) _ (sym c.check_earlier.ensures ∙ c.in_err-check_earlier.was)))

pub returns-in_err-check_earlier-2 : goal.returns-in_err-check_earlier-2
returns-in_err-check_earlier-2 c = λ edition rules links fits. let a = c.args in
    let p = err_from_is_err_and c.from_residual-in_err-check_earlier-2.result c.from_residual-in_err-check_earlier-2.ensures.1 in
    rw (p.1, p.2) (sym (right-late edition _ a.next.0 (inside _ links a.clauses.now fits) rules a.pivot a.left.0 a.right.0 (literals_of a.written) _ (sym c.check_earlier.ensures ∙ c.in_ok-check_earlier.was) (sym c.check_earlier-2.ensures ∙ c.in_err-check_earlier-2.was)))

pub clause_at-left_clause-requires : goal.clause_at-left_clause-requires
clause_at-left_clause-requires c = omega (arith, c.requires, earlier-fine c.args.next.0 c.args.left.0 (sym c.check_earlier.ensures ∙ c.in_ok-check_earlier.was))

pub clause_at-right_clause-requires : goal.clause_at-right_clause-requires
clause_at-right_clause-requires c = omega (arith, c.requires, earlier-fine c.args.next.0 c.args.right.0 (sym c.check_earlier-2.ensures ∙ c.in_ok-check_earlier-2.was))

pub returns : goal.returns
returns c = λ edition rules links fits. let a = c.args in
    let early = sym c.check_earlier.ensures ∙ c.in_ok-check_earlier.was in
    let early2 = sym c.check_earlier-2.ensures ∙ c.in_ok-check_earlier-2.was in
    let left = clauses-at links a.clauses.now a.left.0 (omega (arith, fits, earlier-fine a.next.0 a.left.0 early)) in
    let right = clauses-at links a.clauses.now a.right.0 (omega (arith, fits, earlier-fine a.next.0 a.right.0 early2)) in
    c.check_step.ensures
    ∙ ap₂ (λ (x y : Literals). check_step a.pivot x y (literals_of a.written)) (c.clause_at-left_clause.ensures ∙ left) (c.clause_at-right_clause.ensures ∙ right)
    ∙ sym (both-early edition _ a.next.0 (inside _ links a.clauses.now fits) rules a.pivot a.left.0 a.right.0 (literals_of a.written) early early2)
