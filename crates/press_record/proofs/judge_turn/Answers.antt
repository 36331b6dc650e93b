use Rattle.std.proofs.Common.{sym, ap, ◌∙◌, arith, Ok}
use Rattle.std.proofs.lemmas.Result.{err_from_is_err_and}
use Rattle.clause.specs.Denote.{literals_of}
use Rattle.sheet.specs.Denote.{record_of, reading_of}
use Rattle.sheet.specs.Records.{given, step}
use Rattle.press_nodes.specs.Tables.{nodes_in}
use Rattle.press_record.proofs.Turning.{given-checked, turn-unread, turn-drop, Checked, turn-refused, turn-fine}
use Rattle.press_record.proofs.judge_turn.Goals as goal

pub returns-in_err-record : goal.returns-in_err-record
unfolding reading_of
returns-in_err-record c =
    let p = err_from_is_err_and c.from_residual.result c.from_residual.ensures.1 in
    turn-unread c.args.edition c.args.rules.now c.args.bytes.now (nodes_in c.args.links.now c.args.clauses.now) c.args.k.0 _ (rw (p.1, p.2)) (sym c.read_record.ensures ∙ ap reading_of c.in_err-record.was)

pub returns-in_err-check_given-in-Given : goal.returns-in_err-check_given-in-Given
unfolding reading_of record_of
returns-in_err-check_given-in-Given c =
    let p = err_from_is_err_and c.from_residual-in_err-check_given-in-Given.result c.from_residual-in_err-check_given-in-Given.ensures.1 in
    let y : Checked c.args.edition c.args.rules.now c.args.bytes.now (nodes_in c.args.links.now c.args.clauses.now) c.args.k.0 (given c.in-Given.line.0 (literals_of c.in-Given.clause)) c.check_given.result = record {
      read = sym c.read_record.ensures ∙ ap reading_of (c.in_ok-record.was ∙ ap Ok c.in-Given.is);
      says = c.check_given.ensures ∙ sym (given-checked _ _ _ _ _);
    } in rw (p.1, p.2, ← c.in_err-check_given-in-Given.was) (turn-refused y c.in_err-check_given-in-Given.was)

pub returns-in_err-check_step-in-Step : goal.returns-in_err-check_step-in-Step
unfolding reading_of record_of
returns-in_err-check_step-in-Step c =
    let p = err_from_is_err_and c.from_residual-in_err-check_step-in-Step.result c.from_residual-in_err-check_step-in-Step.ensures.1 in
    let y : Checked c.args.edition c.args.rules.now c.args.bytes.now (nodes_in c.args.links.now c.args.clauses.now) c.args.k.0 (step c.in-Step.pivot c.in-Step.left.0 c.in-Step.right.0 (literals_of c.in-Step.clause)) c.check_step.result = record {
      read = sym c.read_record.ensures ∙ ap reading_of (c.in_ok-record.was ∙ ap Ok c.in-Step.is);
      says = c.check_step.ensures c.args.edition c.args.rules.now c.args.links.now (omega (arith, c.requires.1));
    } in rw (p.1, p.2, ← c.in_err-check_step-in-Step.was) (turn-refused y c.in_err-check_step-in-Step.was)

pub returns-in_ok-check_given-in-Given : goal.returns-in_ok-check_given-in-Given
unfolding reading_of record_of
returns-in_ok-check_given-in-Given c =
    let y : Checked c.args.edition c.args.rules.now c.args.bytes.now (nodes_in c.args.links.now c.args.clauses.now) c.args.k.0 (given c.in-Given.line.0 (literals_of c.in-Given.clause)) c.check_given.result = record {
      read = sym c.read_record.ensures ∙ ap reading_of (c.in_ok-record.was ∙ ap Ok c.in-Given.is);
      says = c.check_given.ensures ∙ sym (given-checked _ _ _ _ _);
    } in rw (← c.in_ok-check_given-in-Given.was) (turn-fine y c.in_ok-check_given-in-Given.was c.put_given.ensures)

pub returns-in_ok-check_step-in-Step : goal.returns-in_ok-check_step-in-Step
unfolding reading_of record_of
returns-in_ok-check_step-in-Step c =
    let y : Checked c.args.edition c.args.rules.now c.args.bytes.now (nodes_in c.args.links.now c.args.clauses.now) c.args.k.0 (step c.in-Step.pivot c.in-Step.left.0 c.in-Step.right.0 (literals_of c.in-Step.clause)) c.check_step.result = record {
      read = sym c.read_record.ensures ∙ ap reading_of (c.in_ok-record.was ∙ ap Ok c.in-Step.is);
      says = c.check_step.ensures c.args.edition c.args.rules.now c.args.links.now (omega (arith, c.requires.1));
    } in rw (← c.in_ok-check_step-in-Step.was) (turn-fine y c.in_ok-check_step-in-Step.was c.put_step.ensures)

pub returns-in-Drop : goal.returns-in-Drop
unfolding reading_of record_of
returns-in-Drop c =
    turn-drop c.args.edition c.args.rules.now c.args.bytes.now (nodes_in c.args.links.now c.args.clauses.now) c.args.k.0 _ (sym c.read_record.ensures ∙ ap reading_of (c.in_ok-record.was ∙ ap Ok c.in-Drop.is))
