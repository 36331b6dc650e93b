use Rattle.std.proofs.Common.{ℕ, ◌*◌, refl, sym, ap, ◌∙◌, arith}
use Rattle.std.proofs.lemmas.Result.{err_from_is_err_and}
use Rattle.sheet.specs.Editions.{record_bytes}
use Rattle.press_spec.specs.Press.{call}
use Rattle.press.specs.Said.{said}
use Rattle.press.proofs.Ready.{whole-records, some-records, few-records, judged-fits, judged-emittable, judged-nodes, judged-bad, judged-well, pressed-well}
use Rattle.press.proofs.press_records.Goals as goal

pub judge-requires-clause-clauses_len : goal.judge-requires-clause-clauses_len
judge-requires-clause-clauses_len c =
    let a = c.args in
    let at = c.requires.clauses_len in
    (at.0, omega (arith, at.1, few-records a.plan (call a.sheet.now a.rules.now a.out.now a.marks.now) c.requires.marks_value))

pub judge-requires-clause-sheet_len : goal.judge-requires-clause-sheet_len
judge-requires-clause-sheet_len c =
    let a = c.args in
    whole-records a.plan (call a.sheet.now a.rules.now a.out.now a.marks.now) c.requires.marks_value
    ∙ ap (λ (n : ℕ). record_bytes a.plan.edition * n) (sym c.requires.clauses_len.1)

pub returns-in_err-judge : goal.returns-in_err-judge
returns-in_err-judge c =
    let p = err_from_is_err_and c.from_residual.result c.from_residual.ensures.1 in
    rw (p.1, p.2) (judged-bad _ _ c.requires.marks_value _ _ c.judge.ensures _ c.in_err-judge.was)

pub run_passes-requires-clause-nodes : goal.run_passes-requires-clause-nodes
run_passes-requires-clause-nodes c =
    let a = c.args in
    let z = call a.sheet.now a.rules.now a.out.now a.marks.now in
    let fine = c.requires.marks_value in
    let at = c.requires.clauses_len in
    let j = c.judge in
    let well = judged-well a.plan z fine _ _ j.ensures c.in_ok-judge.was in (
      judged-nodes a.plan z fine _ well j.new.links j.new.clauses refl (j.auto.clauses ∙ at.0 ∙ sym j.auto.links),
      omega (arith, j.auto.links, at.1, some-records a.plan z fine),
      omega (arith, j.auto.links, at.1, few-records a.plan z fine),
    )

pub run_passes-requires-clause-fact : goal.run_passes-requires-clause-fact
run_passes-requires-clause-fact c =
    let a = c.args in
    let z = call a.sheet.now a.rules.now a.out.now a.marks.now in
    judged-fits a.plan z c.requires.marks_value _ (judged-well a.plan z c.requires.marks_value _ _ c.judge.ensures c.in_ok-judge.was)

pub run_passes-requires-clause-emittable : goal.run_passes-requires-clause-emittable
run_passes-requires-clause-emittable c =
    let a = c.args in
    let z = call a.sheet.now a.rules.now a.out.now a.marks.now in
    rw c.line_count-lines.ensures (judged-emittable a.plan z c.requires.marks_value _ (judged-well a.plan z c.requires.marks_value _ _ c.judge.ensures c.in_ok-judge.was))

pub returns : goal.returns
unfolding said
returns c =
    let a = c.args in
    let y = c.run_passes.ensures in
    pressed-well _ (call a.sheet.now a.rules.now a.out.now a.marks.now) c.requires.marks_value _ _ c.judge.ensures _ _ _ _ c.in_ok-judge.was c.line_count-lines.ensures y.report y.lent.0 y.lent.1
