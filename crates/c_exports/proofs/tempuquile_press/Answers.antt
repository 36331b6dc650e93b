use Rattle.press_spec.specs.Press.{call}
use Rattle.c_exports.proofs.Told.{told-press, told_none}
use Rattle.c_exports.proofs.tempuquile_press.Goals as goal

pub returns-in-Ok : goal.returns-in-Ok
returns-in-Ok c = told-press _ _ _ _ _ _ _ _ _ _ _ _ c.plan_of.ensures c.in-Ok.is c.press.ensures (c.tell_press.ensures.code, c.tell_press.ensures.words)

pub returns-in-Err : goal.returns-in-Err
returns-in-Err c =
    let a = c.args in
    told_none _ _ _ (call a.sheet.now a.rules.now a.out.now a.marks.now) _ _ _ _ c.plan_of.ensures c.in-Err.is c.from.ensures
