use Rattle.std.proofs.Common.{sym, ◌∙◌, arith}
use lib.Seq.{length-take-le}
use Rattle.program_whole.proofs.Starts.{sheet-short, rules-short, whole-refused, whole-pressed, accepted-fits}
use Rattle.program_whole.proofs.press_whole.Goals as goal

pub returns-in-Err-clause-whole : goal.returns-in-Err-clause-whole
returns-in-Err-clause-whole c = λ s t a b. whole-refused _ _ _ _ _ _ _ _ s t c.judge_lengths-verdict.ensures c.in-Err.is a b

pub slice_bounds-press-end : goal.slice_bounds-press-end
slice_bounds-press-end c = sym (length-take-le c.args.sheet_length c.args.sheet.now (omega (arith, sheet-short _ (sym c.judge_lengths-verdict.ensures ∙ c.in_default.is))))

pub slice_bounds-press-end-2 : goal.slice_bounds-press-end-2
slice_bounds-press-end-2 c = sym (length-take-le c.args.rules_length c.args.rules.now (omega (arith, rules-short _ (sym c.judge_lengths-verdict.ensures ∙ c.in_default.is))))

pub returns-clause-whole : goal.returns-clause-whole
returns-clause-whole c =
    let a = c.args in
    let fine = sym c.judge_lengths-verdict.ensures ∙ c.in_default.is in
    λ s t b d. whole-pressed a.sheet_length a.rules_length a.sheet.now a.rules.now _ _ s t _ (omega (arith, sheet-short _ fine)) (omega (arith, rules-short _ fine)) b d c.press.ensures

pub returns-clause-fits : goal.returns-clause-fits
returns-clause-fits c = accepted-fits _ _ _ _ c.press.ensures
