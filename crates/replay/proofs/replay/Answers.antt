use Rattle.std.proofs.Common.{sym, ap, ◌∙◌}
use Rattle.std.specs.Result.{is_err}
use Rattle.replay.proofs.Whole.{fine-is, comes-fine, comes-refused}
use Rattle.replay.proofs.replay.Goals as goal

pub run-ran-requires : goal.run-ran-requires
run-ran-requires c = sym c.check_lengths-verdict.ensures ∙ fine-is c.check_lengths-verdict.result (sym c.is_err.ensures.value ∙ c.if-is_err.false)

pub returns : goal.returns
returns c =
    comes-fine
    _
    _
    _
    c.args.slots.now
    c.clear.new.slots
    c.run-ran.new.slots
    c.clear-2.new.slots
    _
    _
    (ap is_err (sym c.check_lengths-verdict.ensures) ∙ sym c.is_err.ensures.value ∙ c.if-is_err.false)
    c.clear.ensures
    c.run-ran.ensures
    c.run-ran.auto.slots
    c.clear-2.ensures

pub returns-then-is_err : goal.returns-then-is_err
returns-then-is_err c =
    comes-refused
    _
    _
    _
    _
    c.check_lengths-verdict.result
    c.check_lengths-verdict.ensures
    (sym c.is_err.ensures.value ∙ c.if-is_err.true)
    _
    _
    _
    c.end.ensures
