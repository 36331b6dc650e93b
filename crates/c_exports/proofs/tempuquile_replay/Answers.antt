use Rattle.std.proofs.Common.{sym, ap, ◌∙◌}
use Rattle.c_report.specs.Named.{unnamed_code}
use Rattle.c_report.proofs.Choices.{no-edition, an-edition}
use Rattle.c_exports.proofs.Told.{told-replay, told-no-replay}
use Rattle.c_exports.proofs.tempuquile_replay.Goals as goal

pub returns-in-Ok : goal.returns-in-Ok
returns-in-Ok c =
    let e = an-edition _ _ (sym c.try_from.ensures ∙ c.in-Ok.is) in
    told-replay _ _ _ _ _ _ _ _ _ _ e.0 e.1 c.replay.ensures c.tell_replay.ensures.code c.tell_replay.ensures.words

pub returns-in-Err : goal.returns-in-Err
unfolding unnamed_code
returns-in-Err c = told-no-replay _ _ _ _ _ _ (no-edition _ _ (sym c.try_from.ensures ∙ c.in-Err.is)) (c.from-in-Err.ensures ∙ ap unnamed_code c.from.ensures)
