use Rattle.std.proofs.Common.{refl, sym, ap, ◌∙◌}
use Rattle.tally.specs.Said.{tally_of}
use Rattle.replay_spec.specs.Step.{Step, Judged, state, stepped, numbered, one_step}
use Rattle.replay_spec.proofs.Steps.{step-by-turn}
use Rattle.replay_slots.specs.Said.{row_of, said_of_step}
use Rattle.replay_step.proofs.step.Goals as goal

pub returns-then-fits : goal.returns-then-fits
returns-then-fits c =
    ap (λ (x : Step). stepped x (state (tally_of c.take.new.t) (row_of c.take.new.slots))) c.answered.ensures
    ∙ ap (λ (j : Judged). numbered c.args.number.0 j) c.take.ensures
    ∙ sym (step-by-turn _ _ _ _ _ _ (sym c.fits.ensures ∙ c.if-fits.true) refl)

pub returns : goal.returns
unfolding one_step said_of_step
returns c = rw (sym c.fits.ensures ∙ c.if-fits.false)
