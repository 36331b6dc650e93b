-- When each refusal is given, and that what the slots held before never matters.
use Rattle.sheet.proofs.Applied.{one-is-wrong}
use Rattle.press_spec.proofs.Refuses.{press-refuses}
use Rattle.replay_spec.proofs.Refuses.{replay-refuses, full-only-when-full}
use Rattle.replay_spec.proofs.Plenty.{replay-by-number}
use Rattle.demands.specs.Demands.{Refusals, ClauseWrong, ReplayForgets}

pub refusals : Refusals
refusals = (press-refuses, replay-refuses, full-only-when-full)

pub clause-wrong : ClauseWrong
clause-wrong = one-is-wrong

pub replay-forgets : ReplayForgets
replay-forgets e sheet rules slots₁ slots₂ same = replay-by-number e sheet rules slots₁ slots₂ same
