-- What the replay's answer says: the paper's number and values for each case; and how a replay ends.
use Rattle.std.specs.Prelude.{ℕ, Ok, Err}
use Rattle.std.specs.declared.result.Result.{Result as CodeResult}
use Rattle.clause.specs.Denote.{literals_of, ClauseFits}
use Rattle.sheet.specs.declared.Refusal.{Refusal}
use Rattle.sheet.specs.Reasons.{Verdict, number_of}
use Rattle.tally.specs.Tally.{Tally}
use Rattle.replay_spec.specs.Slots.{Place}
use Rattle.replay_spec.specs.Replay.{Result, Answer, refused, accepted, by_last}
use Rattle.replay_answer.specs.declared.Replayed.{Replayed}

abbrev pub result_of : Replayed → Result
result_of r = record { conclusion = literals_of r.conclusion; nodes = r.nodes; steps = r.steps; peak = r.peak }

abbrev pub ReplayAnswer : Type 0
ReplayAnswer = CodeResult Replayed Refusal

unfoldable pub said : ReplayAnswer → Answer
said (Ok r) = accepted (result_of r)
said (Err r) = refused (number_of r.why) r.at.0

-- each word of it is one that the machine can hold
abbrev pub AnswerFits : ReplayAnswer → Type 0
AnswerFits (Ok r) = ClauseFits r.conclusion
AnswerFits (Err r) = Unit {0}

-- refused at record k; or after k records, by what is found of the last node
unfoldable pub ended : Verdict → ℕ → Tally → Place → Answer
ended (Ok tt) k t last = by_last k t last
ended (Err why) k t last = refused (number_of why) k
