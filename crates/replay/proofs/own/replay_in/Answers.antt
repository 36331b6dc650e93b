use Rattle.std.proofs.Common.{◌≡◌, List, take, replicate, ap, ◌∙◌}
use Rattle.sheet.specs.Editions.{most_records}
use Rattle.sheet.proofs.Sizes.{replay-few}
use Rattle.replay_spec.specs.Slots.{Slot}
use Rattle.replay_spec.specs.Replay.{Outcome, outcome, replay}
use Rattle.replay_spec.proofs.Plenty.{replay-at-most}
use Rattle.replay_slots.specs.Said.{row_of}
use Rattle.replay_slots.proofs.Owned.{row-lent}
use Rattle.replay_answer.specs.Answers.{said}
use Rattle.replay.proofs.own.replay_in.Goals as goal

pub returns : goal.returns
returns c =
    let e = c.args.edition in
    let sheet = c.args.sheet.now in
    let rules = c.args.rules.now in
    let says
    : outcome (said c.replay.result) (row_of c.replay.new.slots) ≡ replay e sheet rules (row_of (take c.min-n.result (replicate most_records c.empty-row.result)))
    = c.replay.ensures in
    let row = row-lent c.min-n.result c.args.slots c.min-n.ensures c.empty-row.result in
    ap (λ (o : Outcome). o.answer) says
    ∙ ap (λ (l : List Slot). (replay e sheet rules l).answer) (rw c.empty-row.ensures at row)
    ∙ replay-at-most e sheet rules most_records c.args.slots (replay-few e)
