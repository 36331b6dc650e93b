use Rattle.std.proofs.Common.{◌≡◌, ◌/◌, min, List, length, take, replicate, ap, ◌∙◌}
use Rattle.sheet.specs.Editions.{record_bytes, most_records}
use Rattle.tally.specs.Tally.{nothing}
use Rattle.replay_spec.specs.Slots.{Slot}
use Rattle.replay_spec.specs.Step.{state}
use Rattle.replay_slots.specs.Said.{row_of}
use Rattle.replay_slots.proofs.Owned.{row-lent}
use Rattle.replay_look.specs.After.{Look, after_records, look_at, look_of}
use Rattle.replay_look.proofs.look_after.Goals as goal

pub returns : goal.returns
returns c =
    let seen
    : List Slot → Look
    = λ (row : List Slot). look_at
    c.args.at.0
    (after_records
    c.args.edition
    c.args.rules.now
    c.args.sheet.now
    (state nothing row)
    (min c.args.records (length c.args.sheet.now / record_bytes c.args.edition))) in
    let says : look_of c.look_from.result ≡ seen (row_of (take c.min-n.result (replicate most_records c.empty-row.result))) = c.look_from.ensures in
    let row = row-lent c.min-n.result c.args.slots c.min-n.ensures c.empty-row.result in
    says ∙ ap seen (rw c.empty-row.ensures at row)
