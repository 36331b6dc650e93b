use Rattle.std.proofs.Common.{◌≡◌, get_or, sym, ap, ◌∙◌, arith}
use Rattle.std.specs.Option.{unwrap_or}
use Rattle.replay_spec.specs.Slots.{empty}
use Rattle.replay_slots.specs.Said.{slot_of, row_of}
use Rattle.replay_slots.proofs.Rows.{row_at}
use Rattle.replay_row.proofs.slot_at.Goals as goal

pub returns : goal.returns
returns c =
    let found
    : c.unwrap_or.result ≡ get_or c.args.slots.now c.index.result c.empty.result
    = c.unwrap_or.ensures ∙ ap (λ o. unwrap_or o c.empty.result) c.copied.ensures ∙ c.get.ensures.lookup.4 (omega arith) c.empty.result in
    ap slot_of found ∙ sym (row_at c.args.slots.now c.index.result c.empty.result c.empty.ensures) ∙ ap (λ i. get_or (row_of c.args.slots.now) i empty) c.index.ensures
