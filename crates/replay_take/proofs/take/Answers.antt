use Rattle.std.proofs.Common.{Ok, List, length, ap, ◌∙◌, arith}
use Rattle.std.proofs.lemmas.Result.{err_from_is_err_and}
use Rattle.sheet.proofs.Sizes.{replay-few}
use Rattle.tally.specs.Said.{tally_of}
use Rattle.replay_spec.specs.Slots.{Slot, put}
use Rattle.replay_spec.specs.Step.{judged, state}
use Rattle.replay_spec.proofs.Steps.{fits-tells}
use Rattle.replay_take.proofs.Said.{says_so}
use Rattle.replay_take.proofs.take.Goals as goal

pub read-reading-requires : goal.read-reading-requires
read-reading-requires c = omega (arith, (fits-tells c.args.edition (length c.args.rules.now) (length c.args.bytes.now) (tally_of c.args.t.now) c.requires).0)

pub decide-requires : goal.decide-requires
decide-requires c =
    let told = fits-tells c.args.edition (length c.args.rules.now) (length c.args.bytes.now) (tally_of c.args.t.now) c.requires in
    (omega (arith, told.1, replay-few c.args.edition), told.2, told.3)

pub returns-in_err-taken : goal.returns-in_err-taken
unfolding put
returns-in_err-taken c =
    let p = err_from_is_err_and c.from_residual.result c.from_residual.ensures.1 in
    rw (p.1, p.2)
    (says_so _ _ _ _ _ c.read-reading.ensures c.left_sought.ensures c.right_sought.ensures c.room_sought.ensures c.find-left.ensures c.find-right.ensures c.find-vacant.ensures c.in_err-taken.ensures)

pub returns : goal.returns
returns c =
    ap (λ (row : List Slot). judged (Ok tt) (state (tally_of c.in_ok-taken.taken.tally) row)) c.put.ensures
    ∙ says_so _ _ _ _ _ c.read-reading.ensures c.left_sought.ensures c.right_sought.ensures c.room_sought.ensures c.find-left.ensures c.find-right.ensures c.find-vacant.ensures c.in_ok-taken.ensures
