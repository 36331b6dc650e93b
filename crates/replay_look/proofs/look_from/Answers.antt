use Rattle.std.proofs.Common.{◌≡◌, ◌/◌, min, length, ap, ◌∙◌, arith}
use Rattle.sheet.specs.Editions.{record_bytes}
use Rattle.replay_slots.specs.Said.{said_of_step}
use Rattle.replay_look.specs.After.{after_records}
use Rattle.replay_look.proofs.After.{stands_on, sees}
use Rattle.replay_look.proofs.look_from.Goals as goal

pub loop-k-init : goal.loop-k-init
unfolding after_records said_of_step
loop-k-init c = rw c.nothing-t.ensures

pub loop-k-preserved : goal.loop-k-preserved
loop-k-preserved c = stands_on _ _ _ _ c.loop-k.k _ _ _ _ c.loop-k.invariant (rw c.record_bytes-bytes.ensures at c.step-answer.ensures)

pub returns : goal.returns
returns c =
    let few
    : c.min-n.result ≡ min c.args.records (length c.args.sheet.now / record_bytes c.args.edition)
    = c.min-n.ensures ∙ ap (min c.args.records) c.records_in.ensures in
    let all : c.loop-k.k ≡ c.min-n.result = omega arith in
    sees _ _ _ _ c.loop-k.k _ _ _ _ _ _ c.loop-k.invariant (all ∙ few) c.slot_at.ensures
