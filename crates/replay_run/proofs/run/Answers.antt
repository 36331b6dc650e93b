use Rattle.std.proofs.Common.{◌≡◌, ◌<◌, ◌/◌, length, sym, ap, ◌∙◌, arith, Ok}
use Rattle.sheet.specs.Editions.{record_bytes}
use Rattle.tally.specs.Said.{tally_of}
use Rattle.replay_spec.specs.Slots.{Sought, Place, look}
use Rattle.replay_spec.specs.Step.{state}
use Rattle.replay_spec.specs.Replay.{Answer, ran}
use Rattle.replay_slots.specs.Said.{row_of}
use Rattle.replay_answer.specs.Answers.{ended}
use Rattle.replay_take.proofs.Going.{goes_none, goes-all, next_fits, goes_on, goes-no-more}
use Rattle.replay_run.proofs.run.Goals as goal

pub loop-k-init : goal.loop-k-init
loop-k-init c = goes_none _ _ _ _ _ c.nothing-t.ensures

pub take-verdict-requires : goal.take-verdict-requires
take-verdict-requires c =
    let less : c.loop-k.k < length c.args.sheet.now / record_bytes c.args.edition = rw c.record_bytes-bytes.ensures at c.loop-k-test.true in
    rw c.record_bytes-bytes.ensures (next_fits _ _ _ _ _ _ c.loop-k.invariant less c.requires)

pub loop-k-preserved : goal.loop-k-preserved
loop-k-preserved c =
    let less : c.loop-k.k < length c.args.sheet.now / record_bytes c.args.edition = rw c.record_bytes-bytes.ensures at c.loop-k-test.true in
    goes_on
    _
    _
    _
    _
    _
    _
    c.loop-k.invariant
    less
    c.requires
    c.take-verdict.result
    _
    (rw c.record_bytes-bytes.ensures at c.take-verdict.ensures)
    (sym c.is_err.ensures.value ∙ c.if-is_err.false)

pub returns-then-is_err : goal.returns-then-is_err
returns-then-is_err c =
    let less : c.loop-k.k < length c.args.sheet.now / record_bytes c.args.edition = rw c.record_bytes-bytes.ensures at c.loop-k-test.true in
    ap (λ (a : Answer). ran a (state (tally_of c.take-verdict.new.t) (row_of c.take-verdict.new.slots))) c.end-answer.ensures
    ∙ goes-no-more
    _
    _
    _
    _
    _
    _
    c.loop-k.invariant
    less
    c.requires
    c.take-verdict.result
    _
    (rw c.record_bytes-bytes.ensures at c.take-verdict.ensures)
    (sym c.is_err.ensures.value ∙ c.if-is_err.true)
    _
    _

pub returns : goal.returns
returns c =
    let n = length c.args.sheet.now / c.record_bytes-bytes.result in
    let all : c.loop-k.k ≡ n = omega arith in
    let found = c.find-last.ensures ∙ ap (λ (x : Sought). look x (row_of c.loop-k.slots)) c.last_sought.ensures in
    ap (λ (a : Answer). ran a (state (tally_of c.loop-k.t) (row_of c.loop-k.slots)))
    (c.end-answer-2.ensures ∙ ap (λ (p : Place). ended (Ok tt) n (tally_of c.loop-k.t) p) found)
    ∙ goes-all _ _ _ _ _ _ c.loop-k.invariant n (rw c.record_bytes-bytes.ensures) all
