use Rattle.std.proofs.Common.{◌≡◌, ℕ, ◌*◌, Ok, Err, sym, ap, ◌∙◌, arith}
use Rattle.std.proofs.lemmas.Grind.{common_steps}
use Rattle.std.proofs.lemmas.Result.{err_from_is_err_and}
use lib.Seq.{length-take-le}
use Rattle.sheet.specs.Editions.{record_bytes}
use Rattle.ship.proofs.Shipments.{ships-refused, ships-tried, written-few, written-fits}
use Rattle.ship.proofs.press_and_replay.Goals as goal

pub returns-in_err-pressed-clause-answer : goal.returns-in_err-pressed-clause-answer
returns-in_err-pressed-clause-answer c =
    let p = err_from_is_err_and c.from_residual.result c.from_residual.ensures.1 in
    let refused : c.press.result ≡ Err c.in_err-pressed.field-0.0 = grind (arith, common_steps) in
    rw (p.1, p.2) (ships-refused _ _ _ _ _ c.press.ensures _ _ refused)

pub bytes_of-end-requires : goal.bytes_of-end-requires
bytes_of-end-requires c =
    let done : c.press.result ≡ Ok c.in_ok-pressed.pressed = grind (arith, common_steps) in
    omega (arith, c.from.ensures, written-few _ _ _ _ _ c.press.ensures _ done)

pub slice_bounds-replay_in-end : goal.slice_bounds-replay_in-end
slice_bounds-replay_in-end c =
    let done : c.press.result ≡ Ok c.in_ok-pressed.pressed = grind (arith, common_steps) in
    let ends = c.bytes_of-end.ensures ∙ ap (λ (n : ℕ). record_bytes c.args.plan.edition * n) c.from.ensures in
    omega (arith, ends, written-fits _ _ _ _ _ c.press.ensures _ done c.press.auto.out)

pub slice_bounds-replay_in-end-2 : goal.slice_bounds-replay_in-end-2
slice_bounds-replay_in-end-2 c =
    let done : c.press.result ≡ Ok c.in_ok-pressed.pressed = grind (arith, common_steps) in
    let ends = c.bytes_of-end.ensures ∙ ap (λ (n : ℕ). record_bytes c.args.plan.edition * n) c.from.ensures in
    sym (length-take-le _ _ (omega (arith, ends, written-fits _ _ _ _ _ c.press.ensures _ done c.press.auto.out)))

pub returns-clause-answer : goal.returns-clause-answer
returns-clause-answer c =
    let done : c.press.result ≡ Ok c.in_ok-pressed.pressed = grind (arith, common_steps) in
    let ends = c.bytes_of-end.ensures ∙ ap (λ (n : ℕ). record_bytes c.args.plan.edition * n) c.from.ensures in
    ships-tried _ _ _ _ _ c.press.ensures _ _ _ _ done ends c.replay_in-replayed.ensures
