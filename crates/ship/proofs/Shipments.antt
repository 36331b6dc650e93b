-- What the function answers, and that what it lends on is there.
use Rattle.std.proofs.Common.{Result, Ok, Err}
use Prim.Native.Nat.{ℕ, ◌-◌, ◌*◌, ◌≤◌}
use mathlib.Core.Path.{◌≡◌, sym, ap, ◌∙◌}
use mathlib.Core.List.{List}
use native.Mathlib.Omega.{arith}
use lib.ListN.{length, take, replicate}
use Rattle.sheet.specs.declared.Refusal.{Refusal}
use Rattle.sheet.specs.declared.edition.Edition.{Edition}
use Rattle.sheet.specs.Editions.{record_bytes, most_records}
use Rattle.sheet.proofs.Sizes.{bytes-grow, pressed-few}
use Rattle.replay_spec.specs.Slots.{empty}
use Rattle.replay_spec.specs.Replay as Replay
use Rattle.replay_answer.specs.declared.Replayed.{Replayed}
use Rattle.replay_answer.specs.Answers as ReplaySaid
use Rattle.press_spec.specs.declared.Plan.{Plan}
use Rattle.press_spec.specs.Press as Press
use Rattle.press_spec.specs.Press.{Call}
use Rattle.press_spec.proofs.Nodes.{proper-falling}
use Rattle.press_spec.proofs.Drops.{length-with_drops-most}
use Rattle.press_spec.proofs.Accepts.{Says, accepted-says}
use Rattle.press_write.specs.declared.Pressed.{Pressed}
use Rattle.press_write.specs.Reported.{reported}
use Rattle.press.specs.Said as PressSaid
use Rattle.press.specs.Said.{PressAnswer}
use Rattle.demands.specs.Shipping.{try_out, ship}
use Rattle.ship.specs.Said.{said_of_shipment}

module _ (plan : Plan) (c : Call) (a : PressAnswer) (out marks : List ℕ) (does : Press.outcome (PressSaid.said a) out marks ≡ Press.press plan c) where
  abbrev e : Edition
  e = plan.edition

  pub ships-refused : (r : Refusal) (slots : ℕ) → a ≡ Err r → said_of_shipment (Err r) ≡ ship plan c slots
  unfolding ship try_out said_of_shipment PressSaid.said
  ships-refused r slots q = rw (← does, q)

  pub ships-tried : (p : Pressed) (r : Result Replayed Refusal) (slots end : ℕ) → a ≡ Ok p → end ≡ record_bytes e * p.records
      → ReplaySaid.said r ≡ (Replay.replay e (take end out) c.rules (replicate slots empty)).answer
      → said_of_shipment (Ok (record { pressed = p; replayed = r })) ≡ ship plan c slots
  unfolding ship try_out said_of_shipment PressSaid.said
  ships-tried p r slots end q long s = rw (← does, q, ← does, ← long, s)

  module _ (p : Pressed) (q : a ≡ Ok p) where
    answered : (Press.press plan c).answer ≡ Press.accepted (reported p)
    unfolding PressSaid.said
    answered = ap (λ (o : Press.Outcome). o.answer) (sym does) ∙ ap PressSaid.said q

    abbrev says : Says plan c (reported p)
    says = accepted-says plan c (reported p) answered

    abbrev input : ℕ
    input = length says.input

    records-fit-in : p.records ≤ 2 * input - 1
    records-fit-in =
        let s = Press.pressed plan says.input in
        let kept = says.kept in
        omega (arith, length-with_drops-most s (proper-falling e c.rules s kept.proper), says.recorded, kept.fits, kept.some)

    pub written-few : p.records ≤ most_records
    written-few = omega (arith, records-fit-in, says.enough.0.2, pressed-few e)

    pub written-fits : length out ≡ length c.out → record_bytes e * p.records ≤ length out
    written-fits long = omega (arith, bytes-grow e p.records (2 * input - 1) records-fit-in, says.enough.1.0, long)
