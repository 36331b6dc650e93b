-- What the answer of the press and the replay together says.
use Rattle.std.specs.Prelude.{Result, Ok, Err}
use Rattle.sheet.specs.declared.Refusal.{Refusal}
use Rattle.sheet.specs.Reasons.{number_of}
use Rattle.replay_answer.specs.Answers as ReplaySaid
use Rattle.press_spec.specs.Press.{accepted}
use Rattle.press_write.specs.Reported.{reported}
use Rattle.demands.specs.Shipping.{Shipped, unpressed, tried}
use Rattle.ship.specs.declared.Shipped.{Shipped as CodeShipped}

unfoldable pub said_of_shipment : Result CodeShipped Refusal → Shipped
said_of_shipment (Err r) = unpressed (number_of r.why) r.at.0
said_of_shipment (Ok s) = tried (accepted (reported s.pressed)) (ReplaySaid.said s.replayed)
