-- What the turns of judging come to.
use Rattle.std.specs.Prelude.{List, Result, Ok, Err, ⊤}
use Rattle.sheet.specs.Records.{Node}
use Rattle.sheet.specs.declared.Refusal.{Refusal}
use Rattle.press_spec.specs.Judge.{Judged, proper, bad}

-- a judgement, with the nodes that stand in the tables
unfoldable pub judged_in : Result ⊤ Refusal → List Node → Judged
judged_in (Ok tt) s = proper s
judged_in (Err r) s = bad r.why r.at.0
