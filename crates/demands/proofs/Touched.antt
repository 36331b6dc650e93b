-- An unmarked rule line is the user's to change: a line that the pressed sheet names is marked, so the replay finds the same in either table.
use Prim.Native.Nat.{ℕ, ◌<◌}
use mathlib.Core.Path.{◌≡◌, refl, sym, ◌∙◌}
use mathlib.Core.List.{List}
use native.Mathlib.Omega.{arith}
use lib.ListN.{length}
use borrow.Author.Tests.{lt-ltb}
use Rattle.sheet.specs.declared.edition.Edition.{Edition}
use Rattle.sheet.specs.Editions.{replay_records}
use Rattle.sheet.specs.Records.{given, step, Record, node, drop}
use Rattle.sheet.specs.Fields.{rule_lines}
use Rattle.sheet.specs.Proper.{record_in}
use Rattle.sheet.proofs.Fine.{Lines, Lengths, table-fine}
use Rattle.replay_spec.proofs.Lines.{SameLine}
use Rattle.replay_spec.proofs.Alike.{replay-alike, after-alike, answer-alike}
use Rattle.press_spec.specs.declared.Plan.{Plan}
use Rattle.press_spec.specs.Drops.{with_drops}
use Rattle.press_spec.specs.Press.{Call, Report, pressed}
use Rattle.demands.specs.Demands.{written, Touched, MineToChange, StillSound}
use Rattle.demands.proofs.Written.{Wrote, accepted-wrote}
use Rattle.demands.proofs.Marked.{marks-exact, press-sound}

module _ (plan : Plan) (c : Call) (report : Report) (w : Wrote plan c report) where
  abbrev e : Edition
  e = plan.edition

  abbrev rs : List Record
  rs = with_drops (pressed plan w.says.input)

  lengths : (rules : List ℕ) → Lines e (length rules) → Lengths e (replay_records e) (length (written plan c report)) (length rules) (length rs)
  lengths rules lines = (w.proper.read.size, w.proper.some, w.proper.few, lines)

  same_lines : (rules : List ℕ) → Touched plan c rules → (k : ℕ) → k < length rs → SameLine e c.rules rules (record_in rs k)
  same_lines rules u k h = by (record_in rs k) refl
    where
      by : (r : Record) → record_in rs k ≡ r → SameLine e c.rules rules r
      by (node (given line d)) q =
          let (inside, one) = (marks-exact plan c report w rs w.proper.read).0 k line d h q in (
            lt-ltb line (rule_lines e c.rules) inside ∙ sym (lt-ltb line (rule_lines e rules) (u.contains line inside one)),
            u.agrees line inside one,
          )
      by (node (step p l r d)) q = tt
      by (drop n) q = tt

pub mine-to-change : MineToChange
mine-to-change plan c report rules slots others a u many =
    let w = accepted-wrote plan c report a in
    let read = w.proper.read in
    let same = same_lines plan c report w rules u in
    let l = lengths plan c report w c.rules w.proper.lines in
    let l' = lengths plan c report w rules (table-fine plan.edition (length rules) u.whole) in (
      replay-alike plan.edition c.rules rules _ _ read same l l' slots others many,
      (λ k h. after-alike plan.edition c.rules rules _ _ read same l l' slots others many k (omega (arith, w.says.recorded))),
      (λ k h. answer-alike plan.edition c.rules rules _ _ read same l l' slots others many k (omega (arith, w.says.recorded))),
    )

pub still-sound : StillSound
still-sound plan c report rules m a u all =
    press-sound plan c report (accepted-wrote plan c report a) m (λ line inside one. rw (u.agrees line inside one) (all line inside one))
