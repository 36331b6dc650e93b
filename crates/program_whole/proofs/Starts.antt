-- Two files that pass checks 1 to 5 stand whole in the buffers, so pressing their starts is pressing them; and what is accepted fits.
use Rattle.std.proofs.Common.{Err, Ok}
use Prim.Native.Nat.{ℕ, ◌*◌, ◌/◌, ◌≤◌}
use mathlib.Core.Path.{◌≡◌, sym, ap}
use mathlib.Core.List.{List}
use native.Mathlib.Omega.{arith}
use lib.ListN.{length, take}
use Rattle.sheet.specs.declared.Reason.{Reason}
use Rattle.sheet.specs.Reasons.{Verdict}
use Rattle.sheet.specs.declared.edition.Edition.TheVariants.{Narrow}
use Rattle.sheet.specs.Editions.{record_bytes, line_bytes, press_records, table_lines}
use Rattle.press_spec.specs.Judge.{Sizes, sizes, check_press}
use Rattle.press_spec.specs.Press.{Call, call, Outcome, outcome, pressed, press}
use Rattle.press_spec.proofs.Nodes.{proper-falling}
use Rattle.press_spec.proofs.Drops.{length-with_drops-most}
use Rattle.press_spec.proofs.Accepts.{Enough, press-fine, accepted-says}
use Rattle.press_write.specs.declared.Pressed.{Pressed}
use Rattle.press_write.specs.Reported.{reported}
use Rattle.press.specs.Said.{PressAnswer, said}
use Rattle.press.proofs.Ready.{press-refused}
use Rattle.program_whole.specs.Whole.{program_plan, Starts, Fits}

module _ (z : Sizes) (fine : check_press Narrow z ≡ Ok tt) where
  enough : Enough Narrow z (z.sheet / record_bytes Narrow)
  enough = press-fine Narrow z fine

  pub sheet-short : z.sheet ≤ record_bytes Narrow * press_records Narrow
  sheet-short = omega (arith, enough.0.0, enough.0.2)

  pub rules-short : z.rules ≤ line_bytes Narrow * table_lines Narrow
  rules-short = omega (arith, enough.0.3.0, enough.0.3.1)

pub whole-refused : (v : Verdict) (why : Reason) (m n : ℕ) (sheet rules out marks s t : List ℕ)
    → v ≡ check_press Narrow (sizes m n (length out) (length marks)) → v ≡ Err why → Starts s m sheet → Starts t n rules
    → outcome (said (Err (record { why = why; at = record { 0 = 0 } }))) out marks ≡ press program_plan (call s t out marks)
whole-refused v why m n sheet rules out marks s t q e a b = press-refused program_plan (call s t out marks) v why (rw (a.0, b.0) q) e

pub whole-pressed : (m n : ℕ) (sheet rules out marks s t : List ℕ) (o : Outcome) → m ≤ length sheet → n ≤ length rules
    → Starts s m sheet → Starts t n rules → o ≡ press program_plan (call (take m sheet) (take n rules) out marks) → o ≡ press program_plan (call s t out marks)
whole-pressed m n sheet rules out marks s t o i j a b e = rw (a.1 i, b.1 j) e

pub accepted-fits : (r : PressAnswer) (c : Call) (out marks : List ℕ) → outcome (said r) out marks ≡ press program_plan c → Fits (length c.out) r
unfolding said
accepted-fits (Ok p) c out marks e =
    let y = accepted-says program_plan c (reported p) (sym (ap (λ (o : Outcome). o.answer) e)) in
    let s = pressed program_plan y.input in
    let most = length-with_drops-most s (proper-falling Narrow c.rules s y.kept.proper) in
    omega (arith, y.recorded, most, y.kept.fits, y.kept.some, y.enough.1.0)
accepted-fits (Err r) c out marks e = tt

pub fits-bytes : (room : ℕ) (r : PressAnswer) (p : Pressed) → r ≡ Ok p → Fits room r → record_bytes Narrow * p.records ≤ room
fits-bytes room r p e f = rw e at f
