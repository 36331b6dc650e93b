-- What is said of an answer is said of the outcome that it belongs to.
use Rattle.std.proofs.Common.{Result, Ok, Err}
use mathlib.Core.Path.{◌≡◌}
use mathlib.Core.Bool.{true, false}
use mathlib.Core.List.{List}
use Prim.Native.Nat.{ℕ}
use Rattle.sheet.specs.declared.edition.Edition.{Edition}
use Rattle.press_spec.specs.declared.Plan.{Plan}
use Rattle.press_spec.specs.Press.{Call, Answer, outcome, press}
use Rattle.replay_spec.specs.Slots.{Slot}
use Rattle.replay_spec.specs.Replay.{Answer as ReplayAnswer, outcome as replay-outcome, replay}
use Rattle.c_report.specs.Report.{fill, press_code, press_words, replay_code, replay_words}
use Rattle.c_report.specs.Named.{no_edition, unnamed_code, names, edition_of, plan_of}
use Rattle.c_report.specs.declared.named.Unnamed.{Unnamed}
use Rattle.c_exports.specs.Calls.{pressing, told_press, press_as, press_by, replaying, told_replay, replay_by}

-- the answer of a press, told, by the plan that the numbers name
pub told-press : (e r l : ℕ) (plan : Plan) (c : Call) (a : Answer) (out marks report report' : List ℕ) (code : ℕ) (named : Result Plan Unnamed)
    → named ≡ plan_of e r l → named ≡ Ok plan
    → outcome a out marks ≡ press plan c → (code ≡ press_code a) × (report' ≡ fill 0 (press_words a) report)
    → pressing code out marks report' ≡ press_by e r l c report
unfolding press_by press_as told_press
told-press e r l plan c a out marks report report' code named q is o t = rw (← q, is, ← o, t.0, t.1)

pub told_none : (e r l : ℕ) (c : Call) (report : List ℕ) (code : ℕ) (what : Unnamed) (named : Result Plan Unnamed) → named ≡ plan_of e r l → named ≡ Err what
    → code ≡ unnamed_code what → pressing code c.out c.marks report ≡ press_by e r l c report
unfolding press_by press_as
told_none e r l c report code what named q is n = rw (← q, is, n)

-- and that of a replay
pub told-replay : (n : ℕ) (e : Edition) (sheet rules : List ℕ) (before after : List Slot) (a : ReplayAnswer) (report report' : List ℕ) (code : ℕ) → names n ≡ true → e ≡ edition_of n
    → replay-outcome a after ≡ replay e sheet rules before → code ≡ replay_code a → report' ≡ fill 0 (replay_words a) report
    → replaying code after report' ≡ replay_by n sheet rules before report
unfolding replay_by told_replay
told-replay n e sheet rules before after a report report' code known q o c w = rw (known, ← q, ← o, c, w)

pub told-no-replay : (n : ℕ) (sheet rules : List ℕ) (slots : List Slot) (report : List ℕ) (code : ℕ) → names n ≡ false → code ≡ no_edition → replaying code slots report ≡ replay_by n sheet rules slots report
unfolding replay_by
told-no-replay n sheet rules slots report code unknown c = rw (unknown, c)
