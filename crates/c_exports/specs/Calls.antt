-- What a call from C comes to: the answer, and what the lent memory then holds.
use Rattle.std.specs.Prelude.{ℕ, cond, List, Result, Ok, Err}
use Rattle.press_spec.specs.declared.Plan.{Plan}
use Rattle.press_spec.specs.Press as Press
use Rattle.press_spec.specs.Press.{Call}
use Rattle.replay_spec.specs.Slots.{Slot}
use Rattle.replay_spec.specs.Replay as Replay
use Rattle.c_report.specs.Report.{fill, press_code, press_words, replay_code, replay_words}
use Rattle.c_report.specs.Named.{no_edition, unnamed_code, names, edition_of, plan_of}
use Rattle.c_report.specs.declared.named.Unnamed.{Unnamed}

pub record Pressing : Type 0 where
  pub code : ℕ
  pub out : List ℕ
  pub marks : List ℕ
  pub report : List ℕ

abbrev pub pressing : ℕ → List ℕ → List ℕ → List ℕ → Pressing
pressing code out marks report = record { code = code; out = out; marks = marks; report = report }

-- what a press came to, told
unfoldable pub told_press : Press.Outcome → List ℕ → Pressing
told_press o report = pressing (press_code o.answer) o.out o.marks (fill 0 (press_words o.answer) report)

-- by the plan that is named; numbers that name none touch nothing
unfoldable pub press_as : Result Plan Unnamed → Call → List ℕ → Pressing
press_as (Ok plan) c report = told_press (Press.press plan c) report
press_as (Err what) c report = pressing (unnamed_code what) c.out c.marks report

-- by the numbers of the edition, the recycling and the lowering
unfoldable pub press_by : ℕ → ℕ → ℕ → Call → List ℕ → Pressing
press_by e r l c report = press_as (plan_of e r l) c report

pub record Replaying : Type 0 where
  pub code : ℕ
  pub slots : List Slot
  pub report : List ℕ

abbrev pub replaying : ℕ → List Slot → List ℕ → Replaying
replaying code slots report = record { code = code; slots = slots; report = report }

unfoldable pub told_replay : Replay.Outcome → List ℕ → Replaying
told_replay o report = replaying (replay_code o.answer) o.slots (fill 0 (replay_words o.answer) report)

-- by the number of the edition
unfoldable pub replay_by : ℕ → List ℕ → List ℕ → List Slot → List ℕ → Replaying
replay_by n sheet rules slots report =
    cond (names n) (told_replay (Replay.replay (edition_of n) sheet rules slots) report) (replaying no_edition slots report)
