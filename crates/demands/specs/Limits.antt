-- "1,024 input records and 2,047 for the replay", and of the wide edition "512 input records and 1,023 for its replay": so many are not refused by 3, one more is. Said of any bytes of so many records, whatever they hold, and
-- of whatever rule table, room, marks and slots are lent.
use Rattle.std.specs.Prelude.{ℕ, ◌-◌, ◌*◌, ◌%◌, ◌<◌, ◌≤◌, ◌≡◌, List, length, replicate}
use Rattle.clause.specs.Clauses.{BothWays}
use Rattle.sheet.specs.declared.edition.Edition.{Edition}
use Rattle.sheet.specs.declared.edition.Edition.TheVariants.{Narrow, Wide}
use Rattle.sheet.specs.Editions.{record_bytes, line_bytes, press_records, replay_records, table_lines}
use Rattle.sheet.specs.Records.{given, Record, node}
use Rattle.sheet.specs.Fields.{sheet_bytes, rule_lines, rule_line}
use Rattle.replay_spec.specs.Slots.{Slot}
use Rattle.replay_spec.specs.Replay as Replay
use Rattle.press_spec.specs.declared.Recycling.{Recycling}
use Rattle.press_spec.specs.declared.Plan.{Plan}
use Rattle.press_spec.specs.Plans.{plan, Lowering}
use Rattle.press_spec.specs.Press as Press
use Rattle.press_spec.specs.Press.{Call, Report}
use Rattle.demands.specs.Demands.{Bytes}

-- so many records are not too many: if the answer is a refusal, its number is not 3
abbrev pub PressTakes : Plan → ℕ → Type 0
PressTakes plan n = (c : Call) (k : ℕ) → length c.sheet ≡ record_bytes plan.edition * n → (Press.press plan c).answer ≡ Press.refused 3 k → ⊥

abbrev pub ReplayTakes : Edition → ℕ → Type 0
ReplayTakes e n =
    (sheet rules : List ℕ) (slots : List Slot) (k : ℕ)
    → length sheet ≡ record_bytes e * n
    → (Replay.replay e sheet rules slots).answer ≡ Replay.refused 3 k
    → ⊥

-- so many are: the answer is 3 at record 0, and what was lent is as it was
abbrev pub PressTurnsAway : Plan → ℕ → Type 0
PressTurnsAway plan n = (c : Call) → length c.sheet ≡ record_bytes plan.edition * n → Press.press plan c ≡ Press.outcome (Press.refused 3 0) c.out c.marks

abbrev pub ReplayTurnsAway : Edition → ℕ → Type 0
ReplayTurnsAway e n =
    (sheet rules : List ℕ) (slots : List Slot)
    → length sheet ≡ record_bytes e * n
    → Replay.replay e sheet rules slots ≡ Replay.outcome (Replay.refused 3 0) slots

-- ---- and there are sheets of so many records that are accepted: copies of the given record of line 0

abbrev pub copies : Edition → List ℕ → ℕ → List Record
copies e rules n = replicate n (node (given 0 (rule_line e rules 0)))

-- a rule table that has a line, with no variable both ways
pub record HasLine (e : Edition) (rules : List ℕ) : Type 0 where
  pub rule-bytes : Bytes rules
  pub whole : length rules % line_bytes e ≡ 0
  pub few : rule_lines e rules ≤ table_lines e
  pub some : 0 < rule_lines e rules
  pub one_way : BothWays (rule_line e rules 0) → ⊥

abbrev pub PressFills : Plan → ℕ → Type 0
PressFills plan n =
    let e = plan.edition in
    (rules out marks : List ℕ)
    → HasLine e rules
    → record_bytes e * (2 * n - 1) ≤ length out
    → rule_lines e rules ≤ length marks
    → (report : Report) × ((Press.press plan (Press.call (sheet_bytes e (copies e rules n)) rules out marks)).answer ≡ Press.accepted report)

abbrev pub ReplayFills : Edition → ℕ → Type 0
ReplayFills e n =
    (rules : List ℕ) (slots : List Slot)
    → HasLine e rules
    → n ≤ length slots
    → (Replay.replay e (sheet_bytes e (copies e rules n)) rules slots).answer
    ≡ Replay.accepted (record { conclusion = rule_line e rules 0; nodes = n; steps = 0; peak = n })

-- ---- of any number of records

abbrev pub Limits : Type 0
Limits =
    (plan : Plan) (n : ℕ)
    → let e = plan.edition in
    (n ≤ press_records e → PressTakes plan n × (0 < n → PressFills plan n))
    × (press_records e < n → PressTurnsAway plan n)
    × (n ≤ replay_records e → ReplayTakes e n × (0 < n → ReplayFills e n))
    × (replay_records e < n → ReplayTurnsAway e n)

-- ---- in the document's numbers: the last that is taken, and the first that is not

-- whatever is chosen
pub record PressLimit (e : Edition) (last first : ℕ) : Type 0 where
  pub takes : (how : Recycling) (low : Lowering) → PressTakes (plan e how low) last
  pub fills : (how : Recycling) (low : Lowering) → PressFills (plan e how low) last
  pub turns-away : (how : Recycling) (low : Lowering) → PressTurnsAway (plan e how low) first

pub record ReplayLimit (e : Edition) (last first : ℕ) : Type 0 where
  pub takes : ReplayTakes e last
  pub fills : ReplayFills e last
  pub turns-away : ReplayTurnsAway e first

abbrev pub AtTheLimits : Type 0
AtTheLimits = PressLimit Narrow 1024 1025 × ReplayLimit Narrow 2047 2048 × PressLimit Wide 512 513 × ReplayLimit Wide 1023 1024
