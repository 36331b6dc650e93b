-- "One small running tally: next node, held, peak, steps", over one record and over a run of them.
use Rattle.std.specs.Prelude.{ℕ, ◌+◌, ◌-◌, max, List, [], ◌∷◌}
use Rattle.sheet.specs.Records.{Record, node, drop}
use Rattle.sheet.specs.Counts.{step_of}

pub record Tally : Type 0 where
  pub next : ℕ
  pub held : ℕ
  pub peak : ℕ
  pub steps : ℕ

abbrev pub nothing : Tally
nothing = record { next = 0; held = 0; peak = 0; steps = 0 }

-- a node more, which counts so many steps
abbrev pub with_node : ℕ → Tally → Tally
with_node k t = record { next = t.next + 1; held = t.held + 1; peak = max t.peak (t.held + 1); steps = t.steps + k }

abbrev pub without_node : Tally → Tally
without_node t = record { next = t.next; held = t.held - 1; peak = t.peak; steps = t.steps }

-- the tally after a record that is taken
unfoldable pub counted : Tally → Record → Tally
counted t (node n) = with_node (step_of n) t
counted t (drop n) = without_node t

-- after a run of them
unfoldable pub tallied : List Record → Tally → Tally
tallied [] t = t
tallied (r ∷ rs) t = tallied rs (counted t r)
