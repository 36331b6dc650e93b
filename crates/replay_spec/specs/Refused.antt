-- When the replay refuses, and what it then answers, with no word of how it is found out.
use Rattle.std.specs.Prelude.{ℕ, ◌-◌, ◌/◌, ◌≤◌, ◌≡◌, true, ◌⊎◌, List, length}
use Rattle.sheet.specs.declared.Reason.TheVariants.{Full, NotHeld}
use Rattle.sheet.specs.declared.edition.Edition.{Edition}
use Rattle.sheet.specs.Editions.{record_bytes, replay_records}
use Rattle.sheet.specs.Reasons.{number_of}
use Rattle.sheet.specs.Records.{Record}
use Rattle.sheet.specs.Counts.{nodes_of, held_from, peak_from}
use Rattle.sheet.specs.Proper.{Held}
use Rattle.sheet.specs.Refusals.{Lent, LentRefused, LentFine, Place, Good, RecordRefused}
use Rattle.replay_spec.specs.Slots.{Slot}
use Rattle.replay_spec.specs.Replay.{refused, replay}

-- no number of slots is too small to begin with
abbrev pub lent_to : Edition → List ℕ → List ℕ → Lent
lent_to e sheet rules = record { edition = e; most = replay_records e; sheet = length sheet; rules = length rules; Small = ⊥ }

-- a record of the replay's after the records rs: drops are a known kind, and a node needs one of so many slots
abbrev pub place_after : Edition → List ℕ → ℕ → List Record → Place
place_after e rules slots rs = record { edition = e; drops = true; rules = rules; before = rs; Crowded = held_from 0 rs ≡ slots }

-- all records are good, and at the end the last node isn't held: 16, with the count of records
abbrev pub EndRefused : Edition → List ℕ → List ℕ → List Record → ℕ → ℕ → Type 0
EndRefused e sheet rules rs n k =
    Good e true rules sheet rs
    × (k ≡ length rs)
    × (k ≡ length sheet / record_bytes e)
    × (Held rs (length (nodes_of rs) - 1) → ⊥)
    × (n ≡ number_of NotHeld)

-- the replay answers number n and record k: no more nodes than slots were ever held before
abbrev pub Refuses : Edition → List ℕ → List ℕ → ℕ → ℕ → ℕ → Type 0
Refuses e sheet rules slots n k =
    LentRefused (lent_to e sheet rules) n k
    ⊎ ((rs : List Record)
    × LentFine (lent_to e sheet rules)
    × (peak_from 0 rs ≤ slots)
    × (RecordRefused (place_after e rules slots rs) sheet n k ⊎ EndRefused e sheet rules rs n k))

abbrev pub ReplayRefuses : Type 0
ReplayRefuses =
    (e : Edition) (sheet rules : List ℕ) (slots : List Slot) (n k : ℕ)
    → ((replay e sheet rules slots).answer ≡ refused n k → Refuses e sheet rules (length slots) n k)
    × (Refuses e sheet rules (length slots) n k → (replay e sheet rules slots).answer ≡ refused n k)

-- 15 is given only where as many nodes are held after the records before as there are slots
abbrev pub FullOnlyWhenFull : Type 0
FullOnlyWhenFull =
    (e : Edition) (sheet rules : List ℕ) (slots : List Slot) (k : ℕ)
    → (replay e sheet rules slots).answer ≡ refused (number_of Full) k
    → (rs : List Record) × Good e true rules sheet rs × (k ≡ length rs) × (held_from 0 rs ≡ length slots)
