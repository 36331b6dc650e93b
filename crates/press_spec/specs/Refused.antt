-- When the press refuses, and what it then answers, with no word of how it is found out.
use Rattle.std.specs.Prelude.{ℕ, ◌-◌, ◌*◌, ◌/◌, ◌<◌, ◌≡◌, false, ◌⊎◌, List}
use Rattle.sheet.specs.declared.edition.Edition.{Edition}
use Rattle.sheet.specs.Editions.{record_bytes, line_bytes, press_records}
use Rattle.sheet.specs.Records.{Record}
use Rattle.sheet.specs.Refusals.{Lent, LentRefused, LentFine, Place, RecordRefused}
use Rattle.press_spec.specs.declared.Plan.{Plan}
use Rattle.press_spec.specs.Judge.{Sizes}
use Rattle.press_spec.specs.Press.{Call, sizes_of, refused, press}

-- room for output under 48N-24 bytes (wide: 80N-40; N input records), or marks shorter than the number of rule lines
abbrev pub Tight : Edition → Sizes → Type 0
Tight e z = (z.out < record_bytes e * (2 * (z.sheet / record_bytes e) - 1)) ⊎ (z.marks < z.rules / line_bytes e)

abbrev pub lent_to : Edition → Sizes → Lent
lent_to e z = record { edition = e; most = press_records e; sheet = z.sheet; rules = z.rules; Small = Tight e z }

-- a record of the press's after the records rs: drops are no known kind, and no node needs a slot
abbrev pub place_after : Edition → List ℕ → List Record → Place
place_after e rules rs = record { edition = e; drops = false; rules = rules; before = rs; Crowded = ⊥ }

-- the press answers number n and record k
abbrev pub Refuses : Edition → Call → ℕ → ℕ → Type 0
Refuses e c n k =
    LentRefused (lent_to e (sizes_of c)) n k
    ⊎ ((rs : List Record) × LentFine (lent_to e (sizes_of c)) × RecordRefused (place_after e c.rules rs) c.sheet n k)

abbrev pub PressRefuses : Type 0
PressRefuses =
    (plan : Plan) (c : Call) (n k : ℕ)
    → ((press plan c).answer ≡ refused n k → Refuses plan.edition c n k)
    × (Refuses plan.edition c n k → (press plan c).answer ≡ refused n k)
