-- A look through the row as a loop makes it, and a place as an index.
use Rattle.std.specs.Prelude.{ℕ, Bool, false}
use Rattle.replay_spec.specs.Slots.{Slot, free, holding, Place, nowhere, at, Sought, nothing, vacancy, holder}

-- whether a slot is the one sought
unfoldable pub is_sought : Sought → Slot → Bool
is_sought nothing = λ s. false
is_sought vacancy = free
is_sought (holder n) = holding n

-- of so many slots, how many are passed in a look that ends nowhere
unfoldable pub passed : Sought → ℕ → ℕ
passed nothing slots = 0
passed vacancy slots = slots
passed (holder n) slots = slots

-- the index in a row of so many slots; nowhere is past it
unfoldable pub index_in : Place → ℕ → ℕ
index_in nowhere slots = slots
index_in (at i s) slots = i
