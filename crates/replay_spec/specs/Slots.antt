-- "The clauses held live in a lent row of slots, each with a node number, two sets and a mark of whether it's in use; a free slot is
-- all zero." A slot whose mark is not zero is in use, whatever its other fields hold.
use Rattle.std.specs.Prelude.{ℕ, zero, suc, Bool, true, false, not, ◌&&◌, cond, List, [], ◌∷◌, eqb, length, set, replicate}
use Rattle.clause.specs.Clauses.{Literals, none}

pub record Slot : Type 0 where
  pub used : ℕ
  pub node : ℕ
  pub clause : Literals

abbrev pub slot : ℕ → ℕ → Literals → Slot
slot u n c = record { used = u; node = n; clause = c }

abbrev pub empty : Slot
empty = slot 0 0 none

unfoldable pub free : Slot → Bool
free s = eqb s.used 0

unfoldable pub holding : ℕ → Slot → Bool
holding n s = not (eqb s.used 0) && eqb s.node n

-- ---- a place in the row, with the slot there; or nowhere

pub data Place : Type 0 where
  nowhere : Place
  at : ℕ → Slot → Place

unfoldable pub is_place : Place → Bool
is_place nowhere = false
is_place (at i s) = true

-- nowhere nothing is held
unfoldable pub slot_in : Place → Slot
slot_in nowhere = empty
slot_in (at i s) = s

-- the same place with another slot
unfoldable pub into : Slot → Place → Place
into s nowhere = nowhere
into s (at i x) = at i s

unfoldable pub put : Place → List Slot → List Slot
put nowhere slots = slots
put (at i s) slots = set slots i s

-- ---- a look through the row

unfoldable pub later : Place → Place
later nowhere = nowhere
later (at i s) = at (suc i) s

-- the first slot that passes a test
unfoldable pub find : (Slot → Bool) → List Slot → Place
find test [] = nowhere
find test (x ∷ row) = cond (test x) (at 0 x) (later (find test row))

-- what is looked for: nothing, a free slot, or the one that holds a node
pub data Sought : Type 0 where
  nothing : Sought
  vacancy : Sought
  holder : ℕ → Sought

unfoldable pub look : Sought → List Slot → Place
look nothing slots = nowhere
look vacancy slots = find free slots
look (holder n) slots = find (holding n) slots

-- the last node, of so many
unfoldable pub last_of : ℕ → Sought
last_of zero = nothing
last_of (suc n) = holder n

-- ---- what the row holds

unfoldable pub held : ℕ → List Slot → Bool
held n slots = is_place (find (holding n) slots)

unfoldable pub clause_held : ℕ → List Slot → Literals
clause_held n slots = (slot_in (find (holding n) slots)).clause

unfoldable pub room : List Slot → Bool
room slots = is_place (find free slots)

-- "A node takes the lowest free slot, and a drop zeroes its slot."
unfoldable pub hold : ℕ → Literals → List Slot → List Slot
hold n c slots = put (into (slot 1 n c) (find free slots)) slots

unfoldable pub release : ℕ → List Slot → List Slot
release n slots = put (into empty (find (holding n) slots)) slots

unfoldable pub cleared : List Slot → List Slot
cleared slots = replicate (length slots) empty
