-- (ii) Last uses in one walk: "Finding where a node is used last .. Do it in one walk from the end."
use Rattle.std.specs.Prelude.{ℕ, ◌+◌, Bool, cond, List, [], ◌∷◌, eqb, ltb, length, get_or, set, replicate}
use Rattle.base.specs.Folds.{fall}
use Rattle.sheet.specs.Records.{Record, drop}
use Rattle.press_spec.specs.Links.{Link, leaf, join, link_at}

-- node i names n: that is its last use, unless one is noted already, since the walk comes from the end
unfoldable pub note_use : ℕ → ℕ → List ℕ → List ℕ
note_use i n last = cond (eqb (get_or last n 0) 0) (set last n (i + 1)) last

unfoldable pub note_uses : ℕ → Link → List ℕ → List ℕ
note_uses i (leaf line) last = last
note_uses i (join p l r) last = note_use i r (note_use i l last)

unfoldable pub last_turn : List Link → ℕ → List ℕ → List ℕ
last_turn s i last = note_uses i (link_at s i) last

-- for each node one more than the number of the last node that names it, or 0 if none does
unfoldable pub last_uses : List Link → List ℕ
last_uses s = fall (last_turn s) (length s) (replicate (length s) 0)

-- by such a table: a node after k names n
unfoldable pub used_after : List ℕ → ℕ → ℕ → Bool
used_after last k n = ltb (k + 1) (get_or last n 0)

-- the drop of n after node k, unless a later node names it
unfoldable pub drop_by : List ℕ → ℕ → ℕ → List Record
drop_by last k n = cond (used_after last k n) [] (drop n ∷ [])
