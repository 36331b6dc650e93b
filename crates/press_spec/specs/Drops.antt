-- 6. Drops: "Right after the record that uses a node last comes its drop; two drops go by rising number in the pressed sheet. The sink is
-- never dropped." And the core, "the set of rule lines of the emitted given records".
use Rattle.std.specs.Prelude.{ℕ, ◌+◌, min, max, cond, List, [], ◌∷◌, ◌++◌, eqb, set}
use Rattle.sheet.specs.Records.{Node, Record, node, drop}
use Rattle.press_spec.specs.Links.{Link, leaf, join, link, links}
use Rattle.press_spec.specs.Trim.{uses}

-- the drop of n, unless a later node uses it
unfoldable pub drop_last : List Link → ℕ → List Record
drop_last later n = cond (eqb (uses later n) 0) (drop n ∷ []) []

unfoldable pub drops_after : Link → List Link → List Record
drops_after (leaf line) later = []
drops_after (join p l r) later = drop_last later (min l r) ++ cond (eqb l r) [] (drop_last later (max l r))

unfoldable pub with_drops : List Node → List Record
with_drops [] = []
with_drops (n ∷ later) = node n ∷ (drops_after (link n) (links later) ++ with_drops later)

-- the marks of rule lines, 1 for each line of a given node
unfoldable pub mark_link : Link → List ℕ → List ℕ
mark_link (leaf line) marks = set marks line 1
mark_link (join p l r) marks = marks

unfoldable pub mark_lines : List Link → List ℕ → List ℕ
mark_lines [] marks = marks
mark_lines (n ∷ s) marks = mark_lines s (mark_link n marks)

unfoldable pub total : List ℕ → ℕ
total [] = 0
total (m ∷ marks) = m + total marks
