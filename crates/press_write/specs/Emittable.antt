-- What emitting nodes may assume.
use Rattle.std.specs.Prelude.{ℕ, ◌≤◌, List, length}
use Rattle.sheet.specs.declared.edition.Edition.{Edition}
use Rattle.sheet.specs.Editions.{most_lines}
use Rattle.sheet.specs.Records.{Node}
use Rattle.press_spec.specs.Links.{links}
use Rattle.press_spec.specs.Drops.{with_drops}
use Rattle.press_emit.specs.Emission.{unwritten, Roomy}
use Rattle.press_marks.specs.Marking.{LinesBelow}

-- nodes that can be emitted: room for their records, and a mark for each rule line
pub record Emittable (e : Edition) (lines : ℕ) (s : List Node) (out marks : List ℕ) : Type 0 where
  pub some : 1 ≤ length s
  pub roomy : Roomy (with_drops s) (unwritten e out)
  pub lines-few : lines ≤ most_lines
  pub marks-enough : lines ≤ length marks
  pub below : LinesBelow lines (links s)
