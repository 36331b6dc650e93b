-- What is answered, written and marked of what step 5 orders.
use Rattle.std.specs.Prelude.{ℕ, List, ◌≡◌}
use Rattle.base.specs.Bytes.{put}
use Rattle.sheet.specs.declared.edition.Edition.{Edition}
use Rattle.sheet.specs.Fields.{sheet_bytes}
use Rattle.press_spec.specs.Drops.{with_drops}
use Rattle.press_spec.specs.Rebuild.{Ended}
use Rattle.press_spec.specs.Press.{arranged, order_of, core, report}
use Rattle.press_write.specs.declared.Pressed.{Pressed}
use Rattle.press_write.specs.Reported.{reported}

abbrev pub Finishes : Edition → ℕ → Ended → Pressed → List ℕ → List ℕ → List ℕ → List ℕ → Type 0
Finishes e lines t r out marks out' marks' =
    (reported r ≡ report lines (order_of t) (arranged t))
    × (out' ≡ put out 0 (sheet_bytes e (with_drops (arranged t))))
    × (marks' ≡ put marks 0 (core lines (arranged t)))
