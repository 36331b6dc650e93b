use Rattle.press_nodes.specs.Tables.{links_in}
use Rattle.press_marks.proofs.Cores.{core-long, core-each, core-again, core-put}
use Rattle.press_marks.proofs.mark_lines.Goals as goal

pub count_marks-requires : goal.count_marks-requires
count_marks-requires c =
    let a = c.args in
    let s = links_in a.links.now in
    let h = c.requires.lines_le_most_lines in
    let again = core-again s a.marks.now a.lines h.1 _ c.mark_core.ensures in
    (rw (again, core-long s a.marks.now a.lines h.1 _ c.mark_core.ensures) h.0, λ i. rw again (core-each s a.marks.now a.lines h.1 _ c.mark_core.ensures i))

pub returns-clause-marks : goal.returns-clause-marks
returns-clause-marks c = core-put (links_in c.args.links.now) c.args.marks.now c.args.lines c.requires.lines_le_most_lines.1 _ c.mark_core.ensures
