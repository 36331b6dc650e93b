use lib.ListN.{get_or}
use Rattle.sheet.specs.Fields.{fields, fields_of}
use Rattle.sheet_record.proofs.fields_of.Goals as goal

pub returns : goal.returns
unfolding fields_of
returns c = let line = c in
    let right = line in
    let left = right in
    let b = left.args.b.now in
    λ i. fields (get_or b 0 0) (get_or b 1 0) (left.u16_at.ensures i) (right.u16_at-2.ensures i) (line.u16_at-3.ensures i) (c.clause_at.ensures i)
