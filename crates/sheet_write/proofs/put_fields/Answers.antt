use Prim.Native.Nat.{◌+◌}
use mathlib.Core.Path.{refl}
use native.Mathlib.Omega.{arith}
use Rattle.base.specs.Bytes.{bytes}
use Rattle.base.proofs.Bytes.{then}
use Rattle.clause.specs.Denote.{literals_of}
use Rattle.sheet.specs.Fields.{clause_bytes, number_bytes, field_bytes}
use Rattle.sheet.specs.Denote.{fields_in}
use Rattle.sheet.proofs.Sizes.{record-size}
use Rattle.sheet_write.proofs.put_fields.Goals as goal

pub returns : goal.returns
unfolding field_bytes number_bytes bytes
returns c = let clause = c in
    let numbers = clause in
    let a = numbers.args in
    then a.d.now a.at (number_bytes (fields_in a.f)) (clause_bytes a.edition (literals_of a.f.clause)) (a.at + 8) numbers.put_numbers.ensures clause.put_clause.ensures refl
    (omega (arith, record-size a.edition))
