use Prim.Native.Nat.{◌+◌}
use native.Mathlib.Omega.{arith}
use Rattle.base.specs.Bytes.{bytes}
use Rattle.base.proofs.Bytes.{length-bytes, then}
use Rattle.clause.specs.Denote.{set_of}
use Rattle.sheet.specs.Editions.{set_bytes}
use Rattle.sheet.specs.Fields.{clause_bytes}
use Rattle.sheet.proofs.Sizes.{line-size}
use Rattle.sheet_write.proofs.put_clause.Goals as goal

pub returns : goal.returns
unfolding clause_bytes
returns c = let second = c in
    let size = second.set_bytes.ensures in
    let first = second in
    let a = first.args in
    let n = set_bytes a.edition in
    let x = a.c.positive in
    then a.d.now a.at (bytes n (set_of x)) (bytes n (set_of a.c.negative)) (a.at + second.set_bytes.result) first.put_set.ensures second.put_set-2.ensures
    (omega (arith, size, length-bytes n (set_of x))) (omega (arith, size, line-size a.edition))
