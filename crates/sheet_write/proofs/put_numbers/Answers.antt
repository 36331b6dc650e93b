use Prim.Native.Nat.{◌+◌}
use mathlib.Core.Path.{refl}
use mathlib.Core.List.{[], ◌∷◌, ◌++◌}
use native.Mathlib.Omega.{arith}
use Rattle.base.specs.Bytes.{bytes}
use Rattle.base.proofs.Bytes.{then}
use Rattle.sheet.specs.Fields.{number_bytes}
use Rattle.sheet_write.proofs.put_numbers.Goals as goal

pub returns : goal.returns
unfolding number_bytes bytes
returns c = let line = c in
    let right = line in
    let left = right in
    let pair = left in
    let a = pair.args in
    let f = a.f in
    let d = a.d.now in
    let b2 = f.kind ∷ f.pivot ∷ [] in
    let b4 = b2 ++ bytes 2 f.left in
    let b6 = b4 ++ bytes 2 f.right in
    let to4 = then d a.at b2 (bytes 2 f.left) (a.at + 2) pair.put_pair.ensures left.put_u16.ensures refl (omega arith) in
    let to6 = then d a.at b4 (bytes 2 f.right) (a.at + 4) to4 right.put_u16-2.ensures refl (omega arith) in
    then d a.at b6 (bytes 2 f.line) (a.at + 6) to6 line.put_u16-3.ensures refl (omega arith)
