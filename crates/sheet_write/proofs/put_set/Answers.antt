use mathlib.Core.Path.{sym, ap, ◌∙◌}
use native.Mathlib.Omega.{arith}
use lib.Pow.{low}
use Rattle.base.specs.Bytes.{bytes, put}
use Rattle.base.proofs.Bytes.{bytes-mod}
use Rattle.clause.specs.Denote.{set_of}
use Rattle.sheet.specs.declared.edition.Edition.{Edition}
use Rattle.sheet.specs.Editions.{set_bytes}
use Rattle.sheet_write.proofs.put_set.Goals as goal

pub returns-in-Narrow : goal.returns-in-Narrow
returns-in-Narrow c = let a = c.args in
    let s = a.s in
    c.put_word.ensures
    ∙ ap (put a.d.now a.at) (ap (bytes 8) (sym (low s.high 64 (omega arith))) ∙ bytes-mod 8 (set_of s))
    ∙ sym (ap (λ (e : Edition). put a.d.now a.at (bytes (set_bytes e) (set_of s))) c.in-Narrow.is)
