use Prim.Native.Nat.{ℕ}
use mathlib.Core.List.{List}
use mathlib.Core.Path.{◌≡◌, sym, ap, subst, ◌∙◌}
use lib.ListN.{take}
use Rattle.clause.specs.declared.Clause.{Clause}
use Rattle.sheet.specs.Records.{Node}
use Rattle.press_spec.specs.Rebuild.{Ended, ended}
use Rattle.press_spec.specs.Press.{arranged}
use Rattle.press_nodes.specs.declared.link.Link.{Link as CodeLink}
use Rattle.press_nodes.specs.Tables.{nodes_in}
use Rattle.press_nodes.proofs.Tables.{nodes-front}
use Rattle.press_write.specs.Emittable.{Emittable}
use Rattle.press_passes.specs.Finishing.{Finishes}
use Rattle.press_passes.proofs.finish_lowered.Goals as goal

-- the front of the wider tables is what lowering says
finished : (n : ℕ) (links : List CodeLink) (clauses : List Clause) (last : ℕ) (t : Ended) → ended (take n (nodes_in links clauses)) last ≡ t
    → ended (nodes_in (take n links) (take n clauses)) last ≡ t
finished n links clauses last t e = ap (λ (s : List Node). ended s last) (nodes-front n links clauses) ∙ e

pub finish-requires-clause-from_len_bound : goal.finish-requires-clause-from_len_bound
finish-requires-clause-from_len_bound c =
    let l = c.lower-lowered in
    rw (ap arranged (finished l.result.nodes l.new.wider_links l.new.wider_clauses l.result.last.0 _ l.ensures.lowered)) c.requires.from_len_bound.1

pub finish-requires-clause-emittable : goal.finish-requires-clause-emittable
finish-requires-clause-emittable c =
    let a = c.args in
    let l = c.lower-lowered in
    let f = finished l.result.nodes l.new.wider_links l.new.wider_clauses l.result.last.0 _ l.ensures.lowered in
    subst (λ (t : Ended). Emittable a.edition a.lines (arranged t) a.out.now a.marks.now) (sym f) c.requires.emittable

pub returns : goal.returns
returns c =
    let a = c.args in
    let l = c.lower-lowered in
    let f = finished l.result.nodes l.new.wider_links l.new.wider_clauses l.result.last.0 _ l.ensures.lowered in
    subst (λ (t : Ended). Finishes a.edition a.lines t c.finish.result a.out.now a.marks.now c.finish.new.out c.finish.new.marks) f c.finish.ensures
