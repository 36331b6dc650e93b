use Rattle.std.proofs.Common.{rules}
use Rattle.std.proofs.lemmas.Option.{IfSome_then}
use Rattle.stdio.proofs.Puts.{puts-all}
use Rattle.stdio.proofs.text.print_to.Goals as goal

pub returns-in_ok-shown-in-None : goal.returns-in_ok-shown-in-None
returns-in_ok-shown-in-None g c =
    let held = g.W.Write.contents in
    IfSome_then (g.D.Display.output c.args.text) c.in_ok-shown-in-None.ensures.writes (λ bs wrote.
    let (same, put) = puts-all (λ s. s.to.ghost_name) (λ s. s.error) (λ s. held s.to.now) _ bs _ wrote in
    let appended = (put (search rules)).1 in
    search rules)
