use mathlib.Core.Path.{sym, ap, ◌∙◌}
use mathlib.Core.List.{List}
use Rattle.sheet.specs.Editions.{most_nodes}
use Rattle.press_nodes.specs.declared.link.Link.{Link as CodeLink}
use Rattle.press_nodes.specs.Tables.{links_in}
use Rattle.press_nodes.proofs.Lent.{lent-long, front-again}
use Rattle.press_lay.proofs.Laying.{laid-links-sound}
use Rattle.press_peak.specs.Peaks.{peak_of_links}
use Rattle.press_better.proofs.peak_by.Goals as goal

pub peak_of_links-requires : goal.peak_of_links-requires
peak_of_links-requires c = let L = c.requires.laying in
    let few = c.requires.numbers_len.1 in
    let y = c.lay_links in
    rw (front-again _ y.new.laid c.args.nodes y.auto.laid few)
    (laid-links-sound c.args.links.now L.order L.orderly c.requires.links y.new.laid (y.ensures L.order L.orderly L.numbered (L.fills ∙ sym (lent-long _ most_nodes c.args.nodes few))))

pub returns : goal.returns
returns c = let few = c.requires.numbers_len.1 in
    let y = c.lay_links in
    λ order o m long. c.peak_of_links.ensures
    ∙ ap (λ (t : List CodeLink). peak_of_links 0 (links_in t)) (front-again _ y.new.laid c.args.nodes y.auto.laid few)
    ∙ ap (peak_of_links 0) (y.ensures order o m (long ∙ sym (lent-long _ most_nodes c.args.nodes few)))
