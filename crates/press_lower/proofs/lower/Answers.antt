use Prim.Native.Nat.{ℕ, ◌≤◌}
use mathlib.Core.List.{List, ◌++◌}
use mathlib.Core.Path.{◌≡◌, sym, ap, ap₂, subst, ◌∙◌}
use native.Mathlib.Omega.{arith}
use lib.ListN.{length, get_or, take, drop}
use lib.Seq.{length_front}
use Rattle.std.specs.Prelude.{Option, None}
use Rattle.clause.specs.declared.Clause.{Clause}
use Rattle.sheet.specs.Editions.{variables, most_nodes}
use Rattle.sheet.proofs.Sizes.{variables-few}
use Rattle.press_spec.specs.Rebuild.{Built, built, stand_in, Ended, ended}
use Rattle.press_spec.specs.Lower.{low_at, come_back_all}
use Rattle.press_spec.specs.Lowerings.{lows_of, built_of, lower_of}
use Rattle.press_spec.specs.declared.Lowerable.{Lowerable}
use Rattle.press_nodes.specs.declared.link.Link.{Link}
use Rattle.press_nodes.specs.Tables.{nodes_in, Nodes}
use Rattle.press_reach.specs.declared.literal.Literal.{Literal}
use Rattle.press_lowered.specs.Table.{low_in}
use Rattle.press_nodes.proofs.Lent.{lent-long, front-again}
use Rattle.press_nodes.proofs.Tables.{nodes-length, nodes-front}
use Rattle.press_rebuild.proofs.Sounds.{SoundNodes, nodes-sound}
use Rattle.press_lower.proofs.Fronts.{front-nodes}
use Rattle.press_lower.proofs.Lowering.{stand-ins-down, lowering-sound}
use Rattle.press_lower.proofs.lower.Goals as goal

-- no stand-in is later
down : (which : Lowerable) (v from : ℕ) (h links : List Link) (c clauses : List Clause) (stand_ins : List ℕ) → Nodes h c
    → built (nodes_in links clauses) stand_ins ≡ built_of which v (ended (nodes_in h c) from) → (m : ℕ) → get_or stand_ins m 0 ≤ m
unfolding stand_in
down which v from h links c clauses stand_ins t e m =
    omega (arith, ap (λ (b : Built). stand_in b m) e, stand-ins-down v (nodes_in h c) from (nodes-sound t) which m)

-- what comes back to the wider tables, with the rebuilt nodes in front, is the whole
comes : (which : Lowerable) (v from : ℕ) (h links first WL : List Link) (c clauses second WC : List Clause) (low : List (Option Literal)) (stand_ins : List ℕ)
    → low_in low ≡ lows_of which v (ended (nodes_in h c) from)
    → built (nodes_in links clauses) stand_ins ≡ built_of which v (ended (nodes_in h c) from)
    → length h ≤ length WL → length WC ≡ length WL
    → length first ≡ length (take (length h) WL) → length second ≡ length (take (length h) WC) → first ≡ links → second ≡ clauses
    → come_back_all (low_at (low_in low))
    (built (take (length h) (nodes_in (first ++ drop (length h) WL) (second ++ drop (length h) WC))) stand_ins)
    from
    ≡ lower_of which v (ended (nodes_in h c) from)
unfolding lower_of
comes which v from h links first WL c clauses second WC low stand_ins e f il same pf ps q r =
    let front : take (length h) (nodes_in (first ++ drop (length h) WL) (second ++ drop (length h) WC)) ≡ nodes_in links clauses =
    sym (nodes-front (length h) (first ++ drop (length h) WL) (second ++ drop (length h) WC))
    ∙ ap₂ nodes_in (front-again WL first (length h) pf il ∙ q) (front-again WC second (length h) ps (omega arith) ∙ r) in
    rw (front, e, f)

pub come_back_all-requires-clause-low_len : goal.come_back_all-requires-clause-low_len
come_back_all-requires-clause-low_len c =
    let few = c.requires.nodes.1 in (
      c.cut.auto.low ∙ lent-long None most_nodes _ few,
      c.cut.auto.stand_ins ∙ lent-long 0 most_nodes _ few,
      c.requires.nodes.2,
      down _ _ _ c.args.links.now _ c.args.clauses.now _ _ c.requires.nodes.0 c.cut.ensures.built,
    )

pub come_back_all-requires-clause-from_in_bounds : goal.come_back_all-requires-clause-from_in_bounds
come_back_all-requires-clause-from_in_bounds c =
    let a = c.args in
    let e = comes a.which (variables a.edition) a.from.0 a.links.now _ _ a.wider_links.now a.clauses.now _ _ a.wider_clauses.now _ _ c.cut.ensures.low c.cut.ensures.built c.requires.wider_clauses_len.2 c.requires.wider_clauses_len.0 c.copy_from_slice.auto.self c.copy_from_slice-2.auto.self c.copy_from_slice.ensures.after c.copy_from_slice-2.ensures.after in
    let wider : length (c.copy_from_slice.new.self ++ drop (length a.links.now) a.wider_links.now) ≡ length a.wider_links.now =
    length_front a.wider_links.now c.copy_from_slice.new.self (length a.links.now) c.copy_from_slice.auto.self in
    rw (e, wider) c.requires.from_in_bounds

pub returns-clause-lowered : goal.returns-clause-lowered
returns-clause-lowered c =
    let a = c.args in
    c.come_back_all.ensures.clauses_after
    ∙ comes a.which (variables a.edition) a.from.0 a.links.now _ _ a.wider_links.now a.clauses.now _ _ a.wider_clauses.now _ _ c.cut.ensures.low c.cut.ensures.built c.requires.wider_clauses_len.2 c.requires.wider_clauses_len.0 c.copy_from_slice.auto.self c.copy_from_slice-2.auto.self c.copy_from_slice.ensures.after c.copy_from_slice-2.ensures.after

pub returns-clause-sound : goal.returns-clause-sound
returns-clause-sound c =
    let a = c.args in
    let r = c.come_back_all in
    let e = r.ensures.clauses_after ∙ comes a.which (variables a.edition) a.from.0 a.links.now _ _ a.wider_links.now a.clauses.now _ _ a.wider_clauses.now _ _ c.cut.ensures.low c.cut.ensures.built c.requires.wider_clauses_len.2 c.requires.wider_clauses_len.0 c.copy_from_slice.auto.self c.copy_from_slice-2.auto.self c.copy_from_slice.ensures.after c.copy_from_slice-2.ensures.after in
    let wider : length r.new.links ≡ length a.wider_links.now = r.auto.links ∙ length_front a.wider_links.now c.copy_from_slice.new.self (length a.links.now) c.copy_from_slice.auto.self in
    let words : length r.new.clauses ≡ length a.wider_clauses.now = r.auto.clauses ∙ length_front a.wider_clauses.now c.copy_from_slice-2.new.self _ c.copy_from_slice-2.auto.self in
    let whole = lowering-sound (variables a.edition) (nodes_in a.links.now a.clauses.now) a.from.0 (nodes-sound c.requires.nodes.0) a.which (variables-few a.edition)
    (rw (nodes-length a.links.now a.clauses.now) c.requires.nodes.2) in (
      front-nodes r.result.nodes r.new.links r.new.clauses (omega (arith, r.ensures.fits, r.auto.links)) (omega (arith, r.ensures.fits, wider, r.auto.links, c.requires.wider_clauses_len.1))
          (words ∙ c.requires.wider_clauses_len.0 ∙ sym wider) (subst (λ (y : Ended). SoundNodes y.nodes) (sym e) whole),
      r.ensures.fits.1,
      omega (arith, r.ensures.fits, wider, r.auto.links),
    )
