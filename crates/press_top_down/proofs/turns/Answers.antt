use Prim.Native.Nat.{ℕ, ◌<◌}
use mathlib.Core.Path.{◌≡◌, refl, sym, ◌∙◌}
use mathlib.Core.List.{List}
use native.Mathlib.Omega.{arith}
use lib.ListN.{length}
use Rattle.std.proofs.Common.{Option}
use Rattle.sheet.specs.Editions.{capacity}
use Rattle.sheet.specs.declared.NodeNo.{NodeNo}
use Rattle.press_spec.specs.Trim.{trim}
use Rattle.press_spec.specs.TopDown.{highest}
use Rattle.press_nodes.specs.declared.link.Link.{Link as CodeLink}
use Rattle.press_nodes.specs.Tables.{links_in}
use Rattle.press_nodes.specs.Numbers.{numbers_in}
use Rattle.press_scores.specs.Rows.{scores_in}
use Rattle.press_top_down.specs.Scores.{score_in}
use Rattle.press_top_down.specs.Renewed.{Tables, Scored}
use Rattle.press_top_down.proofs.Changing.{past-none, table-highest}
use Rattle.press_top_down.proofs.Turning.{Turning, Turn, turns-start, turns-end, best-inside, turn-fits, uses-left, one_more, turn-next, turn-scored}
use Rattle.press_top_down.proofs.turns.Goals as goal

-- what a turn finds
turn-found : {links : List CodeLink} {kept left ahead rows : List ℕ} {numbers : List (Option NodeNo)} {from count best most : ℕ}
    → Tables links left ahead numbers rows → from < length links → kept ≡ trim (links_in links) from
    → Turning (links_in links) kept left ahead (numbers_in numbers) count × ((m : ℕ) → Scored (score_in (links_in links) left ahead (numbers_in numbers)) rows m)
    → best ≡ highest (scores_in rows) capacity → most ≡ scores_in rows best → Turn links from kept left ahead (numbers_in numbers) count best most
turn-found {left = left} {rows = rows} tables inside marks now found scores = record {
  tables = tables.linked;
  inside = inside;
  marks = marks;
  long = tables.lefts;
  turning = now.0;
  found = table-highest _ rows _ _ _ now.1 (λ m h. past-none _ left _ _ m (omega (arith, tables.lefts))) tables.linked.few found;
  scores = scores ∙ now.1 _;
}

pub loop-best-init : goal.loop-best-init
loop-best-init c = let t = c.requires.tables in
    let b = c.begin in (
      record { linked = t.linked; lefts = b.auto.left ∙ t.lefts; aheads = b.auto.ahead ∙ t.aheads; numbered = b.auto.numbers ∙ t.numbered; scored = b.auto.rows ∙ t.scored },
      turns-start _ _ _ _ c.args.numbers.now _ b.ensures.ahead b.ensures.left b.ensures.numbers,
      b.ensures.scores,
    )

pub returns : goal.returns
returns c =
    let v = c.loop-best.invariant in
    turns-end (turn-found v.0 c.requires.from_in_bounds c.begin.ensures.left (v.1, v.2) refl (sym c.in_default.ensures.none)) refl

pub take-count-requires-clause-left_len : goal.take-count-requires-clause-left_len
take-count-requires-clause-left_len c = let v = c.loop-best.invariant in
    let h = c.in-Some.ensures.some in
    let f = turn-found v.0 c.requires.from_in_bounds c.begin.ensures.left (v.1, v.2) h.0 h.1 in
    let some : c.in-Some.best.score ≡ 0 → ⊥ = λ z. omega (arith, h.2) in
    (v.0.lefts, v.0.aheads, v.0.numbered, best-inside f some, (turn-fits f some).1)

pub take-count-requires-clause-by_index : goal.take-count-requires-clause-by_index
take-count-requires-clause-by_index c = let v = c.loop-best.invariant in
    let h = c.in-Some.ensures.some in
    uses-left (turn-found v.0 c.requires.from_in_bounds c.begin.ensures.left (v.1, v.2) h.0 h.1) (λ z. omega (arith, h.2))

pub renew_touched-requires-clause-n_in_bounds : goal.renew_touched-requires-clause-n_in_bounds
renew_touched-requires-clause-n_in_bounds c = let v = c.loop-best.invariant in
    let h = c.in-Some.ensures.some in
    best-inside (turn-found v.0 c.requires.from_in_bounds c.begin.ensures.left (v.1, v.2) h.0 h.1) (λ z. omega (arith, h.2))

pub loop-best-smaller : goal.loop-best-smaller
loop-best-smaller c = let v = c.loop-best.invariant in
    let h = c.in-Some.ensures.some in
    let f = turn-found v.0 c.requires.from_in_bounds c.begin.ensures.left (v.1, v.2) h.0 h.1 in
    let some : c.in-Some.best.score ≡ 0 → ⊥ = λ z. omega (arith, h.2) in
    omega (arith, (turn-fits f some).0, one_more f some c.take-count.ensures.numbers)

pub loop-best-preserved : goal.loop-best-preserved
loop-best-preserved c = let v = c.loop-best.invariant in
    let t = v.0 in
    let h = c.in-Some.ensures.some in
    let f = turn-found v.0 c.requires.from_in_bounds c.begin.ensures.left (v.1, v.2) h.0 h.1 in
    let some : c.in-Some.best.score ≡ 0 → ⊥ = λ z. omega (arith, h.2) in
    let k = c.take-count in
    let y = c.renew_touched in (
      record { linked = t.linked; lefts = k.auto.left ∙ t.lefts; aheads = k.auto.ahead ∙ t.aheads; numbered = k.auto.numbers ∙ t.numbered; scored = y.auto.rows ∙ t.scored },
      turn-next f some k.ensures.numbers _ _ k.ensures.left k.ensures.ahead,
      turn-scored f some k.ensures.numbers _ _ k.ensures.left k.ensures.ahead v.2 y.ensures,
    )
