-- What is collected has room in a set; and the walk over the tables is the walk over the nodes.
use Prim.Native.Nat.{ℕ, suc, ◌≤◌, ◌<◌}
use mathlib.Core.List.{List}
use mathlib.Core.Path.{◌≡◌, sym, ap, ◌∙◌}
use native.Mathlib.Omega.{arith}
use lib.ListN.{length, get_or, replicate}
use Rattle.base.specs.Folds.{fall}
use Rattle.base.proofs.Folds.{fall-all, fall-same}
use Rattle.clause.specs.Clauses.{Literals, none}
use Rattle.clause.specs.Denote.{width}
use Rattle.press_spec.specs.Lower.{single, LoweredOnes, lowered_ones, none_lowered}
use Rattle.press_spec.specs.Units.{collect_turn}
use Rattle.press_nodes.specs.Tables.{nodes_in}
use Rattle.press_nodes.proofs.Tables.{clauses-at}
use Rattle.std.specs.Prelude.{Option, Some, None}
use Rattle.clause.specs.declared.Clause.{Clause}
use Rattle.press_nodes.specs.declared.link.Link.{Link}
use Rattle.press_reach.specs.declared.literal.Literal.{Literal as CodeLiteral}
use Rattle.press_reach.specs.Literals.{literal_in, Narrow}
use Rattle.press_lowered.specs.Table.{lowered_in, low_in}
use Rattle.press_lowered.proofs.Searched.{single-narrow}
use Rattle.press_lowered.proofs.Tabled.{low-blank}
use Rattle.press_units.specs.Turns.{collect_in}

pub found-narrow : (v : ℕ) (c : Literals) {x : Option CodeLiteral} {y : CodeLiteral} → lowered_in x ≡ single v c → x ≡ Some y → v ≤ width → Narrow (literal_in y)
unfolding lowered_in
found-narrow v c {x} {y} told q h = single-narrow v c (literal_in y) h (sym told ∙ ap lowered_in q)

-- ---- the walk

pub collects-all : (v : ℕ) (clauses : List Clause) (uses : List ℕ) (low cleared last : List (Option CodeLiteral)) (D D₀ : Literals) (from i : ℕ) → from < length uses
    → length low ≡ length uses → cleared ≡ replicate (length low) None → D₀ ≡ none → i ≤ 0
    → fall (collect_in v clauses uses) i (lowered_ones (low_in last) D) ≡ fall (collect_in v clauses uses) (suc from) (lowered_ones (low_in cleared) D₀)
    → (links : List Link) (count : ℕ → ℕ) → length links ≡ length uses → ((m : ℕ) → get_or uses m 0 ≡ count m)
    → low_in last ≡ (fall (collect_turn v (nodes_in links clauses) count) (suc from) (none_lowered (length links))).low
unfolding collect_in collect_turn none_lowered
collects-all v clauses uses low cleared last D D₀ from i inside long e none-owed z q links count size f =
    let whole : LoweredOnes = fall (collect_turn v (nodes_in links clauses) count) (suc from) (none_lowered (length links)) in
    let same : fall (collect_in v clauses uses) (suc from) (none_lowered (length links)) ≡ whole =
    fall-same (collect_in v clauses uses) (collect_turn v (nodes_in links clauses) count) (suc from) (none_lowered (length links))
    (λ n t h. rw (f n, clauses-at links clauses n (omega arith))) in
    let all : lowered_ones (low_in last) D ≡ whole =
    fall-all (collect_in v clauses uses) i (lowered_ones (low_in last) D) whole z (q ∙ rw (e, none-owed, long, ← size, low-blank (length links)) same) in
    ap (λ (w : LoweredOnes). w.low) all
