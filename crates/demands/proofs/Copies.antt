-- A sheet of copies of one given record is proper, and what is counted of it.
use Prim.Native.Nat.{ℕ, zero, suc, ◌+◌, ◌-◌, ◌/◌, ◌%◌, ◌<◌, ◌≤◌}
use mathlib.Core.Path.{◌≡◌, refl, sym, ap, ◌∙◌}
use mathlib.Core.Bool.{Bool, true≢false}
use mathlib.Core.List.{List, [], ◌∷◌, append-nil}
use native.Mathlib.Omega.{arith}
use lib.Dec.{lit<}
use lib.ListN.{length, get_or, replicate, length-replicate, get_or-replicate}
use Rattle.clause.specs.Clauses.{Literals, plus, none}
use Rattle.clause.proofs.Clauses.{holds-none}
use Rattle.sheet.specs.declared.edition.Edition.{Edition}
use Rattle.sheet.specs.declared.edition.Edition.TheVariants.{Narrow, Wide}
use Rattle.sheet.specs.Editions.{line_bytes}
use Rattle.sheet.specs.Records.{Node, given, Record, node, drop, clause, node_at}
use Rattle.sheet.specs.Fields.{sheet_bytes, rule_lines, rule_line}
use Rattle.sheet.specs.Counts.{nodes_of, step_of, steps_of, peak_from}
use Rattle.sheet.specs.Proper.{record_in, conclusion_of, ReadsAs, Proper}
use Rattle.sheet.proofs.RecordBytes.{length-sheet_bytes, record_at-sheet, reading-written, rule_line-below}
use Rattle.demands.specs.Limits.{copies, HasLine}
use Rattle.demands.proofs.Computing.{computing}

nodes-of : (n : ℕ) (m : Node) → nodes_of (replicate n (node m)) ≡ replicate n m
unfolding nodes_of
nodes-of zero m = refl
nodes-of (suc n) m = ap (λ (s : List Node). m ∷ s) (nodes-of n m)

no_steps : (n line : ℕ) (c : Literals) → steps_of (replicate n (given line c)) ≡ 0
unfolding steps_of step_of
no_steps zero line c = refl
no_steps (suc n) line c = omega (arith, no_steps n line c)

peak-is : (n h : ℕ) (m : Node) → peak_from h (replicate (suc n) (node m)) ≡ h + suc n
unfolding peak_from
peak-is zero h m = omega arith
peak-is (suc n) h m = omega (arith, peak-is n (suc h) m)

not-a-drop : {m : Node} {k : ℕ} → node m ≡ drop k → ⊥
not-a-drop q = let z : ◌≡◌ {A = ℕ} 0 1 = cc in omega arith

module _ (e : Edition) (rules : List ℕ) (line : HasLine e rules) (n : ℕ) where
  abbrev c : Literals
  c = rule_line e rules 0

  abbrev rs : List Record
  rs = copies e rules n

  -- record k is the one record
  each-is : (k : ℕ) → k < length rs → record_in rs k ≡ node (given 0 c)
  each-is k h = get_or-replicate n k (node (given 0 c)) (node (given 0 none)) (omega (arith, h, length-replicate n (node (given 0 c))))

  reads_as : (drops : Bool) → ReadsAs e drops (sheet_bytes e rs) rs
  reads_as drops = record {
    size = length-sheet_bytes e rs;
    each = λ k h.
        rw (rw append-nil at (record_at-sheet e rs [] k h), each-is k h)
        (rw append-nil at (reading-written e drops (node (given 0 c)) [] (lit< tt, rule_line-below e rules 0 line.rule-bytes) tt));
  }

  pub nodes-are : length (nodes_of rs) ≡ n
  nodes-are = ap length (nodes-of n (given 0 c)) ∙ length-replicate n (given 0 c)

  pub copies-proper : (most : ℕ) (drops : Bool) → 0 < n → n ≤ most → Proper e most drops rules (sheet_bytes e rs) rs
  unfolding rule_lines
  copies-proper most drops some few =
      let long : length rs ≡ n = length-replicate n (node (given 0 c)) in
      record {
        read = reads_as drops;
        some = omega arith;
        few = omega arith;
        lines = (line.whole, line.few);
        each = λ k h. rw (each-is k h) (line.some, refl, line.one_way);
        ends = (omega (arith, nodes-are), λ k h q. not-a-drop (sym (each-is k h) ∙ q));
      }

  pub copies-peak : 0 < n → peak_from 0 rs ≡ n
  copies-peak some = go n some
    where
      go : (m : ℕ) → 0 < m → peak_from 0 (replicate m (node (given 0 c))) ≡ m
      go zero h = omega arith
      go (suc m) h = omega (arith, peak-is m 0 (given 0 c))

  pub copies-steps : steps_of (nodes_of rs) ≡ 0
  copies-steps = ap steps_of (nodes-of n (given 0 c)) ∙ no_steps n 0 c

  pub copies-conclude : 0 < n → conclusion_of rs ≡ c
  unfolding clause node_at
  copies-conclude some =
      ap (λ (s : List Node). clause (node_at s (length s - 1))) (nodes-of n (given 0 c))
      ∙ ap clause (get_or-replicate n (length (replicate n (given 0 c)) - 1) (given 0 c) (given 0 none) (omega (arith, some, length-replicate n (given 0 c))))

line-of-zeros : (e : Edition) → rule_line e (replicate (line_bytes e) 0) 0 ≡ none
unfolding computing
line-of-zeros Narrow = refl
line-of-zeros Wide = refl

one_line : (e : Edition) → (length {A = ℕ} (replicate (line_bytes e) 0) % line_bytes e ≡ 0) × (length {A = ℕ} (replicate (line_bytes e) 0) / line_bytes e ≡ 1)
one_line Narrow = (refl, refl)
one_line Wide = (refl, refl)

-- there are such tables, as one line with no literal
pub has-line : (e : Edition) → HasLine e (replicate (line_bytes e) 0)
unfolding rule_lines
has-line e = record {
  rule-bytes = zeros (line_bytes e);
  whole = (one_line e).0;
  few = omega (arith, (one_line e).1);
  some = omega (arith, (one_line e).1);
  one_way = λ b. true≢false (sym (rw (line-of-zeros e) at b.1) ∙ holds-none (plus b.0));
}
  where
    zeros : (n i : ℕ) → get_or (replicate n 0) i 0 < 256
    zeros zero i = omega arith
    zeros (suc n) zero = omega arith
    zeros (suc n) (suc i) = zeros n i
