-- One unit that comes back, by what the code finds of it and of the conclusion. The first k nodes of a table are in use.
use Prim.Native.Nat.{ℕ, ◌+◌, ◌≤◌, ◌<◌}
use mathlib.Core.List.{List, [], ◌∷◌, ◌++◌}
use mathlib.Core.Path.{◌≡◌, sym, ap, ◌∙◌}
use native.Mathlib.Numerals.{add-one}
use native.Mathlib.Omega.{arith}
use lib.ListN.{length, set, take, length-append}
use lib.Seq.{length-take-le, take-suc-set}
use Rattle.clause.specs.Clauses.{Literal, plus, minus, Literals, resolvent}
use Rattle.sheet.specs.Records.{Node, step, clause, node_at}
use Rattle.press_spec.specs.Rebuild.{Ended, ended}
use Rattle.press_spec.specs.Lower.{Lowered, lowered, return_of, resolving, by_return, come_back}
use Rattle.press_spec.proofs.Nodes.{clause-front}
use Rattle.std.specs.Prelude.{Option, Some}
use Rattle.press_reach.specs.declared.literal.Literal.{Literal as CodeLiteral}
use Rattle.press_reach.specs.declared.literal.Literal.TheVariants.{Plus, Minus}
use Rattle.press_reach.specs.Literals.{literal_in}
use Rattle.press_lowered.specs.Table.{lowered_in}
use Rattle.press_return.specs.declared.Return.{Return as CodeReturn}
use Rattle.press_return.specs.declared.Return.TheVariants.{ConclusionStays, UnitConcludes, Resolves}
use Rattle.press_return.specs.Returns.{return_in}

-- ---- the new step

module _ (s : List Node) (u n p : ℕ) (x : CodeLiteral) {C D R : Literals} (unit : C ≡ clause (node_at s u)) (conclusion : D ≡ clause (node_at s n)) where
  pub resolves-plus : x ≡ Plus p → R ≡ resolvent p C D → step p u n R ≡ resolving (literal_in x) s u n
  unfolding resolving literal_in
  resolves-plus q e = rw (q, e, unit, conclusion)

  pub resolves-minus : x ≡ Minus p → R ≡ resolvent p D C → step p n u R ≡ resolving (literal_in x) s u n
  unfolding resolving literal_in
  resolves-minus q e = rw (q, e, unit, conclusion)

-- ---- the part in use

module _ (s : List Node) (k : ℕ) where
  resolving-front : (x : Literal) (u n : ℕ) → u < k → n < k → resolving x (take k s) u n ≡ resolving x s u n
  unfolding resolving
  resolving-front (plus p) u n h i = rw (clause-front s k u h, clause-front s k n i)
  resolving-front (minus p) u n h i = rw (clause-front s k u h, clause-front s k n i)

-- ---- what comes back

pub found_back : (x : Option CodeLiteral) (m : Lowered) (y : CodeLiteral) (n u : ℕ) (t : Ended) → lowered_in x ≡ m → x ≡ Some y → u ≡ n
    → come_back m n t ≡ come_back (lowered (literal_in y)) u t
unfolding lowered_in
found_back x m y n u t e q same = rw (← e, q, same)

-- the clauses of the unit u and of the conclusion, and how the code says that the unit comes back
pub record Comes (s : List Node) (k last u : ℕ) (x : Literal) (C D : Literals) (how : CodeReturn) : Type 0 where
  pub inside : k ≤ length s
  pub last-inside : last < k
  pub unit-inside : u < k
  pub unit : C ≡ clause (node_at s u)
  pub conclusion : D ≡ clause (node_at s last)
  pub told : return_in how ≡ return_of x C D

module _ {s : List Node} {k last u : ℕ} {x : Literal} {C D : Literals} {how : CodeReturn} (d : Comes s k last u x C D how) where
  abbrev t : Ended
  t = ended (take k s) last

  back_by : come_back (lowered x) u t ≡ by_return (return_in how) x u t
  unfolding come_back
  back_by =
      rw (clause-front s k u d.unit-inside, clause-front s k last d.last-inside, ← d.unit, ← d.conclusion, ← d.told)

  pub back-stays : how ≡ ConclusionStays → ended (take k s) last ≡ come_back (lowered x) u (ended (take k s) last)
  unfolding return_in by_return
  back-stays q = sym (back_by ∙ rw q)

  pub back-concludes : how ≡ UnitConcludes → ended (take k s) u ≡ come_back (lowered x) u (ended (take k s) last)
  unfolding return_in by_return
  back-concludes q = sym (back_by ∙ rw q)

  module _ (q : how ≡ Resolves) where
    adds : come_back (lowered x) u t ≡ ended (take k s ++ (resolving x s u last ∷ [])) k
    unfolding return_in by_return
    adds =
        back_by
        ∙ rw (q, resolving-front s k x u last d.unit-inside d.last-inside, length-take-le k s d.inside)

    pub back-room : (m : ℕ) → length (come_back (lowered x) u (ended (take k s) last)).nodes ≤ m → k < m
    back-room m h =
        let e : length (come_back (lowered x) u t).nodes ≡ k + 1 =
        ap (λ (y : Ended). length y.nodes) adds ∙ length-append (take k s) (resolving x s u last ∷ []) ∙ ap (λ (j : ℕ). j + 1) (length-take-le k s d.inside) in
        omega arith

    pub back-resolves : (s' : List Node) → k < length s → s' ≡ set s k (resolving x s u last)
        → ended (take (k + 1) s') k ≡ come_back (lowered x) u (ended (take k s) last)
    back-resolves s' h e =
        ap (λ (y : List Node). ended y k)
        (ap (take (k + 1)) e ∙ ap (λ (j : ℕ). take j (set s k (resolving x s u last))) (add-one k) ∙ take-suc-set s k (resolving x s u last) h)
        ∙ sym adds
