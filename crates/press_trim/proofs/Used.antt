-- The count of uses, node by node from the last: what each turn adds, and bounds.
use Prim.Native.Nat.{ℕ, zero, suc, ◌+◌, ◌-◌, ◌*◌, ◌≤◌, ◌<◌}
use mathlib.Core.Path.{◌≡◌, sym, ◌∙◌}
use mathlib.Core.Bool.{Bool, true, false, cond}
use mathlib.Core.List.{List, [], ◌∷◌}
use native.Mathlib.Omega.{arith}
use lib.Dec.{eqb}
use lib.ListN.{length, get_or, set, replicate}
use lib.Seq.{drop-length}
use Rattle.base.proofs.Lists.{get_d-blank, cond_both, set-each}
use Rattle.sheet.specs.Editions.{capacity}
use Rattle.press_spec.specs.Links.{Link, leaf, join, link_at}
use Rattle.press_nodes.specs.declared.link.Link.{Link as CodeLink}
use Rattle.press_nodes.specs.Tables.{links_in, Links}
use Rattle.press_spec.specs.Trim.{trimmed, naming, uses_in, uses}
use Rattle.press_nodes.proofs.Tables.{links-length}
use Rattle.press_spec.proofs.Trimmed.{uses_after, uses-all}

-- ---- one turn

-- a use more: no count is larger than one more than the bound before
module _ (t : List ℕ) (l : ℕ) where
  abbrev more : List ℕ
  more = set t l (get_or t l 0 + 1)

  pub more-few : ((m : ℕ) → get_or t m 0 ≤ 2 * capacity) → (m : ℕ) → get_or more m 0 ≤ 2 * capacity + 1
  more-few f = set-each t l (get_or t l 0 + 1) (2 * capacity + 1) (λ m. omega (arith, f m)) (omega (arith, f l))

-- the places in node n that name m, if n is kept
module _ (s : List Link) (kept : List ℕ) (n : ℕ) where
  abbrev pub uses_here : ℕ → ℕ
  uses_here m = uses (trimmed (link_at s n ∷ []) (get_or kept n 0 ∷ [])) m

-- ---- the walk

uses-at : (s : List Link) (kept : List ℕ) (i m : ℕ) → i < length s → i < length kept
    → uses_after s kept i m ≡ uses (trimmed (link_at s i ∷ []) (get_or kept i 0 ∷ [])) m + uses_after s kept (suc i) m
unfolding uses_after link_at uses trimmed
uses-at [] kept i m h g = absurd (omega arith)
uses-at (x ∷ s) [] i m h g = absurd (omega arith)
uses-at (x ∷ s) (k ∷ kept) zero m h g = by (eqb k 0)
  where
    by : (u : Bool) → uses (cond u (trimmed s kept) (x ∷ trimmed s kept)) m ≡ uses (cond u [] (x ∷ [])) m + uses (trimmed s kept) m
    by true = omega arith
    by false = omega arith
uses-at (x ∷ s) (k ∷ kept) (suc i) m h g = uses-at s kept i m (omega arith) (omega arith)

none_after : (s : List Link) (kept : List ℕ) (m : ℕ) → uses_after s kept (length s) m ≡ 0
unfolding uses_after uses trimmed
none_after s kept m = rw (drop-length s)

two-places : (m : ℕ) (x : Link) → uses_in m x ≤ 2
unfolding uses_in naming
two-places m (leaf line) = omega arith
two-places m (join p l r) =
    omega (arith, cond_both (λ k. k ≤ 1) (eqb m l) 1 0 (omega arith) (omega arith), cond_both (λ k. k ≤ 1) (eqb m r) 1 0 (omega arith) (omega arith))

few-uses : (s : List Link) (kept : List ℕ) (m : ℕ) → uses (trimmed s kept) m ≤ 2 * length s
unfolding uses trimmed
few-uses [] kept m = omega arith
few-uses (x ∷ s) [] m = omega arith
few-uses (x ∷ s) (k ∷ kept) m =
    cond_both (λ t. uses t m ≤ 2 * suc (length s)) (eqb k 0) (trimmed s kept) (x ∷ trimmed s kept)
    (omega (arith, few-uses s kept m)) (omega (arith, few-uses s kept m, two-places m x))

module _ (h : List CodeLink) (kept : List ℕ) (tables : Links h) where
  abbrev s : List Link
  s = links_in h

  pub uses-start : (t cleared : List ℕ) (m : ℕ) → cleared ≡ replicate (length t) 0 → get_or cleared m 0 ≡ uses_after s kept (length h) m
  uses-start t cleared m e =
      rw (e, ← links-length h) (get_d-blank {A = ℕ} (length t) m 0 ∙ sym (none_after s kept m))

  pub uses-next : (i : ℕ) (t next : List ℕ) (m : ℕ) → 0 < i → i ≤ length h → length kept ≡ length h
      → ((k : ℕ) → get_or t k 0 ≡ uses_after s kept i k) → ((k : ℕ) → get_or next k 0 ≡ get_or t k 0 + uses_here s kept (i - 1) k)
      → get_or next m 0 ≡ uses_after s kept (i - 1) m
  uses-next i t next m z o long f g =
      let e : suc (i - 1) ≡ i = omega arith in
      omega (arith, f m, g m, rw e at (uses-at s kept (i - 1) m (omega (arith, links-length h)) (omega arith)))

  pub uses-few : (i : ℕ) (t : List ℕ) (m : ℕ) → ((k : ℕ) → get_or t k 0 ≡ uses_after s kept i k) → get_or t m 0 ≤ 2 * capacity
  uses-few i t m f = omega (arith, f m, uses-all s kept i m, few-uses s kept m, links-length h, tables.few)

  pub uses-done : (i : ℕ) (t : List ℕ) (m : ℕ) → i ≤ 0 → ((k : ℕ) → get_or t k 0 ≡ uses_after s kept i k) → get_or t m 0 ≡ uses (trimmed s kept) m
  unfolding uses_after
  uses-done i t m z f = let o : i ≡ 0 = omega arith in f m ∙ rw o
