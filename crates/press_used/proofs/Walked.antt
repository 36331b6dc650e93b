-- The walk over the uses, node by node from the last: what each turn makes of the table.
use Prim.Native.Nat.{ℕ, zero, suc, ◌-◌, ◌≤◌, ◌<◌}
use mathlib.Core.Path.{◌≡◌, refl, sym, ◌∙◌}
use mathlib.Core.Bool.{Bool, true, false, cond}
use mathlib.Core.List.{List, [], ◌∷◌}
use native.Mathlib.Omega.{arith}
use lib.Dec.{eqb}
use lib.ListN.{length, get_or, drop, replicate}
use lib.Seq.{drop-length}
use Rattle.base.proofs.Lists.{get_d-blank}
use Rattle.press_spec.specs.Links.{Link, link_at}
use Rattle.press_spec.specs.Trim.{trimmed}
use Rattle.press_spec.specs.Univalents.{Used, unused, used_in, used_on}
use Rattle.press_nodes.specs.declared.link.Link.{Link as CodeLink}
use Rattle.press_used.specs.declared.table.Used.{Used as CodeUsed}
use Rattle.press_used.specs.declared.table.Used.TheVariants.{Unused}
use Rattle.press_nodes.specs.Tables.{links_in}
use Rattle.press_nodes.proofs.Tables.{links-length}
use Rattle.press_used.specs.Table.{use_in, use_at}

-- ---- one turn

module _ (s : List Link) (kept : List ℕ) (n : ℕ) where
  -- what m is used on, with the uses in node n, if n is kept
  abbrev pub used_here : ℕ → Used → Used
  used_here m u = cond (eqb (get_or kept n 0) 0) u (used_in m (link_at s n) u)

-- ---- the walk

-- what m is used on, in the nodes from i on
unfoldable pub used_after : List Link → List ℕ → ℕ → ℕ → Used
used_after s kept i m = used_on (trimmed (drop i s) (drop i kept)) m

used-from : (s : List Link) (kept : List ℕ) (i m : ℕ) → i < length s → i < length kept
    → used_after s kept i m ≡ used_here s kept i m (used_after s kept (suc i) m)
unfolding used_after link_at used_on trimmed
used-from [] kept i m h g = absurd (omega arith)
used-from (x ∷ s) [] i m h g = absurd (omega arith)
used-from (x ∷ s) (k ∷ kept) zero m h g = by (eqb k 0)
  where
    by : (u : Bool)
        → used_on (cond u (trimmed s kept) (x ∷ trimmed s kept)) m ≡ cond u (used_on (trimmed s kept) m) (used_in m x (used_on (trimmed s kept) m))
    by true = refl
    by false = refl
used-from (x ∷ s) (k ∷ kept) (suc i) m h g = used-from s kept i m (omega arith) (omega arith)

none_after : (s : List Link) (kept : List ℕ) (m : ℕ) → used_after s kept (length s) m ≡ unused
unfolding used_after used_on trimmed
none_after s kept m = rw (drop-length s)

none-used : (n m : ℕ) → use_at (replicate n Unused) m ≡ unused
unfolding use_at use_in
none-used n m = rw (get_d-blank n m Unused)

module _ (h : List CodeLink) (kept : List ℕ) where
  abbrev s : List Link
  s = links_in h

  pub used_start : (t cleared : List CodeUsed) (m : ℕ) → cleared ≡ replicate (length t) Unused → use_at cleared m ≡ used_after s kept (length h) m
  used_start t cleared m e = rw (e, ← links-length h) (none-used (length t) m ∙ sym (none_after s kept m))

  pub used-next : (i : ℕ) (t next : List CodeUsed) (m : ℕ) → 0 < i → i ≤ length h → length kept ≡ length h
      → ((k : ℕ) → use_at t k ≡ used_after s kept i k) → ((k : ℕ) → use_at next k ≡ used_here s kept (i - 1) k (use_at t k))
      → use_at next m ≡ used_after s kept (i - 1) m
  used-next i t next m z o long f g =
      let e : suc (i - 1) ≡ i = omega arith in
      let one = used-from s kept (i - 1) m (omega (arith, links-length h)) (omega arith) in
      g m ∙ rw (f m) (sym (rw e at one))

  pub used-done : (i : ℕ) (t : List CodeUsed) (m : ℕ) → i ≤ 0 → ((k : ℕ) → use_at t k ≡ used_after s kept i k) → use_at t m ≡ used_on (trimmed s kept) m
  unfolding used_after
  used-done i t m z f = let o : i ≡ 0 = omega arith in f m ∙ rw o
