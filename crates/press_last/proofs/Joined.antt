-- The drops after a join, by the table of last uses.
use Prim.Native.Nat.{ℕ, ◌+◌, ◌<◌, min, max}
use mathlib.Core.Path.{◌≡◌}
use mathlib.Core.List.{List, ◌++◌, append-nil}
use native.Mathlib.Omega.{arith}
use lib.ListN.{length}
use lib.ListN.{drop as after}
use borrow.Author.Tests.{eq-eqb, ne_eqb}
use Rattle.sheet.specs.declared.NodeNo.{NodeNo}
use Rattle.press_spec.specs.Links.{Link, join, link_at}
use Rattle.press_spec.specs.Drops.{drop_last, drops_after}
use Rattle.press_nodes.specs.declared.link.Link.{Link as CodeLink}
use Rattle.press_nodes.specs.declared.link.Link.TheVariants.{Join}
use Rattle.press_nodes.specs.Tables.{link_in, links_in, Links}
use Rattle.press_nodes.proofs.Tables.{links-length}
use Rattle.press_nodes.proofs.Found.{found-join, found-sound}
use Rattle.press_last.specs.LastUses.{last_uses, drop_by}
use Rattle.press_last.proofs.LastUses.{length-last_uses, last-decides}

-- node k is a join of l and r, and `last` has the last uses
pub record Joined (s : List Link) (last : List ℕ) (k l r : ℕ) : Type 0 where
  pub pivot : ℕ
  pub is : link_at s k ≡ join pivot l r
  pub low : (l < length s) × (r < length s)
  pub noted : last ≡ last_uses s

module _ {s : List Link} {last : List ℕ} {k l r : ℕ} (d : Joined s last k l r) where
  pub joined-inside : (l < length last) × (r < length last)
  joined-inside = rw (d.noted, length-last_uses s) d.low

  by-table : (n : ℕ) → n < length s → drop_last (after (k + 1) s) n ≡ drop_by last k n
  by-table n h = rw d.noted (last-decides s k n h)

  pub drops_same : l ≡ r → drops_after (link_at s k) (after (k + 1) s) ≡ drop_by last k l
  unfolding drops_after
  drops_same q =
      let low : min l r ≡ l = omega arith in
      rw (d.is, eq-eqb l r q, low, by-table l d.low.0) (append-nil (drop_by last k l))

  pub drops-two : (l ≡ r → ⊥) → drops_after (link_at s k) (after (k + 1) s) ≡ drop_by last k (min l r) ++ drop_by last k (max l r)
  unfolding drops_after
  drops-two q =
      rw (d.is, ne_eqb l r q, by-table (min l r) (omega (arith, d.low)), by-table (max l r) (omega (arith, d.low)))

-- as the code finds it
pub found-joined : (h : List CodeLink) (last : List ℕ) (k : ℕ) (x : CodeLink) (p : ℕ) (l r : NodeNo) → Links h → k < length h → last ≡ last_uses (links_in h)
    → link_in x ≡ link_at (links_in h) k → x ≡ Join p l r → Joined (links_in h) last k l.0 r.0
found-joined h last k x p l r t i noted e q =
    let o = found-sound h k x p l r t i e q in
    let long = links-length h in
    record { pivot = p; is = found-join x (link_at (links_in h) k) p l r e q; low = (omega arith, omega arith); noted = noted }
