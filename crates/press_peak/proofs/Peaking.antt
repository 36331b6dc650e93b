-- What the peak's walk over the nodes finds at each.
use Prim.Native.Nat.{ℕ, suc, ◌+◌, ◌-◌, ◌≤◌, ◌<◌, min, max}
use mathlib.Core.Path.{◌≡◌}
use mathlib.Core.List.{List}
use native.Mathlib.Omega.{arith}
use native.Mathlib.Decide.{dec_le}
use lib.ListN.{length, length-append, drop_of_length-le}
use lib.ListN.{drop as after}
use Rattle.base.proofs.Lists.{cond_both}
use Rattle.sheet.specs.Records.{Record}
use Rattle.press_spec.specs.Links.{Link, leaf, link_at}
use Rattle.press_spec.specs.Drops.{drops_after}
use Rattle.press_spec.proofs.Nodes.{links-from}
use Rattle.press_last.specs.LastUses.{used_after, drop_by}
use Rattle.press_peak.specs.Peaks.{peak_of_links}
use Rattle.press_last.proofs.Joined.{Joined, drops_same, drops-two}

-- ---- one parent

module _ (last : List ℕ) (k n : ℕ) where
  pub drop-most : (count : ℕ) → count ≡ length (drop_by last k n) → count ≤ 1
  unfolding drop_by
  drop-most count e = rw e (cond_both (λ (rs : List Record). length rs ≤ 1) (used_after last k n) _ _ (omega arith) (omega arith))

-- ---- one node

-- how many nodes are dropped after node k
abbrev pub dropped_after : List Link → ℕ → ℕ
dropped_after s k = length (drops_after (link_at s k) (after (k + 1) s))

pub dropped-leaf : (s : List Link) (k line : ℕ) → link_at s k ≡ leaf line → 0 ≡ dropped_after s k
unfolding drops_after
dropped-leaf s k line e = rw e

module _ {s : List Link} {last : List ℕ} {k l r : ℕ} (d : Joined s last k l r) where
  pub dropped-same : (a : ℕ) → l ≡ r → a ≡ length (drop_by last k l) → a ≡ dropped_after s k
  dropped-same a q e = rw (drops_same d q) e

  pub dropped-two : (a b : ℕ) → (l ≡ r → ⊥) → a ≡ length (drop_by last k l) → b ≡ length (drop_by last k r) → a + b ≡ dropped_after s k
  dropped-two a b q e f = rw (drops-two d q, length-append (drop_by last k (min l r)) (drop_by last k (max l r))) (elim (dec_le l r) [
    | yes h ↦ let lo : min l r ≡ l = omega arith in let hi : max l r ≡ r = omega arith in rw (lo, hi) (omega arith)
    | no h ↦ let lo : min l r ≡ r = omega arith in let hi : max l r ≡ l = omega arith in rw (lo, hi) (omega arith)
  ])

-- ---- the loop

pub peak-next : (s : List Link) (k held peak all : ℕ) (more held' peak' gone : ℕ) → k < length s
    → max peak (peak_of_links held (after k s)) ≡ all → more ≡ held + 1 → gone ≡ dropped_after s k → held' ≡ more - gone → peak' ≡ max peak more
    → max peak' (peak_of_links held' (after (k + 1) s)) ≡ all
peak-next s k held peak all more held' peak' gone h e m g u v =
    let now : peak_of_links held (after k s) ≡ max (suc held) (peak_of_links (suc held - dropped_after s k) (after (k + 1) s)) =
    unfold peak_of_links in rw (links-from s k h) in
    let same : held' ≡ suc held - dropped_after s k = omega arith in
    rw (same, v) (omega arith)

pub peak-done : (s : List Link) (k held peak all : ℕ) → length s ≤ k → max peak (peak_of_links held (after k s)) ≡ all → peak ≡ all
unfolding peak_of_links
peak-done s k held peak all h e = let z : peak_of_links held (after k s) ≡ 0 = rw (drop_of_length-le s h) in omega arith
