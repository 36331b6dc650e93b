-- The peak that the links alone give is the peak of the records.
use Prim.Native.Nat.{ℕ, suc, ◌-◌, ◌≤◌, max}
use mathlib.Core.Path.{◌≡◌, refl, ap, ◌∙◌}
use mathlib.Core.List.{List, [], ◌∷◌, ◌++◌}
use native.Mathlib.Omega.{arith}
use lib.ListN.{length}
use Rattle.sheet.specs.Records.{Node, Record, node, drop}
use Rattle.sheet.specs.Counts.{nodes_of, peak_from}
use Rattle.press_spec.specs.Links.{link, links}
use Rattle.press_spec.specs.Drops.{drops_after, with_drops}
use Rattle.press_spec.proofs.Drops.{nodes-after}
use Rattle.press_peak.specs.Peaks.{peak_of_links}

-- ---- drops do not raise a peak

under : (h k x y : ℕ) → k ≤ h → max k x ≡ max k y → max h (max k x) ≡ max h y
under h k x y o e = ap (max h) e ∙ lower h k y o
  where
    lower : (h k y : ℕ) → k ≤ h → max h (max k y) ≡ max h y
    lower h k y o = omega arith

-- records that are drops, before others
drops-fall : (ds : List Record) → nodes_of ds ≡ [] → (h : ℕ) (rs : List Record)
    → max h (peak_from h (ds ++ rs)) ≡ max h (peak_from (h - length ds) rs)
unfolding nodes_of
drops-fall [] q h rs = let e : h - 0 ≡ h = omega arith in rw e
drops-fall (node x ∷ ds) q h rs = let z : ◌≡◌ {A = ℕ} 0 1 = cc in absurd (omega arith)
drops-fall (drop j ∷ ds) q h rs =
    let e : h - 1 - length ds ≡ h - suc (length ds) = omega arith in
    let one : peak_from h (drop j ∷ (ds ++ rs)) ≡ max (h - 1) (peak_from (h - 1) (ds ++ rs)) = unfold peak_from in refl in
    rw (one, ← e) (under h (h - 1) (peak_from (h - 1) (ds ++ rs)) (peak_from (h - 1 - length ds) rs) (omega arith) (drops-fall ds q (h - 1) rs))

pub peak-of-links : (s : List Node) (held : ℕ) → peak_from held (with_drops s) ≡ peak_of_links held (links s)
unfolding peak_from with_drops peak_of_links
peak-of-links [] held = refl
peak-of-links (x ∷ s) held =
    let drops = drops_after (link x) (links s) in
    drops-fall drops (nodes-after (link x) (links s)) (suc held) (with_drops s) ∙ ap (max (suc held)) (peak-of-links s (suc held - length drops))
