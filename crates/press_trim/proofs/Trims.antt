-- The trim's walk, done.
use Prim.Native.Nat.{ℕ, suc, ◌≤◌}
use mathlib.Core.Path.{◌≡◌, ◌∙◌}
use mathlib.Core.List.{List}
use lib.ListN.{length, set, replicate}
use Rattle.base.specs.Folds.{fall}
use Rattle.base.proofs.Folds.{fall-all}
use Rattle.press_spec.specs.Trim.{trim_turn, trim}
use Rattle.press_nodes.specs.declared.link.Link.{Link as CodeLink}
use Rattle.press_nodes.specs.Tables.{links_in, Links}
use Rattle.press_nodes.proofs.Tables.{links-length}

pub trim-done : (h : List CodeLink) (from start i : ℕ) (kept cleared last : List ℕ) → Links h → length kept ≡ length h → start ≡ from
    → cleared ≡ replicate (length kept) 0 → i ≤ 0
    → fall (trim_turn (links_in h)) i last ≡ fall (trim_turn (links_in h)) (suc from) (set cleared start 1) → last ≡ trim (links_in h) from
unfolding trim
trim-done h from start i kept cleared last t long st e z q =
    fall-all (trim_turn (links_in h)) i last _ z
    (q ∙ rw (st, e, long, links-length h))
