-- "Keep what the sink reaches through parents.": the trim marks what is reached, and nothing else.
use Prim.Native.Nat.{ℕ, suc, ◌<◌}
use mathlib.Core.Path.{◌≡◌, refl}
use mathlib.Core.Bool.{Bool, true, false, cond}
use mathlib.Core.List.{List}
use native.Mathlib.Omega.{arith}
use native.Mathlib.Decide.{ℕ_discrete}
use lib.Dec.{eqb}
use lib.ListN.{length, get_or, set, replicate}
use lib.Seq.{get_or-set_other}
use borrow.Author.Tests.{eqb-false}
use Rattle.base.proofs.Folds.{fall-keeps}
use Rattle.base.proofs.Lists.{Each, set-each, zeros-each, cond_both, get_d-blank}
use Rattle.press_spec.specs.Links.{Link, leaf, join, link_at}
use Rattle.press_spec.specs.Trim.{keep_parents, trim_turn, trim, Reaches, itself, left, right}
use Rattle.press_spec.proofs.Nodes.{Falling}
use Rattle.press_spec.proofs.Trimmed.{Marked, trim-keeps, trim-closed}

-- ---- what is reached is marked

module _ (s : List Link) (earlier : Falling s) (from : ℕ) (inside : from < length s) where
  parents : (n p l r : ℕ) → link_at s n ≡ join p l r → Marked (trim s from) n
      → Marked (trim s from) l × Marked (trim s from) r
  parents n p l r e h = rw e at (trim-closed s earlier from inside n h)

  pub reached-marked : (n : ℕ) → Reaches s from n → Marked (trim s from) n
  reached-marked n itself = trim-keeps s earlier from inside
  reached-marked n (left {n = m} {p} {l} {r} h e) = (parents m p l r e (reached-marked m h)).0
  reached-marked n (right {n = m} {p} {l} {r} h e) = (parents m p l r e (reached-marked m h)).1

-- ---- what is marked is reached

module _ (s : List Link) (from : ℕ) where
  abbrev AllReached : List ℕ → Type 0
  AllReached m = (n : ℕ) → Marked m n → Reaches s from n

  mark-reached : (m : List ℕ) (k : ℕ) → Reaches s from k → AllReached m → AllReached (set m k 1)
  mark-reached m k r f n h = elim (ℕ_discrete n k) [ yes q ↦ rw q r | no q ↦ f n (rw (get_or-set_other m k n 1 0 q) at h) ]

  turn-reached : (i : ℕ) (m : List ℕ) (x : Link) (u : Bool) → link_at s i ≡ x → eqb (get_or m i 0) 0 ≡ u → AllReached m
      → AllReached (cond u m (keep_parents x m))
  unfolding keep_parents
  turn-reached i m x true a e f = f
  turn-reached i m (leaf line) false a e f = f
  turn-reached i m (join p l r) false a e f =
      let here : Reaches s from i = f i (omega (arith, eqb-false (get_or m i 0) 0 e)) in
      mark-reached (set m l 1) r (right here a) (mark-reached m l (left here a) f)

  pub marked-reached : (n : ℕ) → Marked (trim s from) n → Reaches s from n
  unfolding trim trim_turn
  marked-reached =
      fall-keeps AllReached (trim_turn s) (λ i m. turn-reached i m (link_at s i) (eqb (get_or m i 0) 0) refl refl) (suc from) _
      (mark-reached (replicate (length s) 0) from itself (λ n h. absurd (omega (arith, get_d-blank {A = ℕ} (length s) n 0))))

-- ---- marks are 1 or 0

module _ (s : List Link) (from : ℕ) where
  turn-each : (m : List ℕ) (x : Link) → Each 1 m → Each 1 (keep_parents x m)
  unfolding keep_parents
  turn-each m (leaf line) f = f
  turn-each m (join p l r) f = set-each (set m l 1) r 1 1 (set-each m l 1 1 f (omega arith)) (omega arith)

  trim-each : Each 1 (trim s from)
  unfolding trim trim_turn
  trim-each =
      fall-keeps (Each 1) (trim_turn s) (λ i m f. cond_both (Each 1) (eqb (get_or m i 0) 0) m (keep_parents (link_at s i) m) f (turn-each m (link_at s i) f)) (suc from) _
      (set-each (replicate (length s) 0) from 1 1 (λ j. omega (arith, zeros-each (length s) j)) (omega arith))

-- ---- both

module _ (s : List Link) (earlier : Falling s) (from : ℕ) (inside : from < length s) (n : ℕ) where
  pub one-reached : get_or (trim s from) n 0 ≡ 1 → Reaches s from n
  one-reached q = marked-reached s from n (omega arith)

  pub reached-one : Reaches s from n → get_or (trim s from) n 0 ≡ 1
  reached-one r = omega (arith, reached-marked s earlier from inside n r, trim-each s from n)

  pub unreached-zero : (Reaches s from n → ⊥) → get_or (trim s from) n 0 ≡ 0
  unreached-zero f = elim (ℕ_discrete (get_or (trim s from) n 0) 1) [
    | yes q ↦ absurd (f (one-reached q))
    | no q ↦ omega (arith, trim-each s from n)
  ]
