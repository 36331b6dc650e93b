-- Runs of records over the set of nodes that are held: what is named is held, and never more than so many at once.
use Prim.Native.Nat.{ℕ, zero, suc, ◌+◌, ◌≤◌, ◌<◌}
use mathlib.Core.Bool.{Bool, true, false, not, cond, true≢false}
use mathlib.Core.Path.{◌≡◌, refl, sym, ap, ◌∙◌}
use mathlib.Core.Logic.{◌≢◌}
use mathlib.Core.List.{List, [], ◌∷◌}
use native.Mathlib.Omega.{arith}
use native.Mathlib.Decide.{ℕ_discrete, dec_le}
use lib.Dec.{eqb}
use borrow.Author.Tests.{eqb-false, eq-eqb, ne_eqb, not-true}
use Rattle.base.proofs.Lists.{cond_both}
use Rattle.sheet.specs.Records.{Record, node, drop}
use Rattle.sheet.specs.Counts.{nodes_of}
use Rattle.press_spec.specs.Links.{Link, link, links}
use Rattle.press_spec.specs.Trim.{uses_in, uses}

-- ---- sets of numbers

unfoldable pub also : ℕ → (ℕ → Bool) → ℕ → Bool
also n H m = cond (eqb m n) true (H m)

unfoldable pub but : ℕ → (ℕ → Bool) → ℕ → Bool
but n H m = cond (eqb m n) false (H m)

module _ (n : ℕ) (H : ℕ → Bool) where
  pub also-here : also n H n ≡ true
  unfolding also
  also-here = rw (eq-eqb n n refl)

  pub also-other : (m : ℕ) → m ≢ n → also n H m ≡ H m
  unfolding also
  also-other m h = rw (ne_eqb m n h)

  pub but-here : but n H n ≡ false
  unfolding but
  but-here = rw (eq-eqb n n refl)

  pub but-other : (m : ℕ) → m ≢ n → but n H m ≡ H m
  unfolding but
  but-other m h = rw (ne_eqb m n h)

  pub but-fewer : (m : ℕ) → but n H m ≡ true → H m ≡ true
  but-fewer m h = elim (ℕ_discrete m n) [
    | yes q ↦ absurd (true≢false (sym (rw q at h) ∙ but-here))
    | no q ↦ sym (but-other m q) ∙ h
  ]

-- how many of the numbers below k
unfoldable pub count : ℕ → (ℕ → Bool) → ℕ
count zero H = 0
count (suc k) H = cond (H k) 1 0 + count k H

pub count_same : (k : ℕ) (H G : ℕ → Bool) → ((j : ℕ) → j < k → H j ≡ G j) → count k H ≡ count k G
unfolding count
count_same zero H G e = refl
count_same (suc k) H G e = rw (e k (omega arith), count_same k H G (λ j h. e j (omega arith)))

one-le : (a b : Bool) → (a ≡ true → b ≡ true) → cond a 1 0 ≤ cond b 1 0
one-le true b f = rw (f refl) (omega arith)
one-le false b f = omega arith

pub count-le : (k : ℕ) (H G : ℕ → Bool) → ((j : ℕ) → j < k → H j ≡ true → G j ≡ true) → count k H ≤ count k G
unfolding count
count-le zero H G f = omega arith
count-le (suc k) H G f = omega (arith, one-le (H k) (G k) (f k (omega arith)), count-le k H G (λ j h. f j (omega arith)))

pub count_most : (k : ℕ) (H : ℕ → Bool) → count k H ≤ k
unfolding count
count_most zero H = omega arith
count_most (suc k) H = omega (arith, cond_both (λ x. x ≤ 1) (H k) 1 0 (omega arith) (omega arith), count_most k H)

-- two sets that differ in j alone
pub count-one-more : (k : ℕ) (H G : ℕ → Bool) (j : ℕ) → j < k → H j ≡ false → G j ≡ true → ((i : ℕ) → i ≢ j → H i ≡ G i)
    → count k G ≡ suc (count k H)
unfolding count
count-one-more zero H G j h f t e = absurd (omega arith)
count-one-more (suc k) H G j h f t e = elim (ℕ_discrete j k) [
  | yes q ↦
      let f' : H k ≡ false = rw q at f in
      let t' : G k ≡ true = rw q at t in
      rw (f', t') (omega (arith, count_same k H G (λ i o. e i (omega arith))))
  | no q ↦ rw (e k (λ o. q (sym o))) (omega (arith, count-one-more k H G j (omega arith) f t e))
]

pub count-new : (k : ℕ) (H : ℕ → Bool) → count (suc k) (also k H) ≡ suc (count k H)
unfolding count
count-new k H = rw (also-here k H, count_same k (also k H) H (λ j h. also-other k H j (omega arith))) (omega arith)

pub count-but : (k : ℕ) (H : ℕ → Bool) (j : ℕ) → j < k → H j ≡ true → count k H ≡ suc (count k (but j H))
count-but k H j h t = count-one-more k (but j H) H j h (but-here j H) t (but-other j H)

-- ---- what later nodes use

unfoldable pub used_in : List Link → ℕ → Bool
used_in s n = not (eqb (uses s n) 0)

pub used-true : (s : List Link) (n : ℕ) → 1 ≤ uses s n → used_in s n ≡ true
unfolding used_in
used-true s n h = ap not (ne_eqb (uses s n) 0 (omega arith))

pub true-used : (s : List Link) (n : ℕ) → used_in s n ≡ true → 1 ≤ uses s n
unfolding used_in
true-used s n t = let h = eqb-false (uses s n) 0 (not-true (eqb (uses s n) 0) t) in elim (dec_le 1 (uses s n)) [
  | yes q ↦ q
  | no q ↦ absurd (h (omega arith))
]

-- ---- playing

-- after k nodes, of which H are held: what a node uses and what is dropped is held, and never more than `most` are
abbrev pub Plays : ℕ → ℕ → (ℕ → Bool) → List Record → Type 0
Plays most k H [] = Unit {0}
Plays most k H (node x ∷ rs) = ((j : ℕ) → 1 ≤ uses_in j (link x) → H j ≡ true) × (count k H < most) × Plays most (suc k) (also k H) rs
Plays most k H (drop j ∷ rs) = (j < k) × (H j ≡ true) × Plays most k (but j H) rs

-- in any run that plays, what a later node uses is held now
pub used-held : (most k : ℕ) (H : ℕ → Bool) (rs : List Record) → Plays most k H rs → (j : ℕ) → j < k → 1 ≤ uses (links (nodes_of rs)) j → H j ≡ true
unfolding nodes_of uses
used-held most k H [] p j h u = absurd (omega arith)
used-held most k H (node x ∷ rs) p j h u = elim (dec_le 1 (uses_in j (link x))) [
  | yes q ↦ p.0 j q
  | no q ↦ sym (also-other k H j (omega arith)) ∙ used-held most (suc k) (also k H) rs p.2 j (omega arith) (omega arith)
]
used-held most k H (drop i ∷ rs) p j h u = but-fewer i H j (used-held most k (but i H) rs p.2 j h u)
