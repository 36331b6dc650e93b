-- The only literal of a clause, and the table of what is lowered: laws for both passes.
use Prim.Native.Nat.{ℕ, zero, suc, ◌<◌}
use mathlib.Core.Bool.{Bool, true, false, cond, true≢false}
use mathlib.Core.Path.{◌≡◌, refl, sym, ap, ◌∙◌}
use mathlib.Core.Logic.{◌≢◌, ◌⊎◌, inl, inr}
use native.Mathlib.Omega.{arith}
use native.Mathlib.Decide.{ℕ_discrete}
use lib.ListN.{length, length-set, length-replicate}
use lib.Seq.{get_or-set_same, get_or-set_other}
use Rattle.base.proofs.Lists.{get_d-blank}
use Rattle.clause.specs.Clauses.{Literal, plus, minus, Literals, none, holds, adding, alike}
use Rattle.clause.proofs.Clauses.{variable, alike_same, alike_self}
use Rattle.press_spec.specs.Links.{join}
use Rattle.press_spec.specs.Recycle.{cut_left, cut_right, uncut}
use Rattle.press_spec.specs.Lower.{Lowered, staying, lowered, single, LoweredOnes, none_lowered, lower, low_at, is_lowered, cut_by}
use Rattle.press_spec.proofs.Literals.{in-adding, in-none, adding-has}

-- ---- the only literal

pub only_one : (x y : Literal) → holds y (adding x none) ≡ true → y ≡ x
only_one x y h = elim (in-adding y x none h) [ inl q ↦ q | inr q ↦ absurd (in-none y q) ]

single-cases : (w : ℕ) (c : Literals) (x : Literal) (u v : Bool) → alike c (adding (plus w) none) ≡ u → alike c (adding (minus w) none) ≡ v
    → (single w c ≡ lowered x → c ≡ adding x none)
    → cond u (lowered (plus w)) (cond v (lowered (minus w)) (single w c)) ≡ lowered x → c ≡ adding x none
single-cases w c x true v a b f q = let z : plus w ≡ x = cc in rw (← z) (alike_same c (adding (plus w) none) a)
single-cases w c x false true a b f q = let z : minus w ≡ x = cc in rw (← z) (alike_same c (adding (minus w) none) b)
single-cases w c x false false a b f q = f q

-- what is found is the clause's only literal
pub single-is : (w : ℕ) (c : Literals) (x : Literal) → single w c ≡ lowered x → c ≡ adding x none
unfolding single
single-is zero c x q = let z : ◌≡◌ {A = ℕ} 0 1 = cc in absurd (omega arith)
single-is (suc w) c x q =
    single-cases w c x (alike c (adding (plus w) none)) (alike c (adding (minus w) none)) refl refl (single-is w c x) q

finds-cases : (w : ℕ) (x : Literal) (u v : Bool) → alike (adding x none) (adding (plus w) none) ≡ u → alike (adding x none) (adding (minus w) none) ≡ v
    → (variable x < w → single w (adding x none) ≡ lowered x) → variable x < suc w
    → cond u (lowered (plus w)) (cond v (lowered (minus w)) (single w (adding x none))) ≡ lowered x
finds-cases w x true v a b f h = ap lowered (sym (only_one (plus w) x (rw (alike_same (adding x none) (adding (plus w) none) a) at (adding-has x none))))
finds-cases w x false true a b f h = ap lowered (sym (only_one (minus w) x (rw (alike_same (adding x none) (adding (minus w) none) b) at (adding-has x none))))
finds-cases w (plus p) false false a b f h =
    f (let n : p ≢ w = λ q. true≢false (sym (alike_self (adding (plus p) none)) ∙ ap (λ (k : ℕ). alike (adding (plus p) none) (adding (plus k) none)) q ∙ a) in omega arith)
finds-cases w (minus p) false false a b f h =
    f (let n : p ≢ w = λ q. true≢false (sym (alike_self (adding (minus p) none)) ∙ ap (λ (k : ℕ). alike (adding (minus p) none) (adding (minus k) none)) q ∙ b) in omega arith)

-- and it is found, if its variable is one of the w
pub single-finds : (w : ℕ) (x : Literal) → variable x < w → single w (adding x none) ≡ lowered x
unfolding single
single-finds zero x h = absurd (omega arith)
single-finds (suc w) x h =
    finds-cases w x (alike (adding x none) (adding (plus w) none)) (alike (adding x none) (adding (minus w) none)) refl refl (single-finds w x) h

-- ---- the table

pub none-lowered : (k n : ℕ) → low_at (none_lowered k).low n ≡ staying
unfolding low_at none_lowered
none-lowered k n = get_d-blank k n staying

pub none-long : (k : ℕ) → length (none_lowered k).low ≡ k
unfolding none_lowered
none-long k = length-replicate k staying

pub never-lowered : (t : Lowered) (x : Literal) → t ≡ staying → t ≡ lowered x → ⊥
never-lowered t x p q = let z : ◌≡◌ {A = ℕ} 0 1 = cc in omega arith

module _ (i : ℕ) (x : Literal) (t : LoweredOnes) where
  pub lower_long : length (lower i x t).low ≡ length t.low
  unfolding lower
  lower_long = length-set t.low i (lowered x)

  pub lower-other : (n : ℕ) → n ≢ i → low_at (lower i x t).low n ≡ low_at t.low n
  unfolding lower low_at
  lower-other n h = get_or-set_other t.low i n (lowered x) staying h

  pub lower-here : i < length t.low → low_at (lower i x t).low i ≡ lowered x
  unfolding lower low_at
  lower-here h = get_or-set_same t.low i (lowered x) staying h

  pub lower-cases : i < length t.low → (n : ℕ) (y : Literal) → low_at (lower i x t).low n ≡ lowered y
      → ((n ≡ i) × (y ≡ x)) ⊎ ((n ≢ i) × (low_at t.low n ≡ lowered y))
  lower-cases h n y q = elim (ℕ_discrete n i) [
    | yes e ↦ let u : low_at (lower i x t).low i ≡ lowered y = ap (low_at (lower i x t).low) (sym e) ∙ q in let v = lower-here h in inl (e, cc)
    | no e ↦ inr (e, sym (lower-other n e) ∙ q)
  ]

-- ---- the cuts

module _ (low : ℕ → Lowered) (p l r : ℕ) where
  pub cut_left_lem : cut_by low (join p l r) ≡ cut_left → (x : Literal) × (low l ≡ lowered x)
  unfolding cut_by is_lowered
  cut_left_lem q = by (low l) (low r) refl q
    where
      by : (a b : Lowered) → low l ≡ a → cond (is_lowered a) cut_left (cond (is_lowered b) cut_right uncut) ≡ cut_left → (x : Literal) × (low l ≡ lowered x)
      by (lowered x) b e h = (x, e)
      by staying (lowered x) e h = let z : ◌≡◌ {A = ℕ} 0 1 = cc in absurd (omega arith)
      by staying staying e h = let z : ◌≡◌ {A = ℕ} 0 1 = cc in absurd (omega arith)

  pub cut_right_lem : cut_by low (join p l r) ≡ cut_right → (x : Literal) × (low r ≡ lowered x)
  unfolding cut_by is_lowered
  cut_right_lem q = by (low l) (low r) refl q
    where
      by : (a b : Lowered) → low r ≡ b → cond (is_lowered a) cut_left (cond (is_lowered b) cut_right uncut) ≡ cut_right → (x : Literal) × (low r ≡ lowered x)
      by (lowered x) b e h = let z : ◌≡◌ {A = ℕ} 0 1 = cc in absurd (omega arith)
      by staying (lowered x) e h = (x, e)
      by staying staying e h = let z : ◌≡◌ {A = ℕ} 0 1 = cc in absurd (omega arith)
