-- Laws of the walks over the numbers below n. The -next and -all laws are for `search` at a loop's turn and end.
use mathlib.Core.Path.{◌≡◌, refl, sym, ap, ◌∙◌}
use Prim.Native.Nat.{ℕ, zero, suc, ◌+◌, ◌-◌, ◌≤◌, ◌<◌}
use native.Mathlib.Nat.{not-suc-le-zero}
use native.Mathlib.Numerals.{add-one, sub-one}
use native.Mathlib.Omega.{arith}
use Rattle.base.specs.Folds.{rise, fall}

pub rise-more : {S : Type 0} (f : ℕ → S → S) (n : ℕ) (s : S) → rise f (n + 1) s ≡ f n (rise f n s)
unfolding rise
rise-more f n s = rw add-one

pub rise-next : {S : Type 0} (f : ℕ → S → S) (i : ℕ) (x x₀ y : S) → x ≡ rise f i x₀ → y ≡ f i x → y ≡ rise f (i + 1) x₀
rise-next f i x x₀ y e q = q ∙ ap (f i) e ∙ sym (rise-more f i x₀)

-- what each turn below n keeps, n turns keep
pub rise-by : {S : Type 0} (P : ℕ → S → Type 0) (f : ℕ → S → S) (n : ℕ) (s : S)
    → ((i : ℕ) (t : S) → i < n → P i t → P (suc i) (f i t)) → P 0 s → P n (rise f n s)
unfolding rise
rise-by P f zero s k h = h
rise-by P f (suc n) s k h = k n (rise f n s) (omega arith) (rise-by P f n s (λ i t l. k i t (omega arith)) h)

-- the same turns come to the same
pub rise-same : {S : Type 0} (f g : ℕ → S → S) (n : ℕ) (s : S) → ((i : ℕ) (t : S) → i < n → f i t ≡ g i t) → rise f n s ≡ rise g n s
unfolding rise
rise-same f g zero s e = refl
rise-same f g (suc n) s e = ap (f n) (rise-same f g n s (λ i t h. e i t (omega arith))) ∙ e n (rise g n s) (omega arith)

pub fall-none : {S : Type 0} (f : ℕ → S → S) (s : S) → fall f 0 s ≡ s
unfolding fall
fall-none f s = refl

pub fall-more : {S : Type 0} (f : ℕ → S → S) (n : ℕ) (s : S) → 0 < n → fall f n s ≡ fall f (n - 1) (f (n - 1) s)
unfolding fall
fall-more f zero s h = absurd (not-suc-le-zero h)
fall-more f (suc n) s h = rw (sub-one (suc n))

pub fall-next : {S : Type 0} (f : ℕ → S → S) (i : ℕ) (x y z : S) → 0 < i → fall f i x ≡ z → y ≡ f (i - 1) x → fall f (i - 1) y ≡ z
fall-next f i x y z h e q = ap (fall f (i - 1)) q ∙ sym (fall-more f i x h) ∙ e

pub fall-all : {S : Type 0} (f : ℕ → S → S) (i : ℕ) (x z : S) → i ≤ 0 → fall f i x ≡ z → x ≡ z
fall-all f i x z h e = let o : i ≡ 0 = omega arith in sym (fall-none f x) ∙ (rw o at e)

-- P i holds once the turns from i on are done
pub fall-by : {S : Type 0} (P : ℕ → S → Type 0) (f : ℕ → S → S) (n : ℕ) (s : S)
    → ((i : ℕ) (t : S) → i < n → P (suc i) t → P i (f i t)) → P n s → P 0 (fall f n s)
unfolding fall
fall-by P f zero s k h = h
fall-by P f (suc n) s k h = fall-by P f n (f n s) (λ i t l. k i t (omega arith)) (k n s (omega arith) h)

pub fall-keeps : {S : Type 0} (P : S → Type 0) (f : ℕ → S → S)
    → ((i : ℕ) (t : S) → P t → P (f i t)) → (n : ℕ) (s : S) → P s → P (fall f n s)
fall-keeps P f k n s h = fall-by (λ i. P) f n s (λ i t l. k i t) h

-- the same turns come to the same
pub fall-same : {S : Type 0} (f g : ℕ → S → S) (n : ℕ) (s : S) → ((i : ℕ) (t : S) → i < n → f i t ≡ g i t) → fall f n s ≡ fall g n s
unfolding fall
fall-same f g zero s e = refl
fall-same f g (suc n) s e = fall-same f g n (f n s) (λ i t h. e i t (omega arith)) ∙ ap (fall g n) (e n s (omega arith))
