-- Laws of lists that the passes share: both ways of a test, bounds of entries, clearing.
use mathlib.Core.Path.{◌≡◌, refl, ap}
use mathlib.Core.Bool.{Bool, true, false, cond}
use mathlib.Core.List.{List, [], ◌∷◌, ◌++◌, append-nil, map}
use Prim.Native.Nat.{ℕ, zero, suc, ◌+◌, ◌≤◌, ◌<◌}
use native.Mathlib.Numerals.{add-one}
use native.Mathlib.Omega.{arith}
use lib.ListN.{length, get_or, set, take, drop, replicate}
use lib.Seq.{drop-length, drop-cons}

pub cond_both : {A : Type 0} (P : A → Type 0) (b : Bool) (x y : A) → P x → P y → P (cond b x y)
cond_both P true x y p q = p
cond_both P false x y p q = q

-- ---- entries

abbrev pub Each : ℕ → List ℕ → Type 0
Each B u = (j : ℕ) → get_or u j 0 ≤ B

pub set-each : (u : List ℕ) (k v B : ℕ) → Each B u → v ≤ B → Each B (set u k v)
set-each [] k v B h p j = h j
set-each (x ∷ u) zero v B h p zero = p
set-each (x ∷ u) zero v B h p (suc j) = h (suc j)
set-each (x ∷ u) (suc k) v B h p zero = h zero
set-each (x ∷ u) (suc k) v B h p (suc j) = set-each u k v B (λ i. h (suc i)) p j

pub get_d-blank : {A : Type 0} (n k : ℕ) (z : A) → get_or (replicate n z) k z ≡ z
get_d-blank zero k z = refl
get_d-blank (suc n) zero z = refl
get_d-blank (suc n) (suc k) z = get_d-blank n k z

pub zeros-each : (n : ℕ) → Each 0 (replicate n 0)
zeros-each n j = omega (arith, get_d-blank {A = ℕ} n j 0)

pub filled : (d : List ℕ) (k v : ℕ) → k ≡ length d → replicate k v ++ drop k d ≡ replicate (length d) v
filled d k v e = rw (e, drop-length d, append-nil)

-- what is left from i on, inside the list, is its entry and what is left after it
pub drop_more : {A : Type 0} (l : List A) (i : ℕ) (d : A) → i < length l → drop i l ≡ get_or l i d ∷ drop (i + 1) l
drop_more l i d h = rw add-one (drop-cons l i d h)

-- ---- tables side by side

pub map-set : {A B : Type 0} (f : A → B) (a : List A) (i : ℕ) (x : A) → map f (set a i x) ≡ set (map f a) i (f x)
map-set f [] i x = refl
map-set f (y ∷ a) zero x = refl
map-set f (y ∷ a) (suc i) x = ap (λ (l : List _). f y ∷ l) (map-set f a i x)

pub map-take : {A B : Type 0} (f : A → B) (a : List A) (k : ℕ) → map f (take k a) ≡ take k (map f a)
map-take f a zero = refl
map-take f [] (suc k) = refl
map-take f (y ∷ a) (suc k) = ap (λ (l : List _). f y ∷ l) (map-take f a k)
