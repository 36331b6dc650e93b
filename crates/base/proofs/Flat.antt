-- Laws of `flat`, of records of n bytes each.
use mathlib.Core.Path.{◌≡◌, refl, sym, ap, ◌∙◌}
use mathlib.Core.List.{List, [], ◌∷◌, ◌++◌, append_assoc}
use Prim.Native.Nat.{ℕ, zero, suc, ◌+◌, ◌*◌, ◌<◌, suc-le-suc}
use native.Mathlib.Nat.{mul-suc, mul-zero, add_comm, zero-lt-suc, not-suc-le-zero, le_of_suc-le-suc}
use native.Mathlib.Omega.{arith}
use lib.ListN.{length, get_or, take, drop, length-append}
use lib.Seq.{take_at, drop-append-add}
use Rattle.base.specs.Bytes.{part, flat}

module _ {A : Type 0} (f : A → List ℕ) where
  pub flat_append : (xs ys : List A) → flat f (xs ++ ys) ≡ flat f xs ++ flat f ys
  unfolding flat
  flat_append [] ys = refl
  flat_append (x ∷ xs) ys = ap (λ (l : List ℕ). f x ++ l) (flat_append xs ys) ∙ sym (append_assoc (f x) (flat f xs) (flat f ys))

  -- each of xs makes n bytes; z is what get_or says past the end
  abbrev pub Even : ℕ → A → List A → Type 0
  Even n z xs = (i : ℕ) → i < length xs → length (f (get_or xs i z)) ≡ n

  pub even-all : (n : ℕ) (z : A) (xs : List A) → ((x : A) → length (f x) ≡ n) → Even n z xs
  even-all n z xs h i k = h (get_or xs i z)

  module _ (n : ℕ) (z : A) where
    pub length-flat : (xs : List A) → Even n z xs → length (flat f xs) ≡ n * length xs
    unfolding flat
    length-flat [] h = sym (mul-zero n)
    length-flat (x ∷ xs) h =
        length-append (f x) (flat f xs)
        ∙ omega (arith, h 0 (zero-lt-suc (length xs)), length-flat xs (λ i k. h (suc i) (suc-le-suc k)), mul-suc n (length xs))

    pub part-flat : (xs : List A) (rest : List ℕ) (i : ℕ) → Even n z xs → i < length xs → part n (flat f xs ++ rest) (n * i) ≡ f (get_or xs i z)
    unfolding flat part
    part-flat [] rest i e h = absurd (not-suc-le-zero h)
    part-flat (x ∷ xs) rest zero e h =
        ap (λ (k : ℕ). take n (drop k (f x ++ flat f xs ++ rest))) (mul-zero n)
        ∙ ap (take n) (append_assoc (f x) (flat f xs) rest)
        ∙ take_at (f x) (flat f xs ++ rest) n (e 0 (zero-lt-suc (length xs)))
    part-flat (x ∷ xs) rest (suc i) e h =
        ap (λ (k : ℕ). take n (drop k (f x ++ flat f xs ++ rest)))
        (mul-suc n i ∙ add_comm (n * i) n ∙ ap (λ (k : ℕ). k + n * i) (sym (e 0 (zero-lt-suc (length xs)))))
        ∙ ap (take n) (ap (drop (length (f x) + n * i)) (append_assoc (f x) (flat f xs) rest) ∙ drop-append-add (f x) (flat f xs ++ rest) (n * i))
        ∙ part-flat xs rest i (λ j k. e (suc j) (suc-le-suc k)) (le_of_suc-le-suc h)
