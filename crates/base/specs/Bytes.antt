-- Numbers as bytes, the lowest first; parts of byte lists, and stores into them.
use Rattle.std.specs.Prelude.{List, [], ◌∷◌, ◌++◌, ℕ, zero, suc, ◌+◌, ◌*◌, ◌/◌, ◌%◌, length, take, drop}

-- the number that bytes say
unfoldable pub value : List ℕ → ℕ
value [] = 0
value (b ∷ bs) = b + 256 * value bs

-- the n bytes of w
unfoldable pub bytes : ℕ → ℕ → List ℕ
bytes zero w = []
bytes (suc n) w = w % 256 ∷ bytes n (w / 256)

-- the n bytes of s from `at` on
unfoldable pub part : ℕ → List ℕ → ℕ → List ℕ
part n s at = take n (drop at s)

-- the number that those n bytes say
unfoldable pub value_at : ℕ → List ℕ → ℕ → ℕ
value_at n s at = value (take n (drop at s))

-- d, with bs in the place of what stood from `at` on
unfoldable pub put : List ℕ → ℕ → List ℕ → List ℕ
put d at bs = take at d ++ bs ++ drop (at + length bs) d

-- the bytes of each of a list, one after another
unfoldable pub flat : {A : Type 0} → (A → List ℕ) → List A → List ℕ
flat f [] = []
flat f (x ∷ xs) = f x ++ flat f xs
