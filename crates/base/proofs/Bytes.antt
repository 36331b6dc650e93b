-- Laws of numbers as bytes, of parts, and of stores.
use mathlib.Core.Path.{◌≡◌, refl, sym, ap, ap₂, ◌∙◌}
use mathlib.Core.List.{List, [], ◌∷◌, ◌++◌, append_assoc, append-nil}
use Prim.Native.Nat.{ℕ, zero, suc, ◌+◌, ◌*◌, ◌/◌, ◌%◌, ◌^◌, ◌≤◌, ◌<◌}
use native.Mathlib.Nat.{add-zero, zero-add, suc-add, add_assoc, pow-suc, mul_comm, mul_assoc, div-one, mod-one, div-div-eq-div-mul, mod-eq_of_lt, one-le-pow, zero-lt-suc}
use native.Mathlib.Omega.{arith}
use lib.Arith.{mod-mul}
use lib.ListN.{length, get_or, take, drop, length-append, length-drop, take-append-drop}
use lib.Seq.{take-add, take_at, drop_at, drop-drop, drop-append-add, length-take-le, get_or-take, get_or-drop}
use Rattle.base.specs.Bytes.{value, bytes, part, value_at, put}

-- ---- the number that bytes say

pub value-append : (xs ys : List ℕ) → value (xs ++ ys) ≡ value xs + 256 ^ length xs * value ys
unfolding value
value-append [] ys = omega arith
value-append (x ∷ xs) ys =
    ap (λ (n : ℕ). x + 256 * n) (value-append xs ys)
    ∙ omega
    (arith, ap (λ (n : ℕ). n * value ys) (pow-suc 256 (length xs) ∙ mul_comm (256 ^ length xs) 256) ∙ mul_assoc 256 (256 ^ length xs) (value ys))

value-take-lt : (n : ℕ) (bs : List ℕ) → ((i : ℕ) → get_or bs i 0 < 256) → value (take n bs) < 256 ^ n
unfolding value
value-take-lt zero bs h = zero-lt-suc 0
value-take-lt (suc n) [] h = rw pow-suc (omega (arith, value-take-lt n [] h))
value-take-lt (suc n) (b ∷ bs) h = let g : b < 256 = h 0 in rw pow-suc (omega (arith, value-take-lt n bs (λ i. h (suc i))))

pub value_at-lt : (n : ℕ) (s : List ℕ) (at : ℕ) → ((i : ℕ) → get_or s i 0 < 256) → value_at n s at < 256 ^ n
unfolding value_at
value_at-lt n s at h = value-take-lt n (drop at s) (λ i. rw get_or-drop (h (at + i)))

pub value_at-add : (m n : ℕ) (s : List ℕ) (at : ℕ) → at + m ≤ length s → value_at (m + n) s at ≡ value_at m s at + 256 ^ m * value_at n s (at + m)
unfolding value_at
value_at-add m n s at h =
    ap value (take-add m n (drop at s) ∙ ap (λ (l : List ℕ). take m (drop at s) ++ take n l) (drop-drop m at s))
    ∙ value-append (take m (drop at s)) (take n (drop (at + m) s))
    ∙ ap (λ (k : ℕ). value (take m (drop at s)) + 256 ^ k * value (take n (drop (at + m) s)))
    (length-take-le m (drop at s) (simp length-drop (omega arith)))

pub value_at-one : (s : List ℕ) (at : ℕ) → value_at 1 s at ≡ get_or s at 0
unfolding value_at value
value_at-one [] zero = refl
value_at-one [] (suc at) = refl
value_at-one (x ∷ s) zero = omega arith
value_at-one (x ∷ s) (suc at) = value_at-one s at

-- ---- the bytes of a number

pub length-bytes : (n w : ℕ) → length (bytes n w) ≡ n
unfolding bytes
length-bytes zero w = refl
length-bytes (suc n) w = ap suc (length-bytes n (w / 256))

pub bytes-add : (m n w : ℕ) → bytes (m + n) w ≡ bytes m w ++ bytes n (w / 256 ^ m)
unfolding bytes
bytes-add zero n w = ap₂ bytes (zero-add n) (sym (div-one w))
bytes-add (suc m) n w =
    ap (λ (k : ℕ). bytes k w) (suc-add m n)
    ∙ ap (λ (l : List ℕ). w % 256 ∷ l)
    (bytes-add m n (w / 256)
    ∙ ap (λ (k : ℕ). bytes m (w / 256) ++ bytes n k)
    (div-div-eq-div-mul w 256 (256 ^ m) ∙ ap (λ (k : ℕ). w / k) (mul_comm 256 (256 ^ m) ∙ sym (pow-suc 256 m))))

low-byte-first : (n w : ℕ) → w % 256 ^ suc n ≡ (w / 256 % 256 ^ n) * 256 + w % 256
low-byte-first n w = ap (λ (k : ℕ). w % k) (pow-suc 256 n) ∙ mod-mul w (one-le-pow n 256 (zero-lt-suc 255)) (zero-lt-suc 255)

pub bytes-mod : (n w : ℕ) → bytes n (w % 256 ^ n) ≡ bytes n w
unfolding bytes
bytes-mod zero w = refl
bytes-mod (suc n) w =
    ap₂ (λ (b k : ℕ). b ∷ bytes n k)
    (ap (λ (k : ℕ). k % 256) (low-byte-first n w) ∙ omega arith)
    (ap (λ (k : ℕ). k / 256) (low-byte-first n w) ∙ omega arith)
    ∙ ap (λ (l : List ℕ). w % 256 ∷ l) (bytes-mod n (w / 256))

pub value-bytes : (n w : ℕ) → value (bytes n w) ≡ w % 256 ^ n
unfolding value bytes
value-bytes zero w = sym (mod-one w)
value-bytes (suc n) w = ap (λ (k : ℕ). w % 256 + 256 * k) (value-bytes n (w / 256)) ∙ sym (low-byte-first n w ∙ omega arith)

pub value-bytes-small : (n w : ℕ) → w < 256 ^ n → value (bytes n w) ≡ w
value-bytes-small n w h = value-bytes n w ∙ mod-eq_of_lt h

pub bytes-value : (bs : List ℕ) → ((i : ℕ) → get_or bs i 0 < 256) → bytes (length bs) (value bs) ≡ bs
unfolding bytes value
bytes-value [] h = refl
bytes-value (b ∷ bs) h =
    let g : b < 256 = h 0 in
    ap₂ (λ (x : ℕ) (n : ℕ). x ∷ bytes (length bs) n) (omega arith) (omega arith) ∙ ap (λ (l : List ℕ). b ∷ l) (bytes-value bs (λ i. h (suc i)))

-- ---- parts

pub length_part : (k : ℕ) (s : List ℕ) (o : ℕ) → o + k ≤ length s → length (part k s o) ≡ k
unfolding part
length_part k s o h = length-take-le k (drop o s) (simp length-drop (omega arith))

pub get_d_part : (n : ℕ) (s : List ℕ) (o j : ℕ) → j < n → get_or (part n s o) j 0 ≡ get_or s (o + j) 0
unfolding part
get_d_part n s o j h = get_or-take n (drop o s) j 0 h ∙ get_or-drop o s j 0

-- ---- stores

head-length : (d : List ℕ) (at : ℕ) (bs : List ℕ) → at ≤ length d → length (take at d ++ bs) ≡ at + length bs
head-length d at bs h = length-append (take at d) bs ∙ ap (λ (k : ℕ). k + length bs) (length-take-le at d h)

pub length-put : (d : List ℕ) (at : ℕ) (bs : List ℕ) → at + length bs ≤ length d → length (put d at bs) ≡ length d
unfolding put
length-put d at bs h =
    length-append (take at d ++ bs) (drop (at + length bs) d)
    ∙ omega (arith, head-length d at bs (omega arith), length-drop (at + length bs) d)

pub put-none : (d : List ℕ) (at : ℕ) → put d at [] ≡ d
unfolding put
put-none d at = ap₂ (λ (l : List ℕ) (k : ℕ). l ++ drop k d) (append-nil (take at d)) (add-zero at) ∙ take-append-drop at d

pub put-put : (d : List ℕ) (at : ℕ) (xs ys : List ℕ) (n : ℕ) → n ≡ at + length xs → n ≤ length d → put (put d at xs) n ys ≡ put d at (xs ++ ys)
unfolding put
put-put d at xs ys n e h =
    let a : at ≤ length d = omega arith in
    let p : length (take at d ++ xs) ≡ n = head-length d at xs a ∙ sym e in
    ap₂ (λ (l r : List ℕ). l ++ ys ++ r)
    (take_at (take at d ++ xs) (drop (at + length xs) d) n p)
    (ap (λ (k : ℕ). drop (k + length ys) (take at d ++ xs ++ drop (at + length xs) d)) (sym p)
    ∙ drop-append-add (take at d ++ xs) (drop (at + length xs) d) (length ys)
    ∙ drop-drop (length ys) (at + length xs) d
    ∙ ap (λ (k : ℕ). drop k d) (add_assoc at (length xs) (length ys) ∙ ap (λ (k : ℕ). at + k) (sym (length-append xs ys))))
    ∙ ap (λ (l : List ℕ). l ++ drop (at + length (xs ++ ys)) d) (append_assoc (take at d) xs ys)

pub part-put : (d : List ℕ) (at : ℕ) (bs : List ℕ) (n : ℕ) → length bs ≡ n → at ≤ length d → part n (put d at bs) at ≡ bs
unfolding part put
part-put d at bs n e h =
    ap (take n)
    (ap (drop at) (append_assoc (take at d) bs (drop (at + length bs) d))
    ∙ drop_at (take at d) (bs ++ drop (at + length bs) d) at (length-take-le at d h))
    ∙ take_at bs (drop (at + length bs) d) n e

-- what is stored is read again
pub value_at-put : (d : List ℕ) (at n w : ℕ) → at ≤ length d → w < 256 ^ n → value_at n (put d at (bytes n w)) at ≡ w
unfolding value_at part
value_at-put d at n w h g = ap value (part-put d at (bytes n w) n (length-bytes n w) h) ∙ value-bytes-small n w g

-- two calls, of which the second puts where the first ended
pub then : (d : List ℕ) (at : ℕ) (xs ys : List ℕ) (n : ℕ) {l m : List ℕ}
    → l ≡ put d at xs → m ≡ put l n ys → n ≡ at + length xs → n ≤ length d → m ≡ put d at (xs ++ ys)
then d at xs ys n p q e h = q ∙ ap (λ (k : List ℕ). put k n ys) p ∙ put-put d at xs ys n e h
