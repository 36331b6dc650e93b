-- A node is taken: the places in it go from the table of those that are ahead.
use Prim.Native.Nat.{ℕ, zero, suc, ◌+◌, ◌-◌, ◌≤◌, ◌<◌}
use mathlib.Core.Path.{◌≡◌, refl}
use mathlib.Core.List.{List, [], ◌∷◌}
use native.Mathlib.Omega.{arith}
use lib.Dec.{eqb-zero-suc, eqb-suc-zero, eqb-suc-suc}
use lib.ListN.{length, get_or, set, length-set}
use borrow.Author.Tests.{eq-eqb}
use Rattle.press_spec.specs.Links.{Link, leaf, join, link_at}
use Rattle.press_spec.specs.Trim.{naming, uses_in}

-- ---- one place fewer

fewer : (t : List ℕ) (n m : ℕ) → n < length t → 1 ≤ get_or t n 0 → get_or (set t n (get_or t n 0 - 1)) m 0 + naming m n ≡ get_or t m 0
unfolding naming
fewer [] n m h g = absurd (omega arith)
fewer (x ∷ t) zero zero h g = omega arith
fewer (x ∷ t) zero (suc m) h g = rw (eqb-suc-zero m) (omega arith)
fewer (x ∷ t) (suc n) zero h g = rw (eqb-zero-suc n) (omega arith)
fewer (x ∷ t) (suc n) (suc m) h g = rw (eqb-suc-suc m n) (fewer t n m (omega arith) g)

naming-self : (n : ℕ) → naming n n ≡ 1
unfolding naming
naming-self n = rw (eq-eqb n n refl)

module _ (t : List ℕ) (i j l r : ℕ) (p : i ≡ l) (q : j ≡ r) (h : i < length t) (g : j < length t)
    (some : (m : ℕ) → naming m l + naming m r ≤ get_or t m 0) where
  abbrev less : List ℕ
  less = set t i (get_or t i 0 - 1)

  enough : (m : ℕ) → naming m i + naming m j ≤ get_or t m 0
  enough m = rw (p, q) (some m)

  pub left-some : 1 ≤ get_or t i 0
  left-some = omega (arith, enough i, naming-self i)

  pub right-some : 1 ≤ get_or less j 0
  right-some = omega (arith, enough j, naming-self j, fewer t i j h left-some)

  pub both-taken : (m : ℕ) → get_or (set less j (get_or less j 0 - 1)) m 0 + (naming m l + naming m r) ≡ get_or t m 0
  both-taken m =
      rw (← p, ← q) (omega (arith, fewer t i m h left-some, fewer less j m (rw (length-set t i (get_or t i 0 - 1)) g) right-some))

-- ---- by what the code finds at the node

module _ (s : List Link) (t : List ℕ) (n : ℕ) where
  pub close-leaf : (line m : ℕ) → link_at s n ≡ leaf line → get_or t m 0 + uses_in m (link_at s n) ≡ get_or t m 0
  unfolding uses_in
  close-leaf line m e = rw e (omega arith)

  module _ (p l r : ℕ) (e : link_at s n ≡ join p l r) where
    pub close-asks : ((m : ℕ) → uses_in m (link_at s n) ≤ get_or t m 0) → (m : ℕ) → naming m l + naming m r ≤ get_or t m 0
    unfolding uses_in
    close-asks f m = let o : uses_in m (join p l r) ≤ get_or t m 0 = rw e at (f m) in o

    pub close-join : (next : List ℕ) → ((m : ℕ) → get_or next m 0 + (naming m l + naming m r) ≡ get_or t m 0)
        → (m : ℕ) → get_or next m 0 + uses_in m (link_at s n) ≡ get_or t m 0
    unfolding uses_in
    close-join next f m = rw e (f m)
