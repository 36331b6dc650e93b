-- The trim keeps the node that it starts from and, with each node, its parents. Uses in what is kept, counted from a number on.
use Prim.Native.Nat.{ℕ, zero, suc, ◌+◌, ◌≤◌, ◌<◌}
use mathlib.Core.Bool.{Bool, true, false, cond}
use mathlib.Core.Path.{◌≡◌, refl, ◌∙◌}
use mathlib.Core.Logic.{◌⊎◌, inl, inr}
use mathlib.Core.List.{List, [], ◌∷◌}
use native.Mathlib.Omega.{arith}
use native.Mathlib.Decide.{ℕ_discrete}
use lib.Dec.{eqb}
use lib.ListN.{length, get_or, set, drop, replicate, length-set, length-replicate}
use lib.Seq.{get_or-set_same, get_or-set_other}
use borrow.Author.Tests.{eqb-true, eq-eqb, ne_eqb}
use Rattle.base.proofs.Folds.{fall-by}
use Rattle.base.proofs.Lists.{cond_both, get_d-blank}
use Rattle.press_spec.specs.Links.{Link, leaf, join, link_at, Parents}
use Rattle.press_spec.specs.Trim.{keep_parents, trim_turn, trim, trimmed, naming, uses_in, uses}
use Rattle.press_spec.proofs.Nodes.{Falling}

-- ---- marks

abbrev pub Marked : List ℕ → ℕ → Type 0
Marked m n = 1 ≤ get_or m n 0

mark-keeps : (m : List ℕ) (k n : ℕ) → Marked m n → Marked (set m k 1) n
mark-keeps [] k n h = h
mark-keeps (x ∷ m) zero zero h = omega arith
mark-keeps (x ∷ m) zero (suc n) h = h
mark-keeps (x ∷ m) (suc k) zero h = h
mark-keeps (x ∷ m) (suc k) (suc n) h = mark-keeps m k n h

mark-here : (m : List ℕ) (n : ℕ) → n < length m → Marked (set m n 1) n
mark-here m n h = omega (arith, get_or-set_same m n 1 0 h)

parents-keep : (m : List ℕ) (k : ℕ) (x : Link) → Parents (Marked m) x → Parents (Marked (set m k 1)) x
parents-keep m k (leaf line) h = tt
parents-keep m k (join p l r) h = (mark-keeps m k l h.0, mark-keeps m k r h.1)

-- ---- the walk

module _ (s : List Link) (earlier : Falling s) (from : ℕ) (inside : from < length s) where
  -- the nodes from i on have their parents marked
  record Trimming (i : ℕ) (m : List ℕ) : Type 0 where
    long : length m ≡ length s
    start : Marked m from
    closed : (n : ℕ) → i ≤ n → Marked m n → Parents (Marked m) (link_at s n)

  module _ (i : ℕ) (m : List ℕ) (low : i < length s) (t : Trimming (suc i) m) where
    rests : (Marked m i → Parents (Marked m) (link_at s i)) → Trimming i m
    rests g = record {
      long = t.long;
      start = t.start;
      closed = λ n o h. elim (ℕ_discrete n i) [ yes q ↦ rw q (g (rw q at h)) | no q ↦ t.closed n (omega arith) h ];
    }

    marks : (p l r : ℕ) → link_at s i ≡ join p l r → Trimming i (keep_parents (join p l r) m)
    unfolding keep_parents
    marks p l r a =
        let b : (l < i) × (r < i) = rw a at (earlier i) in
        record {
          long = length-set (set m l 1) _ 1 ∙ length-set m l 1 ∙ t.long;
          start = mark-keeps (set m l 1) _ from (mark-keeps m l from t.start);
          closed = λ n o h. elim (ℕ_discrete n i) [
            | yes q ↦ rw (q, a) (
              mark-keeps (set m l 1) _ l (mark-here m l (rw t.long (omega (arith, b)))),
              mark-here (set m l 1) r (rw (length-set m l 1, t.long) (omega (arith, b))),
            )
            | no q ↦
                let h₁ : Marked (set m l 1) n = rw (get_or-set_other (set m l 1) r n 1 0 (omega (arith, b))) at h in
                let h₀ : Marked m n = rw (get_or-set_other m l n 1 0 (omega (arith, b))) at h₁ in
                parents-keep (set m l 1) r (link_at s n) (parents-keep m l (link_at s n) (t.closed n (omega arith) h₀))
          ];
        }

    trim-one : (x : Link) (u : Bool) → link_at s i ≡ x → eqb (get_or m i 0) 0 ≡ u → Trimming i (cond u m (keep_parents x m))
    unfolding keep_parents
    trim-one x true a e = rests (λ h. absurd (omega (arith, eqb-true (get_or m i 0) 0 e)))
    trim-one (leaf line) false a e = rests (λ h. rw a tt)
    trim-one (join p l r) false a e = marks p l r a

  trim_start : Trimming (suc from) (set (replicate (length s) 0) from 1)
  trim_start = record {
    long = length-set (replicate (length s) 0) from 1 ∙ length-replicate (length s) 0;
    start = mark-here (replicate (length s) 0) from (rw length-replicate inside);
    closed = λ n o h. absurd (omega
        (arith, get_or-set_other {A = ℕ} (replicate (length s) 0) from n 1 0 (omega arith), get_d-blank {A = ℕ} (length s) n 0));
  }

  trims : Trimming 0 (trim s from)
  unfolding trim trim_turn
  trims =
      fall-by Trimming (trim_turn s) (suc from) _
      (λ i m h t. trim-one i m (omega arith) t (link_at s i) (eqb (get_or m i 0) 0) refl refl) trim_start

  pub trim-long : length (trim s from) ≡ length s
  trim-long = trims.long

  pub trim-keeps : Marked (trim s from) from
  trim-keeps = trims.start

  pub trim-closed : (n : ℕ) → Marked (trim s from) n → Parents (Marked (trim s from)) (link_at s n)
  trim-closed n h = trims.closed n (omega arith) h

-- ---- uses of n in the nodes from i on

unfoldable pub uses_after : List Link → List ℕ → ℕ → ℕ → ℕ
uses_after s m i n = uses (trimmed (drop i s) (drop i m)) n

trimmed-none : (s : List Link) → trimmed s [] ≡ []
unfolding trimmed
trimmed-none [] = refl
trimmed-none (x ∷ s) = refl

pub uses-fewer : (s : List Link) (m : List ℕ) (i n : ℕ) → uses_after s m (suc i) n ≤ uses_after s m i n
unfolding uses_after trimmed uses
uses-fewer [] m i n = omega arith
uses-fewer (x ∷ s) [] i n = rw trimmed-none (omega arith)
uses-fewer (x ∷ s) (k ∷ m) zero n =
    cond_both (λ t. uses (trimmed s m) n ≤ uses t n) (eqb k 0) (trimmed s m) (x ∷ trimmed s m) (omega arith) (omega arith)
uses-fewer (x ∷ s) (k ∷ m) (suc i) n = uses-fewer s m i n

pub uses-all : (s : List Link) (m : List ℕ) (i n : ℕ) → uses_after s m i n ≤ uses (trimmed s m) n
unfolding uses_after
uses-all s m zero n = omega arith
uses-all s m (suc i) n = omega (arith, uses-fewer s m i n, uses-all s m i n)

pub uses-here : (s : List Link) (m : List ℕ) (i n : ℕ) → i < length s → Marked m i
    → uses_after s m i n ≡ uses_in n (link_at s i) + uses_after s m (suc i) n
unfolding uses_after trimmed uses link_at
uses-here [] m i n h t = absurd (omega arith)
uses-here (x ∷ s) [] i n h t = absurd (omega arith)
uses-here (x ∷ s) (k ∷ m) zero n h t = rw (ne_eqb k 0 (omega arith))
uses-here (x ∷ s) (k ∷ m) (suc i) n h t = uses-here s m i n (omega arith) t

-- ---- the places of one step

naming-self : (n : ℕ) → naming n n ≡ 1
unfolding naming
naming-self n = rw (eq-eqb n n refl)

pub uses-left : (p l r : ℕ) → 1 ≤ uses_in l (join p l r)
unfolding uses_in
uses-left p l r = omega (arith, naming-self l)

pub uses-right : (p l r : ℕ) → 1 ≤ uses_in r (join p l r)
unfolding uses_in
uses-right p l r = omega (arith, naming-self r)

pub uses-both : (p n : ℕ) → uses_in n (join p n n) ≡ 2
unfolding uses_in
uses-both p n = omega (arith, naming-self n)

-- what a step uses is one of its parents
pub used-parent : (n p l r : ℕ) → 1 ≤ uses_in n (join p l r) → (n ≡ l) ⊎ (n ≡ r)
unfolding uses_in naming
used-parent n p l r = by (eqb n l) (eqb n r) refl refl
  where
    by : (u v : Bool) → eqb n l ≡ u → eqb n r ≡ v → 1 ≤ cond u 1 0 + cond v 1 0 → (n ≡ l) ⊎ (n ≡ r)
    by true v a b h = inl (eqb-true n l a)
    by false true a b h = inr (eqb-true n r b)
    by false false a b h = absurd (omega arith)
