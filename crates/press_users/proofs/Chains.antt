-- A node goes to the front of its parent's chain; and which node is a parent.
use Prim.Native.Nat.{ℕ, suc, ◌+◌, ◌-◌, ◌≤◌, ◌<◌}
use mathlib.Core.Path.{◌≡◌, refl, sym, ap, ◌∙◌}
use mathlib.Core.List.{List}
use native.Mathlib.Omega.{arith}
use native.Mathlib.Decide.{ℕ_discrete}
use lib.ListN.{length, get_or, set, replicate}
use lib.Seq.{get_or-set_same, get_or-set_other}
use Rattle.std.proofs.Common.{Option, None, Some}
use Rattle.base.proofs.Lists.{get_d-blank}
use Rattle.sheet.specs.declared.NodeNo.{NodeNo}
use Rattle.press_spec.specs.Links.{Link, leaf, join}
use Rattle.press_nodes.specs.declared.fate.Side.{Side}
use Rattle.press_nodes.specs.declared.fate.Side.TheVariants.{Left, Right}
use Rattle.press_nodes.specs.Numbers.{number_in, numbers_in}
use Rattle.press_nodes.proofs.Numbers.{numbers-length, numbers-set, numbers-at, numbers-none, some-suc}
use Rattle.press_users.specs.Chains.{parent_on, Chaining}

module _ (p : ℕ → ℕ) where
  pub none-chained : (old heads nexts : List (Option NodeNo)) → heads ≡ replicate (length old) None → Chaining p 0 (numbers_in heads) (numbers_in nexts)
  none-chained old heads nexts e = record {
    newest = λ m h o. absurd (omega arith);
    head = λ q h. absurd (omega (arith, ap (λ (t : List ℕ). get_or t q 0) (ap numbers_in e ∙ numbers-none (length old)), get_d-blank {A = ℕ} (length old) q 0));
    older = λ m k l h. absurd (omega arith);
    next = λ m h. absurd (omega arith);
  }

  pub all-chained : (k n : ℕ) {heads nexts : List ℕ} → k ≡ n → Chaining p k heads nexts → Chaining p n heads nexts
  all-chained k n e c = rw e at c

  module _ (k : ℕ) {heads nexts : List ℕ} (c : Chaining p k heads nexts) where
    -- a node without a parent is in no chain
    pub not-chained : p k ≡ 0 → Chaining p (k + 1) heads nexts
    not-chained e = record {
      newest = λ n h o. elim (ℕ_discrete n k) [ yes q ↦ absurd (omega (arith, ap p q)) | no q ↦ c.newest n (omega arith) o ];
      head = λ q h. (omega (arith, (c.head q h).0), (c.head q h).1);
      older = λ m n l h o. elim (ℕ_discrete n k) [ yes q ↦ absurd (omega (arith, ap p q)) | no q ↦ c.older m n l (omega arith) o ];
      next = λ n h o. elim (ℕ_discrete n k) [ yes q ↦ absurd (omega (arith, ap p q)) | no q ↦ c.next n (omega arith) o ];
    }

    module _ (q : ℕ) (mine : p k ≡ suc q) (inside : q < length heads) (room : k < length nexts) where
      abbrev old : ℕ
      old = get_or heads q 0

      at_front : get_or (set heads q (k + 1)) q 0 ≡ k + 1
      at_front = get_or-set_same heads q (k + 1) 0 inside

      elsewhere : (m : ℕ) → (m ≡ q → ⊥) → get_or (set heads q (k + 1)) m 0 ≡ get_or heads m 0
      elsewhere m h = get_or-set_other heads q m (k + 1) 0 h

      my-next : get_or (set nexts k old) k 0 ≡ old
      my-next = get_or-set_same nexts k old 0 room

      other-next : (n : ℕ) → (n ≡ k → ⊥) → get_or (set nexts k old) n 0 ≡ get_or nexts n 0
      other-next n h = get_or-set_other nexts k n old 0 h

      newest' : (n : ℕ) → n < k + 1 → 1 ≤ p n → n < get_or (set heads q (k + 1)) (p n - 1) 0
      newest' n h o = elim (ℕ_discrete (p n - 1) q) [
        | yes e ↦ rw e (omega (arith, at_front))
        | no e ↦ rw (elsewhere (p n - 1) e) (c.newest n (less n h (λ z. e (omega (arith, ap p z)))) o)
      ]
        where
          less : (n : ℕ) → n < k + 1 → (n ≡ k → ⊥) → n < k
          less n h z = omega arith

      head' : (m : ℕ) → 1 ≤ get_or (set heads q (k + 1)) m 0
          → (get_or (set heads q (k + 1)) m 0 ≤ k + 1) × (p (get_or (set heads q (k + 1)) m 0 - 1) ≡ suc m)
      head' m = elim (ℕ_discrete m q) [
        | yes e ↦ rw (e, at_front) (λ h. (omega arith, let z : k + 1 - 1 ≡ k = omega arith in rw z mine))
        | no e ↦ rw (elsewhere m e) (λ h. (omega (arith, (c.head m h).0), (c.head m h).1))
      ]

      older' : (m n : ℕ) → m < n → n < k + 1 → 1 ≤ p n → p m ≡ p n → m < get_or (set nexts k old) n 0
      older' m n l h o e = elim (ℕ_discrete n k) [
        | yes z ↦
            let mine_too : p m ≡ suc q = e ∙ ap p z ∙ mine in
            let back : p m - 1 ≡ q = omega arith in
            let older : m < get_or heads q 0 = rw back at (c.newest m (omega arith) (omega arith)) in
            rw (z, my-next) older
        | no z ↦ rw (other-next n z) (c.older m n l (omega arith) o e)
      ]

      next' : (n : ℕ) → n < k + 1 → 1 ≤ p n → 1 ≤ get_or (set nexts k old) n 0
          → (get_or (set nexts k old) n 0 ≤ n) × (p (get_or (set nexts k old) n 0 - 1) ≡ p n)
      next' n h o = elim (ℕ_discrete n k) [
        | yes z ↦ rw (z, my-next) (λ some. ((c.head q some).0, (c.head q some).1 ∙ sym mine))
        | no z ↦ rw (other-next n z) (c.next n (omega arith) o)
      ]

      pub chained : Chaining p (k + 1) (set heads q (k + 1)) (set nexts k (get_or heads q 0))
      chained = record { newest = newest'; head = head'; older = older'; next = next' }

  -- as the tables have it
  module _ (heads nexts : List (Option NodeNo)) {n parent : NodeNo} {i q : ℕ} (at-i : i ≡ n.0) (at-q : q ≡ parent.0) where
    pub front-chained : Chaining p n.0 (numbers_in heads) (numbers_in nexts) → p n.0 ≡ suc parent.0 → parent.0 < length heads → n.0 < length nexts
        → Chaining p (n.0 + 1) (numbers_in (set heads q (Some n))) (numbers_in (set nexts i (get_or heads q None)))
    front-chained c mine inside room =
        let next : n.0 + 1 ≡ suc n.0 = omega arith in
        let front : number_in (Some n) ≡ n.0 + 1 = some-suc (Some n) n refl ∙ sym next in
        rw (numbers-set heads q parent.0 (Some n) at-q, front, numbers-set nexts i n.0 (get_or heads q None) at-i, numbers-at heads q parent.0 None at-q inside)
        (chained n.0 c parent.0 mine (rw (numbers-length heads) inside) (rw (numbers-length nexts) room))

-- ---- the parent on a side

module _ (side : Side) (x : Link) where
  pub parent-none : {line : ℕ} → x ≡ leaf line → parent_on side x ≡ 0
  unfolding parent_on
  parent-none e = rw e

  pub parent-left : {p l r : ℕ} → side ≡ Left → x ≡ join p l r → parent_on side x ≡ suc l
  unfolding parent_on
  parent-left q e = rw (q, e)

  pub parent-right : {p l r : ℕ} → side ≡ Right → x ≡ join p l r → parent_on side x ≡ suc r
  unfolding parent_on
  parent-right q e = rw (q, e)
