-- What the cuts of lowered nodes may add: the opposites of their literals. From here on a pass of lowering is a function `low`, by node.
use Prim.Native.Nat.{ℕ, zero, suc, ◌≤◌, ◌<◌}
use mathlib.Core.Bool.{Bool, true, false, cond}
use mathlib.Core.Path.{◌≡◌, refl, ap, ◌∙◌}
use mathlib.Core.Logic.{inl, inr}
use mathlib.Core.List.{List, [], ◌∷◌}
use native.Mathlib.Omega.{arith}
use native.Mathlib.Decide.{ℕ_discrete, dec_lt}
use lib.Dec.{eqb}
use lib.ListN.{length, get_or, length-map, get_or-eq_default}
use borrow.Author.Tests.{eqb-false, ne_eqb}
use Rattle.clause.specs.Clauses.{Literal, plus, minus, Literals, none, holds, adding, Within}
use Rattle.sheet.specs.declared.edition.Edition.{Edition}
use Rattle.sheet.specs.Records.{Node, step, node_at}
use Rattle.press_spec.specs.Links.{Link, leaf, join, link, links, link_at}
use Rattle.press_spec.specs.Trim.{trim, trimmed, uses_in, uses, uses_from}
use Rattle.press_spec.specs.Recycle.{Cut, cut_left, cut_right, uncut, Fate, lost, kept}
use Rattle.press_spec.specs.Lower.{opposite, Lowered, staying, lowered, is_lowered, cut_by, fate_by, fates_by}
use Rattle.press_spec.proofs.Proper.{ProperNode}
use Rattle.press_spec.proofs.Nodes.{Falling, Earlier, link-at, links-falling}
use Rattle.press_spec.proofs.Literals.{adding-keeps, adding-has}
use Rattle.press_spec.proofs.Trimmed.{Marked, trim-long, trim-keeps, trim-closed, used-parent}
use Rattle.press_spec.proofs.Rebuilt.{ProperKept}
use Rattle.press_spec.proofs.Allowed.{Gets, EdgesAllowed, LinkAllowed, Allowed}

-- ---- literals

pub opposite-twice : (x : Literal) → opposite (opposite x) ≡ x
unfolding opposite
opposite-twice (plus v) = refl
opposite-twice (minus v) = refl

pub opposite-other : (x : Literal) → x ≡ opposite x → ⊥
unfolding opposite
opposite-other (plus v) e = let z : ◌≡◌ {A = ℕ} 0 1 = cc in omega arith
opposite-other (minus v) e = let z : ◌≡◌ {A = ℕ} 0 1 = cc in omega arith

-- ---- the opposites of the literals lowered below n

unfoldable pub owe : Lowered → Literals → Literals
owe staying D = D
owe (lowered x) D = adding (opposite x) D

unfoldable pub owed_below : (ℕ → Lowered) → ℕ → Literals
owed_below low zero = none
owed_below low (suc n) = owe (low n) (owed_below low n)

owe-keeps : (t : Lowered) (D : Literals) → Within D (owe t D)
unfolding owe
owe-keeps staying D y h = h
owe-keeps (lowered x) D y h = adding-keeps y (opposite x) D h

module _ (low : ℕ → Lowered) where
  pub owed_more : (m n : ℕ) → m ≤ n → Within (owed_below low m) (owed_below low n)
  unfolding owed_below
  owed_more m zero h y t = let q : m ≡ 0 = omega arith in rw q at t
  owed_more m (suc n) h y t = elim (ℕ_discrete m (suc n)) [
    | yes q ↦ rw q at t
    | no q ↦ owe-keeps (low n) (owed_below low n) y (owed_more m n (omega arith) y t)
  ]

  pub owed-holds : (m n : ℕ) (x : Literal) → low m ≡ lowered x → m < n → holds (opposite x) (owed_below low n) ≡ true
  owed-holds m n x q h = owed_more (suc m) n h (opposite x) (unfold owed_below owe in rw q (adding-has (opposite x) (owed_below low m)))

  pub owed-staying : (n : ℕ) → low n ≡ staying → owed_below low (suc n) ≡ owed_below low n
  unfolding owed_below owe
  owed-staying n q = rw q

  pub owed-lowered : (n : ℕ) (x : Literal) → low n ≡ lowered x → owed_below low (suc n) ≡ adding (opposite x) (owed_below low n)
  unfolding owed_below owe
  owed-lowered n x q = rw q

-- ---- what is marked

module _ (s : List Link) (falling : Falling s) (from : ℕ) (inside : from < length s) where
  marked-inside : (n : ℕ) → Marked (trim s from) n → n < length s
  marked-inside n h = elim (dec_lt n (length s)) [
    | yes k ↦ k
    | no k ↦ absurd (omega (arith, get_or-eq_default (trim s from) 0 {n = n} (rw (trim-long s falling from inside) (omega arith))))
  ]

  parents-marked : (n p l r : ℕ) → link_at s n ≡ join p l r → Marked (trim s from) n
      → Marked (trim s from) l × Marked (trim s from) r
  parents-marked n p l r a h = rw a at (trim-closed s falling from inside n h)

-- a node that is used is named by a step
pub used-named : (s : List Link) (marks : List ℕ) (n : ℕ) → 1 ≤ uses (trimmed s marks) n
    → (k : ℕ) × Marked marks k × (1 ≤ uses_in n (link_at s k))
unfolding trimmed uses link_at
used-named [] marks n h = absurd (omega arith)
used-named (x ∷ s) [] n h = absurd (omega arith)
used-named (x ∷ s) (k ∷ marks) n h = by (eqb k 0) refl h (used-named s marks n)
  where
    there : (j : ℕ) × Marked marks j × (1 ≤ uses_in n (link_at s j)) → (j : ℕ) × Marked (k ∷ marks) j × (1 ≤ uses_in n (link_at (x ∷ s) j))
    there (j, m, u) = (suc j, m, unfold link_at in u)

    by : (u : Bool) → eqb k 0 ≡ u → 1 ≤ uses (cond u (trimmed s marks) (x ∷ trimmed s marks)) n
        → (1 ≤ uses (trimmed s marks) n → (j : ℕ) × Marked marks j × (1 ≤ uses_in n (link_at s j)))
        → (j : ℕ) × Marked (k ∷ marks) j × (1 ≤ uses_in n (link_at (x ∷ s) j))
    by true q g f = there (f g)
    by false q g f = elim (dec_lt 0 (uses_in n x)) [
      | yes y ↦ (0, omega (arith, eqb-false k 0 q), unfold link_at in y)
      | no y ↦ there (f (unfold uses in omega arith))
    ]

module _ (s : List Link) (falling : Falling s) (from : ℕ) (inside : from < length s) where
  used-marked : (n : ℕ) → 1 ≤ uses_from s from n → Marked (trim s from) n
  unfolding uses_from
  used-marked n h = let (k, m, u) = used-named s (trim s from) n h in by k m (link_at s k) refl u
    where
      by : (k : ℕ) → Marked (trim s from) k → (y : Link) → link_at s k ≡ y → 1 ≤ uses_in n y → Marked (trim s from) n
      by k m (leaf line) a u = absurd (unfold uses_in in omega arith)
      by k m (join p l r) a u =
          let both = parents-marked s falling from inside k p l r a m in
          elim (used-parent n p l r u) [ inl y ↦ rw y both.0 | inr y ↦ rw y both.1 ]

-- ---- the fates

module _ (marks : List ℕ) (low : ℕ → Lowered) (s : List Link) where
  pub marked-fate : (n : ℕ) → Marked marks n → fates_by marks low s n ≡ kept (cut_by low (link_at s n))
  unfolding fates_by fate_by
  marked-fate n h = rw (ne_eqb (get_or marks n 0) 0 (omega arith))

  pub fate-marked : (n : ℕ) (z : Cut) → fates_by marks low s n ≡ kept z → Marked marks n × (cut_by low (link_at s n) ≡ z)
  unfolding fates_by fate_by
  fate-marked n z = by (eqb (get_or marks n 0) 0) refl
    where
      by : (u : Bool) → eqb (get_or marks n 0) 0 ≡ u → cond u lost (kept (cut_by low (link_at s n))) ≡ kept z
          → Marked marks n × (cut_by low (link_at s n) ≡ z)
      by true a q = let y : ◌≡◌ {A = ℕ} 0 1 = cc in absurd (omega arith)
      by false a q = (omega (arith, eqb-false (get_or marks n 0) 0 a), cc)

-- ---- the cuts are Allowed, if each use of a lowered node is on its literal

abbrev pub OnOwn : List Link → ℕ → (ℕ → Lowered) → Type 0
OnOwn s from low = (n p l r : ℕ) → Marked (trim s from) n → link_at s n ≡ join p l r → (x : Literal)
    → (low l ≡ lowered x → x ≡ plus p) × (low r ≡ lowered x → x ≡ minus p)

module _ (s : List Link) (falling : Falling s) (from : ℕ) (inside : from < length s) (low : ℕ → Lowered) (own : OnOwn s from low) where
  abbrev says : ℕ → Fate
  says = fates_by (trim s from) low s

  gets : (m n : ℕ) (X : Literals) → m < n → Marked (trim s from) m → Within (owed_below low n) X → Gets says (owed_below low) m X
  gets m n X h k sub =
      (cut_by low (link_at s m), marked-fate (trim s from) low s m k, λ x t. sub x (owed_more low m n (omega arith) x t))

  edges-allowed : (n p l r : ℕ) → Marked (trim s from) n → link_at s n ≡ join p l r → (a b : Lowered) → low l ≡ a → low r ≡ b
      → EdgesAllowed says (owed_below low) (cond (is_lowered a) cut_left (cond (is_lowered b) cut_right uncut)) p l r (owed_below low n)
  unfolding is_lowered opposite
  edges-allowed n p l r k q = by
    where
      before : (l < n) × (r < n)
      before = rw q at (falling n)

      both : Marked (trim s from) l × Marked (trim s from) r
      both = parents-marked s falling from inside n p l r q k

      by : (a b : Lowered) → low l ≡ a → low r ≡ b
          → EdgesAllowed says (owed_below low) (cond (is_lowered a) cut_left (cond (is_lowered b) cut_right uncut)) p l r (owed_below low n)
      by (lowered x) b u v = (
        rw ((own n p l r k q x).0 u) at (owed-holds low l n x u before.0),
        gets r n (owed_below low n) before.1 both.1 (λ y t. t),
      )
      by staying (lowered x) u v = (
        rw ((own n p l r k q x).1 v) at (owed-holds low r n x v before.1),
        gets l n (owed_below low n) before.0 both.0 (λ y t. t),
      )
      by staying staying u v = (
        gets l n (adding (plus p) (owed_below low n)) before.0 both.0 (λ y t. adding-keeps y (plus p) (owed_below low n) t),
        gets r n (adding (minus p) (owed_below low n)) before.1 both.1 (λ y t. adding-keeps y (minus p) (owed_below low n) t),
      )

  link-allowed : (n : ℕ) (m : Link) → Marked (trim s from) n → link_at s n ≡ m → LinkAllowed says (owed_below low) m (cut_by low m) (owed_below low n)
  unfolding cut_by
  link-allowed n (leaf line) k q = tt
  link-allowed n (join p l r) k q = edges-allowed n p l r k q (low l) (low r) refl refl

  -- a node's set S is what is owed for the lowered nodes below it
  owed-allowed : Allowed says (owed_below low) s
  owed-allowed n z h q =
      let y = fate-marked (trim s from) low s n z q in
      rw (← y.1) (link-allowed n (link_at s n) y.0 refl)

-- ---- a proof with its conclusion: parents first, and what `from` reaches is proper

pub record Concludes (e : Edition) (rules : List ℕ) (s : List Node) (from : ℕ) : Type 0 where
  pub earlier : Earlier s
  pub inside : from < length s
  pub proper : (n : ℕ) → Marked (trim (links s) from) n → ProperNode e rules s n (node_at s n)

module _ (e : Edition) (rules : List ℕ) (s : List Node) (from : ℕ) (good : Concludes e rules s from) where
  falling : Falling (links s)
  falling = links-falling s good.earlier

  inside : from < length (links s)
  inside = rw (length-map s link) good.inside

  pub last-marked : Marked (trim (links s) from) from
  last-marked = trim-keeps (links s) falling from inside

  pub marked-node : (n : ℕ) → Marked (trim (links s) from) n → n < length s
  marked-node n h = rw (length-map s link) at (marked-inside (links s) falling from inside n h)

  pub marked-parents : (n p l r : ℕ) (c : Literals) → node_at s n ≡ step p l r c → Marked (trim (links s) from) n
      → Marked (trim (links s) from) l × Marked (trim (links s) from) r
  marked-parents n p l r c a h = parents-marked (links s) falling from inside n p l r (link-at s n ∙ ap link a) h

  pub used-node : (n : ℕ) → 1 ≤ uses_from (links s) from n → Marked (trim (links s) from) n
  used-node n h = used-marked (links s) falling from inside n h

  pub marks-long : length (trim (links s) from) ≡ length (links s)
  marks-long = trim-long (links s) falling from inside

  module _ (low : ℕ → Lowered) where
    pub lowering-proper : ProperKept e rules s (fates_by (trim (links s) from) low (links s))
    lowering-proper n z h q = good.proper n (fate-marked (trim (links s) from) low (links s) n z q).0

    pub lowering-allowed : OnOwn (links s) from low → Allowed (fates_by (trim (links s) from) low (links s)) (owed_below low) (links s)
    lowering-allowed own = owed-allowed (links s) falling from inside low own
