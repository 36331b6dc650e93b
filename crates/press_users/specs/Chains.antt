-- Chains of steps that have one parent on one side. A chain is kept in two tables, seen as numbers: each one more than the
-- number of a node, and 0 for none.
use Rattle.std.specs.Prelude.{ℕ, suc, ◌-◌, ◌≤◌, ◌<◌, ◌≡◌, List, get_or}
use Rattle.press_spec.specs.Links.{Link, leaf, join, link_at}
use Rattle.press_nodes.specs.declared.fate.Side.{Side}
use Rattle.press_nodes.specs.declared.fate.Side.TheVariants.{Left, Right}

-- one more than the parent on a side; a leaf has none
unfoldable pub parent_on : Side → Link → ℕ
parent_on side (leaf line) = 0
parent_on Left (join p l r) = suc l
parent_on Right (join p l r) = suc r

-- what stands when the nodes below k are in their chains, where p gives one more than a node's parent
pub record Chaining (p : ℕ → ℕ) (k : ℕ) (heads nexts : List ℕ) : Type 0 where
  -- a chain begins with the newest, and has no other parent's
  pub newest : (n : ℕ) → n < k → 1 ≤ p n → n < get_or heads (p n - 1) 0
  pub head : (q : ℕ) → 1 ≤ get_or heads q 0 → (get_or heads q 0 ≤ k) × (p (get_or heads q 0 - 1) ≡ suc q)
  -- it goes down, leaves out none, and stays with its parent
  pub older : (m n : ℕ) → m < n → n < k → 1 ≤ p n → p m ≡ p n → m < get_or nexts n 0
  pub next : (n : ℕ) → n < k → 1 ≤ p n → 1 ≤ get_or nexts n 0 → (get_or nexts n 0 ≤ n) × (p (get_or nexts n 0 - 1) ≡ p n)

abbrev pub Chain : Side → List Link → ℕ → List ℕ → List ℕ → Type 0
Chain side s k heads nexts = Chaining (λ n. parent_on side (link_at s n)) k heads nexts
