-- The drops of a list of nodes: each node that is used is dropped once, and after its last use; no other is. What follows from that alone is
-- shown for any records of which it holds, wherever the drops stand: how many records there are, and that the last node is not dropped.
use Prim.Native.Nat.{ℕ, zero, suc, ◌+◌, ◌-◌, ◌*◌, ◌≤◌, ◌<◌, min, max}
use mathlib.Core.Bool.{Bool, true, false, cond}
use mathlib.Core.Path.{◌≡◌, refl, sym, ap, ◌∙◌}
use mathlib.Core.Logic.{◌⊎◌, inl, inr}
use mathlib.Core.List.{List, [], ◌∷◌, ◌++◌, map-append, append-nil}
use native.Mathlib.Omega.{arith}
use native.Mathlib.Decide.{ℕ_discrete, dec_le}
use lib.Dec.{eqb}
use lib.ListN.{length}
use borrow.Author.Tests.{eqb-true, eqb-false, eq-eqb, ne_eqb, not-true, not-false}
use Rattle.base.proofs.Lists.{cond_both}
use Rattle.sheet.specs.Records.{Node, Record, node, drop, node_at}
use Rattle.sheet.specs.Counts.{nodes_of}
use Rattle.sheet.specs.Proper.{record_in}
use Rattle.sheet.proofs.Counts.{nodes-append}
use Rattle.press_spec.specs.Links.{Link, leaf, join, link, links}
use Rattle.press_spec.specs.Trim.{naming, uses_in, uses}
use Rattle.press_spec.specs.Drops.{drop_last, drops_after, with_drops}
use Rattle.press_spec.proofs.Proper.{AllUsed}
use Rattle.press_spec.proofs.Nodes.{Falls, Earlier, uses-append}
use Rattle.press_spec.proofs.Trimmed.{used-parent}
use Rattle.press_spec.proofs.Counted.{sum_below, sum_below-le, sum_below-none, sum_below-ones, sum_below-add}
use Rattle.press_spec.proofs.Playing.{used_in}

-- ---- how often records drop node j

unfoldable pub dropped : ℕ → List Record → ℕ
dropped j [] = 0
dropped j (node x ∷ rs) = dropped j rs
dropped j (drop i ∷ rs) = naming j i + dropped j rs

dropped-append : (j : ℕ) (xs ys : List Record) → dropped j (xs ++ ys) ≡ dropped j xs + dropped j ys
unfolding dropped
dropped-append j [] ys = omega arith
dropped-append j (node x ∷ xs) ys = dropped-append j xs ys
dropped-append j (drop i ∷ xs) ys = omega (arith, dropped-append j xs ys)

-- ---- the drops after a node

-- are drops
nodes-either : (b : Bool) (xs ys : List Record) → nodes_of xs ≡ [] → nodes_of ys ≡ [] → nodes_of (cond b xs ys) ≡ []
nodes-either b xs ys p q = cond_both (λ rs. nodes_of rs ≡ []) b xs ys p q

nodes-last : (later : List Link) (n : ℕ) → nodes_of (drop_last later n) ≡ []
unfolding drop_last nodes_of
nodes-last later n = simp nodes-either

pub nodes-after : (x : Link) (later : List Link) → nodes_of (drops_after x later) ≡ []
unfolding drops_after nodes_of
nodes-after (leaf line) later = refl
nodes-after (join p l r) later = simp (nodes-append, nodes-either, nodes-last)

-- and what x is the last to use is dropped there, once
dropped-after : (x : Link) (later : List Link) (j : ℕ) → dropped j (drops_after x later) + min 1 (uses later j) ≡ min 1 (uses (x ∷ later) j)
unfolding drops_after drop_last dropped uses uses_in naming
dropped-after (leaf line) later j = omega arith
dropped-after (join p l r) later j = by (eqb l r) refl
  where
    one : (n : ℕ) → naming j n ≤ 1
    one n = cond_both (λ a. a ≤ 1) (eqb j n) 1 0 (omega arith) (omega arith)

    near : (n : ℕ) → (naming j n ≡ 0) ⊎ (uses later j ≡ uses later n)
    near n = elim (ℕ_discrete j n) [ yes q ↦ inr (ap (uses later) q) | no q ↦ inl (rw (ne_eqb j n q)) ]

    -- n is dropped unless a later node uses it, and that is a drop of j only if n is j
    last : (n : ℕ) → dropped j (drop_last later n) ≡ naming j n - min 1 (uses later j)
    last n = elim (ℕ_discrete (uses later n) 0) [
      | yes q ↦ rw q (elim (near n) [ inl o ↦ omega arith | inr o ↦ omega arith ])
      | no q ↦ rw (ne_eqb (uses later n) 0 q) (elim (near n) [ inl o ↦ omega arith | inr o ↦ omega (arith, one n) ])
    ]

    ends : naming j (min l r) + naming j (max l r) ≡ naming j l + naming j r
    ends = elim (dec_le l r) [
      | yes h ↦ let p : min l r ≡ l = omega arith in let q : max l r ≡ r = omega arith in rw (p, q)
      | no h ↦ let p : min l r ≡ r = omega arith in let q : max l r ≡ l = omega arith in rw (p, q) (omega arith)
    ]

    apart : (l ≡ r → ⊥) → naming j l + naming j r ≤ 1
    apart h = elim (ℕ_discrete j l) [
      | yes q ↦ rw (ne_eqb j r (λ e. h (sym q ∙ e))) (omega (arith, one l))
      | no q ↦ rw (ne_eqb j l q) (omega (arith, one r))
    ]

    by : (u : Bool) → eqb l r ≡ u → dropped j (drops_after (join p l r) later) + min 1 (uses later j) ≡ min 1 (uses (join p l r ∷ later) j)
    by true e =
        let h = eqb-true l r e in
        let low : min l r ≡ l = omega arith in
        let high : max l r ≡ l = omega arith in
        simp (e, dropped-append)
        (omega (arith, last (min l r), last (max l r), ap (naming j) low, ap (naming j) high, ap (naming j) h, one l))
    by false e = simp (e, dropped-append) (omega (arith, last (min l r), last (max l r), ends, apart (eqb-false l r e)))

-- ---- uses that come after the drop of what they use

unfoldable pub too_late : List Record → ℕ
too_late [] = 0
too_late (node x ∷ rs) = too_late rs
too_late (drop j ∷ rs) = uses (links (nodes_of rs)) j + too_late rs

-- in ys, of what xs drops
between : List Record → List Record → ℕ
between [] ys = 0
between (node x ∷ xs) ys = between xs ys
between (drop j ∷ xs) ys = uses (links (nodes_of ys)) j + between xs ys

too_late-append : (xs ys : List Record) → too_late (xs ++ ys) ≡ too_late xs + too_late ys + between xs ys
unfolding too_late between
too_late-append [] ys = omega arith
too_late-append (node x ∷ xs) ys = too_late-append xs ys
too_late-append (drop j ∷ xs) ys =
    rw (nodes-append xs ys, map-append link (nodes_of xs) (nodes_of ys))
    (omega (arith, uses-append (links (nodes_of xs)) (links (nodes_of ys)) j, too_late-append xs ys))

between_none : (xs ys : List Record) → ((j : ℕ) → 1 ≤ dropped j xs → uses (links (nodes_of ys)) j ≡ 0) → between xs ys ≡ 0
unfolding between dropped naming
between_none [] ys f = refl
between_none (node x ∷ xs) ys f = between_none xs ys f
between_none (drop j ∷ xs) ys f =
    omega (arith, f j (rw (eq-eqb j j refl) (omega arith)), between_none xs ys (λ i h. f i (omega arith)))

-- drops use nothing
drops-use : (ys : List Record) → nodes_of ys ≡ [] → (j : ℕ) → uses (links (nodes_of ys)) j ≡ 0
unfolding uses
drops-use ys q j = rw q

too_late-drops : (rs : List Record) → nodes_of rs ≡ [] → too_late rs ≡ 0
unfolding nodes_of too_late
too_late-drops [] q = refl
too_late-drops (node x ∷ rs) q = let z : ◌≡◌ {A = ℕ} 0 1 = cc in absurd (omega arith)
too_late-drops (drop j ∷ rs) q = omega (arith, drops-use rs q j, too_late-drops rs q)

-- ---- the records

ruleset appended = (nodes-append, append-nil)

pub nodes-with_drops : (s : List Node) → nodes_of (with_drops s) ≡ s
unfolding nodes_of with_drops
nodes-with_drops [] = refl
nodes-with_drops (x ∷ s) = simp (appended, nodes-after, nodes-with_drops s)

dropped-with_drops : (s : List Node) (j : ℕ) → dropped j (with_drops s) ≡ min 1 (uses (links s) j)
unfolding dropped with_drops uses
dropped-with_drops [] j = omega arith
dropped-with_drops (x ∷ s) j = rw (dropped-append j) (omega (arith, dropped-after (link x) (links s) j, dropped-with_drops s j))

too_late-with_drops : (s : List Node) → too_late (with_drops s) ≡ 0
unfolding with_drops too_late
too_late-with_drops [] = refl
too_late-with_drops (x ∷ s) =
    let drops = drops_after (link x) (links s) in
    let alone = nodes-after (link x) (links s) in
    let before = between_none drops (with_drops s) (λ j h. rw (nodes-with_drops s) (omega (arith, dropped-after (link x) (links s) j))) in
    let behind = between_none (with_drops s) drops (λ j h. drops-use drops alone j) in
    rw too_late-append (omega (arith, too_late-drops drops alone, too_late-with_drops s, before, behind))

-- ---- the nodes s, and of each that is used one drop, anywhere after its last use

pub record Dropping (s : List Node) (rs : List Record) : Type 0 where
  pub nodes : nodes_of rs ≡ s
  pub once : (j : ℕ) → dropped j rs ≡ min 1 (uses (links s) j)
  pub late : too_late rs ≡ 0

pub with_drops-dropping : (s : List Node) → Dropping s (with_drops s)
with_drops-dropping s = record { nodes = nodes-with_drops s; once = dropped-with_drops s; late = too_late-with_drops s }

-- ---- what is used stands earlier

pub falls-used : (n : ℕ) (x : Link) (j : ℕ) → Falls n x → 1 ≤ uses_in j x → j < n
falls-used n (leaf line) j f h = absurd (unfold uses_in in omega arith)
falls-used n (join p l r) j f h = elim (used-parent j p l r h) [ inl q ↦ rw q f.0 | inr q ↦ rw q f.1 ]

used-by : (s : List Node) (j : ℕ) → 1 ≤ uses (links s) j → (n : ℕ) × (n < length s) × (1 ≤ uses_in j (link (node_at s n)))
unfolding uses node_at
used-by [] j h = absurd (omega arith)
used-by (x ∷ s) j h = elim (dec_le 1 (uses_in j (link x))) [
  | yes q ↦ (0, omega arith, q)
  | no q ↦ let (n, i, u) = used-by s j (omega arith) in (suc n, omega arith, u)
]

pub used-early : (s : List Node) → Earlier s → (j : ℕ) → 1 ≤ uses (links s) j → j < length s - 1
used-early s earlier j h = let (n, i, u) = used-by s j h in omega (arith, falls-used n (link (node_at s n)) j (earlier n) u)

-- ---- the records, one by one

each-record : (P : Record → Type 0) (rs : List Record) → ((n : ℕ) → n < length (nodes_of rs) → P (node (node_at (nodes_of rs) n)))
    → ((j : ℕ) → 1 ≤ dropped j rs → P (drop j)) → (k : ℕ) → k < length rs → P (record_in rs k)
unfolding nodes_of node_at dropped naming
each-record P [] f g k h = absurd (omega arith)
each-record P (node x ∷ rs) f g zero h = f 0 (omega arith)
each-record P (node x ∷ rs) f g (suc k) h = each-record P rs (λ n i. f (suc n) (omega arith)) g k (omega arith)
each-record P (drop i ∷ rs) f g zero h = g i (rw (eq-eqb i i refl) (omega arith))
each-record P (drop i ∷ rs) f g (suc k) h = each-record P rs f (λ j o. g j (omega arith)) k (omega arith)

-- ---- how many records

naming-none : (i k : ℕ) → k ≤ i → sum_below (λ j. naming j i) k ≡ 0
unfolding sum_below naming
naming-none i zero h = refl
naming-none i (suc k) h = rw (ne_eqb k i (omega arith)) (omega (arith, naming-none i k (omega arith)))

naming-once : (i k : ℕ) → i < k → sum_below (λ j. naming j i) k ≡ 1
unfolding sum_below naming
naming-once i zero h = absurd (omega arith)
naming-once i (suc k) h = elim (ℕ_discrete k i) [
  | yes q ↦ rw (eq-eqb k i q) (omega (arith, naming-none i k (omega arith)))
  | no q ↦ rw (ne_eqb k i q) (omega (arith, naming-once i k (omega arith)))
]

-- a record for each node, and a drop for each number that is dropped
length-counted : (k : ℕ) (rs : List Record) → ((j : ℕ) → 1 ≤ dropped j rs → j < k) → length rs ≡ length (nodes_of rs) + sum_below (λ j. dropped j rs) k
unfolding nodes_of dropped naming
length-counted k [] f = omega (arith, sum_below-none (λ n. 0) k (λ n h. refl))
length-counted k (node x ∷ rs) f = omega (arith, length-counted k rs f)
length-counted k (drop i ∷ rs) f =
    omega (
      arith,
      sum_below-add (λ j. naming j i) (λ j. dropped j rs) k,
      naming-once i k (f i (rw (eq-eqb i i refl) (omega arith))),
      length-counted k rs (λ j h. f j (omega arith)),
    )

module _ (s : List Node) (rs : List Record) (d : Dropping s rs) where
  -- what holds of every node, and of the drop of every node that is used, holds of every record
  pub each-dropping : (P : Record → Type 0) → ((n : ℕ) → n < length s → P (node (node_at s n))) → ((j : ℕ) → 1 ≤ uses (links s) j → P (drop j))
      → (k : ℕ) → k < length rs → P (record_in rs k)
  each-dropping P f g = each-record P rs (rw d.nodes f) (λ j h. g j (omega (arith, d.once j)))

  module _ (earlier : Earlier s) where
    length-is : length rs ≡ length s + sum_below (λ j. dropped j rs) (length s - 1)
    length-is = rw d.nodes at (length-counted (length s - 1) rs (λ j h. used-early s earlier j (omega (arith, d.once j))))

    most : sum_below (λ j. dropped j rs) (length s - 1) ≤ length s - 1
    most = omega (arith, sum_below-le (λ j. dropped j rs) (λ j. 1) (length s - 1) (λ j h. omega (arith, d.once j)), sum_below-ones (length s - 1))

    length-dropping-most : length rs ≤ 2 * length s - 1
    length-dropping-most = omega (arith, length-is, most)

    -- each node but the last is dropped exactly once
    length-dropping : 1 ≤ length s → AllUsed s → length rs ≡ 2 * length s - 1
    length-dropping some used =
        let all = sum_below-le (λ j. 1) (λ j. dropped j rs) (length s - 1) (λ j h. omega (arith, d.once j, used j (omega arith))) in
        omega (arith, length-is, most, all, sum_below-ones (length s - 1))

    -- "The sink is never dropped."
    sink-stays : (k : ℕ) → k < length rs → record_in rs k ≡ drop (length s - 1) → ⊥
    sink-stays =
        each-dropping (λ r. r ≡ drop (length s - 1) → ⊥)
        (λ n h e. let z : ◌≡◌ {A = ℕ} 0 1 = cc in omega arith)
        (λ j u e. let q : j ≡ length s - 1 = cc in omega (arith, used-early s earlier j u))

-- ---- of the drops that the press places

module _ (s : List Node) (earlier : Earlier s) where
  pub length-with_drops-most : length (with_drops s) ≤ 2 * length s - 1
  length-with_drops-most = length-dropping-most s (with_drops s) (with_drops-dropping s) earlier

  pub length-with_drops : 1 ≤ length s → AllUsed s → length (with_drops s) ≡ 2 * length s - 1
  length-with_drops = length-dropping s (with_drops s) (with_drops-dropping s) earlier

  pub last-not-dropped : (k : ℕ) → k < length (with_drops s) → record_in (with_drops s) k ≡ drop (length s - 1) → ⊥
  last-not-dropped = sink-stays s (with_drops s) (with_drops-dropping s) earlier

-- a node that is used later is not dropped, and any other is
pub drop_last-used : (later : List Link) (j : ℕ) → used_in later j ≡ true → drop_last later j ≡ []
unfolding drop_last used_in
drop_last-used later j q = rw (not-true (eqb (uses later j) 0) q)

pub drop_last-unused : (later : List Link) (j : ℕ) → used_in later j ≡ false → drop_last later j ≡ drop j ∷ []
unfolding drop_last used_in
drop_last-unused later j q = rw (not-false (eqb (uses later j) 0) q)
