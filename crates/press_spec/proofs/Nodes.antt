-- Laws of lists of nodes: what is left of them, one more node, and parents that stand earlier.
use Prim.Native.Nat.{ℕ, zero, suc, ◌+◌, ◌≤◌, ◌<◌}
use mathlib.Core.Path.{◌≡◌, ap}
use mathlib.Core.List.{List, [], ◌∷◌, ◌++◌}
use native.Mathlib.Omega.{arith}
use native.Mathlib.Decide.{ℕ_discrete, dec_lt}
use lib.ListN.{length, take, drop, length-append, get_or-append, get_or-eq_default, get_or-map}
use lib.Seq.{get_or-append_seam, get_or-take}
use Rattle.base.proofs.Lists.{drop_more}
use Rattle.clause.specs.Clauses.{none}
use Rattle.sheet.specs.declared.edition.Edition.{Edition}
use Rattle.sheet.specs.Records.{Node, given, step, clause, node_at}
use Rattle.sheet.specs.Counts.{step_of, steps_of}
use Rattle.press_spec.specs.Links.{Link, leaf, join, link, links, link_at, Parents}
use Rattle.press_spec.specs.Trim.{uses_in, uses}
use Rattle.press_spec.proofs.Proper.{ProperNode, AllProper}

-- ---- what is left from n on

pub nodes-from : (s : List Node) (n : ℕ) → n < length s → drop n s ≡ node_at s n ∷ drop (n + 1) s
unfolding node_at
nodes-from s n h = drop_more s n (given 0 none) h

pub links-from : (t : List Link) (n : ℕ) → n < length t → drop n t ≡ link_at t n ∷ drop (n + 1) t
unfolding link_at
links-from t n h = drop_more t n (leaf 0) h

-- ---- the first k nodes

pub clause-front : (s : List Node) (k n : ℕ) → n < k → clause (node_at (take k s) n) ≡ clause (node_at s n)
unfolding node_at
clause-front s k n h = ap clause (get_or-take k s n (given 0 none) h)

-- ---- one more node

pub length_more : (s : List Node) (m : Node) → length (s ++ (m ∷ [])) ≡ suc (length s)
length_more s m = omega (arith, length-append s (m ∷ []))

pub node_at-before : (s : List Node) (m : Node) (n : ℕ) → n < length s → node_at (s ++ (m ∷ [])) n ≡ node_at s n
unfolding node_at
node_at-before s m n h = get_or-append s (m ∷ []) _ n h

pub node_at-end : (s : List Node) (m : Node) → node_at (s ++ (m ∷ [])) (length s) ≡ m
unfolding node_at
node_at-end s m = get_or-append_seam s m [] _

pub uses-append : (s t : List Link) (n : ℕ) → uses (s ++ t) n ≡ uses s n + uses t n
unfolding uses
uses-append [] t n = omega arith
uses-append (k ∷ s) t n = omega (arith, uses-append s t n)

pub uses-more : (s : List Link) (m : Link) (n : ℕ) → uses (s ++ (m ∷ [])) n ≡ uses s n + uses_in n m
unfolding uses
uses-more s m n = omega (arith, uses-append s (m ∷ []) n)

pub steps-more : (s : List Node) (m : Node) → steps_of (s ++ (m ∷ [])) ≡ steps_of s + step_of m
unfolding steps_of
steps-more [] m = omega arith
steps-more (k ∷ s) m = omega (arith, steps-more s m)

-- the checks of a node look only at what stands before it
pub proper-more : (e : Edition) (rules : List ℕ) (s : List Node) (m : Node) (n : ℕ) → n ≤ length s → (k : Node)
    → ProperNode e rules s n k → ProperNode e rules (s ++ (m ∷ [])) n k
proper-more e rules s m n h (given line c) d = d
proper-more e rules s m n h (step p l r c) d =
    rw (node_at-before s m l (omega (arith, d.1)), node_at-before s m r (omega (arith, d.2))) d

pub all-proper-more : (e : Edition) (rules : List ℕ) (s : List Node) (m : Node)
    → AllProper e rules s → ProperNode e rules s (length s) m → AllProper e rules (s ++ (m ∷ []))
all-proper-more e rules s m f d n h = elim (ℕ_discrete n (length s)) [
  | yes q ↦ rw (q, node_at-end s m) (proper-more e rules s m (length s) (omega arith) m d)
  | no q ↦
      let k : n < length s = omega (arith, length_more s m) in
      rw (node_at-before s m n k) (proper-more e rules s m n (omega arith) (node_at s n) (f n k))
]

-- ---- parents stand earlier

abbrev pub Falls : ℕ → Link → Type 0
Falls n m = Parents (λ k. k < n) m

abbrev pub Falling : List Link → Type 0
Falling t = (n : ℕ) → Falls n (link_at t n)

-- the same of nodes
abbrev pub Earlier : List Node → Type 0
Earlier s = (n : ℕ) → Falls n (link (node_at s n))

pub link-at : (s : List Node) (n : ℕ) → link_at (links s) n ≡ link (node_at s n)
unfolding link_at node_at
link-at s n = get_or-map link s n (given 0 none)

pub links-falling : (s : List Node) → Earlier s → Falling (links s)
links-falling s f n = rw (link-at s n) (f n)

proper-falls : (e : Edition) (rules : List ℕ) (s : List Node) (n : ℕ) (m : Node) → ProperNode e rules s n m → Falls n (link m)
proper-falls e rules s n (given line c) d = tt
proper-falls e rules s n (step p l r c) d = (d.1, d.2)

pub falls-further : (m n : ℕ) (x : Link) → m ≤ n → Falls m x → Falls n x
falls-further m n (leaf line) h f = tt
falls-further m n (join p l r) h f = (omega (arith, f.0), omega (arith, f.1))

-- what holds of each node holds at every number, if it holds of the empty given that stands past the end
pub everywhere : (P : ℕ → Node → Type 0) (s : List Node) → ((n : ℕ) → P n (given 0 none)) → ((n : ℕ) → n < length s → P n (node_at s n))
    → (n : ℕ) → P n (node_at s n)
unfolding node_at
everywhere P s z f n = elim (dec_lt n (length s)) [ yes h ↦ f n h | no h ↦ rw (get_or-eq_default s _ {n = n} (omega arith)) (z n) ]

pub proper-falling : (e : Edition) (rules : List ℕ) (s : List Node) → AllProper e rules s → Earlier s
proper-falling e rules s f = everywhere (λ n m. Falls n (link m)) s (λ n. tt) (λ n h. proper-falls e rules s n (node_at s n) (f n h))

-- what follows for each number from all smaller ones
pub by-rising : (P : ℕ → Type 0) → ((n : ℕ) → ((m : ℕ) → m < n → P m) → P n) → (n : ℕ) → P n
by-rising P f n = f n (upto n)
  where
    upto : (n m : ℕ) → m < n → P m
    upto zero m h = absurd (omega arith)
    upto (suc n) m h = f m (λ k l. upto n k (omega arith))
