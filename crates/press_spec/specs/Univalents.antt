-- Lower the univalents: the LowerUnivalents pass of 001, of a proof that step 4 left.
use Rattle.std.specs.Prelude.{ℕ, Bool, ◌&&◌, not, cond, List, [], ◌∷◌, eqb, length, replicate}
use Rattle.base.specs.Folds.{rise}
use Rattle.clause.specs.Clauses.{Literal, plus, minus, same_literal, Literals, holds, lacking, inside}
use Rattle.sheet.specs.Records.{Node, node_at}
use Rattle.press_spec.specs.Links.{Link, leaf, join, links}
use Rattle.press_spec.specs.Trim.{trim, trimmed}
use Rattle.press_spec.specs.Rebuild.{Built, built, standing, renew, Ended}
use Rattle.press_spec.specs.Lower.{opposite, LoweredOnes, none_lowered, lower, low_at, fates_by}

-- ---- the literal of a use: +p for a left parent, -p for a right one

-- what the uses of a node are on: there is none, one, two or more "all on one and the same literal", or two or more that are not
pub data Used : Type 0 where
  unused : Used
  once : Literal → Used
  often : Literal → Used
  mixed : Used

-- one use more, on l
unfoldable pub used_too : Literal → Used → Used
used_too l unused = once l
used_too l (once m) = cond (same_literal l m) (often m) mixed
used_too l (often m) = cond (same_literal l m) (often m) mixed
used_too l mixed = mixed

-- .. if n is that parent
unfoldable pub used_as : ℕ → ℕ → Literal → Used → Used
used_as n parent l u = cond (eqb n parent) (used_too l u) u

unfoldable pub used_in : ℕ → Link → Used → Used
used_in n (leaf line) u = u
used_in n (join p l r) u = used_as n l (plus p) (used_as n r (minus p) u)

unfoldable pub used_on : List Link → ℕ → Used
used_on [] n = unused
used_on (m ∷ s) n = used_in n m (used_on s n)

-- ---- which are lowered

-- "Is lowered if its rebuilt clause holds l, the rest of that clause lies in D, and neither l nor its opposite is in D."
unfoldable pub lowerable : Literal → Literals → Literals → Bool
lowerable l c D = holds l c && inside (lacking l c) D && not (holds l D) && not (holds (opposite l) D)

-- "A node with two or more uses, all on one and the same literal l .. Its uses are cut and the opposite of l joins D."
-- (Owed are the opposites of what is lowered: that is D.)
unfoldable pub weigh : ℕ → Used → Literals → LoweredOnes → LoweredOnes
weigh n unused c w = w
weigh n (once l) c w = w
weigh n (often l) c w = cond (lowerable l c w.owed) (lower n l w) w
weigh n mixed c w = w

-- what is rebuilt so far, and what is lowered
pub record Risen : Type 0 where
  pub so : Built
  pub ones : LoweredOnes

abbrev pub risen_to : Built → LoweredOnes → Risen
risen_to b w = record { so = b; ones = w }

-- "Rebuilding on the way": by what is lowered so far
unfoldable pub renew_turn : List ℕ → List Node → ℕ → Risen → Risen
renew_turn marks s n x = risen_to (renew n (node_at s n) (fates_by marks (low_at x.ones.low) (links s) n) x.so) x.ones

unfoldable pub weigh_turn : (ℕ → Used) → ℕ → Risen → Risen
weigh_turn used n x = risen_to x.so (weigh n (used n) (standing x.so n) x.ones)

unfoldable pub rise_turn : List ℕ → List Node → (ℕ → Used) → ℕ → Risen → Risen
rise_turn marks s used n x = weigh_turn used n (renew_turn marks s n x)

-- "Rising numbers, rebuilding on the way, with a set D, empty at first", where these nodes are kept and used so
unfoldable pub risen_by : List ℕ → (ℕ → Used) → List Node → Risen
risen_by marks used s = rise (rise_turn marks s used) (length s) (risen_to (built s (replicate (length s) 0)) (none_lowered (length s)))

unfoldable pub risen : Ended → Risen
risen t =
    let s = links t.nodes in
    let marks = trim s t.last in
    risen_by marks (used_on (trimmed s marks)) t.nodes
