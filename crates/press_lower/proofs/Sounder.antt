-- Sound nodes stay sound in the return: a new step is on a variable, and its parents are smaller.
use Prim.Native.Nat.{ℕ, suc, ◌≤◌, ◌<◌}
use mathlib.Core.List.{List, [], ◌∷◌, ◌++◌}
use mathlib.Core.Path.{◌≡◌, refl}
use native.Mathlib.Decide.{dec_lt}
use native.Mathlib.Omega.{arith}
use lib.ListN.{length}
use Rattle.base.proofs.Folds.{fall-by}
use Rattle.clause.specs.Clauses.{Literal, plus, minus}
use Rattle.sheet.specs.Records.{Node, clause, node_at}
use Rattle.press_spec.specs.Links.{link}
use Rattle.press_spec.specs.Rebuild.{Built, stand_in, Ended, ended_at}
use Rattle.press_spec.specs.Lower.{Lowered, staying, lowered, Return, conclusion_stays, unit_concludes, resolves, return_of, resolving, by_return, come_back, return_turn, come_back_all}
use Rattle.press_spec.proofs.Nodes.{length_more, node_at-before, node_at-end}
use Rattle.press_nodes.specs.Tables.{Sound}
use Rattle.press_rebuild.proofs.Sounds.{SoundNodes}
use Rattle.press_reach.specs.Literals.{Narrow}

more-sound : (s : List Node) (x : Node) → SoundNodes s → Sound (length s) (link x) → SoundNodes (s ++ (x ∷ []))
more-sound s x f h n i = elim (dec_lt n (length s)) [
  | yes o ↦ rw (node_at-before s x n o) (f n o)
  | no o ↦ let e : n ≡ length s = omega (arith, length_more s x) in rw (e, node_at-end s x) h
]

step-sound : (s : List Node) (x : Literal) (u n : ℕ) → Narrow x → u < length s → n < length s → Sound (length s) (link (resolving x s u n))
unfolding resolving
step-sound s (plus p) u n h i o = (h, i, o)
step-sound s (minus p) u n h i o = (h, o, i)

-- k nodes or more, sound, and the conclusion is one of them
record SoundEnd (k : ℕ) (t : Ended) : Type 0 where
  long : k ≤ length t.nodes
  sound : SoundNodes t.nodes
  last : t.last < length t.nodes

by-sound : (k : ℕ) (how : Return) (x : Literal) (u : ℕ) (t : Ended) → Narrow x → u < k → SoundEnd k t → SoundEnd k (by_return how x u t)
unfolding by_return
by-sound k conclusion_stays x u t h i d = d
by-sound k unit_concludes x u t h i d = record { long = d.long; sound = d.sound; last = omega (arith, d.long) }
by-sound k resolves x u t h i d =
    let more = length_more t.nodes (resolving x t.nodes u t.last) in record {
      long = omega (arith, more, d.long);
      sound = more-sound t.nodes _ d.sound (step-sound t.nodes x u t.last h (omega (arith, d.long)) d.last);
      last = omega (arith, more);
    }

back-sound : (k : ℕ) (m : Lowered) (u : ℕ) (t : Ended) → ((x : Literal) → m ≡ lowered x → Narrow x) → u < k → SoundEnd k t → SoundEnd k (come_back m u t)
unfolding come_back
back-sound k staying u t h i d = d
back-sound k (lowered x) u t h i d =
    by-sound k (return_of x (clause (node_at t.nodes u)) (clause (node_at t.nodes t.last))) x u t (h x refl) i d

pub return-sound : (low : ℕ → Lowered) (b : Built) (from : ℕ) → ((n : ℕ) (x : Literal) → low n ≡ lowered x → Narrow x) → ((n : ℕ) → stand_in b n ≤ n)
    → from < length b.nodes → SoundNodes b.nodes → SoundNodes (come_back_all low b from).nodes
unfolding come_back_all ended_at return_turn
return-sound low b from narrow down inside sound =
    (fall-by (λ i t. SoundEnd (length b.nodes) t) (return_turn low b) (suc from) (ended_at b from)
    (λ i t h d. back-sound (length b.nodes) (low i) (stand_in b i) t (narrow i) (omega (arith, down i)) d)
    (record { long = omega arith; sound = sound; last = omega (arith, down from) })
    ).sound
