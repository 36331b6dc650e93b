-- The rebuild on the way is the rebuild with all the cuts: the parents of a node have been decided on before it.
use Prim.Native.Nat.{ℕ, zero, suc, ◌<◌}
use mathlib.Core.Bool.{Bool, true, false, cond}
use mathlib.Core.Path.{◌≡◌, refl, sym, ap, ◌∙◌}
use mathlib.Core.List.{List}
use native.Mathlib.Omega.{arith}
use lib.ListN.{length, replicate}
use Rattle.base.specs.Folds.{rise}
use Rattle.base.proofs.Folds.{rise-by, rise-same}
use Rattle.clause.specs.Clauses.{Literals}
use Rattle.sheet.specs.Records.{Node, node_at}
use Rattle.press_spec.specs.Links.{Link, leaf, join, links, link_at}
use Rattle.press_spec.specs.Recycle.{Fate}
use Rattle.press_spec.specs.Rebuild.{built, renew, rebuild_turn, rebuild}
use Rattle.press_spec.specs.Lower.{Lowered, LoweredOnes, none_lowered, lower, low_at, cut_by, fate_by, fates_by}
use Rattle.press_spec.specs.Univalents.{Used, unused, once, often, mixed, lowerable, weigh, Risen, risen_to, renew_turn, weigh_turn, rise_turn, risen_by}
use Rattle.press_spec.proofs.Nodes.{Falls, Falling, Earlier, links-falling}
use Rattle.press_spec.proofs.Owed.{owed_below}
use Rattle.press_spec.proofs.Singles.{lower-other}

-- ---- what depends on the lowered nodes below n only

module _ (low low' : ℕ → Lowered) where
  abbrev Alike : ℕ → Type 0
  Alike n = (k : ℕ) → k < n → low k ≡ low' k

  pub owed-alike : (n : ℕ) → Alike n → owed_below low n ≡ owed_below low' n
  unfolding owed_below
  owed-alike zero h = refl
  owed-alike (suc n) h = rw (h n (omega arith), owed-alike n (λ k l. h k (omega arith)))

  cut-alike : (n : ℕ) (m : Link) → Falls n m → Alike n → cut_by low m ≡ cut_by low' m
  unfolding cut_by
  cut-alike n (leaf line) d h = refl
  cut-alike n (join p l r) d h = rw (h l d.0, h r d.1)

  fate-alike : (marks : List ℕ) (s : List Link) (n : ℕ) → Falls n (link_at s n) → Alike n → fates_by marks low s n ≡ fates_by marks low' s n
  unfolding fates_by fate_by
  fate-alike marks s n d h = rw (cut-alike n (link_at s n) d h)

-- deciding on node i changes nothing of those before it
weigh-before : (i : ℕ) (u : Used) (c : Literals) (w : LoweredOnes) (k : ℕ) → k < i → low_at w.low k ≡ low_at (weigh i u c w).low k
unfolding weigh
weigh-before i unused c w k h = refl
weigh-before i (once x) c w k h = refl
weigh-before i (often x) c w k h = by (lowerable x c w.owed)
  where
    by : (t : Bool) → low_at w.low k ≡ low_at (cond t (lower i x w) w).low k
    by true = sym (lower-other i x w k (omega arith))
    by false = refl
weigh-before i mixed c w k h = refl

-- ---- the walk

module _ (marks : List ℕ) (s : List Node) where
  -- the fates by what is lowered so far
  abbrev fates_so : Risen → ℕ → Fate
  fates_so x = fates_by marks (low_at x.ones.low) (links s)

  -- what is rebuilt below i is rebuilt with the cuts so far
  abbrev pub OnTheWay : ℕ → Risen → Type 0
  OnTheWay i x = x.so ≡ rise (rebuild_turn s (fates_by marks (low_at x.ones.low) (links s))) i (built s (replicate (length s) 0))

  module _ (used : ℕ → Used) (earlier : Earlier s) where
    falling : Falling (links s)
    falling = links-falling s earlier

    pub way_next : (i : ℕ) (x : Risen) → OnTheWay i x → OnTheWay (suc i) (rise_turn marks s used i x)
    unfolding rise_turn weigh_turn renew_turn rebuild_turn rise
    way_next i x e =
        let next : Risen = rise_turn marks s used i x in
        let same : rise (rebuild_turn s (fates_so x)) (suc i) (built s (replicate (length s) 0))
        ≡ rise (rebuild_turn s (fates_so next)) (suc i) (built s (replicate (length s) 0)) =
        rise-same (rebuild_turn s (fates_so x)) (rebuild_turn s (fates_so next)) (suc i) (built s (replicate (length s) 0))
        (λ n b h. ap (λ (z : Fate). renew n (node_at s n) z b)
        (fate-alike (low_at x.ones.low) (low_at next.ones.low) marks (links s) n (falling n)
        (λ k l. weigh-before i (used i) _ x.ones k (omega arith)))) in
        ap (renew i (node_at s i) (fates_so x i)) e ∙ same

    pub way-start : OnTheWay 0 (risen_to (built s (replicate (length s) 0)) (none_lowered (length s)))
    unfolding rise
    way-start = refl

    -- after i turns
    pub on-the-way : (i : ℕ) → OnTheWay i (rise (rise_turn marks s used) i (risen_to (built s (replicate (length s) 0)) (none_lowered (length s))))
    on-the-way i = rise-by OnTheWay (rise_turn marks s used) i _ (λ n x h e. way_next n x e) way-start

    pub risen-rebuilt : (risen_by marks used s).so ≡ rebuild s (fates_by marks (low_at (risen_by marks used s).ones.low) (links s))
    unfolding risen_by rebuild
    risen-rebuilt = on-the-way (length s)
