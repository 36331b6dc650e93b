-- One turn of recycling, by what the code finds at the node; and the walk's start and end. For `search`.
use Prim.Native.Nat.{ℕ, suc, ◌-◌, ◌≤◌, ◌<◌, pred}
use mathlib.Core.Path.{◌≡◌, refl, sym, ap, ap₂, ◌∙◌}
use mathlib.Core.List.{List}
use native.Mathlib.Omega.{arith}
use native.Mathlib.Decide.{ℕ_discrete}
use lib.ListN.{length, get_or, set, replicate, get_or-eq_default}
use lib.Seq.{get_or-set_same, get_or-set_other}
use Rattle.base.specs.Folds.{fall}
use Rattle.base.proofs.Folds.{fall-all}
use Rattle.clause.specs.Clauses.{Literals}
use Rattle.clause.specs.Denote.{literals_of}
use Rattle.clause.specs.declared.Clause.{Clause}
use Rattle.std.specs.Prelude.{Option, Some, None}
use Rattle.press_nodes.specs.declared.link.Link.{Link as CodeLink}
use Rattle.press_nodes.specs.declared.fate.Side.{Side}
use Rattle.press_nodes.specs.declared.fate.Fate.{Fate as CodeFate}
use Rattle.press_nodes.specs.declared.fate.Fate.TheVariants.{Lost, Kept}
use Rattle.press_spec.specs.declared.Recycling.{Recycling}
use Rattle.press_spec.specs.declared.Recycling.TheVariants.{Reset, Intersection}
use Rattle.press_spec.specs.Links.{Link, leaf, join, link_at, sink}
use Rattle.press_spec.specs.Recycle.{Reach, unreached, reached, Fit, reset, intersect, fit_of, hand, Cut, cut_left, cut_right, uncut, cut_of, hand_on, visit, recycle_turn, recycle, lost, kept, fate, fates}
use Rattle.press_nodes.specs.Tables.{links_in, clauses_in}
use Rattle.press_nodes.specs.Fates.{cut_in, fate_in, fates_in}
use Rattle.press_reach.specs.Reaches.{reach_in, reaches_in}
use Rattle.press_recycle.specs.Passes.{count_in, Fated}
use Rattle.press_nodes.proofs.Tables.{links-length}
use Rattle.press_reach.proofs.Reaches.{reaches-length, reaches_same, reach-none, reach-some}

-- ---- a node that is handed a set

-- a way to fit sets looks at the node's own uses alone
fit-here : (how : Recycling) (count : ℕ → ℕ) (n : ℕ) (before : Reach) (S : Literals) → fit_of how (λ m. count n) 0 before S ≡ fit_of how count n before S
unfolding fit_of reset intersect
fit-here Reset count n before S = refl
fit-here Intersection count n unreached S = refl
fit-here Intersection count n (reached R) S = refl

pub hand-fitted : (how : Recycling) (uses : List ℕ) (n i : ℕ) (S R : Literals) (before : Option Clause) (table next : List Reach) → i ≡ n
    → reach_in before ≡ get_or table n unreached → R ≡ fit_of how (λ m. get_or uses i 0) 0 (reach_in before) S → next ≡ set table n (reached R)
    → next ≡ hand (fit_of how (count_in uses)) n S table
unfolding hand count_in
hand-fitted how uses n i S R before table next same b f e = e ∙ rw (f, same, b, fit-here how (count_in uses) n (get_or table n unreached) S)

-- ---- a step that is reached

-- only parents are handed anything
module _ (fit : Fit) (p l r : ℕ) (S : Literals) (m : ℕ) (hl : l < m) (hr : r < m) where
  hand-past : (n : ℕ) (X : Literals) (table : List Reach) → n < m → get_or (hand fit n X table) m unreached ≡ get_or table m unreached
  unfolding hand
  hand-past n X table h = get_or-set_other table n m _ unreached (omega arith)

  hand_on-past : (z : Cut) (table : List Reach) → get_or (hand_on fit z p l r S table) m unreached ≡ get_or table m unreached
  unfolding hand_on
  hand_on-past cut_left table = hand-past r S table hr
  hand_on-past cut_right table = hand-past l S table hl
  hand_on-past uncut table = hand-past r _ _ hr ∙ hand-past l _ table hl

-- ---- fates

pub fated-start : (t : List Link) (known : List CodeFate) (sets : List Clause) (i : ℕ) → length known ≤ i → Fated t known sets i
unfolding fates_in fate_in fates fate
fated-start t known sets i h m o =
    rw (get_or-eq_default known Lost {n = m} (omega arith), get_or-eq_default (reaches_in known sets) unreached {n = m} (rw (reaches-length known sets) (omega arith)))

module _ (t : List Link) (known : List CodeFate) (sets : List Clause) (n : ℕ) (inside : n < length known) (told : Fated t known sets (suc n)) where
  -- a node that is not reached is lost
  fated-lost : get_or (reaches_in known sets) n unreached ≡ unreached → Fated t known sets n
  unfolding fates_in fate_in fates fate
  fated-lost e m o = elim (ℕ_discrete m n) [
    | yes q ↦ rw (q, e, lost-there (get_or known n Lost) refl)
    | no q ↦ told m (omega arith)
  ]
    where
      lost-there : (x : CodeFate) → get_or known n Lost ≡ x → fate_in x ≡ lost
      lost-there Lost q = refl
      lost-there (Kept cut) q = let u = reach-some known sets n inside (clauses_in sets n) cut q refl in absurd (cc)

  module _ (S : Literals) (e : get_or (reaches_in known sets) n unreached ≡ reached S) where
    -- the fate of n is stored, and its reach is as it was
    module _ (cut : Option Side) where
      stored : reaches_in (set known n (Kept cut)) sets ≡ reaches_in known sets
      stored = by (get_or known n Lost) refl
        where
          by : (x : CodeFate) → get_or known n Lost ≡ x → reaches_in (set known n (Kept cut)) sets ≡ reaches_in known sets
          by Lost q = let u = reach-none known sets n inside q in absurd (cc)
          by (Kept old) q = reaches_same known sets n old cut q

      fated-here : (known' : List CodeFate) (sets' : List Clause) → fate (link_at t n) (reached S) ≡ kept (cut_in cut)
          → ((m : ℕ) → n ≤ m → get_or known' m Lost ≡ get_or (set known n (Kept cut)) m Lost)
          → ((m : ℕ) → n ≤ m → get_or (reaches_in known' sets') m unreached ≡ get_or (reaches_in known sets) m unreached)
          → Fated t known' sets' n
      unfolding fates_in fate_in fates
      fated-here known' sets' f b r m o = elim (ℕ_discrete m n) [
        | yes q ↦ rw (q, b n (omega arith), r n (omega arith), get_or-set_same known n (Kept cut) Lost inside, e, f)
        | no q ↦ rw (b m o, r m o, get_or-set_other known n m (Kept cut) Lost q) (told m (omega arith))
      ]

-- ---- a node

module _ (fit : Fit) (t : List Link) (known : List CodeFate) (sets : List Clause) (n : ℕ) (inside : n < length known) (told : Fated t known sets (suc n))
    (x : Option Clause) (says : reach_in x ≡ get_or (reaches_in known sets) n unreached) where
  abbrev table : List Reach
  table = reaches_in known sets

  abbrev Turned : List CodeFate → List Clause → Type 0
  Turned known' sets' = (reaches_in known' sets' ≡ recycle_turn fit t n (reaches_in known sets)) × Fated t known' sets' n

  pub turn-past : x ≡ None → Turned known sets
  unfolding recycle_turn visit reach_in
  turn-past q =
      let e : get_or table n unreached ≡ unreached = sym (rw q at says) in
      (rw e, fated-lost t known sets n inside told e)

  module _ (S : Clause) (q : x ≡ Some S) where
    here : get_or table n unreached ≡ reached (literals_of S)
    unfolding reach_in
    here = sym (rw q at says)

    pub turn-leaf : (line : ℕ) (known' : List CodeFate) → link_at t n ≡ leaf line → known' ≡ set known n (Kept None) → Turned known' sets
    unfolding recycle_turn visit
    turn-leaf line known' a b =
        let same = stored t known sets n inside told (literals_of S) here None in (
          rw (here, a, b) same,
          fated-here t known sets n inside told (literals_of S) here None known' sets (rw a (unfold fate cut_in in refl)) (λ m o. rw b) (λ m o. rw (b, same)),
        )

    pub turn-join : (p l r : ℕ) (cut : Option Side) (mid known' : List CodeFate) (sets' : List Clause) → link_at t n ≡ join p l r → l < n → r < n
        → cut_in cut ≡ cut_of p (literals_of S) → mid ≡ set known n (Kept cut)
        → reaches_in known' sets' ≡ hand_on fit (cut_in cut) p l r (literals_of S) (reaches_in mid sets)
        → ((m : ℕ) → l < m → r < m → get_or known' m Lost ≡ get_or mid m Lost) → Turned known' sets'
    unfolding recycle_turn visit
    turn-join p l r cut mid known' sets' a hl hr c b d f =
        let same : reaches_in mid sets ≡ table = rw b (stored t known sets n inside told (literals_of S) here cut) in
        let made : reaches_in known' sets' ≡ hand_on fit (cut_in cut) p l r (literals_of S) table = rw (← same) d in (
          rw (here, a, ← c) made,
          fated-here t known sets n inside told (literals_of S) here cut known' sets' (rw (a, c) (unfold fate in refl))
              (λ m o. rw (← b) (f m (omega arith) (omega arith)))
              (λ m o. rw made (hand_on-past fit p l r (literals_of S) m (omega arith) (omega arith) (cut_in cut) table)),
        )

-- ---- the walk

sink-last : (h : List CodeLink) → length h - 1 ≡ sink (links_in h)
unfolding sink
sink-last h = let k : length h - 1 ≡ pred (length h) = omega arith in k ∙ ap pred (sym (links-length h))

recycle-done : (fit : Fit) (S : Literals) (h : List CodeLink) (known : List CodeFate) (i : ℕ) (first last : List Reach) → length known ≡ length h → 0 < length h
    → first ≡ set (replicate (length known) unreached) (length h - 1) (reached S) → i ≤ 0
    → fall (recycle_turn fit (links_in h)) i last ≡ fall (recycle_turn fit (links_in h)) (length h) first
    → last ≡ recycle fit S (links_in h) (sink (links_in h))
unfolding recycle
recycle-done fit S h known i first last long some e z q =
    let last-sink = sink-last h in
    let n : length h ≡ suc (sink (links_in h)) = omega arith in
    let m : length known ≡ length (links_in h) = long ∙ sym (links-length h) in
    fall-all (recycle_turn fit (links_in h)) i last _ z
    (q ∙ ap₂ (fall (recycle_turn fit (links_in h))) n (e ∙ rw (m, last-sink)))

pub fates-done : (fit : Fit) (S : Literals) (h : List CodeLink) (known last : List CodeFate) (sets : List Clause) (i : ℕ) (first : List Reach) → length known ≡ length h → 0 < length h
    → first ≡ set (replicate (length known) unreached) (length h - 1) (reached S) → i ≤ 0
    → fall (recycle_turn fit (links_in h)) i (reaches_in last sets) ≡ fall (recycle_turn fit (links_in h)) (length h) first
    → Fated (links_in h) last sets i → fates_in last ≡ fates (links_in h) (recycle fit S (links_in h) (sink (links_in h)))
fates-done fit S h known last sets i first long some e z q f =
    let made = recycle-done fit S h known i first (reaches_in last sets) long some e z q in
    let each : (m : ℕ) → fates_in last m ≡ fates (links_in h) (reaches_in last sets) m = λ m. f m (omega arith) in
    ◌∙◌ {b = fates (links_in h) (reaches_in last sets)} (λ d m. each m d) (ap (fates (links_in h)) made)
