-- Scores that are worked out anew: of one node, of a chain of users, of all that a turn touches, of all nodes.
use Prim.Native.Nat.{ℕ, suc, ◌+◌, ◌-◌, ◌≤◌, ◌<◌}
use mathlib.Core.Path.{◌≡◌, sym, ◌∙◌}
use mathlib.Core.Logic.{◌⊎◌, inl, inr}
use mathlib.Core.List.{List}
use native.Mathlib.Omega.{arith}
use native.Mathlib.Decide.{ℕ_discrete, dec_lt}
use lib.ListN.{length, get_or, get_or-eq_default}
use borrow.Author.Tests.{eq-eqb, ne_eqb}
use Rattle.press_spec.specs.Links.{Link, leaf, join, link_at}
use Rattle.press_spec.specs.Trim.{naming, uses_in}
use Rattle.press_nodes.specs.declared.link.Link.{Link as CodeLink}
use Rattle.press_nodes.specs.Tables.{links_in, changed}
use Rattle.press_nodes.proofs.Tables.{links-length}
use Rattle.press_nodes.specs.Numbers.{numbers_in}
use Rattle.press_nodes.specs.declared.fate.Side.{Side}
use Rattle.press_users.specs.Chains.{parent_on, Chain, Chaining}
use Rattle.press_scores.specs.Rows.{scores_in}
use Rattle.std.proofs.Common.{Option}
use Rattle.sheet.specs.declared.NodeNo.{NodeNo}
use Rattle.press_top_down.specs.declared.renew.Chains.{Chains}
use Rattle.press_top_down.specs.Renewed.{ChainsOf, Scored, Renewed, Names, Touched, itself, user, sharer}

module _ (f : ℕ → ℕ) where
  pub one-renewed : {n v : ℕ} {rows next : List ℕ} → v ≡ f n → ((m : ℕ) → scores_in next m ≡ changed n v (scores_in rows) m)
      → Renewed f (λ m. m ≡ n) rows next
  unfolding changed
  one-renewed {n} {v} {rows} {next} e put = record {
    now-right = λ m q. put m ∙ rw (eq-eqb m n q) (rw q e);
    still-right = λ m right. elim (ℕ_discrete m n) [
      | yes q ↦ put m ∙ rw (eq-eqb m n q) (rw q e)
      | no q ↦ put m ∙ rw (ne_eqb m n q) right
    ];
  }

  pub both-renewed : {P Q R : ℕ → Type 0} {rows next last : List ℕ} → ((m : ℕ) → R m → P m ⊎ Q m)
      → Renewed f P rows next → Renewed f Q next last → Renewed f R rows last
  both-renewed {P} {Q} {R} {rows} {next} {last} part a b = record {
    now-right = λ m r. by m (part m r);
    still-right = λ m right. b.still-right m (a.still-right m right);
  }
    where
      by : (m : ℕ) → P m ⊎ Q m → Scored f last m
      by m (inl p) = b.still-right m (a.now-right m p)
      by m (inr q) = b.now-right m q

-- ---- chains that are lent, and stand in the tables again

pub chains-again : {links : List CodeLink} {t : Chains} (heads nexts : List (Option NodeNo)) → t.heads.now ≡ heads → t.nexts.now ≡ nexts → length heads ≡ length links
    → length nexts ≡ length links → Chain t.side (links_in links) (length links) (numbers_in heads) (numbers_in nexts) → ChainsOf links t
chains-again heads nexts e f h i c = record { chained = rw (e, f) c; headed = rw e h; followed = rw f i }

-- ---- a chain of users of q, from its newest on; p gives one more than a node's parent, and there are k nodes

-- the next user is number e - 1; those that are newer have their scores
pub record Walk (f p : ℕ → ℕ) (k q : ℕ) (start rows : List ℕ) (e : ℕ) : Type 0 where
  pub inside : e ≤ k
  pub mine : 1 ≤ e → p (e - 1) ≡ suc q
  pub newer : (m : ℕ) → p m ≡ suc q → (m < e) ⊎ Scored f rows m
  pub kept : (m : ℕ) → Scored f start m → Scored f rows m

module _ (f p : ℕ → ℕ) (k q : ℕ) {heads nexts : List ℕ} (c : Chaining p k heads nexts) where
  pub walk_start : (rows : List ℕ) {e : ℕ} → e ≡ get_or heads q 0 → ((m : ℕ) → k ≤ m → p m ≡ 0) → Walk f p k q rows rows e
  walk_start rows first past = rw first (record {
    inside = elim (dec_lt 0 (get_or heads q 0)) [ yes h ↦ (c.head q h).0 | no h ↦ omega arith ];
    mine = λ h. (c.head q h).1;
    newer = λ m mine. elim (dec_lt m k) [
      | yes h ↦ let e : p m - 1 ≡ q = omega arith in inl (rw e at (c.newest m h (omega arith)))
      | no h ↦ absurd (omega (arith, past m (omega arith)))
    ];
    kept = λ m right. right;
  })

  module _ {start rows : List ℕ} {n x : ℕ} (w : Walk f p k q start rows x) (here : x ≡ suc n) where
    here-mine : p n ≡ suc q
    here-mine = let e : x - 1 ≡ n = omega arith in rw e at (w.mine (omega arith))

    pub here_in : n < k
    here_in = omega (arith, w.inside)

    pub walk-falls : {e : ℕ} → e ≡ get_or nexts n 0 → e < x
    walk-falls follows = rw follows (elim (dec_lt 0 (get_or nexts n 0)) [
      | yes h ↦ omega (arith, (c.next n here_in (omega (arith, here-mine)) h).0)
      | no h ↦ omega arith
    ])

    module _ {next : List ℕ} (renewed : Renewed f (λ m. m ≡ n) rows next) where
      rest : (m : ℕ) → p m ≡ suc q → (m < x) ⊎ Scored f rows m → (m < get_or nexts n 0) ⊎ Scored f next m
      rest m mine (inr right) = inr (renewed.still-right m right)
      rest m mine (inl l) = elim (ℕ_discrete m n) [
        | yes z ↦ inr (renewed.now-right m z)
        | no z ↦ inl (c.older m n (omega arith) here_in (omega (arith, here-mine)) (mine ∙ sym here-mine))
      ]

      pub walk-next : {e : ℕ} → e ≡ get_or nexts n 0 → Walk f p k q start next e
      walk-next follows = rw follows (record {
        inside = omega (arith, walk-falls follows, w.inside);
        mine = λ h. (c.next n here_in (omega (arith, here-mine)) h).1 ∙ here-mine;
        newer = λ m mine. rest m mine (w.newer m mine);
        kept = λ m right. renewed.still-right m (w.kept m right);
      })

pub walk_end : {f p : ℕ → ℕ} {k q x : ℕ} {start rows : List ℕ} → Walk f p k q start rows x → x ≡ 0 → Renewed f (λ m. p m ≡ suc q) start rows
walk_end {f} {p} {k} {q} {x} {start} {rows} w none = record { now-right = λ m mine. by m (w.newer m mine); still-right = w.kept }
  where
    by : (m : ℕ) → (m < x) ⊎ Scored f rows m → Scored f rows m
    by m (inl l) = absurd (omega arith)
    by m (inr right) = right

-- past the nodes there are no steps
pub past-no-parent : (side : Side) (links : List CodeLink) (m : ℕ) → length links ≤ m → parent_on side (link_at (links_in links) m) ≡ 0
unfolding parent_on link_at
past-no-parent side links m h = rw (get_or-eq_default (links_in links) (leaf 0) {n = m} (omega (arith, links-length links)))

-- ---- all that a turn touches

named-parent : (q p l r : ℕ) → 1 ≤ uses_in q (join p l r) → (q ≡ l) ⊎ (q ≡ r)
unfolding uses_in naming
named-parent q p l r h = elim (ℕ_discrete q l) [
  | yes e ↦ inl e
  | no e ↦ elim (ℕ_discrete q r) [ yes z ↦ inr z | no z ↦ absurd (none (rw (ne_eqb q l e, ne_eqb q r z) at h)) ]
]
  where
    none : 1 ≤ 0 + 0 → ⊥
    none h = omega arith

not_named : (q line : ℕ) → 1 ≤ uses_in q (leaf line) → ⊥
unfolding uses_in
not_named q line h = omega arith

module _ (s : List Link) (ahead : List ℕ) (n : ℕ) where
  abbrev Few : ℕ → ℕ → Type 0
  Few q m = (get_or ahead q 0 ≤ 2) × Names s q m

  abbrev Near : ℕ → Type 0
  Near m = (m ≡ n) ⊎ Names s n m

  of-leaf : (line : ℕ) → link_at s n ≡ leaf line → (m : ℕ) → Touched s ahead n m → Near m
  of-leaf line e m (itself h) = inl h
  of-leaf line e m (user h) = inr h
  of-leaf line e m (sharer q some few names) = absurd (not_named q line (rw e at some))

  module _ (p l r : ℕ) (e : link_at s n ≡ join p l r) where
    shared : (q m : ℕ) → Few q m → (q ≡ l) ⊎ (q ≡ r) → (Near m ⊎ Few l m) ⊎ Few r m
    shared q m few (inl z) = inl (inr (rw z at few))
    shared q m few (inr z) = inr (rw z at few)

    of-join : (m : ℕ) → Touched s ahead n m → (Near m ⊎ Few l m) ⊎ Few r m
    of-join m (itself h) = inl (inl (inl h))
    of-join m (user h) = inl (inl (inr h))
    of-join m (sharer q some few names) = shared q m (few, names) (named-parent q p l r (rw e at some))

  module _ (f : ℕ → ℕ) {rows₀ rows₁ rows₂ : List ℕ} (own : Renewed f (λ m. m ≡ n) rows₀ rows₁) (users : Renewed f (Names s n) rows₁ rows₂) where
    pub leaf-renewed : {line : ℕ} → link_at s n ≡ leaf line → Renewed f (Touched s ahead n) rows₀ rows₂
    leaf-renewed {line = line} e = both-renewed f (of-leaf line e) own users

    pub join-renewed : {rows₃ rows₄ : List ℕ} {p l r : ℕ} → link_at s n ≡ join p l r → Renewed f (λ m. (get_or ahead l 0 ≤ 2) × Names s l m) rows₂ rows₃
        → Renewed f (λ m. (get_or ahead r 0 ≤ 2) × Names s r m) rows₃ rows₄ → Renewed f (Touched s ahead n) rows₀ rows₄
    join-renewed {p = p} {l = l} {r = r} e lefts rights =
        let near : Renewed f Near rows₀ rows₂ = both-renewed f (λ m h. h) own users in
        let more : Renewed f (λ m. Near m ⊎ Few l m) rows₀ _ = both-renewed f (λ m h. h) near lefts in
        both-renewed f (of-join p l r e) more rights

-- ---- all nodes

-- those below i have their scores, and those past the k nodes
abbrev pub ScoredTo : (ℕ → ℕ) → ℕ → ℕ → List ℕ → Type 0
ScoredTo f k i rows = (m : ℕ) → (m < i) ⊎ (k ≤ m) → Scored f rows m

module _ (f : ℕ → ℕ) (k : ℕ) where
  pub scored-none : (rows : List ℕ) → ((m : ℕ) → k ≤ m → f m ≡ 0) → ((m : ℕ) → scores_in rows m ≡ 0) → ScoredTo f k 0 rows
  scored-none rows past blank m (inl l) = absurd (omega arith)
  scored-none rows past blank m (inr h) = blank m ∙ sym (past m h)

  pub scored-more : {rows next : List ℕ} {i : ℕ} → ScoredTo f k i rows → Renewed f (λ m. m ≡ i) rows next → ScoredTo f k (i + 1) next
  scored-more {i = i} to r m (inr h) = r.still-right m (to m (inr h))
  scored-more {i = i} to r m (inl h) = elim (ℕ_discrete m i) [
    | yes q ↦ r.now-right m q
    | no q ↦ r.still-right m (to m (inl (omega arith)))
  ]

  pub scored-all : (rows : List ℕ) (i : ℕ) → k ≤ i → ScoredTo f k i rows → (m : ℕ) → Scored f rows m
  scored-all rows i h to m = elim (dec_lt m i) [ yes l ↦ to m (inl l) | no l ↦ to m (inr (omega arith)) ]
