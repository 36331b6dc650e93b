-- Laying out an order: a link at its place, one turn, and every turn. Of laid links the laws of laid nodes are cited, with no clauses.
use Prim.Native.Nat.{ℕ, suc, ◌+◌, ◌≤◌, ◌<◌}
use mathlib.Core.Path.{◌≡◌, refl, sym, ap, ap₂, ◌∙◌}
use mathlib.Core.Bool.{Bool, true, false}
use mathlib.Core.Logic.{◌≢◌}
use mathlib.Core.List.{List, [], ◌∷◌, ◌++◌, map-append}
use native.Mathlib.Omega.{arith}
use native.Mathlib.Decide.{ℕ_discrete, dec_lt}
use lib.ListN.{length, get_or, set, length-map, get_or-eq_default}
use lib.Seq.{get_or-set_same, get_or-set_other}
use Rattle.std.proofs.Common.{Option, None, Some, is_some}
use Rattle.sheet.specs.declared.NodeNo.{NodeNo}
use Rattle.clause.specs.Clauses.{Literals}
use Rattle.sheet.specs.Records.{Node, given, step, node_at}
use Rattle.clause.specs.declared.Clause.{Clause}
use Rattle.press_nodes.specs.declared.link.Link.{Link as CodeLink}
use Rattle.press_nodes.specs.Tables.{links_in, clauses_in, changed, node_of, nodes_in, Links, Nodes}
use Rattle.press_spec.specs.Links.{Link, leaf, join, link, links, link_at, Parents}
use Rattle.press_spec.specs.Order.{placed, number_in, renumber, laid, InOrder}
use Rattle.press_order.specs.Placing.{Numbered, Orderly}
use Rattle.press_lay.specs.Laying.{relink, laid_links, HasPlace, place_in}
use Rattle.press_nodes.proofs.Tables.{links-length, changed-there, changed-elsewhere, links-nodes, nodes-length, nodes-at}
use Rattle.press_nodes.specs.Numbers.{numbers_in}
use Rattle.press_nodes.proofs.Numbers.{numbers-length}
use Rattle.press_order.proofs.Placing.{by_place, has-place, entry-none, entry-is}
use Rattle.press_lay.proofs.Arranged.{laid-sound}
use Rattle.press_spec.proofs.Nodes.{link-at}
use Rattle.press_spec.proofs.Ordered.{premises-placed}
use Rattle.press_spec.proofs.Laid.{number-below, number-once, laid-at, laid-whole, laid-fits}

-- ---- a link at its place

pub inside : (t : List ℕ) (i : ℕ) → 1 ≤ get_or t i 0 → i < length t
inside t i h = elim (dec_lt i (length t)) [ yes k ↦ k | no k ↦ absurd (omega (arith, get_or-eq_default {A = ℕ} t 0 {n = i} (omega arith))) ]

pub entry-inside : (t : List (Option NodeNo)) (i : ℕ) → HasPlace (numbers_in t) i → i < length t
entry-inside t i h = omega (arith, inside (numbers_in t) i h, numbers-length t)

-- a node's new number, as the table has it
module _ (t : List (Option NodeNo)) (n i : ℕ) (same : i ≡ n) (h : n < length t) where
  pub some-place : HasPlace (numbers_in t) n → is_some (get_or t i None) ≡ true
  some-place p = by (is_some (get_or t i None)) refl
    where
      by : (u : Bool) → u ≡ is_some (get_or t i None) → is_some (get_or t i None) ≡ true
      by true e = sym e
      by false e = absurd (omega (arith, entry-none t n i same h e))

  pub place-is : (k : NodeNo) → get_or t i None ≡ Some k → k.0 ≡ place_in (numbers_in t) n
  place-is k e = omega (arith, entry-is t n i same h k e)

module _ (number : ℕ → ℕ) where
  pub relinks-leaf : (x : Link) {line : ℕ} → x ≡ leaf line → leaf line ≡ relink number x
  unfolding relink
  relinks-leaf x e = rw e

  pub relinks-join : (x : Link) {p l r i j : ℕ} → x ≡ join p l r → i ≡ number l → j ≡ number r → join p i j ≡ relink number x
  unfolding relink
  relinks-join x e u v = rw (e, u, v)

  link-renumber : (m : Node) → link (renumber number m) ≡ relink number (link m)
  unfolding renumber relink
  link-renumber (given line c) = refl
  link-renumber (step p l r c) = refl

  node-relink : (x : Link) (c : Literals) → node_of (relink number x) c ≡ renumber number (node_of x c)
  unfolding renumber relink node_of
  node-relink (leaf line) c = refl
  node-relink (join p l r) c = refl

pub links-laid : (s : List Node) (order : List ℕ) → links (laid s order) ≡ laid_links (links s) order
unfolding laid laid_links
links-laid s [] = refl
links-laid s (n ∷ order) =
    map-append link (laid s order) (renumber (number_in order) (node_at s n) ∷ [])
    ∙ ap₂ (λ (t : List Link) (x : Link). t ++ (x ∷ [])) (links-laid s order)
    (link-renumber (number_in order) (node_at s n) ∙ ap (relink (number_in order)) (sym (link-at s n)))

-- ---- one turn

-- of the nodes below n, the entry of each that has a place stands there
abbrev pub LaidBelow : {A : Type 0} → List ℕ → (ℕ → A) → ℕ → (ℕ → A) → Type 0
LaidBelow numbers entry n there = (m : ℕ) → m < n → HasPlace numbers m → there (place_in numbers m) ≡ entry m

pub turn-none : {A : Type 0} (numbers : List ℕ) (entry there : ℕ → A) (n : ℕ) → LaidBelow numbers entry n there → get_or numbers n 0 ≤ 0
    → LaidBelow numbers entry (n + 1) there
turn-none numbers entry there n f z m i p = elim (ℕ_discrete m n) [
  | yes e ↦ absurd (let q : HasPlace numbers n = rw e at p in omega arith)
  | no e ↦ f m (omega arith) p
]

-- the entry of a node among links: its parents go by their places
abbrev pub relinked : List ℕ → List CodeLink → ℕ → Link
relinked numbers h m = relink (place_in numbers) (link_at (links_in h) m)

module _ (numbers order : List ℕ) (numbered : Numbered numbers order) where
  has-number : (m : ℕ) → placed m order ≡ true → get_or numbers m 0 ≡ suc (number_in order m)
  has-number m q = by_place numbers order m numbered true q

  is-placed : (m : ℕ) → HasPlace numbers m → placed m order ≡ true
  is-placed m p = has-place numbers order m numbered p

  pub fits : (n : ℕ) → get_or numbers n 0 ≤ length order
  fits n = elim (dec_lt 0 (get_or numbers n 0)) [
    | yes p ↦ let q = is-placed n p in omega (arith, has-number n q, number-below n order q)
    | no p ↦ omega arith
  ]

  -- no two nodes have one place
  once : (m n : ℕ) → HasPlace numbers m → HasPlace numbers n → place_in numbers m ≡ place_in numbers n → m ≡ n
  once m n p q e =
      let a = is-placed m p in
      let b = is-placed n q in
      number-once order m n a b (omega (arith, has-number m a, has-number n b))

  turn-some : {A : Type 0} (entry there new : ℕ → A) (n : ℕ) → LaidBelow numbers entry n there → HasPlace numbers n
      → new (place_in numbers n) ≡ entry n → ((k : ℕ) → k ≢ place_in numbers n → new k ≡ there k) → LaidBelow numbers entry (n + 1) new
  turn-some entry there new n f q here other m i p = elim (ℕ_discrete m n) [
    | yes e ↦ rw e here
    | no e ↦ other (place_in numbers m) (λ z. e (once m n p q z)) ∙ f m (omega arith) p
  ]

  module _ (n : ℕ) (has : HasPlace numbers n) where
    pub link-turn : (t old new : List CodeLink) → LaidBelow numbers (relinked numbers t) n (link_at (links_in old)) → get_or numbers n 0 ≤ length old
        → links_in new ≡ set (links_in old) (place_in numbers n) (relinked numbers t n) → LaidBelow numbers (relinked numbers t) (n + 1) (link_at (links_in new))
    unfolding link_at
    link-turn t old new f room e =
        turn-some (relinked numbers t) (link_at (links_in old)) (link_at (links_in new)) n f has
        (rw e (get_or-set_same (links_in old) (place_in numbers n) (relinked numbers t n) (leaf 0) (omega (arith, links-length old))))
        (λ k z. rw e (get_or-set_other (links_in old) (place_in numbers n) k (relinked numbers t n) (leaf 0) z))

    pub clause-turn : (t old new : List Clause) → LaidBelow numbers (clauses_in t) n (clauses_in old) → (x : Literals) → x ≡ clauses_in t n
        → clauses_in new ≡ changed (place_in numbers n) x (clauses_in old) → LaidBelow numbers (clauses_in t) (n + 1) (clauses_in new)
    clause-turn t old new f x q e =
        turn-some (clauses_in t) (clauses_in old) (clauses_in new) n f has
        (ap (λ (g : ℕ → Literals). g (place_in numbers n)) e ∙ changed-there (place_in numbers n) (place_in numbers n) x (clauses_in old) refl ∙ q)
        (λ k z. ap (λ (g : ℕ → Literals). g k) e ∙ changed-elsewhere (place_in numbers n) k x (clauses_in old) z)

-- ---- every turn

module _ (h : List CodeLink) (order : List ℕ) (orderly : Orderly h order) where
  abbrev Below : ℕ → Type 0
  Below n = n < length h

  of-nodes : (c : List Clause) → InOrder (links (nodes_in h c)) Below order
  of-nodes c = rw (links-nodes h c) orderly

  of-links : links (laid (nodes_in h []) order) ≡ laid_links (links_in h) order
  of-links = links-laid (nodes_in h []) order ∙ ap (λ (t : List Link). laid_links t order) (links-nodes h [])

  same-link : (n : ℕ) → link (node_at (nodes_in h []) n) ≡ link_at (links_in h) n
  same-link n = sym (link-at (nodes_in h []) n) ∙ ap (λ (t : List Link). link_at t n) (links-nodes h [])

  parents-placed : (n : ℕ) → placed n order ≡ true → Parents (λ k. placed k order ≡ true) (link_at (links_in h) n)
  parents-placed n p = premises-placed (links_in h) Below order orderly n p

  -- links that are laid out are sound again
  pub laid-links-sound : Links h → (h₂ : List CodeLink) → links_in h₂ ≡ laid_links (links_in h) order → Links h₂
  laid-links-sound tables h₂ e =
      let s = nodes_in h [] in
      let same : links_in h₂ ≡ links (laid s order) = e ∙ sym of-links in
      let long : length h₂ ≡ length (laid s order) = sym (links-length h₂) ∙ ap length same ∙ length-map (laid s order) link in
      record {
        few = omega (arith, laid-fits s Below (length h) (λ n i. i) order (of-nodes []), tables.few);
        sound = λ n i.
            rw (same, link-at (laid s order) n)
            (laid-sound s Below (λ m j. rw (same-link m) (tables.sound m j)) order (of-nodes []) n (omega arith));
      }

  -- and so are the tables of nodes
  pub laid-nodes-sound : {c : List Clause} → Nodes h c → (h₂ : List CodeLink) (c₂ : List Clause) → nodes_in h₂ c₂ ≡ laid (nodes_in h c) order → length c₂ ≡ length h₂ → Nodes h₂ c₂
  laid-nodes-sound {c} tables h₂ c₂ e size = record {
    linked =
        laid-links-sound tables.linked h₂
        (sym (links-nodes h₂ c₂) ∙ ap links e ∙ links-laid (nodes_in h c) order ∙ ap (λ (t : List Link). laid_links t order) (links-nodes h c));
    size = size;
  }

  module _ (numbers : List ℕ) (numbered : Numbered numbers order) (wide : length numbers ≡ length h) where
    is_known : (m : ℕ) → placed m order ≡ true → HasPlace numbers m
    is_known m p = omega (arith, has-number numbers order numbered m p)

    same_number : (m : ℕ) → placed m order ≡ true → place_in numbers m ≡ number_in order m
    same_number m p = omega (arith, has-number numbers order numbered m p)

    placed-inside : (m : ℕ) → placed m order ≡ true → m < length h
    placed-inside m p = omega (arith, inside numbers m (is_known m p))

    known : (x : Link) → Parents (λ k. placed k order ≡ true) x → Parents (HasPlace numbers) x
    known (leaf line) d = tt
    known (join p l r) d = (is_known l d.0, is_known r d.1)

    same_numbers : (x : Link) → Parents (λ k. placed k order ≡ true) x → relink (place_in numbers) x ≡ relink (number_in order) x
    unfolding relink
    same_numbers (leaf line) d = refl
    same_numbers (join p l r) d = ap₂ (join p) (same_number l d.0) (same_number r d.1)

    pub parents-known : (n : ℕ) → HasPlace numbers n → Parents (HasPlace numbers) (link_at (links_in h) n)
    parents-known n p = known (link_at (links_in h) n) (parents-placed n (is-placed numbers order numbered n p))

    module _ (h₂ : List CodeLink) (room : length h₂ ≡ length order) where
      -- each link stands at its place
      abbrev AtPlaces : Type 0
      AtPlaces = (m : ℕ) → placed m order ≡ true → link_at (links_in h₂) (number_in order m) ≡ relink (number_in order) (link_at (links_in h) m)

      nodes-laid : AtPlaces → (c c₂ : List Clause) → ((m : ℕ) → placed m order ≡ true → clauses_in c₂ (number_in order m) ≡ clauses_in c m)
          → nodes_in h₂ c₂ ≡ laid (nodes_in h c) order
      nodes-laid f c c₂ g =
          laid-whole (nodes_in h c) Below order (of-nodes c) (nodes_in h₂ c₂) (nodes-length h₂ c₂ ∙ room) (λ m p.
          nodes-at h₂ c₂ (number_in order m) (omega (arith, number-below m order p))
          ∙ ap₂ node_of (f m p) (g m p)
          ∙ node-relink (number_in order) (link_at (links_in h) m) (clauses_in c m)
          ∙ ap (renumber (number_in order)) (sym (nodes-at h c m (placed-inside m p))))

      pub all-linked : LaidBelow numbers (relinked numbers h) (length h) (link_at (links_in h₂)) → links_in h₂ ≡ laid_links (links_in h) order
      all-linked f = sym (links-nodes h₂ []) ∙ ap links (nodes-laid at_places [] [] (λ m p. unfold clauses_in in refl)) ∙ of-links
        where
          at_places : AtPlaces
          at_places m p =
              rw (same_number m p) at (f m (placed-inside m p) (is_known m p)) ∙ same_numbers (link_at (links_in h) m) (parents-placed m p)

      -- laid links, and each clause at its node's place, are the nodes laid out
      pub all_laid : links_in h₂ ≡ laid_links (links_in h) order → (c c₂ : List Clause)
          → ((n : ℕ) → HasPlace numbers n → clauses_in c₂ (place_in numbers n) ≡ clauses_in c n) → nodes_in h₂ c₂ ≡ laid (nodes_in h c) order
      all_laid e c c₂ g = nodes-laid at_places c c₂ (λ m p. rw (same_number m p) at (g m (is_known m p)))
        where
          at_places : AtPlaces
          at_places m p =
              ap (λ (t : List Link). link_at t (number_in order m)) (e ∙ sym of-links)
              ∙ link-at (laid (nodes_in h []) order) (number_in order m)
              ∙ ap link (laid-at (nodes_in h []) Below order (of-nodes []) m p)
              ∙ link-renumber (number_in order) (node_at (nodes_in h []) m)
              ∙ ap (relink (number_in order)) (same-link m)
