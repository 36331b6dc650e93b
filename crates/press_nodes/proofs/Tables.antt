-- Laws of the press's tables: what the word of a link says, what stores make of links, clauses and nodes, and where the parents of sound links stand.
use mathlib.Core.Path.{◌≡◌, refl, sym, ap, ap₂, ◌∙◌}
use mathlib.Core.List.{List, [], ◌∷◌}
use Prim.Native.Nat.{ℕ, zero, suc, ◌<◌}
use native.Mathlib.Omega.{arith}
use native.Mathlib.Decide.{ℕ_discrete, dec_lt}
use Rattle.std.proofs.lemmas.List.{get_or-map, get_or_default}
use lib.Dec.{eqb-zero-suc, eqb-suc-zero, eqb-suc-suc}
use lib.ListN.{length, get_or, set, take, length-map, get_or-eq_default}
use lib.Seq.{get_or-take, get_or-set_same, get_or-set_other}
use borrow.Author.Tests.{eq-eqb, ne_eqb}
use Rattle.base.proofs.Lists.{map-set, map-take}
use Rattle.clause.specs.Clauses.{Literals}
use Rattle.clause.specs.Denote.{literals_of}
use Rattle.clause.specs.declared.Clause.{Clause}
use Rattle.sheet.specs.Records.{given, step, clause, node_at}
use Rattle.press_spec.specs.Links.{Link, leaf, join, link, links, link_at}
use Rattle.press_nodes.specs.declared.link.Link.{Link as CodeLink}
use Rattle.press_nodes.specs.Tables.{link_in, links_in, nothing, clauses_in, changed, beside, node_of, nodes_in, Sound, Links}
use Rattle.press_spec.proofs.Nodes.{Falls, Falling}

-- ---- links

module _ (h : List CodeLink) where
  pub links-length : length (links_in h) ≡ length h
  unfolding links_in
  links-length = length-map h link_in

  pub links_set : (i n : ℕ) (x : CodeLink) → i ≡ n → links_in (set h i x) ≡ set (links_in h) n (link_in x)
  unfolding links_in
  links_set i n x e = rw (← e) (map-set link_in h i x)

  pub links_at : (i n : ℕ) (z : CodeLink) → i ≡ n → n < length h → link_in (get_or h i z) ≡ link_at (links_in h) n
  unfolding links_in link_at
  links_at i n z e inside = rw e (sym (get_or-map link_in h n z _ inside))

-- ---- clauses

pub changed-there : {A : Type 0} (n m : ℕ) (x : A) (there : ℕ → A) → m ≡ n → changed n x there m ≡ x
unfolding changed
changed-there n m x there e = rw (eq-eqb m n e)

pub changed-elsewhere : {A : Type 0} (n m : ℕ) (x : A) (there : ℕ → A) → (m ≡ n → ⊥) → changed n x there m ≡ there m
unfolding changed
changed-elsewhere n m x there e = rw (ne_eqb m n e)

-- a clause that is put, and what stands at a place
module _ (t : List Clause) where
  pub clauses_put : (i n : ℕ) (c : Clause) → i ≡ n → n < length t → clauses_in (set t i c) ≡ changed n (literals_of c) (clauses_in t)
  unfolding clauses_in
  clauses_put i n c e inside = λ d m. each m d
    where
      each : (m : ℕ) → clauses_in (set t i c) m ≡ changed n (literals_of c) (clauses_in t) m
      each m = elim (ℕ_discrete m n) [
        | yes q ↦ rw (e, q, get_or-set_same t n c nothing inside) (sym (changed-there n n (literals_of c) (clauses_in t) refl))
        | no q ↦ rw (e, get_or-set_other t n m c nothing q) (sym (changed-elsewhere n m (literals_of c) (clauses_in t) q))
      ]

  pub clauses_found : (i n : ℕ) (z : Clause) → i ≡ n → n < length t → literals_of (get_or t i z) ≡ clauses_in t n
  unfolding clauses_in
  clauses_found i n z e inside = rw e (ap literals_of (get_or_default t n z nothing inside))

-- ---- entries beside clauses

module _ {A B : Type 0} (f : A → Literals → B) where
  pub beside-length : (t : List A) (g : ℕ → Literals) → length (beside f t g) ≡ length t
  unfolding beside
  beside-length [] g = refl
  beside-length (x ∷ t) g = ap suc (beside-length t (λ n. g (suc n)))

  pub beside_at : (t : List A) (g : ℕ → Literals) (n : ℕ) (z : A) (y : B) → n < length t → get_or (beside f t g) n y ≡ f (get_or t n z) (g n)
  unfolding beside
  beside_at [] g n z y h = absurd (omega arith)
  beside_at (x ∷ t) g zero z y h = refl
  beside_at (x ∷ t) g (suc n) z y h = beside_at t (λ k. g (suc k)) n z y (omega arith)

  pub beside-set : (t : List A) (g g' : ℕ → Literals) (n : ℕ) (x : A) (c : Literals) → g' ≡ changed n c g
      → beside f (set t n x) g' ≡ set (beside f t g) n (f x c)
  unfolding beside changed
  beside-set t g g' n x c e = each t g g' n (λ m. ap (λ (k : ℕ → Literals). k m) e)
    where
      each : (t : List A) (g g' : ℕ → Literals) (n : ℕ) → ((m : ℕ) → g' m ≡ changed n c g m) → beside f (set t n x) g' ≡ set (beside f t g) n (f x c)
      each [] g g' n e = refl
      each (y ∷ t) g g' zero e = ap₂ (λ (z : B) (u : List B). z ∷ u) (ap (f x) (e 0)) (ap (beside f t) (λ i m. rest m i))
        where
          rest : (m : ℕ) → g' (suc m) ≡ g (suc m)
          rest m = rw (eqb-suc-zero m) at (e (suc m))
      each (y ∷ t) g g' (suc n) e =
          ap₂ (λ (z : B) (u : List B). z ∷ u) (ap (f y) (rw (eqb-zero-suc n) at (e 0)))
          (each t (λ k. g (suc k)) (λ k. g' (suc k)) n (λ m. rw (eqb-suc-suc m n) at (e (suc m))))

  pub beside-take : (k : ℕ) (t : List A) (g g' : ℕ → Literals) → ((n : ℕ) → n < k → g' n ≡ g n) → beside f (take k t) g' ≡ take k (beside f t g)
  unfolding beside
  beside-take zero t g g' e = refl
  beside-take (suc k) [] g g' e = refl
  beside-take (suc k) (x ∷ t) g g' e =
      ap₂ (λ (z : B) (u : List B). z ∷ u) (ap (f x) (e 0 (omega arith)))
      (beside-take k t (λ n. g (suc n)) (λ n. g' (suc n)) (λ n h. e (suc n) (omega arith)))

-- ---- nodes

link-node : (x : Link) (c : Literals) → link (node_of x c) ≡ x
unfolding node_of
link-node (leaf line) c = refl
link-node (join p l r) c = refl

clause-node : (x : Link) (c : Literals) → clause (node_of x c) ≡ c
unfolding node_of clause
clause-node (leaf line) c = refl
clause-node (join p l r) c = refl

links-beside : (t : List Link) (g : ℕ → Literals) → links (beside node_of t g) ≡ t
unfolding beside
links-beside [] g = refl
links-beside (x ∷ t) g = ap₂ (λ (y : Link) (u : List Link). y ∷ u) (link-node x (g 0)) (links-beside t (λ n. g (suc n)))

module _ (h : List CodeLink) (c : List Clause) where
  pub links-nodes : links (nodes_in h c) ≡ links_in h
  unfolding nodes_in
  links-nodes = links-beside (links_in h) (clauses_in c)

  pub nodes-length : length (nodes_in h c) ≡ length h
  unfolding nodes_in
  nodes-length = beside-length node_of (links_in h) (clauses_in c) ∙ links-length h

  pub nodes-at : (n : ℕ) → n < length h → node_at (nodes_in h c) n ≡ node_of (link_at (links_in h) n) (clauses_in c n)
  unfolding nodes_in node_at link_at
  nodes-at n i = beside_at node_of (links_in h) (clauses_in c) n _ _ (rw (links-length h) i)

  pub given-there : (n line : ℕ) → n < length h → link_at (links_in h) n ≡ leaf line → node_at (nodes_in h c) n ≡ given line (clauses_in c n)
  unfolding node_of
  given-there n line i e = rw (nodes-at n i, e)

  pub step-there : (n p l r : ℕ) → n < length h → link_at (links_in h) n ≡ join p l r → node_at (nodes_in h c) n ≡ step p l r (clauses_in c n)
  unfolding node_of
  step-there n p l r i e = rw (nodes-at n i, e)

  pub clauses-at : (n : ℕ) → n < length h → clauses_in c n ≡ clause (node_at (nodes_in h c) n)
  clauses-at n i = rw (nodes-at n i) (sym (clause-node (link_at (links_in h) n) (clauses_in c n)))

  pub link-in : (n : ℕ) → n < length h → link_at (links_in h) n ≡ link (node_at (nodes_in h c) n)
  link-in n i = rw (nodes-at n i) (sym (link-node (link_at (links_in h) n) (clauses_in c n)))

  pub nodes_put : (n : ℕ) (x : Link) (d : Literals) (h' : List CodeLink) (c' : List Clause) → links_in h' ≡ set (links_in h) n x → clauses_in c' ≡ changed n d (clauses_in c)
      → nodes_in h' c' ≡ set (nodes_in h c) n (node_of x d)
  unfolding nodes_in
  nodes_put n x d h' c' e q = rw e (beside-set node_of (links_in h) (clauses_in c) (clauses_in c') n x d q)

-- ---- sound links: their parents stand earlier

abbrev pub AllSound : List Link → Type 0
AllSound t = (n : ℕ) → n < length t → Sound n (link_at t n)

pub sound-falls : (n : ℕ) (m : Link) → Sound n m → Falls n m
sound-falls n (leaf line) d = tt
sound-falls n (join p l r) d = (d.1, d.2)

-- what holds of each link holds at every number, if it holds of the leaf that stands past the end
pub all-links : (P : ℕ → Link → Type 0) (t : List Link) → ((n : ℕ) → P n (leaf 0)) → ((n : ℕ) → n < length t → P n (link_at t n))
    → (n : ℕ) → P n (link_at t n)
unfolding link_at
all-links P t z f n = elim (dec_lt n (length t)) [ yes h ↦ f n h | no h ↦ rw (get_or-eq_default t _ {n = n} (omega arith)) (z n) ]

pub sound-falling : (t : List Link) → AllSound t → Falling t
sound-falling t f = all-links (λ n m. Falls n m) t (λ n. tt) (λ n h. sound-falls n (link_at t n) (f n h))

module _ {h : List CodeLink} (t : Links h) where
  pub links-sound : AllSound (links_in h)
  links-sound n i = t.sound n (rw (links-length h) at i)

  pub links-falling : Falling (links_in h)
  links-falling = sound-falling (links_in h) links-sound

-- ---- the first k nodes

module _ (k : ℕ) (h : List CodeLink) (c : List Clause) where
  same-clauses : (n : ℕ) → n < k → clauses_in (take k c) n ≡ clauses_in c n
  unfolding clauses_in
  same-clauses n i = rw (get_or-take k c n nothing i)

  pub nodes-front : nodes_in (take k h) (take k c) ≡ take k (nodes_in h c)
  unfolding nodes_in links_in
  nodes-front = rw (map-take link_in h k) (beside-take node_of k (links_in h) (clauses_in c) (clauses_in (take k c)) same-clauses)
