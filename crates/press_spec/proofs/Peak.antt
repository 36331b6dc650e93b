-- Any placing of drops, each after its last use, plays. Placed right after their last use they peak least: no other placing of drops among
-- those nodes, in that order, peaks lower. What is held then is just what is used later, which every placing has to hold.
use Prim.Native.Nat.{ℕ, suc, ◌+◌, ◌-◌, ◌≤◌, ◌<◌, max}
use mathlib.Core.Bool.{Bool, true, false, true≢false}
use mathlib.Core.Path.{◌≡◌, refl, sym, ap, ◌∙◌}
use mathlib.Core.List.{List, [], ◌∷◌, ◌++◌}
use native.Mathlib.Nat.{zero-add}
use native.Mathlib.Omega.{arith}
use native.Mathlib.Decide.{ℕ_discrete, dec_le}
use lib.ListN.{length}
use borrow.Author.Tests.{eq-eqb, ne_eqb}
use Rattle.sheet.specs.Records.{Node, Record, node, drop}
use Rattle.sheet.specs.Counts.{nodes_of, peak_from}
use Rattle.press_spec.specs.Links.{Link, link, links, link_at}
use Rattle.press_spec.specs.Trim.{naming, uses_in, uses}
use Rattle.press_spec.specs.Drops.{with_drops}
use Rattle.press_spec.proofs.Proper.{AllUsed}
use Rattle.press_spec.proofs.Nodes.{Falls, Falling}
use Rattle.press_spec.proofs.Playing.{also, also-here, also-other, but, but-here, but-other, but-fewer, count, count-le, count_most, count-new, count-but, used_in, used-true, true-used, Plays, used-held}
use Rattle.press_spec.proofs.Drops.{dropped, too_late, Dropping, with_drops-dropping, nodes-after, falls-used}

-- ---- any placing

-- after k nodes, of which H are held: what is used from here on is dropped from here on, once and not too soon, and is held if it was there
record Ahead (k : ℕ) (H : ℕ → Bool) (rs : List Record) : Type 0 where
  falls : (n : ℕ) → Falls (k + n) (link_at (links (nodes_of rs)) n)
  once : (j : ℕ) → dropped j rs ≤ 1
  late : too_late rs ≡ 0
  goes : (j : ℕ) → 1 ≤ uses (links (nodes_of rs)) j → 1 ≤ dropped j rs
  new : (j : ℕ) → k ≤ j → 1 ≤ dropped j rs → 1 ≤ uses (links (nodes_of rs)) j
  held : (j : ℕ) → j < k → 1 ≤ dropped j rs → H j ≡ true

-- past a node
module _ (k : ℕ) (H : ℕ → Bool) (x : Node) (rs : List Record) (a : Ahead k H (node x ∷ rs)) where
  uses-earlier : (j : ℕ) → 1 ≤ uses_in j (link x) → j < k
  unfolding nodes_of link_at
  uses-earlier j u = let e : k + 0 ≡ k = omega arith in falls-used k (link x) j (rw e at (a.falls 0)) u

  -- what comes new is used by later nodes alone
  used-next : (j : ℕ) → k ≤ j → 1 ≤ uses_in j (link x) + uses (links (nodes_of rs)) j → 1 ≤ uses (links (nodes_of rs)) j
  used-next j h u = elim (dec_le 1 (uses_in j (link x))) [ yes q ↦ absurd (omega (arith, uses-earlier j q)) | no q ↦ omega arith ]

  uses-held : (j : ℕ) → 1 ≤ uses_in j (link x) → H j ≡ true
  unfolding nodes_of uses
  uses-held j u = a.held j (uses-earlier j u) (a.goes j (omega arith))

  ahead-node : Ahead (suc k) (also k H) rs
  unfolding nodes_of link_at dropped too_late uses
  ahead-node = record {
    falls = λ n. let e : k + suc n ≡ suc k + n = omega arith in rw e at (a.falls (suc n));
    once = a.once;
    late = a.late;
    goes = λ j h. a.goes j (omega arith);
    new = λ j h o. used-next j (omega arith) (a.new j (omega arith) o);
    held = λ j h o. elim (ℕ_discrete j k) [
      | yes q ↦ rw q (also-here k H)
      | no q ↦ also-other k H j q ∙ a.held j (omega arith) o
    ];
  }

-- past a drop
module _ (k : ℕ) (H : ℕ → Bool) (i : ℕ) (rs : List Record) (a : Ahead k H (drop i ∷ rs)) where
  unused : uses (links (nodes_of rs)) i ≡ 0
  unfolding too_late
  unused = omega (arith, a.late)

  drops-i : dropped i (drop i ∷ rs) ≡ suc (dropped i rs)
  unfolding dropped naming
  drops-i = rw (eq-eqb i i refl) (omega arith)

  drops-other : (j : ℕ) → (j ≡ i → ⊥) → dropped j (drop i ∷ rs) ≡ dropped j rs
  unfolding dropped naming
  drops-other j q = rw (ne_eqb j i q) (omega arith)

  not-again : (j : ℕ) → 1 ≤ dropped j rs → j ≡ i → ⊥
  not-again j h q = let o : 1 ≤ dropped i rs = rw q at h in omega (arith, a.once i, drops-i)

  drops-earlier : i < k
  unfolding nodes_of
  drops-earlier = elim (dec_le k i) [ yes h ↦ absurd (omega (arith, unused, a.new i h (omega (arith, drops-i)))) | no h ↦ omega arith ]

  drops-held : H i ≡ true
  drops-held = a.held i drops-earlier (omega (arith, drops-i))

  ahead-drop : Ahead k (but i H) rs
  unfolding nodes_of too_late
  ahead-drop = record {
    falls = a.falls;
    once = λ j. elim (ℕ_discrete j i) [
      | yes q ↦ rw q (omega (arith, a.once i, drops-i))
      | no q ↦ omega (arith, a.once j, drops-other j q)
    ];
    late = omega (arith, a.late);
    goes = λ j h. elim (ℕ_discrete j i) [
      | yes q ↦ absurd (let o : 1 ≤ uses (links (nodes_of rs)) i = rw q at h in omega (arith, unused))
      | no q ↦ omega (arith, a.goes j h, drops-other j q)
    ];
    new = λ j h o. a.new j h (omega (arith, drops-other j (not-again j o)));
    held = λ j h o. but-other i H j (not-again j o) ∙ a.held j h (omega (arith, drops-other j (not-again j o)));
  }

ahead-plays : (most k : ℕ) (H : ℕ → Bool) (rs : List Record) → Ahead k H rs → k + length (nodes_of rs) ≤ most → Plays most k H rs
unfolding nodes_of
ahead-plays most k H [] a h = tt
ahead-plays most k H (node x ∷ rs) a h = (
  uses-held k H x rs a,
  omega (arith, count_most k H),
  ahead-plays most (suc k) (also k H) rs (ahead-node k H x rs a) (omega arith),
)
ahead-plays most k H (drop i ∷ rs) a h = (
  drops-earlier k H i rs a,
  drops-held k H i rs a,
  ahead-plays most k (but i H) rs (ahead-drop k H i rs a) h,
)

abbrev pub nothing : ℕ → Bool
nothing j = false

module _ (s : List Node) (rs : List Record) (d : Dropping s rs) (earlier : Falling (links s)) where
  ahead : Ahead 0 nothing rs
  ahead = record {
    falls = λ n. rw (zero-add n, d.nodes) (earlier n);
    once = λ j. omega (arith, d.once j);
    late = d.late;
    goes = λ j h. omega (arith, d.once j, rw d.nodes at h);
    new = λ j h o. rw d.nodes (omega (arith, d.once j));
    held = λ j h. absurd (omega arith);
  }

  -- with a slot for each node
  pub dropping-plays : Plays (length s) 0 nothing rs
  dropping-plays = ahead-plays (length s) 0 nothing rs ahead (rw d.nodes (omega arith))

-- ---- right after the last use

-- when a node comes, whatever is still to be dropped is used from here on
Prompt : List Record → Type 0
Prompt [] = Unit {0}
Prompt (node x ∷ rs) = ((j : ℕ) → 1 ≤ dropped j rs → 1 ≤ uses (links (x ∷ nodes_of rs)) j) × Prompt rs
Prompt (drop j ∷ rs) = Prompt rs

-- drops before the next node change nothing
prompt-drops : (xs ys : List Record) → nodes_of xs ≡ [] → Prompt (xs ++ ys) ≡ Prompt ys
unfolding nodes_of Prompt
prompt-drops [] ys q = refl
prompt-drops (node x ∷ xs) ys q = let z : ◌≡◌ {A = ℕ} 0 1 = cc in absurd (omega arith)
prompt-drops (drop j ∷ xs) ys q = prompt-drops xs ys q

prompt-node : (s : List Node) (x : Node) (rs : List Record) → Dropping s (node x ∷ rs) → Prompt rs → Prompt (node x ∷ rs)
unfolding Prompt dropped nodes_of
prompt-node s x rs d p = ((λ j h. omega (arith, d.once j, ap (λ (t : List Node). uses (links t) j) d.nodes)), p)

prompt-with_drops : (s : List Node) → Prompt (with_drops s)
unfolding with_drops
prompt-with_drops [] = unfold Prompt in tt
prompt-with_drops (x ∷ s) = prompt-node (x ∷ s) x _ (with_drops-dropping (x ∷ s)) (rw (prompt-drops, nodes-after (link x) (links s)) (prompt-with_drops s))

-- what every placing of drops has to hold at some time: with each node from number k on, the earlier ones that it or a later one uses
unfoldable pub need : ℕ → List Link → ℕ
need k [] = 0
need k (x ∷ later) = max (suc (count k (used_in (x ∷ later)))) (need (suc k) later)

plays-need : (most k : ℕ) (H : ℕ → Bool) (rs : List Record) → Plays most k H rs → need k (links (nodes_of rs)) ≤ most
unfolding nodes_of need
plays-need most k H [] p = omega arith
plays-need most k H (node x ∷ rs) p =
    let later = links (x ∷ nodes_of rs) in
    let fewer : count k (used_in later) ≤ count k H =
    count-le k (used_in later) H (λ j h t. used-held most k H (node x ∷ rs) p j h (true-used later j t)) in
    omega (arith, p.1, plays-need most (suc k) (also k H) rs p.2)
plays-need most k H (drop j ∷ rs) p = plays-need most k (but j H) rs p.2

-- every node but the last is used, and as long as a node is to come, what is held is dropped from here on
record Tight (k : ℕ) (H : ℕ → Bool) (rs : List Record) : Type 0 where
  ahead : Ahead k H rs
  prompt : Prompt rs
  used : (n : ℕ) → k ≤ n → suc n < k + length (nodes_of rs) → 1 ≤ uses (links (nodes_of rs)) n
  only : (j : ℕ) → j < k → 0 < length (nodes_of rs) → H j ≡ true → 1 ≤ dropped j rs

module _ (k : ℕ) (H : ℕ → Bool) (x : Node) (rs : List Record) (t : Tight k H (node x ∷ rs)) where
  -- what is held when x comes is used by it or later
  held-used : count k H ≤ count k (used_in (links (x ∷ nodes_of rs)))
  unfolding nodes_of Prompt dropped
  held-used = count-le k H _ (λ j h o. used-true _ j (t.prompt.0 j (t.only j h (omega arith) o)))

  tight-node : Tight (suc k) (also k H) rs
  unfolding nodes_of Prompt dropped uses
  tight-node = record {
    ahead = ahead-node k H x rs t.ahead;
    prompt = t.prompt.1;
    used = λ n h l. used-next k H x rs t.ahead n (omega arith) (t.used n (omega arith) (omega arith));
    only = λ j h some o. elim (ℕ_discrete j k) [
      | yes q ↦ t.ahead.goes j (rw q (t.used k (omega arith) (omega arith)))
      | no q ↦ t.only j (omega arith) (omega arith) (sym (also-other k H j q) ∙ o)
    ];
  }

module _ (k : ℕ) (H : ℕ → Bool) (i : ℕ) (rs : List Record) (t : Tight k H (drop i ∷ rs)) where
  tight-drop : Tight k (but i H) rs
  unfolding nodes_of Prompt
  tight-drop = record {
    ahead = ahead-drop k H i rs t.ahead;
    prompt = t.prompt;
    used = t.used;
    only = λ j h some o.
        let other : j ≡ i → ⊥ = λ q. true≢false (sym (rw q at o) ∙ but-here i H) in
        omega (arith, t.only j h some (but-fewer i H j o), drops-other k H i rs t.ahead j other);
  }

tight-peak : (most k : ℕ) (H : ℕ → Bool) (rs : List Record) → Tight k H rs → count k H ≤ most → need k (links (nodes_of rs)) ≤ most
    → peak_from (count k H) rs ≤ most
unfolding nodes_of need peak_from
tight-peak most k H [] t h n = omega arith
tight-peak most k H (node x ∷ rs) t h n =
    let e = count-new k H in
    let fewer = held-used k H x rs t in
    omega (arith, rw e at (tight-peak most (suc k) (also k H) rs (tight-node k H x rs t) (omega arith) (omega arith)))
tight-peak most k H (drop i ∷ rs) t h n =
    let e : count k (but i H) ≡ count k H - 1 =
    omega (arith, count-but k H i (drops-earlier k H i rs t.ahead) (drops-held k H i rs t.ahead)) in
    omega (arith, rw e at (tight-peak most k (but i H) rs (tight-drop k H i rs t) (omega arith) n))

-- ---- the two statements, of the drops that the press places

module _ (s : List Node) (earlier : Falling (links s)) where
  pub with_drops-plays : Plays (length s) 0 nothing (with_drops s)
  with_drops-plays = dropping-plays s (with_drops s) (with_drops-dropping s) earlier

  -- every other placing needs as much
  pub least-peak : AllUsed s → (most : ℕ) (other : List Record) → nodes_of other ≡ s → Plays most 0 nothing other → peak_from 0 (with_drops s) ≤ most
  unfolding count
  least-peak used most other e p =
      let d = with_drops-dropping s in
      tight-peak most 0 nothing (with_drops s) (record {
        ahead = ahead s (with_drops s) d earlier;
        prompt = prompt-with_drops s;
        used = λ n h l. rw d.nodes (used n (omega (arith, ap length d.nodes)));
        only = λ j h. absurd (omega arith);
      }) (omega arith) (rw (d.nodes, ← e) (plays-need most 0 nothing other p))
