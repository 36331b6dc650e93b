-- The top-down order: a turn takes a node that is ready, as long as one is unplaced; in the end all that is reached is placed. So it is an
-- order as the bottom-up one is.
use Prim.Native.Nat.{ℕ, zero, suc, ◌+◌, ◌≤◌, ◌<◌}
use mathlib.Core.Bool.{Bool, true, false, ◌&&◌, not, cond, true≢false}
use mathlib.Core.Path.{◌≡◌, refl, sym, ap, ◌∙◌}
use mathlib.Core.List.{List, [], ◌∷◌, ◌++◌}
use native.Mathlib.Omega.{arith}
use native.Mathlib.Decide.{ℕ_discrete, dec_le}
use lib.Dec.{eqb, ltb}
use lib.ListN.{length, get_or, set, replicate, length-append}
use lib.Seq.{get_or-set_other}
use borrow.Author.Tests.{eqb-false, ne_eqb, ltb-true, ltb-false}
use Rattle.base.specs.Folds.{rise}
use Rattle.base.proofs.Folds.{rise-by, fall-keeps}
use Rattle.base.proofs.Lists.{cond_both, get_d-blank}
use Rattle.press_spec.specs.Links.{Link, leaf, join, link_at, Parents}
use Rattle.press_spec.specs.Trim.{keep_parents, trim_turn, trim, Reaches, itself}
use Rattle.press_spec.specs.Order.{placed, order_from, InOrder}
use Rattle.press_spec.specs.Drops.{total}
use Rattle.press_spec.specs.TopDown.{unplaced, parents_placed, ready, gain, score, higher, highest, take_turn, top_down, Taken}
use Rattle.press_spec.proofs.Nodes.{Falls, Falling, falls-further}
use Rattle.press_spec.proofs.Trimmed.{Marked, trim-closed}
use Rattle.press_spec.proofs.Ordered.{placed-here, Ordering, order_from-ends}
use Rattle.press_spec.proofs.Reached.{marked-reached, reached-marked}
use Rattle.press_spec.proofs.Counted.{order-fits, same_length}
use Rattle.press_spec.proofs.Finished.{order-wider, reached-in, reached-closed, finished, placed-in, ordering-reached}

-- ---- tables of ones

abbrev Bits : List ℕ → Type 0
Bits t = (n : ℕ) → get_or t n 0 ≤ 1

set-bits : (t : List ℕ) (k v : ℕ) → v ≤ 1 → Bits t → Bits (set t k v)
set-bits [] k v h f n = f n
set-bits (x ∷ t) zero v h f zero = h
set-bits (x ∷ t) zero v h f (suc n) = f (suc n)
set-bits (x ∷ t) (suc k) v h f zero = f zero
set-bits (x ∷ t) (suc k) v h f (suc n) = set-bits t k v h (λ m. f (suc m)) n

-- a 1 that goes to 0
total-less : (t : List ℕ) (n : ℕ) → get_or t n 0 ≡ 1 → suc (total (set t n 0)) ≡ total t
unfolding total
total-less [] n h = absurd (omega arith)
total-less (x ∷ t) zero h = omega arith
total-less (x ∷ t) (suc n) h = omega (arith, total-less t n h)

total-none : (t : List ℕ) → total t ≡ 0 → (n : ℕ) → get_or t n 0 ≡ 0
unfolding total
total-none [] h n = refl
total-none (x ∷ t) h zero = omega arith
total-none (x ∷ t) h (suc n) = total-none t (omega arith) n

-- the first that is marked
record First (t : List ℕ) : Type 0 where
  at : ℕ
  here : Marked t at
  none : (m : ℕ) → m < at → get_or t m 0 ≡ 0

first_next : (t : List ℕ) → First t → First (zero ∷ t)
first_next t f = record { at = suc f.at; here = f.here; none = before }
  where
    before : (m : ℕ) → m < suc f.at → get_or (zero ∷ t) m 0 ≡ 0
    before zero l = refl
    before (suc m) l = f.none m (omega arith)

total-some : (t : List ℕ) → 1 ≤ total t → First t
unfolding total
total-some [] h = absurd (omega arith)
total-some (zero ∷ t) h = first_next t (total-some t (omega arith))
total-some (suc x ∷ t) h = record { at = 0; here = omega arith; none = λ m l. absurd (omega arith) }

-- ---- the highest of some

module _ (f : ℕ → ℕ) where
  higher-most : (n best : ℕ) → (f n ≤ f (higher f n best)) × (f best ≤ f (higher f n best))
  unfolding higher
  higher-most n best = by (ltb (f best) (f n)) refl
    where
      by : (u : Bool) → ltb (f best) (f n) ≡ u → (f n ≤ f (cond u n best)) × (f best ≤ f (cond u n best))
      by true e = (omega arith, omega (arith, ltb-true (f best) (f n) e))
      by false e = (omega (arith, ltb-false (f best) (f n) e), omega arith)

  pub highest-most : (k n : ℕ) → n < k → f n ≤ f (highest f k)
  unfolding highest rise
  highest-most zero n h = absurd (omega arith)
  highest-most (suc k) n h = let m = higher-most k (highest f k) in elim (ℕ_discrete n k) [
    | yes q ↦ rw q m.0
    | no q ↦ omega (arith, highest-most k n (omega arith), m.1)
  ]

  -- of those with as much, the smallest
  pub highest-first : (k n : ℕ) → n < highest f k → f n < f (highest f k)
  unfolding highest rise higher
  highest-first zero n h = absurd (omega arith)
  highest-first (suc k) n h = by (ltb (f (highest f k)) (f k)) refl h (highest-first k n)
    where
      by : (u : Bool) → ltb (f (highest f k)) (f k) ≡ u → n < cond u k (highest f k) → (n < highest f k → f n < f (highest f k))
          → f n < f (cond u k (highest f k))
      by true e h go = omega (arith, highest-most k n h, ltb-true (f (highest f k)) (f k) e)
      by false e h go = go h

  highest-inside : (k : ℕ) → highest f (suc k) ≤ k
  unfolding highest rise higher
  highest-inside zero = cond_both (λ n. n ≤ 0) (ltb (f 0) (f 0)) 0 0 (omega arith) (omega arith)
  highest-inside (suc k) =
      cond_both (λ n. n ≤ suc k) (ltb (f (highest f (suc k))) (f (suc k))) (suc k) (highest f (suc k)) (omega arith)
      (omega (arith, highest-inside k))

  -- one with the most, and with more than each that is smaller, is the highest
  pub highest-is : (k n : ℕ) → n < k → ((m : ℕ) → m < k → f m ≤ f n) → ((m : ℕ) → m < n → f m < f n) → n ≡ highest f k
  highest-is zero n h most first = absurd (omega arith)
  highest-is (suc k) n h most first =
      let best = highest f (suc k) in
      let inside = highest-inside k in
      elim (dec_le n best) [
        | yes up ↦ elim (dec_le best n) [
          | yes down ↦ omega arith
          | no over ↦ absurd (omega (arith, highest-first (suc k) n (omega arith), most best (omega arith)))
        ]
        | no under ↦ absurd (omega (arith, first best (omega arith), highest-most (suc k) n h))
      ]

-- ---- what is unplaced

module _ (kept : List ℕ) where
  left_is : (order : List ℕ) (n : ℕ) → get_or (unplaced kept order) n 0 ≡ cond (placed n order) 0 (get_or kept n 0)
  unfolding unplaced
  left_is [] n = unfold placed in refl
  left_is (k ∷ order) n = elim (ℕ_discrete n k) [
    | yes q ↦ rw (q, placed-here k order) (zeroed (unplaced kept order) k)
    | no q ↦ get_or-set_other (unplaced kept order) k n 0 0 q ∙ left_is order n ∙ unfold placed in rw (ne_eqb n k q)
  ]
    where
      zeroed : (t : List ℕ) (k : ℕ) → get_or (set t k 0) k 0 ≡ 0
      zeroed [] k = refl
      zeroed (x ∷ t) zero = refl
      zeroed (x ∷ t) (suc k) = zeroed t k

  left-bits : Bits kept → (order : List ℕ) → Bits (unplaced kept order)
  unfolding unplaced
  left-bits f [] = f
  left-bits f (n ∷ order) = set-bits (unplaced kept order) n 0 (omega arith) (left-bits f order)

  -- what is unplaced is kept and not placed
  left-new : (order : List ℕ) (n : ℕ) → Marked (unplaced kept order) n → Marked kept n × (placed n order ≡ false)
  left-new order n h = by (placed n order) refl
    where
      by : (u : Bool) → placed n order ≡ u → Marked kept n × (placed n order ≡ false)
      by true e = absurd (let z : get_or (unplaced kept order) n 0 ≡ 0 = left_is order n ∙ rw e in omega arith)
      by false e = let z : get_or (unplaced kept order) n 0 ≡ get_or kept n 0 = left_is order n ∙ rw e in (omega arith, e)

  -- and what is kept and not unplaced is placed
  not_left : (order : List ℕ) (n : ℕ) → Marked kept n → get_or (unplaced kept order) n 0 ≡ 0 → placed n order ≡ true
  not_left order n h z = by (placed n order) refl
    where
      by : (u : Bool) → placed n order ≡ u → placed n order ≡ true
      by true e = e
      by false e = absurd (let y : get_or (unplaced kept order) n 0 ≡ get_or kept n 0 = left_is order n ∙ rw e in omega arith)

-- ---- what is ready

both_true : (a b : Bool) → (a && b) ≡ true → (a ≡ true) × (b ≡ true)
both_true true b h = (refl, h)
both_true false b h = absurd (true≢false (sym h))

both_ways_lem : (a b : Bool) → (a ≡ true → b ≡ true) → (b ≡ true → a ≡ true) → a ≡ b
both_ways_lem true b f g = sym (f refl)
both_ways_lem false true f g = g refl
both_ways_lem false false f g = refl

parents-placed : (x : Link) (order : List ℕ) → parents_placed x order ≡ true → Parents (λ k. placed k order ≡ true) x
unfolding parents_placed
parents-placed (leaf line) order h = tt
parents-placed (join p l r) order h = both_true (placed l order) (placed r order) h

placed-parents : (x : Link) (order : List ℕ) → Parents (λ k. placed k order ≡ true) x → parents_placed x order ≡ true
unfolding parents_placed
placed-parents (leaf line) order h = refl
placed-parents (join p l r) order h = rw (h.0, h.1)

module _ (s : List Link) (kept order : List ℕ) (n : ℕ) where
  ready-is : ready s kept order n ≡ true → Marked (unplaced kept order) n × Parents (λ k. placed k order ≡ true) (link_at s n)
  unfolding ready
  ready-is h =
      let b = both_true (not (eqb (get_or (unplaced kept order) n 0) 0)) (parents_placed (link_at s n) order) h in
      (marked (eqb (get_or (unplaced kept order) n 0) 0) refl b.0, parents-placed (link_at s n) order b.1)
    where
      marked : (u : Bool) → eqb (get_or (unplaced kept order) n 0) 0 ≡ u → not u ≡ true → Marked (unplaced kept order) n
      marked true e h = absurd (true≢false (sym h))
      marked false e h = let q = eqb-false (get_or (unplaced kept order) n 0) 0 e in omega arith

  is-ready : Marked (unplaced kept order) n → Parents (λ k. placed k order ≡ true) (link_at s n) → ready s kept order n ≡ true
  unfolding ready
  is-ready h p = rw (ne_eqb (get_or (unplaced kept order) n 0) 0 (omega arith), placed-parents (link_at s n) order p)

  score-ready : 1 ≤ score s kept order n → ready s kept order n ≡ true
  unfolding score
  score-ready = by (ready s kept order n) refl
    where
      by : (u : Bool) → ready s kept order n ≡ u → 1 ≤ cond u (suc (gain s kept order n)) 0 → ready s kept order n ≡ true
      by true e h = e
      by false e h = absurd (omega arith)

  ready-score : ready s kept order n ≡ true → 1 ≤ score s kept order n
  unfolding score
  ready-score e = rw e (omega arith)

  score-is : ready s kept order n ≡ true → score s kept order n ≡ suc (gain s kept order n)
  unfolding score
  score-is e = rw e

highest-taken : (s : List Link) (kept order : List ℕ) → ready s kept order (highest (score s kept order) (length s)) ≡ true
    → Taken s kept order (highest (score s kept order) (length s))
highest-taken s kept order can =
    let f = score s kept order in
    let n = highest f (length s) in
    record {
      can = can;
      most = λ m h r. omega (arith, highest-most f (length s) m h, score-is s kept order m r, score-is s kept order n can);
      first = λ m r e. elim (dec_le n m) [
        | yes h ↦ h
        | no h ↦ absurd (omega (arith, highest-first f (length s) m (omega arith), score-is s kept order m r, score-is s kept order n can))
      ];
    }

-- ---- the turns

module _ (s : List Link) (earlier : Falling s) (from : ℕ) (inside : from < length s) where
  abbrev kept : List ℕ
  kept = trim s from

  abbrev K : ℕ → Type 0
  K n = Marked kept n

  bits : Bits kept
  unfolding trim trim_turn keep_parents
  bits =
      fall-keeps Bits (trim_turn s) (λ i m h. turn i m (link_at s i) (eqb (get_or m i 0) 0) h) (suc from) _
      (set-bits (replicate (length s) 0) from 1 (omega arith) (λ n. omega (arith, get_d-blank {A = ℕ} (length s) n 0)))
    where
      turn : (i : ℕ) (m : List ℕ) (x : Link) (u : Bool) → Bits m → Bits (cond u m (keep_parents x m))
      turn i m x true h = h
      turn i m (leaf line) false h = h
      turn i m (join p l r) false h = set-bits (set m l 1) r 1 (omega arith) (set-bits m l 1 (omega arith) h)

  marks : (n : ℕ) → (K n → Reaches s from n) × (Reaches s from n → K n)
  marks n = (marked-reached s from n, reached-marked s earlier from inside n)

  low : (n : ℕ) → K n → n < length s
  low n k = reached-in s (λ m. m < length s) (λ m h. falls-further m (length s) (link_at s m) (omega arith) (earlier m)) from inside n ((marks n).0 k)

  record Turning (i : ℕ) (order : List ℕ) : Type 0 where
    each : InOrder s K order
    counted : total (unplaced kept order) + i ≡ total kept
    long : length order ≡ i

  -- the first that is unplaced is ready
  first-ready : (order : List ℕ) (f : First (unplaced kept order)) → ready s kept order f.at ≡ true
  first-ready order f = is-ready s kept order f.at f.here (by (link_at s f.at) (earlier f.at) (trim-closed s earlier from inside f.at (left-new kept order f.at f.here).0))
    where
      by : (x : Link) → Falls f.at x → Parents K x → Parents (λ k. placed k order ≡ true) x
      by (leaf line) d h = tt
      by (join p l r) d h = (not_left kept order l h.0 (f.none l d.0), not_left kept order r h.1 (f.none r d.1))

  chosen : (order : List ℕ) → 1 ≤ total (unplaced kept order) → ready s kept order (highest (score s kept order) (length s)) ≡ true
  chosen order h =
      let f = total-some (unplaced kept order) h in
      let one = ready-score s kept order f.at (first-ready order f) in
      let inside = low f.at (left-new kept order f.at f.here).0 in
      score-ready s kept order (highest (score s kept order) (length s))
      (omega (arith, highest-most (score s kept order) (length s) f.at inside))

  -- as long as some are unplaced, a turn takes one
  pub take-taken : (order : List ℕ) → 1 ≤ total (unplaced kept order) → Taken s kept order (highest (score s kept order) (length s))
  take-taken order h = highest-taken s kept order (chosen order h)

  turns : (i : ℕ) (order : List ℕ) → i < total kept → Turning i order → Turning (suc i) (take_turn s kept i order)
  unfolding take_turn unplaced
  turns i order h t =
      let n = highest (score s kept order) (length s) in
      let (m, p) = ready-is s kept order n (chosen order (omega (arith, t.counted))) in
      let (k, new) = left-new kept order n m in
      let one : get_or (unplaced kept order) n 0 ≡ 1 = omega (arith, left-bits kept bits order n) in
      record {
        each = (k, new, p, t.each);
        counted = omega (arith, total-less (unplaced kept order) n one, t.counted);
        long = ap suc t.long;
      }

  turns-to : (i : ℕ) → i ≤ total kept → Turning i (rise (take_turn s kept) i [])
  unfolding unplaced
  turns-to i h = rise-by Turning (take_turn s kept) i [] (λ k order o. turns k order (omega arith)) (record { each = tt; counted = omega arith; long = refl })

  top_down-turns : Turning (total kept) (top_down s from)
  unfolding top_down
  top_down-turns = turns-to (total kept) (omega arith)

  some-taken : (i : ℕ) → i ≤ total kept → (newer rest : List ℕ) (n : ℕ) → rise (take_turn s kept) i [] ≡ newer ++ (n ∷ rest) → Taken s kept rest n
  unfolding rise take_turn
  some-taken zero h newer rest n e = absurd (omega (arith, ap length e, length-append newer (n ∷ rest)))
  some-taken (suc i) h [] rest n e =
      let here : highest (score s kept (rise (take_turn s kept) i [])) (length s) ≡ n = cc in
      let same : rise (take_turn s kept) i [] ≡ rest = cc in
      let best : highest (score s kept rest) (length s) ≡ n = rw same at here in
      let some : Turning i rest = rw same at (turns-to i (omega arith)) in
      rw best at (take-taken rest (omega (arith, some.counted)))
  some-taken (suc i) h (m ∷ newer) rest n e = some-taken i (omega arith) newer rest n cc

  -- every node of the order was taken so, when the rest was placed
  pub top_down-takes : (newer rest : List ℕ) (n : ℕ) → top_down s from ≡ newer ++ (n ∷ rest) → Taken s (trim s from) rest n
  unfolding top_down
  top_down-takes = some-taken (total kept) (omega arith)

  all_placed : (n : ℕ) → Reaches s from n → placed n (top_down s from) ≡ true
  all_placed n r =
      not_left kept (top_down s from) n ((marks n).1 r)
      (total-none (unplaced kept (top_down s from)) (omega (arith, top_down-turns.counted)) n)

  -- exactly what is reached
  pub top_down-reached : (n : ℕ) → (placed n (top_down s from) ≡ true → Reaches s from n) × (Reaches s from n → placed n (top_down s from) ≡ true)
  top_down-reached n = (λ h. (marks n).0 (placed-in s K (top_down s from) top_down-turns.each n h), all_placed n)

  -- ---- both orders have the same nodes

  pub length-top_down : length (top_down s from) ≡ total kept
  length-top_down = top_down-turns.long

  pub kept-few : total kept ≤ length s
  kept-few = omega (arith, top_down-turns.long, order-fits s K (length s) low (top_down s from) top_down-turns.each)

  bottom-up : Ordering s (Reaches s from) from (order_from s from)
  bottom-up = order_from-ends s earlier (Reaches s from) (reached-closed s from) from itself

  pub order_from-reached : (n : ℕ) → (placed n (order_from s from) ≡ true → Reaches s from n) × (Reaches s from n → placed n (order_from s from) ≡ true)
  order_from-reached n =
      (placed-in s (Reaches s from) (order_from s from) bottom-up.each n, ordering-reached s (Reaches s from) from (order_from s from) bottom-up n)

  pub orders-long : length (order_from s from) ≡ length (top_down s from)
  orders-long =
      same_length s (Reaches s from) (length s) (λ n r. low n ((marks n).1 r)) (order_from s from) (top_down s from) bottom-up.each
      (order-wider s K (Reaches s from) (λ n. (marks n).0) (top_down s from) top_down-turns.each)
      (λ n. both_ways_lem (placed n (order_from s from)) (placed n (top_down s from)) (λ h. (top_down-reached n).1 ((order_from-reached n).0 h)) (λ h. (order_from-reached n).1 ((top_down-reached n).0 h)))

  module _ (Q : ℕ → Type 0) (closed : (n : ℕ) → Q n → Parents Q (link_at s n)) (start : Q from) where
    -- the order ends with the node that it is for
    pub top_down-ends : Ordering s Q from (top_down s from)
    top_down-ends =
        finished s Q from (top_down s from)
        (order-wider s K Q (λ n k. reached-in s Q closed from start n ((marks n).0 k)) (top_down s from) top_down-turns.each)
        (λ n. (top_down-reached n).0) all_placed

  -- ---- what the highest score says of a turn

  module _ (i : ℕ) (h : i ≤ total kept) where
    abbrev so_far : List ℕ
    so_far = rise (take_turn s kept) i []

    abbrev best : ℕ
    best = highest (score s kept (rise (take_turn s kept) i [])) (length s)

    -- none: all is placed
    pub turns-over : score s kept (rise (take_turn s kept) i []) best ≡ 0 → i ≡ total kept
    turns-over z = elim (dec_le (total kept) i) [
      | yes q ↦ omega arith
      | no q ↦ absurd (omega (arith, z, ready-score s kept so_far best (chosen so_far (omega (arith, (turns-to i h).counted)))))
    ]

    -- some: there is a node to take
    pub turn-left : 1 ≤ score s kept (rise (take_turn s kept) i []) best → (best < length s) × Marked (unplaced kept (rise (take_turn s kept) i [])) best
    turn-left z =
        let m = (ready-is s kept so_far best (score-ready s kept so_far best z)).0 in
        (low best (left-new kept so_far best m).0, m)

    pub turn_more : 1 ≤ score s kept (rise (take_turn s kept) i []) best → i < total kept
    turn_more z = elim (dec_le (total kept) i) [
      | yes q ↦ absurd (omega (arith, (turn-left z).1, total-none (unplaced kept so_far) (omega (arith, (turns-to i h).counted)) best))
      | no q ↦ omega arith
    ]
