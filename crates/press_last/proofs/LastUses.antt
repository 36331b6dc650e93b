-- The table of last uses: "named by a later node" is "last used later".
use Prim.Native.Nat.{ℕ, zero, suc, ◌+◌, ◌≤◌, ◌<◌}
use mathlib.Core.Bool.{Bool, true, false, cond}
use mathlib.Core.Path.{◌≡◌, refl, sym, ap, ◌∙◌}
use mathlib.Core.Logic.{◌≢◌, inl, inr}
use mathlib.Core.List.{List, [], ◌∷◌}
use native.Mathlib.Omega.{arith}
use native.Mathlib.Decide.{ℕ_discrete, dec_le, dec_lt}
use lib.Dec.{eqb, ltb}
use lib.ListN.{length, get_or, set, replicate, length-set, length-replicate, get_or-eq_default}
use lib.ListN.{drop as after}
use lib.Seq.{get_or-set_same, get_or-set_other}
use borrow.Author.Tests.{eq-eqb, ne_eqb, ltb-true, ltb-false}
use Rattle.base.proofs.Folds.{fall-by}
use Rattle.base.proofs.Lists.{get_d-blank}
use Rattle.sheet.specs.Records.{drop}
use Rattle.press_spec.specs.Links.{Link, leaf, join, link_at}
use Rattle.press_spec.specs.Trim.{uses_in, uses}
use Rattle.press_spec.specs.Drops.{drop_last}
use Rattle.press_spec.proofs.Trimmed.{uses-left, uses-right, used-parent}
use Rattle.press_spec.proofs.Playing.{used_in, used-true}
use Rattle.press_spec.proofs.Drops.{drop_last-used, drop_last-unused}
use Rattle.press_last.specs.LastUses.{note_use, note_uses, last_turn, last_uses, used_after, drop_by}

-- ---- one note

module _ (i m : ℕ) (t : List ℕ) where
  pub note-length : length (note_use i m t) ≡ length t
  unfolding note_use
  note-length = by (eqb (get_or t m 0) 0)
    where
      by : (u : Bool) → length (cond u (set t m (i + 1)) t) ≡ length t
      by true = length-set t m (i + 1)
      by false = refl

  note-here : m < length t → get_or t m 0 ≡ 0 → get_or (note_use i m t) m 0 ≡ i + 1
  unfolding note_use
  note-here h z = rw (eq-eqb (get_or t m 0) 0 z) (get_or-set_same t m (i + 1) 0 h)

  note-other : (n : ℕ) → n ≢ m → get_or (note_use i m t) n 0 ≡ get_or t n 0
  unfolding note_use
  note-other n q = by (eqb (get_or t m 0) 0)
    where
      by : (u : Bool) → get_or (cond u (set t m (i + 1)) t) n 0 ≡ get_or t n 0
      by true = get_or-set_other t m n (i + 1) 0 q
      by false = refl

  note-kept : (n : ℕ) → 1 ≤ get_or t n 0 → get_or (note_use i m t) n 0 ≡ get_or t n 0
  note-kept n h = elim (ℕ_discrete n m) [
    | yes q ↦ unfold note_use in rw (ne_eqb (get_or t m 0) 0 (let k : 1 ≤ get_or t m 0 = rw q at h in omega arith))
    | no q ↦ note-other n q
  ]

-- ---- the notes of a node

notes-new : (i : ℕ) (x : Link) (t : List ℕ) (n : ℕ) → n < length t → 1 ≤ uses_in n x → get_or t n 0 ≡ 0 → get_or (note_uses i x t) n 0 ≡ i + 1
unfolding note_uses
notes-new i (leaf line) t n h u z = absurd (unfold uses_in in omega arith)
notes-new i (join p l r) t n h u z = elim (ℕ_discrete n l) [
  | yes q ↦
      let e : get_or (note_use i l t) n 0 ≡ i + 1 = rw q (note-here i l t (rw q at h) (rw q at z)) in
      note-kept i _ (note_use i l t) n (omega arith) ∙ e
  | no q ↦ elim (used-parent n p l r u) [
    | inl y ↦ absurd (q y)
    | inr y ↦
        let e : get_or (note_use i l t) n 0 ≡ 0 = note-other i l t n q ∙ z in
        let b : n < length (note_use i l t) = rw (note-length i l t) h in
        rw y (note-here i r (note_use i l t) (rw y at b) (rw y at e))
  ]
]

notes-length : (i : ℕ) (x : Link) (t : List ℕ) → length (note_uses i x t) ≡ length t
unfolding note_uses
notes-length i (leaf line) t = refl
notes-length i (join p l r) t = note-length i r (note_use i l t) ∙ note-length i l t

notes-kept : (i : ℕ) (x : Link) (t : List ℕ) (n : ℕ) → 1 ≤ get_or t n 0 → get_or (note_uses i x t) n 0 ≡ get_or t n 0
unfolding note_uses
notes-kept i (leaf line) t n h = refl
notes-kept i (join p l r) t n h =
    let e = note-kept i l t n h in note-kept i r (note_use i l t) n (omega arith) ∙ e

notes-other : (i : ℕ) (x : Link) (t : List ℕ) (n : ℕ) → uses_in n x ≡ 0 → get_or (note_uses i x t) n 0 ≡ get_or t n 0
unfolding note_uses
notes-other i (leaf line) t n h = refl
notes-other i (join p l r) t n h =
    note-other i r (note_use i l t) n (λ q. omega (arith, let k : 1 ≤ uses_in n (join p l r) = rw q (uses-right p l r) in k))
    ∙ note-other i l t n (λ q. omega (arith, let k : 1 ≤ uses_in n (join p l r) = rw q (uses-left p l r) in k))

-- ---- the walk from the end

uses-after : (s : List Link) (i n : ℕ) → i < length s → uses (after i s) n ≡ uses_in n (link_at s i) + uses (after (suc i) s) n
unfolding uses link_at
uses-after [] i n h = absurd (omega arith)
uses-after (x ∷ s) zero n h = refl
uses-after (x ∷ s) (suc i) n h = uses-after s i n (omega arith)

uses-beyond : (s : List Link) (i n : ℕ) → length s ≤ i → uses (after i s) n ≡ 0
unfolding uses
uses-beyond [] zero n h = refl
uses-beyond [] (suc i) n h = refl
uses-beyond (x ∷ s) zero n h = absurd (omega arith)
uses-beyond (x ∷ s) (suc i) n h = uses-beyond s i n (omega arith)

module _ (s : List Link) where
  -- the nodes from i on are seen
  record Noted (i : ℕ) (t : List ℕ) : Type 0 where
    long : length t ≡ length s
    above : (n : ℕ) → 1 ≤ get_or t n 0 → i < get_or t n 0
    used : (n from : ℕ) → i ≤ from → from < get_or t n 0 → 1 ≤ uses (after from s) n
    unused : (n from : ℕ) → n < length s → i ≤ from → get_or t n 0 ≤ from → uses (after from s) n ≡ 0

  module _ (i : ℕ) (t : List ℕ) (h : i < length s) (N : Noted (suc i) t) where
    -- the entry of n after the turn: it was there, or it is new, or there is none
    data Entry (n v : ℕ) : Type 0 where
      stays : v ≡ get_or t n 0 → suc i < v → Entry n v
      comes : v ≡ i + 1 → 1 ≤ uses_in n (link_at s i) → get_or t n 0 ≡ 0 → Entry n v
      none : v ≡ 0 → get_or t n 0 ≡ 0 → (n < length s → uses_in n (link_at s i) ≡ 0) → Entry n v

    entry : (n : ℕ) → Entry n (get_or (note_uses i (link_at s i) t) n 0)
    entry n = elim (dec_le 1 (get_or t n 0)) [
      | yes q ↦ let e = notes-kept i (link_at s i) t n q in stays e (omega (arith, N.above n q))
      | no q ↦ elim (dec_le 1 (uses_in n (link_at s i))) [
        | yes u ↦ elim (dec_lt n (length t)) [
          | yes b ↦ comes (notes-new i (link_at s i) t n b u (omega arith)) u (omega arith)
          | no b ↦ none (get_or-eq_default (note_uses i (link_at s i) t) 0 {n = n} (omega (arith, notes-length i (link_at s i) t))) (omega arith) (λ k. absurd (omega (arith, N.long)))
        ]
        | no u ↦ let z : uses_in n (link_at s i) ≡ 0 = omega arith in none (notes-other i (link_at s i) t n z ∙ omega arith) (omega arith) (λ k. z)
      ]
    ]

    above-turn : (n v : ℕ) → Entry n v → 1 ≤ v → i < v
    above-turn n v (stays e k) o = omega arith
    above-turn n v (comes e u z) o = omega arith
    above-turn n v (none e z f) o = absurd (omega arith)

    used_turn : (n v from : ℕ) → Entry n v → i ≤ from → from < v → 1 ≤ uses (after from s) n
    used_turn n v from d o k = elim (ℕ_discrete from i) [
      | yes q ↦ rw q (let g : i < v = omega arith in here d g)
      | no q ↦ later d (omega arith)
    ]
      where
        here : Entry n v → i < v → 1 ≤ uses (after i s) n
        here (stays e g) l = omega (arith, uses-after s i n h, N.used n (suc i) (omega arith) (omega arith))
        here (comes e u z) l = omega (arith, uses-after s i n h)
        here (none e z f) l = absurd (omega arith)

        later : Entry n v → suc i ≤ from → 1 ≤ uses (after from s) n
        later (stays e g) l = N.used n from l (omega arith)
        later (comes e u z) l = absurd (omega arith)
        later (none e z f) l = absurd (omega arith)

    unused-turn : (n v from : ℕ) → Entry n v → n < length s → i ≤ from → v ≤ from → uses (after from s) n ≡ 0
    unused-turn n v from d b o k = elim (ℕ_discrete from i) [
      | yes q ↦ rw q (let g : v ≤ i = omega arith in here d g)
      | no q ↦ N.unused n from b (omega arith) (was d)
    ]
      where
        was : Entry n v → get_or t n 0 ≤ from
        was (stays e g) = omega arith
        was (comes e u z) = omega arith
        was (none e z f) = omega arith

        here : Entry n v → v ≤ i → uses (after i s) n ≡ 0
        here (stays e g) l = absurd (omega arith)
        here (comes e u z) l = absurd (omega arith)
        here (none e z f) l = omega (arith, uses-after s i n h, f b, N.unused n (suc i) b (omega arith) (omega arith))

  noted-turn : (i : ℕ) (t : List ℕ) → i < length s → Noted (suc i) t → Noted i (last_turn s i t)
  unfolding last_turn
  noted-turn i t h N = record {
    long = notes-length i (link_at s i) t ∙ N.long;
    above = λ n k. above-turn i t h N n _ (entry i t h N n) k;
    used = λ n from o k. used_turn i t h N n _ from (entry i t h N n) o k;
    unused = λ n from b o k. unused-turn i t h N n _ from (entry i t h N n) b o k;
  }

  noted-start : Noted (length s) (replicate (length s) 0)
  noted-start = record {
    long = length-replicate (length s) 0;
    above = λ n k. absurd (omega (arith, get_d-blank {A = ℕ} (length s) n 0));
    used = λ n from o k. absurd (omega (arith, get_d-blank {A = ℕ} (length s) n 0));
    unused = λ n from b o k. uses-beyond s from n o;
  }

  noted : Noted 0 (last_uses s)
  unfolding last_uses
  noted = fall-by Noted (last_turn s) (length s) _ noted-turn noted-start

  pub length-last_uses : length (last_uses s) ≡ length s
  length-last_uses = noted.long

  -- "named by a later node" is "last used later"
  pub last-used : (k n : ℕ) → n < length s → used_in (after (k + 1) s) n ≡ used_after (last_uses s) k n
  unfolding used_after used_in
  last-used k n h = sym (by (ltb (k + 1) (get_or (last_uses s) n 0)) refl)
    where
      by : (u : Bool) → ltb (k + 1) (get_or (last_uses s) n 0) ≡ u → ltb (k + 1) (get_or (last_uses s) n 0) ≡ used_in (after (k + 1) s) n
      by true e =
          e ∙ sym (used-true (after (k + 1) s) n (noted.used n (k + 1) (omega arith) (omega (arith, ltb-true (k + 1) (get_or (last_uses s) n 0) e))))
      by false e =
          let z = noted.unused n (k + 1) h (omega arith) (omega (arith, ltb-false (k + 1) (get_or (last_uses s) n 0) e)) in
          e ∙ rw z

  -- so the table decides each drop
  pub last-decides : (k n : ℕ) → n < length s → drop_last (after (k + 1) s) n ≡ drop_by (last_uses s) k n
  unfolding drop_by
  last-decides k n h = by (used_in (after (k + 1) s) n) refl ∙ ap (λ (u : Bool). cond u [] (drop n ∷ [])) (last-used k n h)
    where
      by : (u : Bool) → used_in (after (k + 1) s) n ≡ u → drop_last (after (k + 1) s) n ≡ cond (used_in (after (k + 1) s) n) [] (drop n ∷ [])
      by true e = rw e (drop_last-used (after (k + 1) s) n e)
      by false e = rw e (drop_last-unused (after (k + 1) s) n e)
